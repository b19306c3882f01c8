-- What opening the shelves of a server comes to.
use Rattle.std.specs.Prelude.{⊤, ◌≡◌, ◌≢◌, ◌⊎◌, ◌≤◌, ◌<◌, ◌+◌, ℕ, Bool, true, false, List, map, length, sum_by, Some, slice_get}
use Rattle.web_disk.specs.View.{View, RackView, AreAmong}
use Rattle.trio_rack.specs.Trios.{KeepsHome, shelves_of}
use Rattle.script_nodes.specs.Setup.{Named}
use Rattle.replay_spec.specs.Rules.{Rules}
use Rattle.page_follower.specs.OfShelf.JournalRecords.Records.{IsInGrammar, begin_of}
use Rattle.site_serving.specs.Shelves.{BeginFault, Opening, Rules as Limits, rules_of}
use Rattle.command_words.specs.declared.Options.{Options}
use Rattle.server_command.specs.Output.{rules_for}
use Rattle.play_steps.specs.Rules.{StaysUp}
use Rattle.play_steps.specs.Played.{RoseBy}
use Rattle.play_desk.specs.Asking.{AsksForFirst, AsksForNone, AsksUntil}
use Rattle.play_desk.specs.Opening.{FailedFor, IsKept, reopen_of}
use Rattle.play_steps.specs.declared.stage.Reopen.{Reopen}
use Rattle.play_steps.specs.declared.stage.Reopen.TheVariants as reopen
use Rattle.play_desk.specs.declared.opening.OpenFault.{OpenFault}
use Rattle.server_command.specs.Racks.{AreBare, AreHeld, FailsInOrder, damaged, other, full, first_unfit, unfit_left}
use Rattle.server_command.specs.Serving.{AreOpened}

-- what reads of disks give
abbrev pub seen_on : {D : Type 0} → (D → View) → List D → List (List ℕ)
seen_on view disks = map (λ d. (view d).seen) disks

-- the disks of so many numbers, from this one on, are home
abbrev pub AreHome : RackView → (first count : ℕ) → Type 0
AreHome rack first count = (k : ℕ) → first ≤ k → k < first + count → (shelves_of rack).out k ≡ false

-- the disks of so many numbers, from 0 on, are out
abbrev pub AreOut : RackView → (count : ℕ) → Type 0
AreOut rack count = (k : ℕ) → k < count → (shelves_of rack).out k ≡ true

-- the record that a journal begins with can be written, of so many shelves
abbrev pub CanBegin : (count : ℕ) → List Named → Type 0
CanBegin count scripts = (k : ℕ) → k < count → IsInGrammar (begin_of k scripts)

-- a shelf's limits are those that were asked for
pub record AreAsked (o : Options) (r : Limits) : Type 0 where
  pub shelves : r.shelves ≡ o.shelves
  pub fuel : r.fuel ≡ o.fuel
  pub life : r.life ≡ o.life
  pub instances : r.instances ≡ o.instances
  pub pages : r.pages ≡ o.pages

-- these are the rules of the shelf of this number
abbrev pub AreRulesFor : Options → (number : ℕ) → Limits → Type 0
AreRulesFor o number r = rules_of r ≡ rules_for o number

-- the disks of so many numbers came home, and no disk went out or was asked for; and no count of faults fell
pub record TakesBack (before after : RackView) (first count : ℕ) : Type 0 where
  pub home : KeepsHome before after
  pub back : AreHome after first count
  pub later : before.faults ≤ after.faults
  pub failed_later : StaysUp (shelves_of before).failed (shelves_of after).failed
  pub asked : AsksForNone before after

-- the disks of the numbers from this one on may hold nothing that they might not hold
abbrev pub LeavesFrom : (first : ℕ) → (before after : RackView) → Type 0
LeavesFrom first before after = (n : ℕ) → first ≤ n → AreAmong ((shelves_of after).holds n) ((shelves_of before).holds n)

-- The disks of so many numbers were asked for and taken, from 0 on and in order, and hold these, where the rack and its disks tell that.
pub record HasTaken (told : Type 0) (before after : RackView) (count : ℕ) (images : List (List ℕ)) : Type 0 where
  pub many : length images ≡ count
  pub held : told → AreHeld (shelves_of before).holds 0 images
  pub out : AreOut after count
  pub others : (k : ℕ) → count ≤ k → (shelves_of before).out k ≡ false → (shelves_of after).out k ≡ false
  pub rest : LeavesFrom count before after
  pub later : before.faults ≤ after.faults
  pub failed_later : StaysUp (shelves_of before).failed (shelves_of after).failed
  pub asked : AsksForFirst count before after

-- each of these disks holds what the disk of its number might hold in the rack
abbrev pub AreFrom : {D : Type 0} → (D → View) → RackView → List D → Type 0
AreFrom view before disks = (k : ℕ) (d : _) → slice_get disks k ≡ Some d → AreAmong (view d).images ((shelves_of before).holds k)

-- the shelf of this number was not opened for this
abbrev pub unopened_by : (shelf : ℕ) → BeginFault → OpenFault
unopened_by shelf e = record { shelf = shelf; why = reopen_of e }

-- this is one of so many shelves, and a take of its disk failed, or a call of that disk
abbrev pub FailsAt : (count : ℕ) → (before after : RackView) → (shelf : ℕ) → Type 0
FailsAt count before after shelf = (shelf < count) × FailedFor shelf before after

-- why the disk of this shelf was not taken
abbrev pub IsUntaken : (risen : ℕ → Type 0) → (shelf : ℕ) → Reopen → Type 0
IsUntaken risen shelf reopen.Disk = risen shelf
IsUntaken risen shelf reopen.Memory = ⊤
IsUntaken risen shelf _ = ⊥

-- why disks were not taken
abbrev pub AreUntaken : (risen : ℕ → Type 0) → OpenFault → Type 0
AreUntaken risen f = IsUntaken risen f.shelf f.why

-- why this shelf was not opened, of those on disks that hold these
abbrev pub IsRefused : (told : Type 0) → (risen : ℕ → Type 0) → List Named → (images : List (List ℕ)) → (shelf : ℕ) → Reopen → Type 0
IsRefused told risen scripts images shelf reopen.Disk = risen shelf
IsRefused told risen scripts images shelf reopen.NotEmpty = ⊥
IsRefused told risen scripts images shelf (reopen.Damaged place) =
    told → first_unfit (unfit_left scripts) 0 images ≡ Some (shelf, damaged place)
IsRefused told risen scripts images shelf (reopen.Other place) =
    told → first_unfit (unfit_left scripts) 0 images ≡ Some (shelf, other place)
IsRefused told risen scripts images shelf (reopen.Full length) =
    told → first_unfit (unfit_left scripts) 0 images ≡ Some (shelf, full length)
IsRefused told risen scripts images shelf reopen.Memory = ⊤

-- In which order disks were asked for until this shelf was not opened: all were taken, in order, before one was opened. Unless memory ended, nothing
-- was added to the records on the disks after it, nor on its own, but where a call of that failed.
abbrev pub RefusesInOrder : List Named → (before after : RackView) → (count : ℕ) → (images : List (List ℕ)) → (shelf : ℕ) → Reopen → Type 0
RefusesInOrder scripts before after count images shelf reopen.Disk = FailsInOrder scripts before after count images shelf
RefusesInOrder scripts before after count images shelf reopen.Memory = ⊤
RefusesInOrder scripts before after count images shelf why =
    AsksForFirst count before after × (length images ≡ count) × AreBare before after images shelf

-- the disks of the shelves up to this one were asked for, which was not taken; or none was, for want of memory
abbrev pub AsksAsTaken : (before after : RackView) → (count shelf : ℕ) → Reopen → Type 0
AsksAsTaken before after count shelf why = AsksUntil count shelf before after ⊎ ((why ≡ reopen.Memory) × AsksForNone before after)

-- the disks that were asked for until a shelf was not opened for this: all, each once and in order; or up to its own, where that was not
-- taken; or none, for want of memory
abbrev pub AsksByCause : (before after : RackView) → (count shelf : ℕ) → Reopen → Type 0
AsksByCause before after count shelf reopen.Disk = AsksForFirst count before after ⊎ AsksUntil count shelf before after
AsksByCause before after count shelf reopen.Memory =
    AsksForNone before after ⊎ (AsksForFirst count before after ⊎ AsksUntil count shelf before after)
AsksByCause before after count shelf why = AsksForFirst count before after

-- each of these disks was given back to the place of its number: the rack holds what a crash may leave on it, where both tell
-- that; and a fault of one is a fault of the rack, counted for its number
pub record AreGiven {D : Type 0} (view : D → View) (told : Type 0) (before after : RackView) (disks : List D) : Type 0 where
  pub held : told → AreOut before (length disks) → (k : ℕ) (d : D) → slice_get disks k ≡ Some d → AreAmong ((shelves_of after).holds k) (view d).images
  pub others : LeavesFrom (length disks) before after
  pub faults : (k : ℕ) (d : D) → slice_get disks k ≡ Some d → 1 ≤ (view d).faults → FailedFor k before after
  pub counts : RoseBy (sum_by (λ d. (view d).faults) disks) before.faults after.faults

-- The shelves were opened on the disks that were taken from a rack, with this setup, under these rules and with these sources of nonces.
-- Nothing was lost on any of the disks.
pub record OpensOn {D N : Type 0} (view : D → View) (tells : Bool) (told : Type 0) (nonce : N → ℕ → ℕ) (rules : ℕ → Rules)
    (scripts : List Named) (sources : List N) (before after : RackView) (openings : List (Opening D N)) : Type 0 where
  pub images : List (List ℕ)
  pub taken : HasTaken told before after (length sources) images
  pub opened : AreOpened view tells told nonce rules scripts 0 images sources openings
  pub kept : told → (k : ℕ) (o : Opening D N) (read left : List ℕ) → slice_get openings k ≡ Some o → slice_get images k ≡ Some read
      → (view o.shelf.value.journal.disk).images left → IsKept scripts k ((shelves_of before).holds k) read left

-- A shelf was not opened, in the order of the disks. Nothing was lost on any disk, but on the one of which a call failed; a disk of which
-- nothing was read holds what it might hold.
pub record RefusesOn (told : Type 0) (scripts : List Named) (count : ℕ) (before after : RackView) (f : OpenFault) : Type 0 where
  pub images : List (List ℕ)
  pub held : told → AreHeld (shelves_of before).holds 0 images
  pub refused : IsRefused told (FailsAt count before after) scripts images f.shelf f.why
  pub in_order : told → RefusesInOrder scripts before after count images f.shelf f.why
  pub kept : told → (k : ℕ) (read left : List ℕ) → slice_get images k ≡ Some read → (shelves_of after).holds k left → (f.why ≡ reopen.Disk → k ≢ f.shelf)
      → IsKept scripts k ((shelves_of before).holds k) read left
  pub unread : told → LeavesFrom (length images) before after
  pub home : KeepsHome before after
  pub asked : AsksByCause before after count f.shelf f.why
