-- What serving a setup over HTTP comes to.
use Rattle.std.specs.Prelude.{⊤, ◌≡◌, ◌≢◌, ◌≤◌, ◌<◌, ◌==◌, ◌⊎◌, ◌++◌, ◌∷◌, [], ℕ, ◌+◌, ◌^◌, Bool, false, List, length, Some, None, IfSome, IsTrue, Result, Ok, Err, codes, slice_get, if◌then◌else◌}
use Rattle.std.specs.Fmt.{decimal}
use Rattle.web_outside.specs.Causes.{Rose}
use Rattle.web_outside.specs.View.{DoorView, SeedsView}
use Rattle.web_disk.specs.View.{View}
use Rattle.trio_rack.specs.Trios.{shelves_of}
use Rattle.play_steps.specs.Played.{RoseBy}
use Rattle.play_desk.specs.Asking.{AsksForFirst}
use Rattle.play_desk.specs.Opening.{HoldsTheBook, IsKept}
use Rattle.script_nodes.specs.Setup.{Named}
use Rattle.command_words.specs.declared.Service.{Service}
use Rattle.setup_reader.specs.declared.setup.Ending.TheVariants.{Input}
use Rattle.setup_reader.specs.Setup.{Parsed, setup_of}
use Rattle.replay_spec.specs.Book.{reopened}
use Rattle.page_journal.specs.Records.{at_rest}
use Rattle.replay_spec.specs.Rules.{Rules}
use Rattle.page_audit.specs.JournalSpec.Opening.{opened_on}
use Rattle.page_audit.specs.JournalSpec.Standing.{IsMadeBook}
use Rattle.request_workers.specs.Counting.{Count}
use Rattle.request_workers.specs.Tallies.{count_of}
use Rattle.request_workers.specs.declared.tally.Tally.{Tally}
use Rattle.request_workers.specs.declared.tally.WorkEnd.{WorkEnd}
use Rattle.request_workers.specs.declared.tally.WorkEnd.TheVariants as ends
use Rattle.site_serving.specs.Totals.{total}
use Rattle.site_serving.specs.Shelves.{HasGiven, IsOwnImage, bodies_after, now_in_bytes, IsOwnOpening, KeptEntry, Opening, book_in, book_then, entries_of, rules_of, scripts_in}
use Rattle.site_serving.specs.declared.serving.Watch.{Watch}
use Rattle.site_serving.specs.declared.serving.ServingFault.{ServingFault}
use Rattle.site_serving.specs.declared.serving.ServingFault.TheVariants as faults
use Rattle.site_serving.specs.Kept.{Kept}
use Rattle.site_serving.specs.Pages.{faults_told}
use Rattle.site_serving.specs.Serving.{IsUnserved, Leaves, Pasts, Views, opened_as}
use Rattle.server_command.specs.declared.program.Status.{Status}
use Rattle.server_command.specs.declared.program.Status.TheVariants as status
use Rattle.play_steps.specs.declared.stage.Reopen.{Reopen}
use Rattle.play_steps.specs.declared.stage.Reopen.TheVariants as reopen
use Rattle.server_command.specs.declared.serving.ServeFault.{ServeFault}
use Rattle.server_command.specs.declared.serving.ServeFault.TheVariants as fault
use Rattle.server_command.specs.Output.{memory_line, Chances, Output, Sinks, PrintsTo, Answers, BreaksOff, rules_for, served}
use Rattle.server_command.specs.Racks.{Racks, AreBare, AreHeld, AreKept, FailsInOrder, AreTaken, AtRest, ShelfFailed, StandsForSome, Unfit, damaged, other, full, disk_line, first_unfit, unfit_left, unfit_line}

-- ---- what is told

-- the line of the counts; what was dropped for want of memory is told where it is not nothing
abbrev pub count_line : Count → List ℕ
count_line c =
    if c.dropped == 0 then codes "pages " ++ (decimal c.pages ++ (codes " refused " ++ (decimal c.refused ++ 10 ∷ [])))
    else codes "pages " ++ (decimal c.pages ++ (codes " refused " ++ (decimal c.refused ++ (codes " dropped " ++ (decimal c.dropped ++ 10 ∷ [])))))

-- What `serve` writes of what its workers counted.
abbrev pub told_count : Count → Output
told_count c = record { text = count_line c; error = []; status = 0 }

-- the counts were told, or there was no memory for that
abbrev pub TellsCount : Count → Status → Sinks → Type 0
TellsCount c status.Done out = Answers (told_count c) 0 out
TellsCount c status.Write out = Rose out.before out.after × BreaksOff (told_count c) out
TellsCount c status.Memory out = PrintsTo out memory_line
TellsCount c _ out = ⊥

-- ---- what was served

-- these are the sources that seeds give, where they tell that
abbrev pub AreDrawn : {N : Type 0} → SeedsView N → (count : ℕ) → List N → Type 0
AreDrawn seeds count sources = IfSome (seeds.gives count) (λ given. given ≡ sources)

-- what contracts see of what a serving meets; its rack, its door and its past before it and after it; and the seeds before it
pub record Outside (D P L N : Type 0) : Type 1 where
  pub views : Views D P L N
  pub rack : Racks
  pub before : DoorView P L
  pub after : DoorView P L
  pub seeds : SeedsView N
  pub past : Pasts

-- What a serving met outside, by these views.
abbrev pub outside : {D P L N : Type 0} → Views D P L N → Racks → (before after : DoorView P L) → (seeds : SeedsView N) → Pasts → Outside D P L N
outside views rack before after seeds past =
    record { views = views; rack = rack; before = before; after = after; seeds = seeds; past = past }

-- what a service asks of its door
abbrev pub watch_of : Service → Watch
watch_of s = record { port = s.port; workers = s.workers; connections = s.connections; requests = s.requests }

-- The shelf of this number was opened with this setup and under these rules, with nonces of this source: its book is what the bytes of
-- its disk make, of an older format what those make that stay, opened again with this setup, whatever setup they told last; and empty where they
-- have no record. A shelf that follows another one's journal is not told the setup, and has the last one that its own journal tells. The file of
-- these records is not too long. Where the records are own ones, it was opened as an own shelf; on a disk that tells no bytes it was where its
-- book had no instance.
pub record IsOpened {D N : Type 0} (view : D → View) (tells : Bool) (told : Type 0) (nonce : N → ℕ → ℕ) (rules : Rules)
    (scripts : List Named) (k : ℕ) (image : List ℕ) (source : N) (o : Opening D N) : Type 0 where
  pub setup : (book_in view o.shelf.value).follows ≡ false → scripts_in o ≡ scripts
  pub limits : rules_of o.shelf.value.rules ≡ rules
  pub number : o.shelf.value.rules.number ≡ k
  pub book : told → IsMadeBook (opened_on k scripts (now_in_bytes k image)) (book_in view o.shelf.value)
  pub short : (book_in view o.shelf.value).length ≤ 2 ^ 30
  pub fits : told → length (at_rest (bodies_after k image)) ≤ 2 ^ 30
  pub opened : book_in view o.shelf.value ≡ reopened (book_in view o.shelf.value)
  pub stream : HasGiven (nonce source) 0 (nonce o.shelf.value.nonces)
  pub own : told → IsOwnImage k image → IsOwnOpening view tells o
  pub own_if_empty : (IsTrue tells → ⊥) → (book_in view o.shelf.value).instances ≡ [] → IsOwnOpening view tells o

module _ {D N : Type 0} (view : D → View) (tells : Bool) where
  -- all shelves from this number on were opened with this setup, each on what its disk held and with nonces of its source
  abbrev pub AreOpened : (told : Type 0) → (nonce : N → ℕ → ℕ) → (ℕ → Rules) → List Named → ℕ → List (List ℕ) → List N → List (Opening D N) → Type 0
  AreOpened told nonce rules scripts k [] [] [] = ⊤
  AreOpened told nonce rules scripts k (image ∷ images) (source ∷ sources) (o ∷ openings) =
      IsOpened view tells told nonce (rules k) scripts k image source o × AreOpened told nonce rules scripts (k + 1) images sources openings
  AreOpened told nonce rules scripts k images sources openings = ⊥

  -- each of these shelves was opened as an own one
  abbrev pub AreOwn : List (Opening D N) → Type 0
  AreOwn openings = (k : ℕ) (o : Opening D N) → slice_get openings k ≡ Some o → IsOwnOpening view tells o

  -- What the disk of a shelf may hold makes some book. Of a shelf that was opened as an own one it is the book of its history.
  pub record StandsBehind (nonce : N → ℕ → ℕ) (shelf : ℕ) (images : List ℕ → Type 0) (o : Opening D N) (h : List KeptEntry) : Type 0 where
    pub some : StandsForSome shelf images
    pub own : IsOwnOpening view tells o → HoldsTheBook (rules_of o.shelf.value.rules) shelf images (book_then view nonce o (entries_of h))

  -- the disk of each shelf may hold what makes some book; of a shelf that was opened as an own one it is the book of its history
  abbrev pub AllStand : (nonce : N → ℕ → ℕ) → (ℕ → List ℕ → Type 0) → List (Opening D N) → List (List KeptEntry) → Type 0
  AllStand nonce holds openings histories =
      (k : ℕ) (o : Opening D N) (h : List KeptEntry) → slice_get openings k ≡ Some o → slice_get histories k ≡ Some h
      → StandsBehind nonce k (holds k) o h

-- the rack's count rose by so many, at least
abbrev pub HaveRisenBy : ℕ → Racks → Type 0
HaveRisenBy count rack = RoseBy count rack.before.faults rack.after.faults

-- Links were served from shelves that were opened on disks which held this, with nonces of the sources that the seeds gave, and this
-- was kept of it: a history of each shelf, and what each worker counted. Where the shelf was opened as an own one, the history is
-- legal, and ends with the book that its disk stands for. Where all were, the rack's count rose by one at least for each fault of a
-- disk that the histories tell. Where the journals were audited before and the disks tell their bytes, all were, whoever wrote these. A shelf
-- that followed another one's journal put each visit off, and nothing was written on its disk since it was opened.
pub record Served {D P L N : Type 0} (o : Outside D P L N) (s : Service) (scripts : List Named) (images : List (List ℕ)) (end : WorkEnd)
    (kept : Kept) : Type 0 where
  pub sources : List N
  pub openings : List (Opening D N)
  pub disks : List D
  pub shelves : length sources ≡ s.options.shelves
  pub drawn : AreDrawn o.seeds s.options.shelves sources
  pub opened : AreOpened o.views.disk o.views.told (IsTrue o.rack.tells) o.views.nonce (rules_for s.options) scripts 0 images sources openings
  pub leaves : Leaves o.views (opened_as o.views.disk o.views.told o.views.nonce openings) o.before o.after o.past (watch_of s) disks end kept
  pub counted : AreOwn o.views.disk o.views.told openings → HaveRisenBy (faults_told kept.histories) o.rack
  pub audited : IsTrue s.audit → IsTrue o.rack.tells → AreOwn o.views.disk o.views.told openings
  pub stands : IsTrue o.rack.tells → AllStand o.views.disk o.views.told o.views.nonce (shelves_of o.rack.after).holds openings kept.histories

-- serving links from the shelves of a setup ended so, and this was counted
pub record ServedSo {D P L N : Type 0} (o : Outside D P L N) (s : Service) (scripts : List Named) (images : List (List ℕ)) (end : WorkEnd)
    (count : Count) : Type 0 where
  pub kept : Kept
  pub served : Served o s scripts images end kept
  pub counted : count ≡ total kept.tallies

-- what a serving may come to, over what its disks held: links were served to their end and counted so; they were served until a
-- porch failed; or no door was opened, and so none was closed and nothing was kept
pub record Serves : Type 1 where
  pub rack : Racks
  pub can : Service → List Named → List (List ℕ) → Count → Type 0
  pub fails : Service → List Named → List (List ℕ) → Count → Type 0
  pub unopened : Type 0

-- What a serving may come to over this outside.
abbrev pub serves_over : {D P L N : Type 0} → Outside D P L N → Serves
serves_over o = record {
  rack = o.rack;
  can = λ s scripts images count. ServedSo o s scripts images ends.Done count;
  fails = λ s scripts images count. ServedSo o s scripts images ends.Failed count;
  unopened = IsUnserved o.before o.after o.past;
}

-- each shelf was opened on what its disk held
abbrev pub Opens : Racks → Service → List Named → List (List ℕ) → Type 0
Opens rack s scripts images =
    IsTrue rack.tells → AreTaken (unfit_left scripts) (shelves_of rack.before).holds s.options.shelves images × (first_unfit (unfit_left scripts) 0 images ≡ None)

-- Nothing was lost on any disk. Of those that were read, each held what was read; of the others each may hold nothing that it might not
-- hold.
pub record NoneIsLost (rack : Racks) (scripts : List Named) (images : List (List ℕ)) : Type 0 where
  pub held : AreHeld (shelves_of rack.before).holds 0 images
  pub read : AreKept scripts rack.before rack.after images
  pub unread : (k : ℕ) (left : List ℕ) → length images ≤ k → (shelves_of rack.after).holds k left → (shelves_of rack.before).holds k left

-- where the disks tell what they hold, nothing was lost on any
abbrev pub KeepsAll : Racks → List Named → List (List ℕ) → Type 0
KeepsAll rack scripts images = IsTrue rack.tells → NoneIsLost rack scripts images

-- All disks were asked for and taken, and this shelf is the first that was not opened, for what its disk held. Nothing was lost on any disk, and nothing
-- was added to the records on its own and on those after it.
abbrev pub Shuts : Racks → Service → List Named → List (List ℕ) → (shelf : ℕ) → Unfit → Type 0
Shuts rack s scripts images shelf why =
    IsTrue rack.tells → AreTaken (unfit_left scripts) (shelves_of rack.before).holds s.options.shelves images
    × (first_unfit (unfit_left scripts) 0 images ≡ Some (shelf, why)) × NoneIsLost rack scripts images
    × AsksForFirst s.options.shelves rack.before rack.after × (length images ≡ s.options.shelves) × AreBare rack.before rack.after images shelf

-- ---- how it ended

-- how often something failed before and after
pub record Faults : Type 0 where
  pub before : ℕ
  pub after : ℕ

-- A count of faults before a call and after it.
abbrev pub faults_of : (before after : ℕ) → Faults
faults_of before after = record { before = before; after = after }

-- The count of faults rose.
abbrev pub HaveRisen : Faults → Type 0
HaveRisen f = Rose f.before f.after

-- a call of the rack or of a disk failed
abbrev pub RackFailed : Racks → Type 0
RackFailed rack = Rose rack.before.faults rack.after.faults

-- nothing was lost on any disk but on this shelf's, of which a call failed
pub record AreKeptBut (rack : Racks) (scripts : List Named) (images : List (List ℕ)) (shelf : ℕ) : Type 0 where
  pub read : (k : ℕ) (read left : List ℕ) → slice_get images k ≡ Some read → (shelves_of rack.after).holds k left → k ≢ shelf
      → IsKept scripts k ((shelves_of rack.before).holds k) read left
  pub unread : (k : ℕ) (left : List ℕ) → length images ≤ k → (shelves_of rack.after).holds k left → (shelves_of rack.before).holds k left

-- nothing was lost on any disk, or on one alone, of which a call failed
abbrev pub KeepsAllBut : Racks → List Named → List (List ℕ) → Type 0
KeepsAllBut rack scripts images =
    KeepsAll rack scripts images ⊎ ((shelf : ℕ) × ShelfFailed rack shelf × (IsTrue rack.tells → AreKeptBut rack scripts images shelf))

-- why this shelf was not opened
abbrev pub ShutsBy : Racks → Service → List Named → List (List ℕ) → (shelf : ℕ) → Reopen → Type 0
ShutsBy rack s scripts images shelf reopen.Disk =
    (shelf < s.options.shelves) × ShelfFailed rack shelf
    × (IsTrue rack.tells → AreKeptBut rack scripts images shelf)
    × (IsTrue rack.tells → FailsInOrder scripts rack.before rack.after s.options.shelves images shelf)
ShutsBy rack s scripts images shelf reopen.NotEmpty = ⊥
ShutsBy rack s scripts images shelf (reopen.Damaged place) = Shuts rack s scripts images shelf (damaged place)
ShutsBy rack s scripts images shelf (reopen.Other place) = Shuts rack s scripts images shelf (other place)
ShutsBy rack s scripts images shelf (reopen.Full length) = Shuts rack s scripts images shelf (full length)
ShutsBy rack s scripts images shelf reopen.Memory = KeepsAll rack scripts images

-- what was counted, or why nothing was, as the command tells it
abbrev pub told_as : Result Tally ServingFault → Result Tally ServeFault
told_as (Ok tally) = Ok tally
told_as (Err faults.Door) = Err fault.Door
told_as (Err faults.Memory) = Err fault.Memory

-- the door failed after all shelves were opened: at once, and then nothing was lost on any disk; or a porch at last, and until then links
-- were served and counted
abbrev pub FailsAtDoor : Serves → Service → List Named → List (List ℕ) → Type 0
FailsAtDoor serves s scripts images =
    (serves.unopened × Opens serves.rack s scripts images × KeepsAll serves.rack scripts images)
    ⊎ ((count : Count) × serves.fails s scripts images count × Opens serves.rack s scripts images)

-- what was served, by how a serving ended
abbrev pub ServesBy : Serves → Service → List Named → List (List ℕ) → Result Tally ServeFault → Type 0
ServesBy serves s scripts images (Ok tally) = serves.can s scripts images (count_of tally) × Opens serves.rack s scripts images
ServesBy serves s scripts images (Err fault.Door) = FailsAtDoor serves s scripts images
ServesBy serves s scripts images (Err (fault.Shelf f)) = serves.unopened × ShutsBy serves.rack s scripts images f.shelf f.why
ServesBy serves s scripts images (Err fault.Key) = serves.unopened × AtRest serves.rack
ServesBy serves s scripts images (Err (fault.Audit end)) = ⊥
ServesBy serves s scripts images (Err fault.Memory) = serves.unopened × KeepsAll serves.rack scripts images

-- links were served to their end, and counted so; or no door was opened, and nothing was lost but on a disk of which a call failed
abbrev pub HasServedIfAny : Serves → Service → List Named → List (List ℕ) → Type 0
HasServedIfAny serves s scripts images =
    (serves.unopened × KeepsAllBut serves.rack scripts images) ⊎ ((count : Count) × serves.can s scripts images count × Opens serves.rack s scripts images)

-- the links of a setup were served and their counts told; or the seeds, the disks or the door failed, at once or at last; or a disk
-- holds no journal of its shelf, or has no room for the setup; or memory ran out
abbrev pub LeavesServing : Serves → Service → List Named → List (List ℕ) → Status → Sinks → (door seeds : Faults) → Type 0
LeavesServing serves s scripts images status.Done out door seeds =
    (count : Count) × serves.can s scripts images count × Opens serves.rack s scripts images × TellsCount count status.Done out
LeavesServing serves s scripts images status.Write out door seeds =
    (count : Count) × serves.can s scripts images count × Opens serves.rack s scripts images × TellsCount count status.Write out
LeavesServing serves s scripts images status.Memory out door seeds =
    PrintsTo out memory_line × HasServedIfAny serves s scripts images
LeavesServing serves s scripts images status.Disk out door seeds =
    (shelf : ℕ) × ShelfFailed serves.rack shelf × (shelf < s.options.shelves) × PrintsTo out (disk_line shelf) × serves.unopened
    × (IsTrue serves.rack.tells → AreKeptBut serves.rack scripts images shelf)
    × (IsTrue serves.rack.tells → FailsInOrder scripts serves.rack.before serves.rack.after s.options.shelves images shelf)
LeavesServing serves s scripts images status.Journal out door seeds =
    (shelf : ℕ) × (why : Unfit) × Shuts serves.rack s scripts images shelf why × PrintsTo out (unfit_line shelf why) × serves.unopened
LeavesServing serves s scripts images status.Door out door seeds =
    HaveRisen door × PrintsTo out (codes "error 9 door\n") × FailsAtDoor serves s scripts images
LeavesServing serves s scripts images status.Key out door seeds =
    HaveRisen seeds × PrintsTo out (codes "error 14 key\n") × serves.unopened × AtRest serves.rack
LeavesServing serves s scripts images _ out door seeds = ⊥

-- the input is a setup, and this is what serving its links left
abbrev pub ServesInput : Serves → Service → (bytes : List ℕ) → List (List ℕ) → Status → Sinks → (door seeds : Faults) → Type 0
ServesInput serves s bytes images status out door seeds =
    (setup : Parsed) × (setup_of Input bytes ≡ Ok setup) × LeavesServing serves s setup.scripts images status out door seeds

-- what serving a whole input leaves: it is not a setup, and this was told; or its links were served
abbrev pub LeavesInput : Serves → Service → (bytes : List ℕ) → Chances → Status → Sinks → (door seeds : Faults) → Type 0
LeavesInput serves s bytes chances status.Done out door seeds = ServesInput serves s bytes chances.disks status.Done out door seeds
LeavesInput serves s bytes chances status.Write out door seeds = ServesInput serves s bytes chances.disks status.Write out door seeds
LeavesInput serves s bytes chances status.Disk out door seeds = ServesInput serves s bytes chances.disks status.Disk out door seeds
LeavesInput serves s bytes chances status.Journal out door seeds = ServesInput serves s bytes chances.disks status.Journal out door seeds
LeavesInput serves s bytes chances status.Door out door seeds = ServesInput serves s bytes chances.disks status.Door out door seeds
LeavesInput serves s bytes chances status.Key out door seeds = ServesInput serves s bytes chances.disks status.Key out door seeds
LeavesInput serves s bytes chances status.Setup out door seeds =
    Answers (served (setup_of Input bytes) chances) 3 out × serves.unopened × AtRest serves.rack
LeavesInput serves s bytes chances status.Memory out door seeds =
    PrintsTo out memory_line
    × ((serves.unopened × AtRest serves.rack) ⊎ ServesInput serves s bytes chances.disks status.Memory out door seeds)
LeavesInput serves s bytes chances _ out door seeds = ⊥
