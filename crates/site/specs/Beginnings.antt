-- What a site begins with, and what it hands back where it does not begin.
use Rattle.std.specs.Prelude.{◌≡◌, ◌≢◌, ◌⊎◌, ◌≤◌, ◌<◌, ◌-◌, ◌^◌, ℕ, Bool, false, IsTrue, List, [], ◌∷◌, ◌+◌, length, map, reverse, Some, slice_get, vec_len, vec_capacity}
use Rattle.std.specs.Global.{Vec}
use Rattle.std.specs.List.{AllByRecursion}
use Rattle.server_limits.specs.Counts.{most_workers}
use Rattle.web_disk.specs.declared.disk.Disk.{Ghosts}
use Rattle.disk_trio.specs.declared.trio.Disks.{Disks}
use Rattle.web_outside.specs.Causes.{Rose}
use Rattle.web_disk.specs.View.{View}
use Rattle.script_nodes.specs.Setup.{Named, Library}
use Rattle.script_nodes.specs.Views.{library_of}
use Rattle.script_nodes.specs.declared.library.Library as kept
use Rattle.shelf.specs.SetupReader.Texts.{setup_of_texts}
use Rattle.replay_spec.specs.Book.{Book}
use Rattle.shelf.specs.JournalRecords.Records.{IsInGrammar, begin_of}
use Rattle.shelf.specs.JournalSpec.Standing.{IsOneOf}
use Rattle.shelf.specs.declared.begin.BeginFault.{BeginFault}
use Rattle.shelf.specs.declared.begin.BeginFault.TheVariants.{DiskFault, Memory}
use Rattle.shelf.specs.declared.rules.Rules.{Rules}
use Rattle.shelf.specs.declared.shelf.Shelf.{Shelf}
use Rattle.shelf.specs.Ranges.{numbered}
use Rattle.shelf.specs.Opening.{HasRoomFor, MakesBook, IsFaultOf, IsOfNow, IsOpenedAnew, KeepsRecords, OpensOrMigrates, making_after, opening_bodies}
use Rattle.shelf.specs.Owning.{IsOwnImage, HasOwnImages, StaysOwnThroughout}
use Rattle.shelf.specs.Views.{IsInOrder, IsOwnShelf, book_in, library_in}
use Rattle.lock_row.specs.Spots.{Home, Homes}
use Rattle.lock_row.specs.Rows.{IsNewPass}
use Rattle.site.specs.declared.entry.KeptEntry.{KeptEntry}
use Rattle.site.specs.declared.kept.KeptShelf.{KeptShelf}
use Rattle.site.specs.declared.opening.Opening.{Opening}
use Rattle.site.specs.declared.fault.SiteFault.{SiteFault}
use Rattle.site.specs.declared.begin.Locked.{Locked}
use Rattle.site.specs.declared.site.Site.{Site}
use Rattle.site.specs.Keeping.{IsSoundShelf}
use Rattle.site.specs.Openings.{opened_library}
use Rattle.site.specs.Passes.{Spots}
use Rattle.site.specs.Sites.{IsOwn, library_at}

-- the record that a journal begins with can be written, of each of so many shelves
abbrev pub CanBegin : List Named → (shelves : ℕ) → Type 0
CanBegin scripts shelves = (k : ℕ) → k < shelves → IsInGrammar (begin_of k scripts)

-- the disks were not opened yet
abbrev pub AreNew : {D : Type 0} {G : Ghosts D} → List (Disks D G) → Type 0
AreNew disks = AllByRecursion (λ d. d.known ≡ false) disks

module _ {D N : Type 0} (view : D → View) (tells : Bool) (scripts : List Named) where
  -- A shelf that was opened with this setup on this disk under these limits: its book is the one that a shelf goes on with on what the
  -- disk's bytes make, as after a crash. A crash at any moment of the opening left the disk between the books that it stood between, or
  -- these with this setup, or with a file of the newest format; and nothing was lost on it, and nothing added but what the opening tells
  -- there, for which a journal has room. Where the records that are read are own ones, it is an own shelf; on a disk that tells no bytes it
  -- is one where its book has no instance.
  pub record IsOpenedOn (rules : Rules) (disk : D) (nonces : N) (s : Shelf D N) : Type 0 where
    pub rules_are : s.rules ≡ rules
    pub nonces_are : s.nonces ≡ nonces
    pub in_order : IsInOrder view tells s
    pub opened : IsOpenedAnew view scripts s
    pub book : IsTrue tells → MakesBook scripts rules.number (view disk) (book_in view s)
    pub one_of : IsTrue tells → IsOfNow (view disk) → IsOneOf setup_of_texts rules.number scripts (view disk) (book_in view s)
    pub own : IsTrue tells → IsOwnImage rules.number (view disk).seen → IsOwnShelf view tells s
    pub own_if_empty : (IsTrue tells → ⊥) → (book_in view s).instances ≡ [] → IsOwnShelf view tells s
    pub any_moment : IsTrue tells → OpensOrMigrates rules.number scripts (view disk) (view s.journal.disk)
    pub own_moments : IsTrue tells → HasOwnImages rules.number (view disk)
        → StaysOwnThroughout rules.number (view disk) (view s.journal.disk)
    pub keeps : IsTrue tells
        → KeepsRecords rules.number (opening_bodies scripts rules.number (making_after rules.number (view disk))) (view disk) (view s.journal.disk)
    pub fits : IsTrue tells → HasRoomFor rules.number (view disk).seen
    pub later : (view disk).faults ≤ (view s.journal.disk).faults

-- Each of these shelves is as it was opened, and has no entry yet.
abbrev pub AreFresh : {D N : Type 0} → (D → View) → (tells : Bool) → (coming : N → ℕ → ℕ) → List (KeptShelf D N) → Type 0
AreFresh {D} {N} view tells coming ks =
    (k : ℕ) (s : KeptShelf D N) → slice_get ks k ≡ Some s → IsSoundShelf view tells coming s × (s.history ≡ []) × (s.opened.shelf.value ≡ s.shelf)

module _ {D N : Type 0} (view : D → View) (tells : Bool) (coming : N → ℕ → ℕ) (scripts : List Named) where
  -- a shelf that was opened on this disk with this source of nonces, and has no entry yet
  pub record IsFreshOn (rules : Rules) (disk : D) (nonces : N) (k : KeptShelf D N) : Type 0 where
    pub opened_is : k.opened.shelf.value ≡ k.shelf
    pub history_is : k.history ≡ []
    pub sound : IsSoundShelf view tells coming k
    pub shelf : IsOpenedOn view tells scripts rules disk nonces k.shelf

  -- each of these shelves was opened on the disk of its place, with the source of its place, and has no entry yet
  abbrev pub AreFreshOn : Rules → List D → List N → List (KeptShelf D N) → Type 0
  AreFreshOn rules disks nonces ks =
      (k : ℕ) (d : D) (n : N) (s : KeptShelf D N) → slice_get disks k ≡ Some d → slice_get nonces k ≡ Some n → slice_get ks k ≡ Some s
      → IsFreshOn (numbered rules k) d n s

  -- shelves without an entry that were opened on these disks, of which the last is the first shelf's, with sources in the same order
  abbrev pub AreOpened : Rules → Vec D → Vec N → Vec (KeptShelf D N) → Type 0
  AreOpened rules disks nonces ks = AreFreshOn rules (reverse disks.items) (reverse nonces.items) ks.items

-- nothing was lost on a disk: it has the records that it had, with what the opening with this setup tells after them or without it
abbrev pub LosesNothing : List Named → (shelf : ℕ) → (old new : View) → Type 0
LosesNothing scripts shelf old new =
    KeepsRecords shelf [] old new ⊎ KeepsRecords shelf (opening_bodies scripts shelf (making_after shelf old)) old new

module _ {D : Type 0} (view : D → View) (tells : Bool) (scripts : List Named) where
  -- A disk that is handed back as the shelf's of this number: a crash at any moment left it between the books that it stood
  -- between, or these with this setup, and own where it was own; and its count has not fallen.
  pub record IsReturned (k : ℕ) (disk back : D) : Type 0 where
    pub any_moment : IsTrue tells → OpensOrMigrates k scripts (view disk) (view back)
    pub own_moments : IsTrue tells → HasOwnImages k (view disk) → StaysOwnThroughout k (view disk) (view back)
    pub later : (view disk).faults ≤ (view back).faults

  -- the shelf of this number was not opened, and its disk is handed back, with what stands on it, but where a call of it failed
  pub record IsUnopened (k : ℕ) (disk back : D) (fault : BeginFault) : Type 0 where
    pub returned : IsReturned k disk back
    pub why : IsTrue tells → IsFaultOf scripts k (view disk) fault
    pub cause : fault ≡ DiskFault → Rose (view disk).faults (view back).faults
    pub keeps : IsTrue tells → fault ≢ DiskFault → KeepsRecords k [] (view disk) (view back)

  -- disks are handed back, each in its place
  pub record AreReturned (disks back : List D) : Type 0 where
    pub many : length back ≡ length disks
    pub each : (k : ℕ) (d e : D) → slice_get disks k ≡ Some d → slice_get back k ≡ Some e → IsReturned k d e

  -- A shelf was not opened, the first of those that can't be: what makes no shelf with this setup stands on its disk, or a call of its disk
  -- failed, or memory ended. Nothing was lost on any disk, but on the one of which a call failed. Unless memory ended, nothing was added to
  -- the records on its disk and on those after it.
  pub record AreUnopened (disks back : List D) (shelf : ℕ) (fault : BeginFault) : Type 0 where
    pub returned : AreReturned disks back
    pub within : shelf < length disks
    pub earlier : IsTrue tells → (k : ℕ) (d : D) → k < shelf → slice_get disks k ≡ Some d
        → (b : Book) × (MakesBook scripts k (view d) b × (b.length ≤ 2 ^ 30) × HasRoomFor k (view d).seen)
    pub why : IsTrue tells → (d : D) → slice_get disks shelf ≡ Some d → IsFaultOf scripts shelf (view d) fault
    pub cause : fault ≡ DiskFault → (d e : D) → slice_get disks shelf ≡ Some d → slice_get back shelf ≡ Some e
        → Rose (view d).faults (view e).faults
    pub keep : IsTrue tells → (k : ℕ) (d e : D) → slice_get disks k ≡ Some d → slice_get back k ≡ Some e
        → (k ≡ shelf → fault ≢ DiskFault) → LosesNothing scripts k (view d) (view e)
    pub bare : IsTrue tells → fault ≢ Memory → (k : ℕ) (d e : D) → shelf ≤ k → slice_get disks k ≡ Some d → slice_get back k ≡ Some e
        → (k ≡ shelf → fault ≢ DiskFault) → KeepsRecords k [] (view d) (view e)

  -- the shelf of this number was not opened, and this is why; its disk is handed back, with a source
  abbrev pub IsNotOpened : {N : Type 0} → ℕ → D → BeginFault × D × N → Type 0
  IsNotOpened k disk left = IsUnopened k disk left.1 left.0

  -- the shelf that was not opened, and why; the disks are handed back, of which the last is the first shelf's
  abbrev pub AreNotOpened : (old new : Vec D) → ℕ × BeginFault → Type 0
  AreNotOpened old new left = AreUnopened (reverse old.items) (reverse new.items) left.0 left.1

module _ {D N : Type 0} where
  -- the disks of these shelves
  abbrev pub disks_of : List (KeptShelf D N) → List D
  disks_of ks = map (λ k. k.shelf.journal.disk) ks

  -- the sources of nonces of these shelves
  abbrev pub nonces_of : List (KeptShelf D N) → List N
  nonces_of ks = map (λ k. k.shelf.nonces) ks

  -- what the journals of these shelves told
  abbrev pub libraries_of : List (KeptShelf D N) → List Library
  libraries_of ks = map (λ k. library_in k.shelf) ks

  -- these are copies of what the journals of these shelves told
  abbrev pub AreCopies : List (KeptShelf D N) → Vec kept.Library → Type 0
  AreCopies ks libraries = map library_of libraries.items ≡ libraries_of ks

  -- the shelves as they are behind these locks
  abbrev pub shelves_of : List (KeptShelf D N) → List (Shelf D N)
  shelves_of ks = map (λ k. k.shelf) ks

  -- These shelves are behind locks of which nobody has a pass yet; and what their journals told stands beside them.
  pub record AreLocked (ks : List (KeptShelf D N)) (locked : Locked D N) : Type 0 where
    pub libraries : AreCopies ks locked.libraries
    pub homes : map (λ (h : Home (Opening D N)). h.opening) locked.row.homes ≡ map (λ (k : KeptShelf D N). k.opened ∷ []) ks
    pub seats : locked.row.seats ≡ 0
    pub left : locked.row.left ≡ most_workers

  -- the site of these shelves, with this fuel for a visit and with room for what it hands back
  abbrev pub site_of : Locked D N → (fuel : ℕ) → Vec D → Vec N → Vec (List KeptEntry) → Site D N
  site_of locked fuel disks nonces histories =
      record { libraries = locked.libraries; fuel = fuel; row = locked.row; disks = disks; nonces = nonces; histories = histories }

  -- room for so many more disks and sources
  abbrev pub HaveRoom : ℕ → Vec D → Vec N → Type 0
  HaveRoom more disks nonces = (vec_len disks + more ≤ vec_capacity disks) × (vec_len nonces + more ≤ vec_capacity nonces)

  -- the room for disks and for sources is as it was
  abbrev pub KeepRoom : Vec D → Vec N → Vec D → Vec N → Type 0
  KeepRoom disks nonces disks_then nonces_then =
      (vec_capacity disks_then ≡ vec_capacity disks) × (vec_capacity nonces_then ≡ vec_capacity nonces)

  -- no disk and no source is left
  abbrev pub AreGone : Vec D → Vec N → Type 0
  AreGone disks nonces = (disks.items ≡ []) × (nonces.items ≡ []) × (vec_len disks ≡ 0) × (vec_len nonces ≡ 0)

-- the vector has so many items
abbrev pub HasMany : {T : Type 0} → ℕ → Vec T → Type 0
HasMany many v = (length v.items ≡ many) × (vec_len v ≡ many)

module _ {D N : Type 0} (view : D → View) (tells : Bool) (scripts : List Named) (rules : Rules) where
  -- the shelf of this number was opened on this disk with this source of nonces, and lies behind its lock
  pub record IsBegunAt (k : ℕ) (disk : D) (nonces : N) (h : Home (Opening D N)) : Type 0 where
    pub opening : Opening D N
    pub opening_is : h.opening ≡ opening ∷ []
    pub shelf : IsOpenedOn view tells scripts (numbered rules k) disk nonces opening.shelf.value

  -- each shelf of the site was opened on the disk of its place, with the source of its place
  pub record IsBegun (disks : List D) (nonces : List N) (site : Site D N) : Type 0 where
    pub fuel_is : site.fuel ≡ rules.fuel
    pub many : length site.row.homes ≡ length disks
    pub each : (k : ℕ) (d : D) (n : N) (h : Home (Opening D N)) → slice_get disks k ≡ Some d → slice_get nonces k ≡ Some n
        → slice_get site.row.homes k ≡ Some h → IsBegunAt k d n h

-- A shelf was not opened, the first of those that can't be, and all disks and sources are handed back, in their order.
pub record IsNotBegun {D N : Type 0} (view : D → View) (tells : Bool) (scripts : List Named) (disks : List D) (nonces : List N) (f : SiteFault D N) : Type 0 where
  pub disks_back : AreUnopened view tells scripts disks f.disks.items f.shelf f.fault
  pub sources_back : f.nonces.items ≡ nonces

-- so many callers have their pass
abbrev pub given_out : {O : Type 0} → ℕ → Homes O → Homes O
given_out n row = record { homes = row.homes; seats = n; left = most_workers - n }

module _ {D N : Type 0} where
  -- the shelf at this place was opened with the scripts that the site has for it, and with its fuel for a visit
  pub record IsUnder (site : Site D N) (place : ℕ) (h : Home (Opening D N)) : Type 0 where
    pub opening : Opening D N
    pub opening_is : h.opening ≡ opening ∷ []
    pub library_is : library_at site place ≡ Some (opened_library opening)
    pub fuel_is : opening.shelf.value.rules.fuel ≡ site.fuel

  -- There is room for what a site hands back when it is closed, and the room is empty.
  pub record HasRoom (shelves : ℕ) (site : Site D N) : Type 0 where
    pub no_disks : vec_len site.disks ≡ 0
    pub no_nonces : vec_len site.nonces ≡ 0
    pub no_histories : vec_len site.histories ≡ 0
    pub empty : (site.disks.items ≡ []) × (site.nonces.items ≡ []) × (site.histories.items ≡ [])
    pub disks : shelves ≤ vec_capacity site.disks
    pub nonces : shelves ≤ vec_capacity site.nonces
    pub histories : shelves ≤ vec_capacity site.histories

  -- what holds of a site from its beginning to its end
  pub record IsWhole (site : Site D N) : Type 0 where
    pub fuel : site.fuel < 2 ^ 63
    pub some : 0 < length site.row.homes
    pub under : (k : ℕ) (h : Home (Opening D N)) → slice_get site.row.homes k ≡ Some h → IsUnder site k h
    pub room : HasRoom (length site.row.homes) site

  -- a site that gave no pass yet
  pub record IsReady (site : Site D N) : Type 0 where
    pub whole : IsWhole site
    pub given : site.row.seats ≡ 0
    pub left : site.row.left ≡ most_workers

  -- a pass of the site that has seen nothing, of this caller
  pub record IsFirstPass (site : Site D N) (caller : ℕ) (pass : Spots D N) : Type 0 where
    pub own : IsOwn site pass
    pub fresh : IsNewPass caller pass

  -- each of these passes of the site has seen nothing, and that of place k is of caller k
  abbrev pub AreFirstPasses : Site D N → Vec (Spots D N) → Type 0
  AreFirstPasses site passes = (k : ℕ) (p : Spots D N) → slice_get passes.items k ≡ Some p → IsFirstPass site k p

  -- the site gave passes to so many callers, and is as it was otherwise
  abbrev pub GivesOut : ℕ → (old new : Site D N) → Type 0
  GivesOut many old new = new ≡ record old { row = given_out many old.row }
