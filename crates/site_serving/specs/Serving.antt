-- What serving links from the shelves of a site comes to.
use Rattle.std.specs.Prelude.{⊤, ◌≡◌, ◌⊎◌, ◌≤◌, ◌+◌, ◌-◌, ◌^◌, [], ◌∷◌, ◌++◌, ℕ, List, Bool, IsTrue, length, min, Option, Some, All, IfSome, Result, Ok, Err, slice_get}
use Rattle.web_outside.specs.Causes.{Rose}
use Rattle.web_outside.specs.Doors.{GiveLists, HaveNone}
use Rattle.web_outside.specs.Porches.{GainsLast}
use Rattle.web_outside.specs.View.{LinkView, PorchView, DoorView}
use Rattle.web_outside.specs.declared.door.DoorFault.{DoorFault}
use Rattle.web_outside.specs.declared.door.DoorFault.TheVariants as listening
use Rattle.web_disk.specs.View.{AreAmong, View}
use Rattle.request_workers.specs.Tallies.{count_of, IsBelow}
use Rattle.request_workers.specs.Working.{EndsBy, Worked}
use Rattle.request_workers.specs.declared.tally.Tally.{Tally}
use Rattle.request_workers.specs.declared.tally.WorkEnd.{WorkEnd}
use Rattle.request_workers.specs.declared.tally.WorkEnd.TheVariants as ends
use Rattle.lock_row.specs.Spots.{Home}
use Rattle.history_spec.specs.Histories.{Entry, own_of}
use Rattle.history_spec.specs.Passes.{IsSeenBy}
use Rattle.site.specs.declared.entry.KeptEntry.{KeptEntry}
use Rattle.site.specs.declared.opening.Opening.{Opening}
use Rattle.site.specs.declared.site.Site.{Site}
use Rattle.site.specs.Beginnings.{IsFirstPass}
use Rattle.site.specs.Entries.{entries_of}
use Rattle.site.specs.Opened.{HasEnded, Opened}
use Rattle.site.specs.Openings.{opened_of}
use Rattle.site.specs.Passes.{Spots}
use Rattle.site_serving.specs.declared.serving.ServingFault.{ServingFault}
use Rattle.site_serving.specs.declared.serving.ServingFault.TheVariants as fault
use Rattle.site_serving.specs.declared.serving.Watch.{Watch}
use Rattle.site_serving.specs.Kept.{Kept}
use Rattle.site_serving.specs.Pages.{faults_in, pages_of}
use Rattle.site_serving.specs.Visits.{Seen, history_rules, unseen}
use Rattle.site_serving.specs.Totals.{end_of, total}

-- what contracts see of a disk, and whether it tells its bytes; of a link, of a porch and of a source of nonces; and what the
-- clock shows
pub record Views (D P L N : Type 0) : Type 1 where
  pub disk : D → View
  pub told : Bool
  pub link : L → LinkView
  pub porch : P → PorchView L
  pub nonce : N → ℕ → ℕ
  pub shown : Option ℕ

-- How contracts see the things that a serving meets.
abbrev pub views : {D P L N : Type 0} → (disk : D → View) → (told : Bool) → (link : L → LinkView) → (porch : P → PorchView L)
    → (nonce : N → ℕ → ℕ) → (shown : Option ℕ) → Views D P L N
views disk told link porch nonce shown =
    record { disk = disk; told = told; link = link; porch = porch; nonce = nonce; shown = shown }

-- what a past told before a serving, and what it tells after it
pub record Pasts : Type 0 where
  pub before : Option (List Kept)
  pub after : Option (List Kept)

-- What a past told before a serving and after it.
abbrev pub pasts_of : (before after : Option (List Kept)) → Pasts
pasts_of before after = record { before = before; after = after }

-- what the shelves behind these locks were opened as
abbrev pub openings_of : {O : Type 0} → List (Home O) → List O
openings_of [] = []
openings_of (h ∷ homes) = h.opening ++ openings_of homes

module _ {D N : Type 0} (disk : D → View) (told : Bool) (nonce : N → ℕ → ℕ) where
  -- what these openings are, in the words of histories
  abbrev pub opened_as : List (Opening D N) → List Opened
  opened_as [] = []
  opened_as (o ∷ openings) = opened_of disk told nonce o ∷ opened_as openings

  -- what the shelves of a site were opened as
  abbrev pub openings_in : Site D N → List Opened
  openings_in site = opened_as (openings_of site.row.homes)

-- what a worker has seen of each shelf begins the shelf's history, and has all entries of the worker
abbrev pub AreSeenBy : (worker : ℕ) → List Seen → List (List KeptEntry) → Type 0
AreSeenBy worker [] [] = ⊤
AreSeenBy worker (s ∷ seen) (h ∷ histories) = IsSeenBy worker s.front (entries_of h) × AreSeenBy worker seen histories
AreSeenBy worker seen histories = ⊥

-- The worker of this number served the links of its porch to their end, or until the porch failed. A link carried so many requests at
-- most: each has the entries and counts of one visit, and on the link stand their replies. All entries of the worker in the histories
-- are those of its visits and of the sweeps before them, with the compactions after these.
pub record HasServed {D P L N : Type 0} (v : Views D P L N) (openings : List Opened) (requests : ℕ) (histories : List (List KeptEntry)) (number : ℕ)
    (before after : P) (tally : Tally) : Type 0 where
  pub last : List Seen
  pub worked : Worked (history_rules openings number) v.link v.shown requests (unseen openings) last (v.porch before) (v.porch after) (count_of tally)
  pub seen : AreSeenBy number last histories
  pub ended : EndsBy tally.end (v.porch before) (v.porch after)
  pub small : IsBelow (count_of tally) 1000000001
  pub most : (v.porch after).most ≡ (v.porch before).most
  pub later : (v.porch before).faults ≤ (v.porch after).faults

-- Each worker served the links of the porch of its number, and counted this. The door closed the porches as they were left.
pub record ServesPorches {D P L N : Type 0} (v : Views D P L N) (openings : List Opened) (requests : ℕ) (porches : List P) (left : DoorView P L) (kept : Kept)
    : Type 0 where
  pub after : List P
  pub many : length after ≡ length porches
  pub tallied : length kept.tallies ≡ length porches
  pub served : (number : ℕ) (a b : P) (tally : Tally) → slice_get porches number ≡ Some a → slice_get after number ≡ Some b
      → slice_get kept.tallies number ≡ Some tally → HasServed v openings requests kept.histories number a b tally
  pub closed : IfSome left.closed (λ porches. porches ≡ after)

-- The workers served the links of the door's port. Their porches were fresh, and had the door's links.
pub record ServesDoor {D P L N : Type 0} (v : Views D P L N) (openings : List Opened) (door left : DoorView P L) (w : Watch) (kept : Kept) : Type 0 where
  pub porches : List P
  pub many : length porches ≡ w.workers
  pub came : GiveLists v.porch porches (door.links w.port)
  pub fresh : HaveNone v.porch porches
  pub none : All (λ p. (v.porch p).given ≡ 0) porches
  pub most : All (λ p. (v.porch p).most ≡ w.connections) porches
  pub works : ServesPorches v openings w.requests porches left kept

-- A shelf of this opening when all is over: what is left of it stands for its history, in which no caller but the workers has an entry.
-- Of a shelf that was opened as an own one the disk's count of faults rose by one at least for each entry that was answered with a
-- fault of the disk. One that followed another one's journal put each event off, and its disk was left alone.
pub record IsEnded (told : Type 0) (workers : ℕ) (o : Opened) (disk : View) (es : List Entry) : Type 0 where
  pub ended : HasEnded told o disk es
  pub callers : (who : ℕ) → workers ≤ who → own_of who es ≡ []
  pub risen : o.IsOwn → min (o.disk.faults + faults_in es) (2 ^ 64 - 1) ≤ disk.faults

-- each of these shelves is ended, in their order
abbrev pub AreEnded : {D : Type 0} → (D → View) → (told : Type 0) → (workers : ℕ) → List Opened → List D → List (List KeptEntry) → Type 0
AreEnded disk told workers [] [] [] = ⊤
AreEnded disk told workers (o ∷ openings) (d ∷ disks) (h ∷ histories) =
    IsEnded told workers o (disk d) (entries_of h) × AreEnded disk told workers openings disks histories
AreEnded disk told workers openings disks histories = ⊥

-- A disk is as it was when its shelf was opened, and stands for the book of that, without an entry.
pub record IsUntouched (told : Type 0) (o : Opened) (disk : View) : Type 0 where
  pub ended : HasEnded told o disk []
  pub seen : disk.seen ≡ o.disk.seen
  pub images : AreAmong disk.images o.disk.images
  pub faults : disk.faults ≡ o.disk.faults

-- each of these disks is as it was when its shelf was opened, in their order
abbrev pub AreUntouched : {D : Type 0} → (D → View) → (told : Type 0) → List Opened → List D → Type 0
AreUntouched disk told [] [] = ⊤
AreUntouched disk told (o ∷ openings) (d ∷ disks) = IsUntouched told o (disk d) × AreUntouched disk told openings disks
AreUntouched disk told openings disks = ⊥

-- the site gave these passes, to all of so many workers
pub record IsManned {D N : Type 0} (site : Site D N) (workers : ℕ) (passes : List (Spots D N)) : Type 0 where
  pub given : site.row.seats ≡ workers
  pub many : length passes ≡ workers
  pub first : (k : ℕ) (p : Spots D N) → slice_get passes k ≡ Some p → IsFirstPass site k p

-- What was served and kept: the workers served their porches, and each shelf is ended. The pages that were counted are the publishes of
-- the histories that were answered with a page.
pub record LeavesAll {D P L N : Type 0} (v : Views D P L N) (openings : List Opened) (requests : ℕ) (porches : List P) (left : DoorView P L)
    (workers : ℕ) (disks : List D) (kept : Kept) : Type 0 where
  pub works : ServesPorches v openings requests porches left kept
  pub shelves : AreEnded v.disk (IsTrue v.told) workers openings disks kept.histories
  pub pages : (total kept.tallies).pages ≡ pages_of kept.histories

-- what was served was kept in the past, once, and the tally has the counts of all workers and their end
pub record EndsAs {D P L N : Type 0} (v : Views D P L N) (openings : List Opened) (requests : ℕ) (porches : List P) (left : DoorView P L) (past : Pasts)
    (workers : ℕ) (disks : List D) (tally : Tally) : Type 0 where
  pub kept : Kept
  pub told : GainsLast past.before past.after kept
  pub leaves : LeavesAll v openings requests porches left workers disks kept
  pub count : count_of tally ≡ total kept.tallies
  pub end : tally.end ≡ end_of kept.tallies

-- what was served from shelves with these openings, and what was kept of it
pub record IsServed {D P L N : Type 0} (v : Views D P L N) (openings : List Opened) (door left : DoorView P L) (w : Watch) (disks : List D)
    (kept : Kept) : Type 0 where
  pub links : ServesDoor v openings door left w kept
  pub shelves : AreEnded v.disk (IsTrue v.told) w.workers openings disks kept.histories
  pub pages : (total kept.tallies).pages ≡ pages_of kept.histories

-- what was served from these openings was kept in the past, once, and ended so
pub record Leaves {D P L N : Type 0} (v : Views D P L N) (openings : List Opened) (door left : DoorView P L) (past : Pasts) (w : Watch)
    (disks : List D) (end : WorkEnd) (kept : Kept) : Type 0 where
  pub told : GainsLast past.before past.after kept
  pub served : IsServed v openings door left w disks kept
  pub ended : end_of kept.tallies ≡ end

-- a call of the door failed, or one of a porch that it gave
abbrev pub HasFailed : {P L : Type 0} → (before after : DoorView P L) → Type 0
HasFailed before after = Rose before.faults after.faults

-- why a door did not listen
abbrev pub fault_of : DoorFault → ServingFault
fault_of listening.Failed = fault.Door
fault_of listening.Memory = fault.Memory

-- no door was opened and closed, and nothing was kept
abbrev pub IsUnserved : {P L : Type 0} → (door left : DoorView P L) → Pasts → Type 0
IsUnserved door left past = (left.closed ≡ door.closed) × (past.after ≡ past.before)

-- nothing was served, and the disks are as they were when their shelves were opened
abbrev pub GivesUp : {D P L N : Type 0} → Views D P L N → List Opened → (door left : DoorView P L) → Pasts → (disks : List D) → Type 0
GivesUp v openings door left past disks = IsUnserved door left past × AreUntouched v.disk (IsTrue v.told) openings disks

-- what serving comes to: the links were served to their end; the door failed at once, or a porch at last; or memory ran out
-- before any link came
abbrev pub ComesTo : {D P L N : Type 0} → Views D P L N → List Opened → (door left : DoorView P L) → Pasts → Watch → (disks : List D)
    → Result Tally ServingFault → Type 0
ComesTo v openings door left past w disks (Ok tally) =
    (kept : Kept) × Leaves v openings door left past w disks ends.Done kept × (count_of tally ≡ total kept.tallies)
ComesTo v openings door left past w disks (Err fault.Door) =
    GivesUp v openings door left past disks ⊎ ((kept : Kept) × Leaves v openings door left past w disks ends.Failed kept)
ComesTo v openings door left past w disks (Err fault.Memory) = GivesUp v openings door left past disks
