-- What the calls ensure that write the feed of a shelf, or let a shelf follow one.
use Rattle.std.specs.Prelude.{◌≡◌, false, true, IsTrue, Option, Some, None, Result, List, ℕ}
use Rattle.shelf.specs.WebOutside.View.{SourceView, SinkView}
use Rattle.shelf.specs.WebDisk.View.{View}
use Rattle.shelf.specs.WebDisk.declared.disk.Disk.{Ghosts}
use Rattle.shelf.specs.PageJournal.Settled.{bodies_in, view_of}
use Rattle.shelf.specs.Views.{follows_in}
use Rattle.shelf.specs.declared.shelf.Shelf.{Shelf}
use Rattle.page_follower.specs.Causes.{Faults, HasCauses, HasExportCauses, faults_at, faults_of}
use Rattle.page_follower.specs.Comparing.{Compares, progress}
use Rattle.page_follower.specs.Exporting.{Exports, SendsAll}
use Rattle.page_follower.specs.Held.{Adopting, AdoptsNext, Feeds, HasFollowed}
use Rattle.page_follower.specs.Moments.{HasFed}
use Rattle.page_follower.specs.declared.comparer.Comparer.{Comparer}
use Rattle.page_follower.specs.declared.exporting.ExportFault.{ExportFault}
use Rattle.page_follower.specs.declared.fault.FollowEnd.{FollowEnd}

-- ---- writing a feed

-- What sending the records of a shelf came to, by the output before and now.
abbrev pub SendsRecords : {D N O : Type 0} → (D → View) → (O → SinkView) → Shelf D N → (sink told : O) → Result (Unit {0}) ExportFault → Type 0
SendsRecords view sees shelf sink told result = SendsAll (sees sink) (sees told) (bodies_in view shelf.journal) result

-- What exporting the records of a shelf came to, by the output before and now.
abbrev pub ExportsRecords : {D N O : Type 0} → (D → View) → (O → SinkView) → Shelf D N → (sink told : O) → Result (Unit {0}) ExportFault → Type 0
ExportsRecords view sees shelf sink told result = Exports (sees sink) (sees told) (bodies_in view shelf.journal) result

-- What failed of the output and the disk of a shelf where exporting its records ended so.
abbrev pub FailsExporting : {D N O : Type 0} → (D → View) → (O → SinkView) → (old : Shelf D N) → (sink : O) → (new : Shelf D N) → (told : O)
    → Result (Unit {0}) ExportFault → Type 0
FailsExporting view sees old sink new told result =
    HasExportCauses (sees sink) (sees told) (view_of view old.journal) (view_of view new.journal) result

-- ---- following one

-- How often calls of the feed, of the output and of the disk had failed where a comparer stands so, and the shelf that it feeds.
abbrev pub faults_with : {S O D N : Type 0} → (S → SourceView) → (O → SinkView) → (D → View) → Comparer S O → Shelf D N → Faults
faults_with reads sees view c shelf = faults_at (progress reads sees c) (view_of view shelf.journal)

-- What failed where following ended so, if it ended, by a comparer and the shelf that it feeds.
abbrev pub FailsFeeding : {S O D N : Type 0} → (S → SourceView) → (O → SinkView) → (D → View) → (old : Comparer S O) → (before : Shelf D N)
    → (new : Comparer S O) → (after : Shelf D N) → Option FollowEnd → Type 0
FailsFeeding reads sees view old before new after ending =
    HasCauses (faults_with reads sees view old before) (faults_with reads sees view new after) ending

-- What failed where following ended so, if it ended, and had not ended before: by a comparer and the shelf that it feeds.
abbrev pub FailsGoingOn : {S O D N : Type 0} → (S → SourceView) → (O → SinkView) → (D → View) → (old : Comparer S O) → (before : Shelf D N)
    → (new : Comparer S O) → (after : Shelf D N) → Option FollowEnd → Type 0
FailsGoingOn reads sees view old before new after ending = old.ending ≡ None → FailsFeeding reads sees view old before new after ending

-- What came of comparing a record that is held with the next one of the feed.
abbrev pub ComparesHeld : {S O : Type 0} → (S → SourceView) → (O → SinkView) → (old : Comparer S O) → (body : List ℕ) → (new : Comparer S O) → Type 0
ComparesHeld reads sees old body new = Compares (progress reads sees old) (progress reads sees new) body new.ending

-- What came of the next record of the feed, which a shelf is fed.
abbrev pub FeedsNext : {S O D N : Type 0} → (S → SourceView) → (O → SinkView) → (D → View) → (old : Comparer S O) → (before : Shelf D N)
    → (new : Comparer S O) → (after : Shelf D N) → Type 0
FeedsNext reads sees view old before new after =
    AdoptsNext view (progress reads sees old) (progress reads sees new) before.journal.disk after.journal.disk
    (bodies_in view before.journal) (bodies_in view after.journal) new.ending

-- What came of the records of the feed that were left, which a shelf is fed, where following had not ended before.
abbrev pub FeedsRest : {S O D N : Type 0} → (S → SourceView) → (O → SinkView) → (D → View) → (old : Comparer S O) → (before : Shelf D N)
    → (new : Comparer S O) → (after : Shelf D N) → Type 0
FeedsRest reads sees view old before new after =
    old.ending ≡ None
    → Adopting view (progress reads sees old) (progress reads sees new) before.journal.disk after.journal.disk
    (bodies_in view before.journal) (bodies_in view after.journal) new.ending

-- What a comparer did with the feed of a shelf after the feed's head.
abbrev pub FeedsAll : {S O D N : Type 0} → (S → SourceView) → (O → SinkView) → (D → View) → (old : Comparer S O) → (before : Shelf D N)
    → (new : Comparer S O) → (after : Shelf D N) → FollowEnd → Type 0
FeedsAll reads sees view old before new after ending =
    Feeds (HasFed view (bodies_in view before.journal) before.journal.disk after.journal.disk)
    (progress reads sees old) (progress reads sees new) (bodies_in view before.journal) (bodies_in view after.journal) ending

-- What failed where following a feed ended so, by its source, the output and the shelf before and now.
abbrev pub FailsFor : {S O D N : Type 0} → (S → SourceView) → (O → SinkView) → (D → View) → (source : S) → (sink : O) → (before : Shelf D N)
    → (left : S) → (told : O) → (after : Shelf D N) → FollowEnd → Type 0
FailsFor reads sees view source sink before left told after ending =
    HasCauses (faults_of (reads source) (sees sink) (view_of view before.journal)) (faults_of (reads left) (sees told) (view_of view after.journal))
    (Some ending)

-- What failed where a shelf that follows was fed and following ended so, by the source, the output and the shelf before and now.
abbrev pub FailsIfFed : {S O D N : Type 0} → (S → SourceView) → (O → SinkView) → (D → View) → (source : S) → (sink : O) → (before : Shelf D N)
    → (left : S) → (told : O) → (after : Shelf D N) → FollowEnd → Type 0
FailsIfFed reads sees view source sink before left told after ending =
    follows_in before ≡ true → FailsFor reads sees view source sink before left told after ending

-- What a shelf did with a feed that it followed, by the source, the output and the shelf before and now.
abbrev pub FollowsFeed : {S O D N : Type 0} → (S → SourceView) → (O → SinkView) → (D → View) → (source : S) → (sink : O) → (before : Shelf D N)
    → (left : S) → (told : O) → (after : Shelf D N) → FollowEnd → Type 0
FollowsFeed reads sees view source sink before left told after ending =
    HasFollowed (HasFed view (bodies_in view before.journal) before.journal.disk after.journal.disk)
    (reads source) (reads left) (sees sink) (sees told) (bodies_in view before.journal) (bodies_in view after.journal) ending

-- What a shelf did with a feed that it followed, where its disk tells what it holds.
abbrev pub FollowsOn : {S O D N : Type 0} → (G : Ghosts D) → (S → SourceView) → (O → SinkView) → (source : S) → (sink : O) → (before : Shelf D N)
    → (left : S) → (told : O) → (after : Shelf D N) → FollowEnd → Type 0
FollowsOn G reads sees source sink before left told after ending =
    IsTrue G.tells → FollowsFeed reads sees G.view source sink before left told after ending

-- What a shelf did with a feed, where it follows, and its disk tells what it holds.
abbrev pub FollowsIfFed : {S O D N : Type 0} → (G : Ghosts D) → (S → SourceView) → (O → SinkView) → (source : S) → (sink : O) → (before : Shelf D N)
    → (left : S) → (told : O) → (after : Shelf D N) → FollowEnd → Type 0
FollowsIfFed G reads sees source sink before left told after ending =
    follows_in before ≡ true → FollowsOn G reads sees source sink before left told after ending

-- A shelf that does not follow stays as it is, and so do the source and the output.
abbrev pub StaysUnfed : {S O D N : Type 0} → (source : S) → (sink : O) → (before : Shelf D N) → (left : S) → (told : O) → (after : Shelf D N) → Type 0
StaysUnfed source sink before left told after =
    follows_in before ≡ false → (after ≡ before) × ((left ≡ source) × (told ≡ sink))
