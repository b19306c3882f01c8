-- Shelves whose records are sent, and shelves that are fed.
use Rattle.std.proofs.Common.{◌≡◌, ◌≢◌, ◌∙◌, inl, inr, ◌≤◌, ℕ, Bool, true, false, IsTrue, List, [], Some, refl, sym, ap, subst, arith, append-nil}
use Rattle.std.specs.Io.KnownBytes.{Appends, Keeps}
use Rattle.std.proofs.lemmas.Option.{same_Some}
use Rattle.web_outside.specs.Causes.{Rose}
use Rattle.web_outside.specs.Pieces.{AppendsPart, HandsAllOn}
use Rattle.web_outside.specs.View.{SinkView, SourceView}
use Rattle.web_outside.specs.declared.nonces.Counting.{Counting}
use Rattle.web_outside.proofs.Writes.{appends_kept, appends_none}
use Rattle.web_disk.specs.View.{View, RackView}
use Rattle.disk_trio.proofs.Views.{rose_later}
use Rattle.page_follower.specs.OfShelf.JournalRecords.Roles.{feed_of}
use Rattle.page_journal.specs.Scanned.{IsQuiet}
use Rattle.page_journal.specs.Settled.{bodies_in}
use Rattle.page_follower.specs.OfShelf.Opening.{KeepsRecords, bodies_after, making_after}
use Rattle.page_follower.specs.OfShelf.Reopening.{bare_bodies}
use Rattle.page_follower.specs.OfShelf.Views.{follows_in}
use Rattle.page_follower.specs.OfShelf.declared.shelf.Shelf.{Shelf}
use Rattle.page_follower.specs.Causes.{HasCauses, IsCausedBy, faults_of}
use Rattle.page_follower.specs.Exporting.{WritesAndHandsOn, WritesSome}
use Rattle.page_follower.specs.Sending.{WritesPart}
use Rattle.page_follower.specs.Feed.{feed_with}
use Rattle.page_follower.specs.Held.{HasFollowed}
use Rattle.page_follower.specs.Moments.{HasFed}
use Rattle.page_follower.specs.declared.fault.FollowEnd.{FollowEnd}
use Rattle.page_follower.specs.declared.fault.FollowEnd.TheVariants as end
use Rattle.play_steps.specs.declared.stage.Reopen.{Reopen}
use Rattle.play_steps.specs.declared.stage.Reopen.TheVariants as reopen
use Rattle.server_command.specs.declared.program.Status.{Status}
use Rattle.server_command.specs.declared.program.Status.TheVariants as status
use Rattle.server_command.specs.Bare.{AreLent, AsksOne, GivesBack, HasOpened, HasRead, OpensSafely}
use Rattle.server_command.specs.Feeding.{HasReason, IsFailing, LeavesExport, LeavesFollow, TellsFeed, TellsFollowed, feed_on, followed, followed_line, followed_status, leads, sent, unread, unsent}
use Rattle.server_command.specs.Feeding as feeding
use Rattle.server_command.specs.Command.{IsDoneUnlessFault}
use Rattle.server_command.specs.Output.{PrintsTo, Sinks, sinks_of}
use Rattle.server_command.specs.Racks.{ShelfFailed, racks_of}
use Rattle.server_command.specs.Telling.{TellsUnopened, unopened_line, unopened_status}
use Rattle.server_command.specs.Telling as telling
use Rattle.server_command.proofs.Bare.{asks_one, bare_leads, keeps_still, safely_quiet, shelf_failed}
use Rattle.server_command.proofs.Promotes.{tells_behind}

-- the call of a shelf, between its opening and its closing
module _ {D : Type 0} (view : D → View) (tells told fed : Bool) (before mid after : RackView) (shelf : ℕ) (s new : Shelf D Counting)
    (h : HasOpened view tells fed (racks_of told before mid) shelf s) (g : GivesBack view (IsTrue told) shelf new.journal.disk mid after) where
  lent : AreLent view (IsTrue told) before after shelf h.taken new.journal.disk
  lent = record { among = h.among; reads = h.reads; left = g.left }

  pub rest : AsksOne (racks_of told before after) shelf
  rest = asks_one view (IsTrue told) told before mid after shelf new.journal.disk h.asked h.takes h.rack_later g

  failed : Rose (view s.journal.disk).faults (view new.journal.disk).faults → ShelfFailed (racks_of told before after) shelf
  failed rose =
      shelf_failed view (IsTrue told) told before mid after shelf new.journal.disk (view h.taken).faults h.fresh h.takes h.rack_later g
      (let none = h.fresh in omega (arith, none, rose))

  -- its records were read, and nothing was written
  abbrev read_quiet : ((v : D) (t : ℕ) (image : List ℕ) → t ≤ (view v).moment → (view v).images image → (view v).since t image)
      → (IsTrue told → bare_bodies fed (making_after shelf (view h.taken)) ≡ []) → IsQuiet (view s.journal.disk) (view new.journal.disk)
      → HasRead view fed (racks_of told before after) shelf
  read_quiet counts none quiet = record {
    asked = g.asked ∙ h.asked;
    rest = rest;
    taken = h.taken;
    given = new.journal.disk;
    lent = lent;
    keeps = λ t. keeps_still shelf [] (view h.taken) (view s.journal.disk) (view new.journal.disk) quiet.seen quiet.images
        (subst (λ m. KeepsRecords shelf m (view h.taken) (view s.journal.disk)) (none t) (h.keeps t));
    safely = λ t. safely_quiet fed shelf (view h.taken) (view s.journal.disk) (view new.journal.disk)
        (λ le image now. counts s.journal.disk (view h.taken).moment image le now) (h.safely t) quiet.moments;
    lawful = h.lawful;
  }

  -- it was left alone
  abbrev read_same : (IsTrue told → bare_bodies fed (making_after shelf (view h.taken)) ≡ []) → new ≡ s → HasRead view fed (racks_of told before after) shelf
  read_same none same = record {
    asked = g.asked ∙ h.asked;
    rest = rest;
    taken = h.taken;
    given = new.journal.disk;
    lent = lent;
    keeps = λ t. subst (λ (x : Shelf D Counting). KeepsRecords shelf [] (view h.taken) (view x.journal.disk)) (sym same)
        (subst (λ m. KeepsRecords shelf m (view h.taken) (view s.journal.disk)) (none t) (h.keeps t));
    safely = λ t. subst (λ (x : Shelf D Counting). OpensSafely fed shelf (view h.taken) (view x.journal.disk)) (sym same) (h.safely t);
    lawful = h.lawful;
  }

-- ---- exporting

module _ {D : Type 0} (view : D → View) (told : Bool) (before after : RackView) (shelf : ℕ) (r : HasRead view false (racks_of told before after) shelf)
    (tells : Bool) (knows : IsTrue told → IsTrue tells) (bodies : List (List ℕ)) (records : IsTrue told → bodies ≡ bodies_after shelf (view r.taken).seen)
    (old mid : SinkView) where
  feeds : IsTrue told → feed_with (feed_of bodies) ≡ feed_on shelf (view r.taken).seen
  feeds t = ap (λ bs. feed_with (feed_of bs)) (records t)

  pub sent_all : (how : Status) → how ≡ status.Done → (IsTrue tells → WritesAndHandsOn old mid (feed_with (feed_of bodies)))
      → LeavesExport view (racks_of told before after) shelf how (sinks_of old mid)
  sent_all how is all = sent r is (λ t. subst (Appends old.written mid.written) (feeds t) (all (knows t)).writes.written)

  pub sent_part : (how : Status) → how ≡ status.Write → Rose old.faults mid.faults → (IsTrue tells → WritesPart old mid (feed_with (feed_of bodies)))
      → LeavesExport view (racks_of told before after) shelf how (sinks_of old mid)
  sent_part how is rose part = unsent r is rose (λ t. subst (AppendsPart old.written mid.written) (feeds t) (part (knows t)).written)

  fails : (how : Status) (out : Sinks) → TellsUnopened shelf reopen.Disk how out → IsFailing how
  fails how out (telling.told line is same prints) = inl same
  fails how out (telling.untold same prints) = inr same

  pub sent_some : (new : SinkView) (how : Status) → ShelfFailed (racks_of told before after) shelf → old.faults ≤ mid.faults
      → (IsTrue tells → WritesSome old mid (feed_with (feed_of bodies))) → TellsUnopened shelf reopen.Disk how (sinks_of mid new)
      → LeavesExport view (racks_of told before after) shelf how (sinks_of old new)
  sent_some new how failed le some line =
      unread r failed (fails how (sinks_of mid new) line) (λ t.
      let part = (some (knows t)).written in (
        part.front,
        part.rest,
        sym (feeds t) ∙ part.is,
        tells_behind part.front shelf reopen.Disk how old.written mid.written new.written old.faults mid.faults new.faults le part.written line,
      ))

-- a shelf was opened, its records were sent, and it was closed
module _ {D : Type 0} (view : D → View) (tells told : Bool) (before mid after : RackView) (shelf : ℕ) (s new : Shelf D Counting)
    (knows : IsTrue told → IsTrue tells) (h : HasOpened view tells false (racks_of told before mid) shelf s)
    (g : GivesBack view (IsTrue told) shelf new.journal.disk mid after)
    (counts : (v : D) (t : ℕ) (image : List ℕ) → t ≤ (view v).moment → (view v).images image → (view v).since t image)
    (quiet : IsQuiet (view s.journal.disk) (view new.journal.disk)) (old between : SinkView) where
  pub export_done : (IsTrue tells → WritesAndHandsOn old between (feed_with (feed_of (bodies_in view s.journal))))
      → LeavesExport view (racks_of told before after) shelf status.Done (sinks_of old between)
  export_done all =
      sent_all view told before after shelf (read_quiet view tells told false before mid after shelf s new h g counts (λ t. refl) quiet) tells knows
      (bodies_in view s.journal) (λ t. h.records t ∙ append-nil (bodies_after shelf (view h.taken).seen)) old between status.Done refl all

  pub export_cut : Rose old.faults between.faults → (IsTrue tells → WritesPart old between (feed_with (feed_of (bodies_in view s.journal))))
      → LeavesExport view (racks_of told before after) shelf status.Write (sinks_of old between)
  export_cut rose part =
      sent_part view told before after shelf (read_quiet view tells told false before mid after shelf s new h g counts (λ t. refl) quiet) tells knows
      (bodies_in view s.journal) (λ t. h.records t ∙ append-nil (bodies_after shelf (view h.taken).seen)) old between status.Write refl rose part

  pub export_failed : (last : SinkView) (how : Status) → Rose (view s.journal.disk).faults (view new.journal.disk).faults → old.faults ≤ between.faults
      → (IsTrue tells → WritesSome old between (feed_with (feed_of (bodies_in view s.journal)))) → TellsUnopened shelf reopen.Disk how (sinks_of between last)
      → LeavesExport view (racks_of told before after) shelf how (sinks_of old last)
  export_failed last how rose le some line =
      sent_some view told before after shelf (read_quiet view tells told false before mid after shelf s new h g counts (λ t. refl) quiet) tells knows
      (bodies_in view s.journal) (λ t. h.records t ∙ append-nil (bodies_after shelf (view h.taken).seen)) old between last how
      (failed view tells told false before mid after shelf s new h g rose) le some line

-- what was handed on in the last call of two
pub hands_later : (old mid new : SinkView) → old.faults ≤ mid.faults → HandsAllOn mid new → HandsAllOn old new
hands_later old mid new le (inl on) = inl on
hands_later old mid new le (inr rose) = inr (rose_later old.faults mid.faults new.faults le rose)

-- ---- following

module _ {D : Type 0} (view : D → View) (tells told : Bool) (before mid after : RackView) (shelf : ℕ) (s new : Shelf D Counting)
    (knows : IsTrue told → IsTrue tells) (h : HasOpened view tells true (racks_of told before mid) shelf s)
    (g : GivesBack view (IsTrue told) shelf new.journal.disk mid after) (from left : SourceView) (old between last : SinkView) (e : FollowEnd) (how : Status) where
  -- it does not follow
  pub leads_leaves : follows_in s ≡ false → new ≡ s → left ≡ from → between ≡ old → e ≡ end.Promoted → TellsFollowed shelf e how (sinks_of between last)
      → LeavesFollow view (racks_of told before after) shelf how from left old last
  leads_leaves off same still silent is line =
      let none : IsTrue told → bare_bodies true (making_after shelf (view h.taken)) ≡ [] =
      λ t. bare_leads true shelf (making_after shelf (view h.taken)) (sym (h.follows_is t) ∙ off) in
      leads (read_same view tells told true before mid after shelf s new h g none same) (λ t. sym (h.follows_is t) ∙ off) still
      (subst (λ x. TellsFollowed shelf x how (sinks_of old last)) is (subst (λ (x : SinkView). TellsFollowed shelf e how (sinks_of x last)) silent line))

  reason : HasCauses (faults_of from old (view s.journal.disk)) (faults_of left between (view new.journal.disk)) (Some e)
      → HasReason (racks_of told before after) shelf from left old between e
  reason c = record {
    disk = λ is. failed view tells told true before mid after shelf s new h g
        (subst (IsCausedBy (faults_of from old (view s.journal.disk)) (faults_of left between (view new.journal.disk))) (ap Some is) c.caused);
    input = λ is. subst (IsCausedBy (faults_of from old (view s.journal.disk)) (faults_of left between (view new.journal.disk))) (ap Some is) c.caused;
    output = λ is. subst (IsCausedBy (faults_of from old (view s.journal.disk)) (faults_of left between (view new.journal.disk))) (ap Some is) c.caused;
    later = c.later.sink;
  }

  -- it was fed
  pub fed_leaves : (holds : List (List ℕ)) → follows_in s ≡ true
      → (IsTrue tells → HasFollowed (HasFed view (bodies_in view s.journal) s.journal.disk new.journal.disk) from left old between (bodies_in view s.journal) holds e)
      → HasCauses (faults_of from old (view s.journal.disk)) (faults_of left between (view new.journal.disk)) (Some e)
      → between.faults ≤ last.faults → TellsFollowed shelf e how (sinks_of between last)
      → LeavesFollow view (racks_of told before after) shelf how from left old last
  fed_leaves holds on did causes le line =
      followed (record {
        asked = g.asked ∙ h.asked;
        rest = rest view tells told true before mid after shelf s new h g;
        taken = h.taken;
        opened = s.journal.disk;
        given = new.journal.disk;
        lent = lent view tells told true before mid after shelf s new h g;
        follows_is = λ t. sym (h.follows_is t) ∙ on;
        begun = h.keeps;
        opens = h.safely;
      }) between holds e
      (λ t. subst (λ bs. HasFollowed (HasFed view bs s.journal.disk new.journal.disk) from left old between bs holds e) (h.records t) (did (knows t)))
      (reason causes) le line

-- ---- what is told

-- the line of a feed
pub feed_told : (shelf : ℕ) (e : FollowEnd) (line : List ℕ) (how : Status) (out : Sinks) → followed_line shelf e ≡ line → followed_status e ≡ status.Feed
    → TellsFeed line how out → TellsFollowed shelf e how out
feed_told shelf e line status.Feed out is at p = feeding.told (sym at) (subst (PrintsTo out) (sym is) p)
feed_told shelf e line status.Memory out is at p = feeding.untold refl p
feed_told shelf e line how out is at p = absurd p

-- the line of a shelf
pub unopened_told : (shelf : ℕ) (e : FollowEnd) (why : Reopen) (how : Status) (out : Sinks) → unopened_line shelf why ≡ Some (followed_line shelf e)
    → followed_status e ≡ unopened_status why → TellsUnopened shelf why how out → TellsFollowed shelf e how out
unopened_told shelf e why how out is at (telling.told line named same prints) =
    feeding.told (same ∙ sym at) (subst (PrintsTo out) (same_Some _ _ (sym named ∙ is)) prints)
unopened_told shelf e why how out is at (telling.untold same prints) = feeding.untold same prints

-- all was done
pub held_told : (shelf : ℕ) (how : Status) (out : Sinks) → Keeps out.held out.holds → IsDoneUnlessFault how out.before out.after → TellsFollowed shelf end.Held how out
held_told shelf how out kept (inl is) = feeding.told is (inl (appends_kept out.held out.held out.holds [] (appends_none out.held) kept))
held_told shelf how out kept (inr is) =
    feeding.kept_back refl is.0 (appends_kept out.held out.held out.holds [] (appends_none out.held) kept) is.1

-- ---- what was handed on

-- what was told after a feed was handed on, unless a line could not be written
pub hands_fed : (e : FollowEnd) (old mid new : SinkView) → old.faults ≤ mid.faults → mid.faults ≤ new.faults → (e ≡ end.Unwritten → Rose old.faults mid.faults)
    → (e ≢ end.Unwritten → HandsAllOn mid new) → HandsAllOn old new
hands_fed end.Unwritten old mid new le later rose on = inr (let r = rose refl in omega (arith, r, later))
hands_fed end.Held old mid new le later rose on = hands_later old mid new le (on (λ e. let no : ⊥ = cc in no))
hands_fed end.Promoted old mid new le later rose on = hands_later old mid new le (on (λ e. let no : ⊥ = cc in no))
hands_fed (end.Feed f) old mid new le later rose on = hands_later old mid new le (on (λ e. let no : ⊥ = cc in no))
hands_fed (end.Other place) old mid new le later rose on = hands_later old mid new le (on (λ e. let no : ⊥ = cc in no))
hands_fed (end.Record place) old mid new le later rose on = hands_later old mid new le (on (λ e. let no : ⊥ = cc in no))
hands_fed (end.Full n) old mid new le later rose on = hands_later old mid new le (on (λ e. let no : ⊥ = cc in no))
hands_fed end.DiskFault old mid new le later rose on = hands_later old mid new le (on (λ e. let no : ⊥ = cc in no))
hands_fed end.Memory old mid new le later rose on = hands_later old mid new le (on (λ e. let no : ⊥ = cc in no))

-- whether a shelf follows or not
pub by_role : {P : Type 0} (b : Bool) → (b ≡ false → P) → (b ≡ true → P) → P
by_role false off on = off refl
by_role true off on = on refl
