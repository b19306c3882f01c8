-- What a compaction leaves of a shelf, by its way out: nothing was done, the new file took the place of the old one, or it is in doubt whether it
-- did.
use Rattle.std.proofs.Common.{◌≡◌, ◌∙◌, ap, sym, subst, refl, ℕ, ◌≤◌, ◌^◌, arith, Bool, false, IsTrue, List, length, Option, None, Some, option_map, IfSome}
use Rattle.std.proofs.lemmas.Option.{same_Some}
use Rattle.book_recovery.specs.SetupReader.Texts.{setup_of_texts as texts}
use Rattle.web_disk.specs.View.{View, LeavesOnly}
use Rattle.web_disk.proofs.Moments.{started}
use Rattle.page_journal.specs.Records.{newest, at_rest, stored}
use Rattle.page_journal.specs.Holding.{IsEither}
use Rattle.page_journal.specs.Settled as journal
use Rattle.page_journal.specs.Settled.{view_of, bodies_in, length_of}
use Rattle.page_journal.specs.declared.journal.Journal.{Journal}
use Rattle.page_journal.proofs.Mending.{leaves_map}
use Rattle.replay_spec.specs.Book as spec
use Rattle.replay_spec.specs.Book.{File, Book, compacting, reopened}
use Rattle.replay_spec.specs.Compaction.{compaction, file_length}
use Rattle.replay_spec.specs.Invariant.{IsOrderly}
use Rattle.replay_spec.specs.Recovery.{of_length}
use Rattle.replay_spec.specs.Runs.{drawn_by}
use Rattle.replay_spec.specs.Rules.{Rules}
use Rattle.replay_spec.specs.Step as step
use Rattle.replay_spec.proofs.Stand.{Later}
use Rattle.replay_spec.proofs.Orderly.{same}
use Rattle.book_recovery.specs.JournalSpec.Before.{Made, made_of, state_at}
use Rattle.book_recovery.specs.JournalSpec.Making.{nothing, made_in, book_of}
use Rattle.book_recovery.specs.JournalSpec.Old.{book_of_format, format_of_now}
use Rattle.book_recovery.specs.JournalSpec.Copying.{copies, CopiesMakeTheBook, IsCompacted}
use Rattle.book_recovery.specs.JournalSpec.OwnCopies.{CopiesAreOwn, CopiesKeep}
use Rattle.book_recovery.proofs.JournalSpec.Rewriting.{newest_copied}
use Rattle.book_recovery.specs.JournalSpec.Owning.{AreOwn, AreOwnIn}
use Rattle.book_recovery.specs.JournalSpec.Reading.{AreAllBytes}
use Rattle.book_recovery.specs.JournalSpec.Keeping.{Keeps}
use Rattle.book_recovery.specs.JournalSpec.Retaking.{unread}
use Rattle.book_recovery.specs.JournalSpec.Standing.{puts, Between, Carries, Held, Hold, if_kept, Stands, Throughout}
use Rattle.book_recovery.specs.JournalSpec.Whole.{HasWholeScripts}
use Rattle.book_recovery.specs.JournalSpec.Disks.{IsFit}
use Rattle.book_recovery.specs.JournalSpec.Laws.{MeasuresDoubt, CompactionsStandBetween, compacted_book}
use Rattle.book_recovery.proofs.JournalSpec.Between.{stand_alike}
use Rattle.book_recovery.proofs.JournalSpec.Fitting.{no_doubt}
use Rattle.book_recovery.proofs.JournalSpec.Standings.{carried, stands_then, settled_stands, left_standing, OnlyNow, CountsNow}
use Rattle.file_copies.specs.OfFileNotes.declared.notes.FileNotes.{FileNotes}
use Rattle.file_copies.specs.OfFileNotes.Files.{file_in, marks_in, IsPlanned, IsPicked}
use Rattle.book_recovery.specs.Found.{HasToldStates}
use Rattle.book_recovery.specs.Noting.{marks_of}
use Rattle.shelf.specs.declared.doubt.Doubt as doubt_type
use Rattle.shelf.specs.declared.doubt.Work.TheVariants as doubted
use Rattle.shelf.specs.declared.shelf.Shelf.{Shelf}
use Rattle.shelf.specs.Compacting.{copies_for, IsRoomMade, HasCompacted}
use Rattle.shelf.specs.Files.{KnowsFile, LeavesNewest}
use Rattle.shelf.specs.Owning.{OwnRecords, HasOwnImages, StaysOwnThroughout, StandsOwn}
use Rattle.shelf.specs.Views.{rules_of, doubt_of, library_in, book_in, fate_by, TellsStates, IsFree, IsFed, IsInOrder, IsOwnShelf, IsEvent}
use Rattle.shelf.specs.Events.{HasMoments, HasOwnMoments}
use Rattle.shelf.specs.Tickets.{KeepsTickets}
use Rattle.shelf.proofs.Standing.{own_alike}
use Rattle.shelf.proofs.Leads.{leads_in, unfed, bars_none}
use Rattle.shelf.proofs.Order.{quiet_event, order_of, order_behind}
use Rattle.shelf.proofs.Steps.{Comes, rewritten_compact, doubted_compact}
use Rattle.shelf.proofs.Recorded.{own_bodies, measured_up}
use Rattle.shelf.proofs.Owned.{with_others, stays_own, settled_own, quiet_own}
use Rattle.shelf.proofs.Newest.{own_now, makes_so}
use Rattle.shelf.proofs.Known.{known_doubted, either_newest, settled_newest}
use Rattle.shelf.proofs.Alike.{alike_given}
use Rattle.shelf.proofs.Copies.{KnowsMade, copied_so, long_so, marks_so}
use Rattle.shelf.proofs.Tickets.{tickets_kept, states_stay, later_step}

-- It is one event. The shelf goes on to be in order, as it was at each moment, and so does an own one.
pub record Compacts {D N : Type 0} (view : D → View) (tells : Bool) (coming : N → ℕ → ℕ) (s u : Shelf D N) (x : step.Reply) : Type 0 where
  pub event : IsEvent view coming s u step.compact x
  pub in_order : IsInOrder view tells u
  pub own : IsOwnShelf view tells s → IsOwnShelf view tells u
  pub any_moment : IsTrue tells → HasMoments view s u
  pub own_moments : IsTrue tells → IsOwnShelf view tells s → HasOwnMoments view s u
  pub tickets : KeepsTickets view s u

-- nothing was done
pub uncompacted : {D N : Type 0} (view : D → View) (tells : Bool) (coming : N → ℕ → ℕ) (s : Shelf D N) → IsInOrder view tells s → (j : Journal D) → journal.IsSound j → IsRoomMade view tells s.journal j → IfSome s.follower (IsFed view tells (record s { journal = j })) → (x : step.Reply)
    → ((given : ℕ) → drawn_by x given ≡ given) → Comes (rules_of s.rules) (book_in view s) step.compact (fate_by x) x (book_in view s) None → Compacts view tells coming s (record s { journal = j }) x
uncompacted {D} {N} view tells coming s order j sound room fed x none comes =
    let b = book_in view s in
    let shelf = s.rules.number in
    let rules = rules_of s.rules in
    let v = view s.journal.disk in
    let w = view j.disk in
    let u : Shelf D N = record s { journal = j } in
    let is : book_in view u ≡ b = ap (λ (n : ℕ). record b { length = n }) room.len in
    let these : bodies_in view s.journal ≡ bodies_in view j = ap stored (sym room.seen) in
    record {
      event = quiet_event view coming s u step.compact x b refl refl is none comes.step;
      in_order = order_of view tells s u b order order.kept order.orderly order.scripts_are order.range refl is refl refl refl (record {
        sound = sound;
        whole = λ up. room.whole ∙ order.whole up;
        fit = λ told.
            let f = order.fit told in
            record {
              settled = λ up. room.settled told (f.settled up);
              holds = λ up. subst (λ (bs : List (List ℕ)). Keeps texts shelf bs b) these (f.holds up);
              stands = (stands_then texts shelf b v w f.stands room.images).0;
            };
        told = λ told up m made_there. order.told told up m (ap (λ (bs : List (List ℕ)). made_in (book_of texts shelf bs)) these ∙ made_there);
        knows = record {
          newest_is = room.format ∙ order.knows.newest_is;
          noted = order.knows.noted;
          images = λ told image left. order.knows.images told image (room.images image left);
          records = λ told up.
              let r = order.knows.records told up in
              record { marks = r.marks ∙ ap (λ (bs : List (List ℕ)). marks_of newest texts shelf 8 bs nothing) these; bytes = subst AreAllBytes these r.bytes };
        };
        fed = fed;
      });
      own = λ own. record {
        states = own.states;
        own = λ told. subst (λ (y : Book). StandsOwn rules shelf w y) (sym is) (own_alike rules shelf v w b b refl refl room.images (own.own told));
      };
      any_moment = λ told.
          let st = (order.fit told).stands in
          (st.0, subst (λ (y : Book). Throughout texts shelf b (if_kept st.0 y) v w) (sym is) (st.1.0, leaves_map v w v.images (Held st.1.0) st.1.1 room.moments));
      own_moments = λ told own.
          let its = own.own told in
          let st = its.stands in
          record {
            own = quiet_own shelf v w room.moments its.images;
            measured = subst (λ (y : Book). (n : ℕ) × Throughout texts shelf b (if_kept n y) v w × MeasuresDoubt rules n y) (sym is)
                (st.0, (st.1.0, leaves_map v w v.images (Held st.1.0) st.1.1.0 room.moments), st.1.1.1);
          };
      tickets = tickets_kept view s u refl order.orderly (subst (λ (y : Book). Later b y) (sym is) (same b order.orderly)) (states_stay view s u (λ source all. all));
    }

-- no call was made
pub no_room : {D : Type 0} (view : D → View) (tells : Bool) (j : Journal D) → OnlyNow (view j.disk) → IsRoomMade view tells j j
no_room view tells j only_now = record {
  settled = λ told x. x;
  seen = refl;
  images = λ image left. left;
  moments = started (view j.disk) (view j.disk).images only_now;
  faults = refl;
  len = refl;
  whole = refl;
  format = refl;
}

-- what is written between two books is written between those that are alike as after a crash
both_alike : (shelf : ℕ) (a b c d : Book) (old new : View) → reopened a ≡ reopened c → reopened b ≡ reopened d → Throughout texts shelf a b old new → Throughout texts shelf c d old new
both_alike shelf a b c d old new first second (k, run) =
    let l = (stand_alike texts shelf).1 a b c d first second k in
    (l.0, leaves_map old new (Held k) (Held l.0) (λ image held. carried k.format k.bodies k.flight l.0 l.1 image held) run)

-- what the laws say of the copies
pub record Laws : Type 0 where
  pub books : CopiesMakeTheBook
  pub own : CopiesAreOwn
  pub between : CompactionsStandBetween

-- ---- the file of a shelf that is up, and of which its records are planned to stay

module _ {D N : Type 0} (view : D → View) (tells : Bool) (coming : N → ℕ → ℕ) (s : Shelf D N) (order : IsInOrder view tells s) (free : IsFree s) (laws : Laws) (plan : List Bool) (planned : IsPlanned s.book s.notes.notes.items plan) where
  abbrev b : Book
  b = book_in view s

  abbrev shelf : ℕ
  shelf = s.rules.number

  abbrev rules : Rules
  rules = rules_of s.rules

  none_doubted : b.down ≡ None
  none_doubted = ap (λ (o : Option doubt_type.Doubt). option_map doubt_of o) free.up

  none_bars : step.barred b ≡ None
  none_bars = bars_none view s free

  unfed_here : b.follows ≡ false
  unfed_here = leads_in s free.leads

  abbrev bodies : List (List ℕ)
  bodies = bodies_in view s.journal

  abbrev others : List (List ℕ)
  others = copies_for plan s.notes s.book bodies

  abbrev then_ : Book
  then_ = record b { length = file_length (compaction b); file = compaction b; follows = false }

  -- what the copies make
  record Copied (keeps : Keeps texts shelf bodies b) : Type 0 where
    same : others ≡ copies newest texts shelf bodies (made_of b keeps.earlier)
    k : Made
    makes : made_in (book_of texts shelf others) ≡ Some k
    compacts : IsCompacted (made_of b keeps.earlier) k
    keep : CopiesKeep newest texts shelf bodies (made_of b keeps.earlier) k
    marks : (after : FileNotes) → IsPicked plan s.notes after → marks_in after ≡ marks_of newest texts shelf 8 others nothing
    long : length (at_rest others) ≡ file_length (compaction b)
    bytes_are : AreAllBytes others

  module _ (told : IsTrue tells) where
    fit : IsFit view texts shelf s.journal b
    fit = order.fit told

    keeps : Keeps texts shelf bodies b
    keeps = fit.holds none_doubted

    abbrev m : Made
    m = made_of b keeps.earlier

    copied_here : Copied keeps
    copied_here =
        let records = order.knows.records told free.up in
        let makes = keeps.makes in
        let makes_now : made_in (book_of_format newest texts shelf bodies) ≡ Some m = ap made_in (format_of_now texts shelf bodies) ∙ makes in
        let bytes : AreAllBytes bodies = records.bytes in
        let known : KnowsMade newest shelf bodies m s.notes plan = record {
          noted = order.knows.noted;
          file = refl;
          marks = records.marks;
          planned = planned (library_in s).all;
        } in
        let alike : others ≡ copies newest texts shelf bodies m = copied_so newest shelf bodies m unfed_here bytes makes_now s.notes plan known refl in
        let made_again = laws.books texts shelf bodies m bytes makes unfed_here in
        let k = made_again.0 in
        let again : made_in (book_of_format newest texts shelf (copies newest texts shelf bodies m)) ≡ Some k = ap made_in (format_of_now texts shelf (copies newest texts shelf bodies m)) ∙ made_again.1 in
        let keep = laws.own newest texts shelf bodies m k (newest_copied texts shelf bodies m) bytes makes_now unfed_here made_again.1 in
        record {
          same = alike;
          k = k;
          makes = ap (λ (bs : List (List ℕ)). made_in (book_of texts shelf bs)) alike ∙ made_again.1;
          compacts = made_again.2;
          keep = keep;
          marks = λ after chosen. marks_so shelf bodies m k unfed_here bytes makes_now s.notes after plan known (ap (λ (y : Book). y.follows) made_again.2.book) (keep.bytes refl) again (ap (λ (y : Book). y.file) made_again.2.book) chosen
              ∙ ap (λ (bs : List (List ℕ)). marks_of newest texts shelf 8 bs nothing) (sym alike);
          long = ap (λ (bs : List (List ℕ)). length (at_rest bs)) alike ∙ long_so shelf bodies m unfed_here bytes makes_now;
          bytes_are = subst AreAllBytes (sym alike) (keep.bytes refl);
        }

    abbrev c : Copied keeps
    c = copied_here

    -- they make the book with the compacted file
    k_is : c.k ≡ made_of then_ c.k.earlier
    k_is = ap (λ (y : Book). record c.k { book = y }) c.compacts.book

    keeps_then : IsOrderly then_ → HasWholeScripts then_ → Keeps texts shelf others then_
    keeps_then orderly whole = record {
      earlier = c.k.earlier;
      makes = c.makes ∙ ap (λ (y : Made). Some y) k_is;
      recoverable = record {
        orderly = orderly;
        whole = whole;
        doubted = unread;
        doubt = no_doubt then_ b.down none_doubted;
        used = λ n among unused. keeps.recoverable.used n (c.keep.seen n among) unused;
      };
      read = λ leads. keeps.read unfed_here;
    }

    here_fits : length (at_rest bodies) ≤ 2 ^ 30
    here_fits = let x = fit.settled none_doubted in omega (arith, x.end, x.fits)

    -- at each moment
    module _ (short : file_length (compaction b) ≤ 2 ^ 30) (j : Journal D) (run : LeavesOnly (view_of view s.journal) (view_of view j) (IsEither s.journal.format newest bodies others)) where
      others_fit : length (at_rest others) ≤ 2 ^ 30
      others_fit = let long = c.long in omega (arith, long, short)

      run_here : LeavesOnly (view_of view s.journal) (view_of view j) (IsEither newest newest bodies others)
      run_here = subst (λ (f : ℕ). LeavesOnly (view_of view s.journal) (view_of view j) (IsEither f newest bodies others)) order.knows.newest_is run

      between_these : (l : Between texts shelf m.book (compacted_book m.book)) × Carries newest bodies (puts newest others) l
      between_these =
          let new_fits : length (at_rest (copies newest texts shelf bodies m)) ≤ 2 ^ 30 = subst (λ (bs : List (List ℕ)). length (at_rest bs) ≤ 2 ^ 30) c.same others_fit in
          let l = laws.between texts shelf bodies m (order.knows.records told free.up).bytes keeps.makes unfed_here here_fits new_fits in
          subst (λ (ys : List (List ℕ)). (l : Between texts shelf m.book (compacted_book m.book)) × Carries newest bodies (puts newest ys) l) (sym c.same) l

      throughout : Throughout texts shelf m.book (compacted_book m.book) (view_of view s.journal) (view_of view j)
      throughout =
          let l = between_these in
          (l.0, leaves_map (view_of view s.journal) (view_of view j) (Hold newest bodies (puts newest others)) (Held l.0) (carried newest bodies (puts newest others) l.0 l.1) run_here)

      -- whatever the shelf's book is after it
      moments_to : (d : Book) (n : ℕ) → reopened then_ ≡ reopened (if_kept n d) → Throughout texts shelf b (if_kept n d) (view_of view s.journal) (view_of view j)
      moments_to d n alike = both_alike shelf m.book (compacted_book m.book) b (if_kept n d) (view_of view s.journal) (view_of view j) refl alike throughout

      abbrev own_others : OnlyNow (view_of view s.journal) → (view s.journal.disk).images (view s.journal.disk).seen → HasOwnImages shelf (view s.journal.disk) → OwnRecords shelf
      own_others only_now reads own =
          let these : AreOwn texts shelf bodies = own_bodies view shelf s.journal order.knows.newest_is (fit.settled none_doubted) reads own in
          let copies_own : AreOwn texts shelf others = subst (AreOwn texts shelf) (sym c.same) (c.keep.own (own_now shelf bodies these)) in
          with_others newest shelf bodies others refl (here_fits, others_fit, refl) (own_now shelf bodies these) copies_own

      own_throughout : OnlyNow (view_of view s.journal) → (view s.journal.disk).images (view s.journal.disk).seen → HasOwnImages shelf (view s.journal.disk) → StaysOwnThroughout shelf (view_of view s.journal) (view_of view j)
      own_throughout only_now reads own = stays_own shelf (view_of view s.journal) (view_of view j) (own_others only_now reads own) run_here

  -- ---- the new file took the place of the old one

  module _ (j : Journal D) (kept : FileNotes) (done : HasCompacted view tells s.journal j s.notes s.book (library_in s) plan kept) (short : file_length (compaction b) ≤ 2 ^ 30) (sound : journal.IsSound j)
      (run : IsTrue tells → LeavesOnly (view_of view s.journal) (view_of view j) (IsEither s.journal.format newest bodies others)) (only_now : OnlyNow (view s.journal.disk)) (reads : IsTrue tells → (view s.journal.disk).images (view s.journal.disk).seen) where
    abbrev u : Shelf D N
    u = record s { journal = j; notes = kept }

    abbrev x : step.Reply
    x = step.compacted (length_of j)

    u_is : book_in view u ≡ then_
    u_is =
        ap (λ (n : ℕ). record b { length = n; file = file_in kept }) done.len
        ∙ (ap (λ (f : File). record b { length = file_length (compaction b); file = f }) done.file
        ∙ ap (λ (t : Bool). record b { length = file_length (compaction b); file = compaction b; follows = t }) unfed_here)

    comes : Comes rules b step.compact step.plain x then_ None
    comes = subst (λ (n : ℕ). Comes rules b step.compact step.plain (step.compacted n) then_ None) (sym done.len) (rewritten_compact s.rules b none_bars short)

    later : Later b then_
    later = later_step view s step.compact step.plain x then_ order.orderly tt (comes.step 0)

    whole_then : HasWholeScripts then_
    whole_then = record { setup = order.scripts_are.setup; instances = order.scripts_are.instances }

    these : IsTrue tells → bodies_in view j ≡ others
    these told = (done.settled told).1

    keeps_now : (told : IsTrue tells) → Keeps texts shelf (bodies_in view j) then_
    keeps_now told = subst (λ (bs : List (List ℕ)). Keeps texts shelf bs then_) (sym (these told)) (keeps_then told later.orderly whole_then)

    fit_now : IsTrue tells → IsFit view texts shelf j then_
    fit_now told =
        let settled = (done.settled told).0 in
        let k = keeps_now told in
        record { settled = λ _. settled; holds = λ _. k; stands = settled_stands view texts shelf j then_ settled (makes_so view shelf j then_ done.format (k.earlier, k.makes)) none_doubted }

    told_now : (told : IsTrue tells) → TellsStates view (library_in s).all shelf j s.book
    told_now told made_there is =
        let c = copied_here told in
        let same : c.k ≡ made_there = same_Some c.k made_there (sym c.makes ∙ (ap (λ (bs : List (List ℕ)). made_in (book_of texts shelf bs)) (sym (these told)) ∙ is)) in
        let e = (keeps told).earlier in
        let before : HasToldStates (library_in s).all e.states s.book = order.told told free.up (made_of b e) (keeps told).makes in
        let after : HasToldStates (library_in s).all c.k.earlier.states s.book =
        alike_given (λ n. state_at n e.states) (λ n. state_at n c.k.earlier.states) (library_in s).all s.book order.orderly.instances.apart (λ k n i p found shown. c.compacts.states k n i p found shown) before in
        subst (λ (y : Made). HasToldStates (library_in s).all y.earlier.states s.book) same after

    knows : KnowsFile view tells shelf j (s.down ≡ None) kept
    knows = record {
      newest_is = done.format;
      noted = done.noted;
      images = λ told. settled_newest view j (done.settled told).0 done.format;
      records = λ told _.
          let c = copied_here told in
          record {
            marks = c.marks kept done.picked ∙ ap (λ (bs : List (List ℕ)). marks_of newest texts shelf 8 bs nothing) (sym (these told));
            bytes = subst AreAllBytes (sym (these told)) c.bytes_are;
          };
    }

    measured : (n : ℕ) → MeasuresDoubt rules n then_
    measured n = measured_up rules n then_ none_doubted

    -- nothing is in doubt, so what would be kept is the book itself
    kept_is : (n : ℕ) → if_kept n then_ ≡ then_
    kept_is n = ap (λ (o : Option spec.Doubt). step.recovered (of_length n) step.kept o then_) none_doubted

    pub landed_compacts : Compacts view tells coming s u x
    landed_compacts = record {
      event = quiet_event view coming s u step.compact x then_ refl refl u_is (λ given. refl) comes.step;
      in_order = order_behind view tells s u step.compact step.plain x then_ order tt tt (λ some. some) whole_then u_is refl refl refl (comes.step 0)
          (record { sound = sound; whole = λ _. done.whole; fit = fit_now; told = λ told _. told_now told; knows = knows; fed = unfed view tells u free.leads });
      own = λ own. record {
        states = own.states;
        own = λ told.
            let its = own.own told in
            let t = (fit_now told).stands in
            let settled = (done.settled told).0 in
            let c = copied_here told in
            let old_own : AreOwn texts shelf bodies = own_bodies view shelf s.journal order.knows.newest_is ((fit told).settled none_doubted) (reads told) its.images in
            let own_then : AreOwn texts shelf others = subst (AreOwn texts shelf) (sym c.same) (c.keep.own (own_now shelf bodies old_own)) in
            let own_there = subst (λ (f : ℕ). AreOwnIn f texts shelf (bodies_in view j)) (sym done.format) (own_now shelf (bodies_in view j) (subst (AreOwn texts shelf) (sym (these told)) own_then)) in
            subst (λ (y : Book). StandsOwn rules shelf (view j.disk) y) (sym u_is)
            (record { images = settled_own view shelf j settled own_there; stands = (t.0, (t.1.0, (t.1.1, measured t.0))) });
      };
      any_moment = λ told. (0, subst (λ (y : Book). Throughout texts shelf b (if_kept 0 y) (view s.journal.disk) (view j.disk)) (sym u_is) (moments_to told short j (run told) then_ 0 (ap reopened (sym (kept_is 0)))));
      own_moments = λ told own. record {
        own = own_throughout told short j (run told) only_now (reads told) (own.own told).images;
        measured = subst (λ (y : Book). (n : ℕ) × Throughout texts shelf b (if_kept n y) (view s.journal.disk) (view j.disk) × MeasuresDoubt rules n y) (sym u_is)
            (0, moments_to told short j (run told) then_ 0 (ap reopened (sym (kept_is 0))), measured 0);
      };
      tickets = tickets_kept view s u refl order.orderly (subst (λ (y : Book). Later b y) (sym u_is) later) (states_stay view s u (λ source all. all));
    }

  -- ---- it is in doubt

  module _ (j : Journal D) (count : ℕ) (same_length : length_of j ≡ length_of s.journal) (now_is : j.format ≡ newest) (short : file_length (compaction b) ≤ 2 ^ 30) (sound : journal.IsSound j)
      (run : IsTrue tells → LeavesOnly (view_of view s.journal) (view_of view j) (IsEither s.journal.format newest bodies others)) (only_now : OnlyNow (view s.journal.disk)) (counts : CountsNow (view j.disk)) (reads : IsTrue tells → (view s.journal.disk).images (view s.journal.disk).seen) where
    abbrev in_doubt : Shelf D N
    in_doubt = record s { journal = j; down = Some (record { count = count; work = doubted.Compacts }) }

    abbrev unsure : Book
    unsure = step.doubting count compacting b

    unsure_is : book_in view in_doubt ≡ unsure
    unsure_is = ap (λ (n : ℕ). record unsure { length = n }) same_length

    may_compact : Comes rules b step.compact (step.disk_fault count) (step.disk_failed count) unsure None
    may_compact = doubted_compact s.rules b none_bars short count

    not_up : unsure.down ≡ None → ⊥
    not_up e = cc e

    down_there : in_doubt.down ≡ None → ⊥
    down_there e = cc e

    run_to : IsTrue tells → Throughout texts shelf b (if_kept 0 unsure) (view_of view s.journal) (view_of view j)
    run_to told = moments_to told short j (run told) unsure 0 refl

    stands_so : IsTrue tells → (t : Stands texts shelf (view_of view j) unsure) × (t.0 ≡ 0)
    stands_so told = left_standing texts shelf 0 b (if_kept 0 unsure) unsure (view_of view s.journal) (view_of view j) counts (run_to told) refl refl

    -- it is one file or the other, and both are of the newest format
    newest_so : IsTrue tells → LeavesNewest (view j.disk)
    newest_so told image left =
        let run_now = run_here told short j (run told) in
        either_newest bodies others image (run_now.each image (counts (view s.journal.disk).moment image run_now.later left))

    pub doubted_compacts : Compacts view tells coming s in_doubt (step.disk_failed count)
    doubted_compacts = record {
      event = quiet_event view coming s in_doubt step.compact (step.disk_failed count) unsure refl refl unsure_is (λ given. refl) may_compact.step;
      in_order = order_behind view tells s in_doubt step.compact (step.disk_fault count) (step.disk_failed count) unsure order tt tt (λ some. some)
          (record { setup = order.scripts_are.setup; instances = order.scripts_are.instances }) unsure_is refl refl refl (may_compact.step 0)
          (record {
            fed = unfed view tells in_doubt free.leads;
            sound = sound;
            whole = λ none. absurd (down_there none);
            fit = λ told. record { settled = λ none. absurd (not_up none); holds = λ none. absurd (not_up none); stands = (stands_so told).0 };
            told = λ told none. absurd (down_there none);
            knows = known_doubted view tells shelf j (in_doubt.down ≡ None) s.notes now_is order.knows.noted (λ told. newest_so told) down_there;
          });
      own = λ own. record {
        states = own.states;
        own = λ told.
            let t = stands_so told in
            let o = own_others told short j (run told) only_now (reads told) (own.own told).images in
            let left = run_here told short j (run told) in
            subst (λ (y : Book). StandsOwn rules shelf (view j.disk) y) (sym unsure_is)
            (record {
              images = (o, λ image there. left.each image (counts (view s.journal.disk).moment image left.later there));
              stands = (t.0.0, (t.0.1.0, (t.0.1.1, refl)));
            });
      };
      any_moment = λ told. (0, subst (λ (y : Book). Throughout texts shelf b (if_kept 0 y) (view s.journal.disk) (view j.disk)) (sym unsure_is) (run_to told));
      own_moments = λ told own. record {
        own = own_throughout told short j (run told) only_now (reads told) (own.own told).images;
        measured = subst (λ (y : Book). (n : ℕ) × Throughout texts shelf b (if_kept n y) (view s.journal.disk) (view j.disk) × MeasuresDoubt rules n y) (sym unsure_is) (0, run_to told, refl);
      };
      tickets = tickets_kept view s in_doubt refl order.orderly (subst (λ (y : Book). Later b y) (sym unsure_is) (later_step view s step.compact (step.disk_fault count) (step.disk_failed count) unsure order.orderly tt (may_compact.step 0)))
          (states_stay view s in_doubt (λ source all. all));
    }
