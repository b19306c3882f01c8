-- What the calls of a shelf leave of it.
use Rattle.std.proofs.Common.{◌≡◌, ◌∙◌, ap, sym, subst, refl, ℕ, ◌+◌, ◌≤◌, ◌^◌, ◌++◌, ◌∷◌, [], Bool, IsTrue, false, List, length, Option, Some, None, option_map, IfSome}
use Rattle.book_recovery.specs.SetupReader.Texts.{IsReadSetup, setup_of_texts as texts}
use Rattle.web_disk.specs.View.{View, LeavesOnly}
use Rattle.page_journal.specs.Records.{newest, stored}
use Rattle.page_journal.specs.Holding.{MayHold}
use Rattle.page_journal.specs.Settled as journal
use Rattle.page_journal.specs.Settled.{IsSettled, view_of, bodies_in, length_of, is_broken}
use Rattle.page_journal.specs.declared.journal.Journal.{Journal}
use Rattle.replay_spec.specs.Book.{Change, Book, reopened}
use Rattle.replay_spec.specs.Rules.{Rules}
use Rattle.replay_spec.specs.Runs.{lands}
use Rattle.replay_spec.specs.Step as step
use Rattle.replay_spec.specs.Laws.{IsLawful}
use Rattle.replay_spec.specs.Invariant.{IsOrderly}
use Rattle.book_recovery.specs.JournalSpec.Before.{States, state_at, Made}
use Rattle.book_recovery.specs.JournalSpec.Making as make
use Rattle.book_recovery.specs.JournalSpec.Making.{made_in}
use Rattle.book_recovery.specs.JournalSpec.Owning.{IsOwnBefore}
use Rattle.book_recovery.specs.JournalSpec.Standing.{if_kept, Throughout}
use Rattle.book_recovery.specs.JournalSpec.Events.{Gives}
use Rattle.book_recovery.specs.JournalSpec.Keeping.{IsAppending, KeepsSetup, told_bodies, stake_of}
use Rattle.book_recovery.specs.JournalSpec.Whole.{HasWholeScripts, CanBeWritten}
use Rattle.book_recovery.specs.JournalSpec.Lengths.{own_body}
use Rattle.book_recovery.specs.JournalSpec.Disks.{IsFit}
use Rattle.book_recovery.specs.JournalSpec.Spelling.{IsInRange, GivesTick}
use Rattle.book_recovery.specs.JournalSpec.Laws.{MeasuresDoubt, EventsAreKept, EventsStandBetween}
use Rattle.book_recovery.specs.InstanceBook.Places.{given}
use Rattle.book_recovery.proofs.InstanceBook.Given.{places_of}
use Rattle.book_recovery.specs.InstanceBook.Makes.{HasSomeStates, HasItsStates, KeepsStates}
use Rattle.book_recovery.specs.InstanceBook.declared.book.Book as kept
use Rattle.book_recovery.specs.InstanceBook.Views.{book_of}
use Rattle.script_nodes.specs.Setup.{Named}
use Rattle.script_nodes.specs.Views.{library_of}
use Rattle.script_nodes.specs.declared.library.Library.{Library}
use Rattle.book_visits.specs.Admissions.{HasFew}
use Rattle.shelf.specs.declared.rules.Rules as limits_of
use Rattle.shelf.specs.declared.shelf.Shelf.{Shelf}
use Rattle.shelf.specs.Ranges.{AreInRange}
use Rattle.shelf.specs.declared.doubt.Doubt as doubt_type
use Rattle.file_copies.specs.OfFileNotes.declared.notes.FileNotes.{FileNotes}
use Rattle.file_copies.specs.OfFileNotes.Files.{IsNoted, StaysAsTold}
use Rattle.shelf.specs.Files.{KnowsFile}
use Rattle.shelf.proofs.Known.{known_quiet, known_doubted, may_newest}
use Rattle.shelf.specs.Views.{rules_of, doubt_of, library_in, book_in, TellsStates, IsFed, IsInOrder, IsOwnShelf}
use Rattle.book_recovery.specs.Found.{HasToldStates}
use Rattle.book_recovery.proofs.JournalSpec.Standings.{OnlyNow, CountsNow}
use Rattle.shelf.specs.Owning.{StandsOwn}
use Rattle.shelf.specs.Events.{HasMoments, HasOwnMoments}
use Rattle.shelf.proofs.Standing.{IsQuietCall, quiet_fit, quiet_moments, own_alike, measured_alike}
use Rattle.shelf.proofs.Recorded as recorded
use Rattle.shelf.proofs.Recorded.{recorded_moments, measured_moments, added_fit, doubted_fit, own_images, own_run}
use Rattle.shelf.proofs.Owned.{quiet_run_own}
use Rattle.shelf.proofs.Leads.{leads_in, unfed}
use Rattle.shelf.proofs.Order.{order_behind}

-- whatever states the pages had that records told, they have
abbrev pub StayTold : {D N : Type 0} → (s t : Shelf D N) → Type 0
StayTold s t = (states : States) → HasToldStates (library_in s).all states s.book → HasToldStates (library_in t).all states t.book

pub kept_told : (all : List Named) (old new : kept.Book) → KeepsStates old new → (states : States) → HasToldStates all states old → HasToldStates all states new
kept_told all old new keeps states has = keeps (given (λ n. state_at n states)) all has

-- and the pages go on to have some states
pub some_kept : (all : List Named) (old new : kept.Book) → KeepsStates old new → HasSomeStates all old → HasSomeStates all new
some_kept all old new keeps has = (has.0, keeps (given has.0) all has.1)

not_doubted : (o : Option doubt_type.Doubt) → option_map doubt_of o ≡ None → o ≡ None
not_doubted None e = refl
not_doubted (Some d) e = absurd (let no : ⊥ = cc in no)

module _ {D N : Type 0} (view : D → View) (tells : Bool) (s t : Shelf D N) (told_same : t.library ≡ s.library) (limits : t.rules ≡ s.rules) (d : Book) (is : book_in view t ≡ d) (same : reopened (book_in view s) ≡ reopened d) (down : (book_in view s).down ≡ d.down)
    (call : IsQuietCall view tells s.journal t.journal) where
  -- an event that leaves no record, after which the book differs in what is out alone
  module _ (order : IsInOrder view tells s) (some : HasSomeStates (library_in s).all s.book → HasSomeStates (library_in t).all t.book) (stay : StayTold s t) (sound : journal.IsSound t.journal) (event : step.Event) (fate : step.Fate) (x : step.Reply)
      (stepped : step.step (rules_of s.rules) (book_in view s) 0 event fate ≡ (x, d)) (appends : IsAppending event) (gives : Gives texts event) (setup : KeepsSetup event (book_in view s)) (tells_none : told_bodies event (book_in view s) ≡ []) (lawful : IsLawful event (book_in view s)) (tick : GivesTick event)
      (events : EventsAreKept) (none : lands (rules_of s.rules) (book_in view s) event fate ≡ None) where
    there : (step.step (rules_of s.rules) (book_in view s) 0 event fate).1 ≡ d
    there = ap (λ (y : step.Reply × Book). y.1) stepped

    still_up : t.down ≡ None → s.down ≡ None
    still_up up = not_doubted s.down (down ∙ (ap (λ (b : Book). b.down) (sym is) ∙ ap (λ (o : Option doubt_type.Doubt). option_map doubt_of o) up))

    pub quiet_order : HasWholeScripts d → (t.down ≡ None → is_broken t.journal ≡ false) → IsNoted t.notes → StaysAsTold s.notes t.notes → t.follower ≡ s.follower → IfSome t.follower (IsFed view tells t) → IsInOrder view tells t
    quiet_order scripts whole noted stays followed fed = order_behind view tells s t event fate x d order lawful tick some scripts is told_same limits followed stepped (record {
      sound = sound;
      whole = whole;
      fit = λ told. quiet_fit view tells s.rules.number (rules_of s.rules) (book_in view s) event fate s.journal refl appends gives tells_none lawful events d there none same down t.journal call told (order.fit told);
      told = λ told up m made_there. stay m.earlier.states (order.told told (still_up up) m (ap (λ (bs : List (List ℕ)). made_in (make.book_of texts s.rules.number bs)) (sym (ap stored call.seen)) ∙ made_there));
      knows = known_quiet view tells s.rules.number s.journal t.journal (s.down ≡ None) (t.down ≡ None) s.notes t.notes order.knows call stays noted still_up;
      fed = fed;
    })

    pub quiet_run : IsTrue tells → OnlyNow (view s.journal.disk) → HasMoments view s t
    quiet_run told only_now =
        let fit = order.fit told in (
          fit.stands.0,
          subst (λ (y : Book). Throughout texts s.rules.number (book_in view s) (if_kept fit.stands.0 y) (view s.journal.disk) (view t.journal.disk)) (sym is)
              (quiet_moments view tells s.rules.number (rules_of s.rules) (book_in view s) event fate s.journal refl appends gives tells_none lawful events d there none same down t.journal call told only_now fit),
        )

  -- an own one goes on to be
  pub quiet_own : (HasItsStates (library_in s).all s.book → HasItsStates (library_in t).all t.book) → IsOwnShelf view tells s → IsOwnShelf view tells t
  quiet_own states own = record {
    states = states own.states;
    own = λ told.
        let P : limits_of.Rules → Book → Type 0 = λ l b. StandsOwn (rules_of l) l.number (view t.journal.disk) b in
        subst (λ (l : limits_of.Rules). P l (book_in view t)) (sym limits)
        (subst (P s.rules) (sym is) (own_alike (rules_of s.rules) s.rules.number (view s.journal.disk) (view t.journal.disk) (book_in view s) d same down call.images (own.own told)));
  }

  -- and so it was at each moment
  pub quiet_own_moments : IsTrue tells → OnlyNow (view s.journal.disk) → IsOwnShelf view tells s → HasOwnMoments view s t
  quiet_own_moments told only_now own =
      let its = own.own told in
      let n = s.rules.number in
      let rules = rules_of s.rules in
      let v = view s.journal.disk in
      let w = view t.journal.disk in
      record {
        own = quiet_run_own n v w only_now call.images call.time its.images;
        measured = subst (λ (y : Book). (m : ℕ) × Throughout texts n (book_in view s) (if_kept m y) v w × MeasuresDoubt rules m y) (sym is)
            (measured_alike rules n v w (book_in view s) d same down only_now call.images call.time its.stands);
      }

-- an event that leaves a record, with the state of its own script
module _ {D N : Type 0} (view : D → View) (tells : Bool) (s t : Shelf D N) (order : IsInOrder view tells s) (told_same : t.library ≡ s.library) (limits : t.rules ≡ s.rules) (event : step.Event) (fate : step.Fate) (x : step.Reply) (d : Book) (is : book_in view t ≡ d)
    (stepped : step.step (rules_of s.rules) (book_in view s) 0 event fate ≡ (x, d)) (appends : IsAppending event) (gives : Gives texts event) (setup : KeepsSetup event (book_in view s)) (tells_none : told_bodies event (book_in view s) ≡ []) (lawful : IsLawful event (book_in view s)) (events : EventsAreKept)
    (up : s.down ≡ None) (c : Change) (spelled : CanBeWritten (book_in view s) c) (room : length_of s.journal + 5 + length (own_body (book_in view s) c) ≤ 2 ^ 30)
    (before : (told : IsTrue tells) → IsOwnBefore ((order.fit told).holds (ap (λ (o : Option doubt_type.Doubt). option_map doubt_of o) up)).earlier (book_in view s) (Some c)) (mid : Journal D) (call : IsQuietCall view tells s.journal mid)
    (run : IsTrue tells → LeavesOnly (view_of view mid) (view_of view t.journal) (MayHold newest (bodies_in view mid) (own_body (book_in view s) c))) (counts : CountsNow (view t.journal.disk)) where
  abbrev b : Book
  b = book_in view s

  abbrev rules : Rules
  rules = rules_of s.rules

  abbrev none_down : b.down ≡ None
  none_down = ap (λ (o : Option doubt_type.Doubt). option_map doubt_of o) up

  then_there : (step.step rules b 0 event fate).1 ≡ d
  then_there = ap (λ (y : step.Reply × Book). y.1) stepped

  own_there : IsTrue tells → StandsOwn rules s.rules.number (view t.journal.disk) d → StandsOwn (rules_of t.rules) t.rules.number (view t.journal.disk) (book_in view t)
  own_there told own =
      let P : limits_of.Rules → Book → Type 0 = λ l y. StandsOwn (rules_of l) l.number (view t.journal.disk) y in
      subst (λ (l : limits_of.Rules). P l (book_in view t)) (sym limits) (subst (P s.rules) (sym is) own)

  pub recorded_run : EventsStandBetween → IsTrue tells → OnlyNow (view s.journal.disk) → stake_of rules b 0 event fate ≡ Some c → HasMoments view s t
  recorded_run between told only_now stake =
      let n = length (own_body b c) in (
        n,
        subst (λ (y : Book). Throughout texts s.rules.number b (if_kept n y) (view s.journal.disk) (view t.journal.disk)) (sym is)
            (recorded_moments view tells s.rules.number rules b event s.journal order.knows.newest_is refl appends gives setup tells_none lawful events none_down c spelled room (order.fit told) (before told) mid t.journal call (run told) counts fate d then_there stake between only_now),
      )

  -- at each moment an own one was so
  pub recorded_own_moments : EventsStandBetween → IsTrue tells → OnlyNow (view s.journal.disk) → stake_of rules b 0 event fate ≡ Some c → (f : step.Fate) → lands rules b event f ≡ Some c
      → (view s.journal.disk).images (view s.journal.disk).seen → IsOwnShelf view tells s → HasOwnMoments view s t
  recorded_own_moments between told only_now stake f landed reads own =
      let n = s.rules.number in
      let v = view s.journal.disk in
      let w = view t.journal.disk in
      record {
        own = own_run view tells n rules b event s.journal order.knows.newest_is refl appends gives setup tells_none lawful events none_down c spelled room (order.fit told) (before told) mid t.journal call (run told) counts f landed only_now reads (own.own told).images;
        measured = subst (λ (y : Book). (m : ℕ) × Throughout texts n b (if_kept m y) v w × MeasuresDoubt rules m y) (sym is)
            (measured_moments view tells n rules b event s.journal order.knows.newest_is refl appends gives setup tells_none lawful events none_down c spelled room (order.fit told) (before told) mid t.journal call (run told) counts fate d then_there stake between only_now);
      }

  module _ (some : HasSomeStates (library_in s).all s.book → HasSomeStates (library_in t).all t.book) (scripts : HasWholeScripts d) (sound : journal.IsSound t.journal) (tick : GivesTick event) where
    pub added_order : lands rules b event fate ≡ Some c → d.down ≡ None → is_broken t.journal ≡ false
        → (IsTrue tells → IsSettled view t.journal × (bodies_in view t.journal ≡ bodies_in view mid ++ own_body b c ∷ []))
        → (IsTrue tells → (m : Made) → made_in (make.book_of texts s.rules.number (bodies_in view s.journal ++ own_body b c ∷ [])) ≡ Some m → HasToldStates (library_in t).all m.earlier.states t.book) → KnowsFile view tells s.rules.number t.journal (t.down ≡ None) t.notes → s.follower ≡ None → t.follower ≡ s.follower → IsInOrder view tells t
    added_order landed still whole added says knows leads followed = order_behind view tells s t event fate x d order lawful tick some scripts is told_same limits followed stepped (record {
      sound = sound;
      whole = λ _. whole;
      fit = λ told. added_fit view tells s.rules.number rules b event s.journal order.knows.newest_is refl appends gives setup tells_none lawful events none_down c spelled room (order.fit told) (before told) mid t.journal knows.newest_is call fate d then_there landed still (added told).0 (added told).1;
      knows = knows;
      fed = unfed view tells t (followed ∙ leads);
      told = λ told _ m made_there. says told m
          (ap (λ (bs : List (List ℕ)). made_in (make.book_of texts s.rules.number bs)) (ap (λ (bs : List (List ℕ)). bs ++ own_body b c ∷ []) (sym (ap stored call.seen)) ∙ sym (added told).1) ∙ made_there);
    })

    pub doubted_order : EventsStandBetween → OnlyNow (view s.journal.disk) → stake_of rules b 0 event fate ≡ Some c → (d.down ≡ None → ⊥) → (t.down ≡ None → ⊥) → reopened b ≡ reopened d → t.journal.format ≡ newest → IsNoted t.notes → s.follower ≡ None → t.follower ≡ s.follower → IsInOrder view tells t
    doubted_order between only_now stake in_doubt in_doubt_there same now noted leads followed = order_behind view tells s t event fate x d order lawful tick some scripts is told_same limits followed stepped (record {
      sound = sound;
      whole = λ none. absurd (in_doubt_there none);
      fit = λ told. doubted_fit view tells s.rules.number rules b event s.journal order.knows.newest_is refl appends gives setup tells_none lawful events none_down c spelled room (order.fit told) (before told) mid t.journal call (run told) counts fate d then_there stake between only_now in_doubt same;
      told = λ told none. absurd (in_doubt_there none);
      knows = known_doubted view tells s.rules.number t.journal (t.down ≡ None) t.notes now noted (λ told. may_newest (view_of view mid) (view_of view t.journal) (bodies_in view mid) (own_body (book_in view s) c) counts (run told)) in_doubt_there;
      fed = unfed view tells t (followed ∙ leads);
    })

  -- an own one goes on to be
  module _ (states : HasItsStates (library_in s).all s.book → HasItsStates (library_in t).all t.book) (reads : IsTrue tells → (view s.journal.disk).images (view s.journal.disk).seen) (own : IsOwnShelf view tells s) where
    pub added_own : t.journal.format ≡ newest → lands rules b event fate ≡ Some c → d.down ≡ None → (IsTrue tells → IsSettled view t.journal × (bodies_in view t.journal ≡ bodies_in view mid ++ own_body b c ∷ [])) → IsOwnShelf view tells t
    added_own now landed still added = record {
      states = states own.states;
      own = λ told. own_there told (recorded.added_own view tells s.rules.number rules b event s.journal order.knows.newest_is refl appends gives setup tells_none lawful events none_down c spelled room (order.fit told) (before told) mid t.journal now call fate d then_there landed still (added told).0 (added told).1
          (own_images view tells s.rules.number rules b event s.journal order.knows.newest_is refl appends gives setup tells_none lawful events none_down c spelled room (order.fit told) (before told) mid t.journal call (run told) counts fate landed (reads told) (own.own told).images));
    }

    pub doubted_own : EventsStandBetween → OnlyNow (view s.journal.disk) → stake_of rules b 0 event fate ≡ Some c → reopened b ≡ reopened d → (f : step.Fate) → lands rules b event f ≡ Some c → IsOwnShelf view tells t
    doubted_own between only_now stake same f landed = record {
      states = states own.states;
      own = λ told. own_there told (recorded.doubted_own view tells s.rules.number rules b event s.journal order.knows.newest_is refl appends gives setup tells_none lawful events none_down c spelled room (order.fit told) (before told) mid t.journal call (run told) counts fate d then_there stake between only_now same f landed (reads told) (own.own told).images);
    }

-- a shelf whose book alone was made anew, the same
pub same_order : {D N : Type 0} (view : D → View) (tells : Bool) (s t : Shelf D N) → IsInOrder view tells s → book_in view t ≡ book_in view s → HasSomeStates (library_in t).all t.book → StayTold s t → t.journal ≡ s.journal → t.notes ≡ s.notes → t.down ≡ s.down → t.library ≡ s.library
    → t.rules ≡ s.rules → s.follower ≡ None → t.follower ≡ s.follower → IsInOrder view tells t
same_order view tells s t order is some stay journal_same notes_same down told_same limits leads followed = record {
  placed = places_of (library_in t).all t.book some;
  kept = some;
  orderly = subst IsOrderly (sym is) order.orderly;
  scripts_are = subst HasWholeScripts (sym is) order.scripts_are;
  range = subst IsInRange (sym is) order.range;
  number = ap (λ (b : Book). b.shelf) is ∙ (order.number ∙ ap (λ (l : limits_of.Rules). l.number) (sym limits));
  limits = subst AreInRange (sym limits) order.limits;
  read = λ _. subst (λ (l : Library). IsReadSetup (library_of l).setup) (sym told_same) (order.read (leads_in s leads));
  fed = unfed view tells t (followed ∙ leads);
  few = subst (λ (l : Library). HasFew (library_of l)) (sym told_same) order.few;
  sound = subst (λ (j : Journal _). journal.IsSound j) (sym journal_same) order.sound;
  whole = λ none. subst (λ (j : Journal _). is_broken j ≡ false) (sym journal_same) (order.whole (sym down ∙ none));
  fit = λ told. subst (λ (b : Book). IsFit view texts t.rules.number t.journal b) (sym is) (subst (λ (l : limits_of.Rules). IsFit view texts l.number t.journal (book_in view s)) (sym limits)
      (subst (λ (j : Journal _). IsFit view texts s.rules.number j (book_in view s)) (sym journal_same) (order.fit told)));
  told = λ told up. subst (λ (l : limits_of.Rules). TellsStates view (library_in t).all l.number t.journal t.book) (sym limits)
      (subst (λ (j : Journal _). TellsStates view (library_in t).all s.rules.number j t.book) (sym journal_same) (λ m made_there. stay m.earlier.states (order.told told (sym down ∙ up) m made_there)));
  knows = subst (λ (l : limits_of.Rules). KnowsFile view tells l.number t.journal (t.down ≡ None) t.notes) (sym limits)
      (subst (λ (j : Journal _). KnowsFile view tells s.rules.number j (t.down ≡ None) t.notes) (sym journal_same)
      (subst (λ (n : FileNotes). KnowsFile view tells s.rules.number s.journal (t.down ≡ None) n) (sym notes_same)
      (subst (λ (o : Option doubt_type.Doubt). KnowsFile view tells s.rules.number s.journal (o ≡ None) s.notes) (sym down) order.knows)));
}
