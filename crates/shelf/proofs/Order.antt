-- A shelf in order goes on to be, and a step of its book is one of the shelf.
use Rattle.std.proofs.Common.{◌≡◌, ◌∙◌, ap, sym, subst, refl, ℕ, ◌+◌, Bool, IsTrue, false, Option, None, is_some, IfSome}
use Rattle.script_value.specs.declared.outcome.Reply.{Reply}
use Rattle.script_value.specs.declared.outcome.Reply.TheVariants as reply
use Rattle.book_recovery.specs.SetupReader.Texts.{IsReadSetup, setup_of_texts as texts}
use Rattle.web_disk.specs.View.{View}
use Rattle.page_journal.specs.Settled as journal
use Rattle.page_journal.specs.Settled.{is_broken}
use Rattle.replay_spec.specs.Book.{Book}
use Rattle.replay_spec.specs.Runs.{drawn_by, shelf_step}
use Rattle.replay_spec.specs.Runs as runs
use Rattle.replay_spec.specs.Step as step
use Rattle.replay_spec.specs.Laws.{IsLawful, Moment}
use Rattle.replay_spec.specs.Invariant.{IsOrderly}
use Rattle.replay_spec.proofs.Orderly.{stepped}
use Rattle.book_recovery.specs.JournalSpec.Whole.{HasWholeScripts}
use Rattle.book_recovery.specs.JournalSpec.Disks.{IsFit}
use Rattle.book_recovery.specs.JournalSpec.Spelling.{IsInRange, GivesTick}
use Rattle.book_recovery.proofs.JournalSpec.Ranges.{ranges_kept}
use Rattle.book_recovery.specs.InstanceBook.Makes.{HasSomeStates}
use Rattle.book_recovery.proofs.InstanceBook.Given.{places_of}
use Rattle.book_visits.specs.Views.{reply_of}
use Rattle.shelf.specs.declared.follower.Follower.{Follower}
use Rattle.shelf.specs.declared.rules.Rules as limits_of
use Rattle.shelf.specs.declared.shelf.Shelf.{Shelf}
use Rattle.shelf.specs.Files.{KnowsFile}
use Rattle.shelf.specs.Ranges.{AreInRange}
use Rattle.book_visits.specs.Admissions.{HasFew}
use Rattle.script_nodes.specs.Views.{library_of}
use Rattle.script_nodes.specs.declared.library.Library.{Library}
use Rattle.shelf.specs.Views.{rules_of, library_in, book_in, shelf_of, fate_by, TellsStates, IsFed, IsInOrder, IsEvent}

-- a step of the book is one of the shelf
pub follows : (source : ℕ → ℕ) (s : runs.Shelf) (event : step.Event) (r : step.Reply) (after : Book) → step.step s.rules s.book (source s.nonces) event (fate_by r) ≡ (r, after)
    → shelf_step source s event (fate_by r) ≡ (r, record s { book = after; nonces = drawn_by r s.nonces })
follows source s event r after e = ap (λ (x : step.Reply × Book). (x.0, record s { book = x.1; nonces = drawn_by x.0 s.nonces })) e

-- a reply of the program that is no ticket draws no nonce
pub quiet : (r : Reply) (given : ℕ) → drawn_by (reply_of r) given ≡ given
quiet (reply.Page bytes url) given = refl
quiet (reply.Finished bytes) given = refl
quiet (reply.Ended bytes) given = refl
quiet (reply.Refused r) given = refl
quiet (reply.Fault f) given = refl
quiet (reply.Fuel cost) given = refl
quiet (reply.ShelfFull count) given = refl
quiet (reply.Oversize n) given = refl
quiet (reply.JournalFull n) given = refl
quiet (reply.DiskFault count) given = refl
quiet (reply.Down count) given = refl
quiet reply.Following given = refl
quiet reply.Worn given = refl
quiet reply.Memory given = refl

module _ {D N : Type 0} where
  -- an event whose reply is no ticket
  pub quiet_event : (view : D → View) (coming : N → ℕ → ℕ) (old new : Shelf D N) (event : step.Event) (r : step.Reply) (after : Book)
      → new.rules ≡ old.rules → new.nonces ≡ old.nonces → book_in view new ≡ after → ((given : ℕ) → drawn_by r given ≡ given)
      → ((nonce : ℕ) → step.step (rules_of old.rules) (book_in view old) nonce event (fate_by r) ≡ (r, after)) → IsEvent view coming old new event r
  quiet_event view coming old new event r after limits source_stays is none stepped = record {
    step = λ source given has.
        let same : record (shelf_of view given old) { book = after; nonces = drawn_by r given } ≡ shelf_of view (drawn_by r given) new =
        ap (λ (b : Book). record (shelf_of view given old) { book = b; nonces = drawn_by r given }) (sym is) ∙ ap (λ (l : limits_of.Rules). record (shelf_of view (drawn_by r given) new) { rules = rules_of l }) (sym limits) in
        follows source (shelf_of view given old) event r after (stepped (source given)) ∙ ap (λ (x : runs.Shelf). (r, x)) same;
    nonces = λ source given has k. ap (λ (n : N). coming n k) source_stays ∙ (has k ∙ ap (λ (m : ℕ). source (m + k)) (sym (none given)));
  }

  -- what the journal of a shelf has to keep
  pub record JournalStays (view : D → View) (tells : Bool) (new : Shelf D N) (shelf : ℕ) (d : Book) : Type 0 where
    pub sound : journal.IsSound new.journal
    pub whole : new.down ≡ None → is_broken new.journal ≡ false
    pub fit : IsTrue tells → IsFit view texts shelf new.journal d
    pub told : IsTrue tells → new.down ≡ None → TellsStates view (library_in new).all shelf new.journal new.book
    pub knows : KnowsFile view tells shelf new.journal (new.down ≡ None) new.notes
    pub fed : IfSome new.follower (IsFed view tells new)

  -- a shelf in order stays so where its book is orderly and in range
  pub order_of : (view : D → View) (tells : Bool) (old new : Shelf D N) (after : Book) → IsInOrder view tells old → HasSomeStates (library_in new).all new.book → IsOrderly after → HasWholeScripts after
      → IsInRange after → after.shelf ≡ old.book.shelf → book_in view new ≡ after → new.library ≡ old.library → new.rules ≡ old.rules → new.follower ≡ old.follower → JournalStays view tells new old.rules.number after → IsInOrder view tells new
  order_of view tells old new after order some orderly scripts range shelf is told_same limits followed stays = record {
    placed = places_of (library_in new).all new.book some;
    kept = some;
    orderly = subst IsOrderly (sym is) orderly;
    scripts_are = subst HasWholeScripts (sym is) scripts;
    range = subst IsInRange (sym is) range;
    number = ap (λ (b : Book). b.shelf) is ∙ (shelf ∙ (order.number ∙ ap (λ (l : limits_of.Rules). l.number) (sym limits)));
    limits = subst AreInRange (sym limits) order.limits;
    read = λ leads. subst (λ (l : Library). IsReadSetup (library_of l).setup) (sym told_same) (order.read (ap (λ (o : Option Follower). is_some o) (sym followed) ∙ leads));
    few = subst (λ (l : Library). HasFew (library_of l)) (sym told_same) order.few;
    sound = stays.sound;
    whole = stays.whole;
    fit = λ told. subst (λ (b : Book). IsFit view texts new.rules.number new.journal b) (sym is) (subst (λ (l : limits_of.Rules). IsFit view texts l.number new.journal after) (sym limits) (stays.fit told));
    told = λ told up. subst (λ (l : limits_of.Rules). TellsStates view (library_in new).all l.number new.journal new.book) (sym limits) (stays.told told up);
    knows = subst (λ (l : limits_of.Rules). KnowsFile view tells l.number new.journal (new.down ≡ None) new.notes) (sym limits) stays.knows;
    fed = stays.fed;
  }

  -- so it stays after an event
  pub order_behind : (view : D → View) (tells : Bool) (old new : Shelf D N) (event : step.Event) (fate : step.Fate) (r : step.Reply) (after : Book) → IsInOrder view tells old
      → IsLawful event (book_in view old) → GivesTick event → (HasSomeStates (library_in old).all old.book → HasSomeStates (library_in new).all new.book) → HasWholeScripts after → book_in view new ≡ after
      → new.library ≡ old.library → new.rules ≡ old.rules → new.follower ≡ old.follower → step.step (rules_of old.rules) (book_in view old) 0 event fate ≡ (r, after) → JournalStays view tells new old.rules.number after → IsInOrder view tells new
  order_behind view tells old new event fate r after order lawful tick states scripts is told_same limits followed e stays =
      let rules = rules_of old.rules in
      let m : Moment = record { rules = rules; nonce = 0; event = event; fate = fate } in
      let there : (step.step rules (book_in view old) 0 event fate).1 ≡ after = ap (λ (x : step.Reply × Book). x.1) e in
      let later = stepped m (book_in view old) order.orderly lawful in
      order_of view tells old new after order (states order.kept) (subst IsOrderly there later.orderly) scripts
      (subst IsInRange there (ranges_kept rules (book_in view old) 0 event fate order.orderly order.range tick)) (ap (λ (b : Book). b.shelf) (sym there) ∙ later.shelf) is told_same limits followed stays
