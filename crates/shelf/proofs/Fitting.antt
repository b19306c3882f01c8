-- A ticket fits the book after its take; and calls on a shelf whose book was made anew, the same.
use Rattle.std.proofs.Common.{◌≡◌, ◌∙◌, ap, sym, subst, ℕ, Bool, List, [], Option, Some, None, IfSome, slice_get}
use Rattle.script_nodes.specs.Setup.{Named, Library}
use Rattle.book_recovery.specs.SetupReader.Texts.{setup_of_texts as texts}
use Rattle.page_names.specs.Names.{Destination, start, page}
use Rattle.replay_spec.specs.Book.{Book, draw}
use Rattle.replay_spec.specs.Admission.{Admission, begins, resumes, refused, refusal_of, admit}
use Rattle.replay_spec.proofs.Admitted.{start_is_no_page, admit_drawn}
use Rattle.book_visits.specs.declared.ticket.Ticket.{Ticket}
use Rattle.book_visits.specs.Fits.{FitsAs, FitsIfStart}
use Rattle.book_recovery.specs.InstanceBook.Makes.{rules_with}
use Rattle.book_visits.specs.Prepares.{HasItsScript, IsCarriedOut}
use Rattle.book_recovery.specs.InstanceBook.Places as sources
use Rattle.book_recovery.specs.InstanceBook.Makes.{StaysSame, KeepsStates}
use Rattle.book_recovery.specs.InstanceBook.Swept.{cells_in, cells_at}
use Rattle.book_visits.specs.declared.prepared.Prepared.{Prepared}
use Rattle.book_recovery.proofs.InstanceBook.Seen.{cells_seen}
use Rattle.machine_states.specs.Views.{segment_of}
use Rattle.script_value.specs.Val.{Val}
use Rattle.instance_cells.specs.Cells.{Effect}
use Rattle.page_names.specs.Views.{target_of}
use Rattle.book_recovery.specs.InstanceBook.declared.book.Book as rust
use Rattle.book_recovery.specs.InstanceBook.declared.change.Change as prepared
use Rattle.book_recovery.specs.InstanceBook.Views as kept
use Rattle.book_visits.specs.Changes.{decision_of, HasStateBy}
use Rattle.web_disk.specs.View.{View}
use Rattle.page_journal.specs.declared.journal.Journal.{Journal}
use Rattle.book_recovery.specs.JournalSpec.Standing.{if_kept, Throughout}
use Rattle.replay_spec.specs.Runs as runs
use Rattle.replay_spec.specs.Step as step
use Rattle.shelf.specs.declared.rules.Rules as limits_of
use Rattle.shelf.specs.declared.shelf.Shelf.{Shelf}
use Rattle.book_recovery.specs.InstanceBook.Standing.{book_under}
use Rattle.book_visits.specs.Laws.{KeepsStateAs}
use Rattle.shelf.specs.Views.{rules_of, library_in, book_in, shelf_of, HasGiven, IsStep, IsEvent, IsOwnShelf}
use Rattle.book_recovery.specs.JournalSpec.Laws.{MeasuresDoubt}
use Rattle.shelf.specs.Owning.{StaysOwnThroughout, StandsOwn}
use Rattle.shelf.specs.Events.{HasMoments, HasOwnMoments}
use Rattle.shelf.specs.Holding.{AreHeld, AreHeldBy}
use Rattle.shelf.specs.Preparing.{CanBeLanded}

still_fits : (all : List Named) (b : Book) (t : Ticket) (a : Admission) → FitsAs all b t a → FitsAs all (draw b) t a
still_fits all b t (begins k s) fits = record { run = fits.run; start = fits.start; present = fits.present; cells = fits.cells }
still_fits all b t (resumes at) fits = fits
still_fits all b t (refused r) fits = tt

pub fits_drawn : (all : List Named) (b after : Book) (t : Ticket) (d : Destination) → after ≡ draw b → FitsAs all b t (admit b d) → FitsAs all after t (admit after d)
fits_drawn all b after t d e fits =
    subst (λ (c : Book). FitsAs all c t (admit c d)) (sym e) (subst (FitsAs all (draw b) t) (sym (admit_drawn b d)) (still_fits all b t (admit b d) fits))

-- the ticket of a start that is admitted has its script's cells
pub start_has_script : (l : Library) (b : Book) (t : Ticket) (x : Destination) (a : Admission) → b.scripts ≡ l.setup → admit b x ≡ a → refusal_of a ≡ None → FitsIfStart l.all b t a → HasItsScript l t x
start_has_script l b t (start name) (begins k s) setup e admitted fits = record {
  named = s;
  told = fits.run.script;
  present = subst (λ (n : ℕ). slice_get l.setup n ≡ Some s) (sym fits.start) (subst (λ (ss : List Named). slice_get ss k ≡ Some s) setup fits.present);
  cells = fits.cells;
}
start_has_script l b t (start name) (resumes at) setup e admitted fits = absurd (start_is_no_page b name at e)
start_has_script l b t (start name) (refused r) setup e admitted fits = absurd (cc)
start_has_script l b t (page name n) a setup e admitted fits = tt

-- calls on a shelf whose book was made anew, the same
shelf_same : {D N : Type 0} (view : D → View) (given : ℕ) (s u : Shelf D N) → u.rules ≡ s.rules → book_in view u ≡ book_in view s → shelf_of view given u ≡ shelf_of view given s
shelf_same view given s u limits is =
    ap (λ (l : limits_of.Rules). record (shelf_of view given u) { rules = rules_of l }) limits ∙ ap (λ (b : Book). record (shelf_of view given s) { book = b }) is

pub event_from : {D N : Type 0} (view : D → View) (coming : N → ℕ → ℕ) (s u t : Shelf D N) (event : step.Event) (x : step.Reply) → u.rules ≡ s.rules → u.nonces ≡ s.nonces → book_in view u ≡ book_in view s
    → IsEvent view coming u t event x → IsEvent view coming s t event x
event_from {D} {N} view coming s u t event x limits sources is happens =
    let given_there : (source : ℕ → ℕ) (given : ℕ) → HasGiven source given (coming s.nonces) → HasGiven source given (coming u.nonces) =
    λ source given has. subst (λ (n : N). HasGiven source given (coming n)) (sym sources) has in
    record {
      step = λ source given has. subst (λ (y : runs.Shelf). IsStep source y event x (shelf_of view (runs.drawn_by x given) t)) (shelf_same view given s u limits is) (happens.step source given (given_there source given has));
      nonces = λ source given has. happens.nonces source given (given_there source given has);
    }

pub moments_from : {D N : Type 0} (view : D → View) (s u t : Shelf D N) → u.rules ≡ s.rules → u.journal ≡ s.journal → book_in view u ≡ book_in view s → HasMoments view u t → HasMoments view s t
moments_from view s u t limits journal_same is (n, moments) =
    let P : ℕ → Book → View → Type 0 = λ k b v. Throughout texts k b (if_kept n (book_in view t)) v (view t.journal.disk) in
    let one : P s.rules.number (book_in view u) (view u.journal.disk) = subst (λ (l : limits_of.Rules). P l.number (book_in view u) (view u.journal.disk)) limits moments in
    let two : P s.rules.number (book_in view s) (view u.journal.disk) = subst (λ (b : Book). P s.rules.number b (view u.journal.disk)) is one in
    (n, subst (λ (j : Journal _). P s.rules.number (book_in view s) (view j.disk)) journal_same two)

pub own_moments_from : {D N : Type 0} (view : D → View) (s u t : Shelf D N) → u.rules ≡ s.rules → u.journal ≡ s.journal → book_in view u ≡ book_in view s → HasOwnMoments view u t → HasOwnMoments view s t
own_moments_from view s u t limits journal_same is moments =
    let w = view t.journal.disk in
    let P : limits_of.Rules → Book → View → Type 0 = λ l b v.
    StaysOwnThroughout l.number v w × ((n : ℕ) × Throughout texts l.number b (if_kept n (book_in view t)) v w × MeasuresDoubt (rules_of l) n (book_in view t)) in
    let one : P s.rules (book_in view u) (view u.journal.disk) = subst (λ (l : limits_of.Rules). P l (book_in view u) (view u.journal.disk)) limits (moments.own, moments.measured) in
    let two : P s.rules (book_in view s) (view u.journal.disk) = subst (λ (b : Book). P s.rules b (view u.journal.disk)) is one in
    let all = subst (λ (j : Journal _). P s.rules (book_in view s) (view j.disk)) journal_same two in
    record { own = all.0; measured = all.1 }

pub shown_at : (l : Library) (b after : rust.Book) (c : Option prepared.Change) → book_under l after ≡ book_under l b
    → HasStateBy l.all b.shelf (kept.instances_of l.all b.instances) c → HasStateBy l.all after.shelf (kept.instances_of l.all after.instances) c
shown_at l b after c is shown = subst (λ (y : Book). HasStateBy l.all y.shelf y.instances c) (sym is) shown

-- what can be landed in a book can be in the same book made anew
no_library : Library
no_library = record { all = []; setup = [] }

cells_same : (old new : rust.Book) (n : ℕ) → StaysSame old new → cells_at n old ≡ cells_at n new
cells_same old new n same =
    cells_seen no_library kept.no_journal n old ∙ (ap (cells_in n) (sym (same no_library kept.no_journal)) ∙ sym (cells_seen no_library kept.no_journal n new))

held_same : (old new : rust.Book) (t : Ticket) (d : Destination) (es : List Effect) → StaysSame old new → AreHeldBy old t d es → AreHeldBy new t d es
held_same old new t (start name) es same h = h
held_same old new t (page name n) es same h = subst (λ (o : Option (List Val)). IfSome o (AreHeld es)) (cells_same old new n.instance same) h

pub landed_at : (l : Library) (old new : rust.Book) (t : Ticket) (p : Prepared) → StaysSame old new → CanBeLanded l old t p → CanBeLanded l new t p
landed_at l old new t p same h =
    let there : book_under l old ≡ book_under l new = sym (same l kept.no_journal) in
    record {
      admitted = subst (λ (b : Book). refusal_of (admit b (target_of t.target)) ≡ None) there h.admitted;
      segment = h.segment;
      itself = record {
        decision = h.itself.decision;
        reply = h.itself.reply;
        lands = λ library beside has. subst (λ (b : Book). IsCarriedOut library (rules_with 0 0 0 0) b (decision_of p) p) (sym (same library beside)) (h.itself.lands library beside has);
      };
      deadline = h.deadline;
      state = h.state;
      held = held_same old new t (target_of t.target) (segment_of h.segment).effects same h.held;
      whole = h.whole;
      own = subst (λ (b : Book). FitsAs l.all b t (admit b (target_of t.target)) → KeepsStateAs b t (admit b (target_of t.target)) h.segment) there h.own;
    }

-- and an own shelf is own with it
pub own_at : {D N : Type 0} (view : D → View) (tells : Bool) (s : Shelf D N) (book : rust.Book) → book_in view (record s { book = book }) ≡ book_in view s → KeepsStates s.book book
    → IsOwnShelf view tells s → IsOwnShelf view tells (record s { book = book })
own_at view tells s book is states own = record {
  states = states (sources.own tt) (library_in s).all own.states;
  own = λ told. subst (λ (b : Book). StandsOwn (rules_of s.rules) s.rules.number (view s.journal.disk) b) (sym is) (own.own told);
}
