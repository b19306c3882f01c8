-- Tickets go on from their pages whatever is done on a shelf, and so does what their segments show.
use Rattle.std.proofs.Common.{◌≡◌, ◌∙◌, ap, sym, subst, refl, ℕ, List, length, Option, Some, None, option_map, IfSome, Contains, inl, inr}
use Rattle.std.specs.Prelude.{⊤}
use Rattle.std.proofs.lemmas.Option.{same_Some}
use Rattle.script_nodes.specs.Setup.{Named, Library}
use Rattle.script_nodes.specs.Views.{library_of}
use Rattle.script_nodes.specs.declared.library.Library as rust
use Rattle.page_names.specs.Names.{Destination, start, page}
use Rattle.page_names.specs.Views.{target_of}
use Rattle.page_names.specs.declared.names.PageName.{PageName}
use Rattle.web_disk.specs.View.{View}
use Rattle.replay_spec.specs.Book as spec
use Rattle.replay_spec.specs.Book.{Page, Instance, Book, instance_at, page_at, chain, draw, spend}
use Rattle.replay_spec.specs.Rules.{Rules}
use Rattle.replay_spec.specs.Admission as spec_admission
use Rattle.replay_spec.specs.Admission.{Place, refusal_of, admit}
use Rattle.replay_spec.specs.Recovery.{page_of_numbers}
use Rattle.replay_spec.specs.Step as step
use Rattle.replay_spec.specs.Laws.{IsLawful, Moment}
use Rattle.replay_spec.specs.Invariant.{Unused, IsOrderly}
use Rattle.replay_spec.proofs.Numbered.{number_of}
use Rattle.replay_spec.proofs.Ancestors.{chain_is, lineage_grown}
use Rattle.replay_spec.proofs.Stand.{among_of, Later}
use Rattle.replay_spec.proofs.Admitted.{StandsAt, came_from, page_stands, page_is_no_start}
use Rattle.replay_spec.proofs.Going.{draws, spends}
use Rattle.replay_spec.proofs.Orderly as orderly_books
use Rattle.replay_spec.proofs.Orderly.{went, stepped}
use Rattle.machine_states.specs.Machine.{Suspended}
use Rattle.machine_states.specs.Views.{segment_of}
use Rattle.machine_states.specs.declared.segment.Segment.{Segment}
use Rattle.book_recovery.specs.InstanceBook.FrameCodec.Stored.{IsStored}
use Rattle.book_recovery.specs.InstanceBook.KeptStates.Links.{links_at}
use Rattle.book_recovery.specs.InstanceBook.declared.book.Book as kept
use Rattle.book_visits.specs.declared.ticket.Ticket.{Ticket}
use Rattle.book_recovery.specs.InstanceBook.declared.change.Change.{Change}
use Rattle.book_recovery.specs.InstanceBook.declared.change.Change.TheVariants.{Opens, Extends, Ends, Finishes}
use Rattle.book_recovery.specs.InstanceBook.Places.{Source, given, arena_of}
use Rattle.book_recovery.specs.InstanceBook.Makes.{HasStatesFrom, KeepsStates, Makes, StaysSame}
use Rattle.book_recovery.specs.InstanceBook.Views.{no_journal, script_in}
use Rattle.book_recovery.specs.InstanceBook.Changes.{change_of}
use Rattle.book_visits.specs.Fits.{GoesOnGiven}
use Rattle.book_recovery.specs.InstanceBook.Standing.{book_under, script_at}
use Rattle.book_visits.specs.Admissions.{GoesOnFromPlace, GoesOnBy}
use Rattle.book_visits.specs.Prepares.{KeepsStateOf, IsChangeBy}
use Rattle.book_visits.proofs.One.{one_given}
use Rattle.shelf.specs.declared.shelf.Shelf.{Shelf}
use Rattle.shelf.specs.Views.{rules_of, library_in, beside_of, book_in}
use Rattle.shelf.specs.Holding.{IsOfItsScript}
use Rattle.shelf.specs.Recording.{answered_in, GoesOnFromBook, GoesOnAsGiven}
use Rattle.shelf.specs.Tickets.{GoesOnWhere, AreNumbersUsed, GoesOnFromItsPage, KeepsTickets}
use Rattle.shelf.proofs.Beside.{admit_same}
use Rattle.shelf.proofs.Now.{of_some, if_some}
use Rattle.shelf.proofs.Stated.{place_found, start_shows, answer_shows}
use Rattle.shelf.proofs.Taken.{page_there}

-- ---- the change of a ticket's segment

-- a ticket that goes on from a page that stands does so by whichever states are given to the pages
given_too : (l : Library) (b : kept.Book) (at : Place) (t : Ticket) → GoesOnFromPlace l b at t → (f : ℕ → Option Suspended) → HasStatesFrom (given f) l.all b → (n m : ℕ)
    → instance_at n (book_under l b).instances ≡ Some at.instance → page_at m at.instance.pages ≡ Some at.page → GoesOnGiven f at t
given_too l b at t goes f has n m found shown = record {
  before = goes.goes.before;
  from = goes.goes.from;
  state = (one_given l.all goes.states f b goes.has has n m at.instance at.page found shown goes.goes.before goes.goes.state.0, goes.goes.state.1);
  links = goes.goes.links;
}

module _ (l : Library) (b : kept.Book) (t : Ticket) (r : Segment) where
  abbrev under : Book
  under = book_under l b

  module _ (name : List ℕ) (n : PageName) (ok : refusal_of (admit under (page name n)) ≡ None) (goes : GoesOnWhere l b t (page name n)) where
    there : (at : Place) × StandsAt under name n at
    there = page_there under name n (admit under (page name n)) refl ok

    found : page_of_numbers under n.instance n.page ≡ Some there.0
    found = place_found under name n there.0 there.1

    here : GoesOnFromPlace l b there.0 t
    here = of_some (page_of_numbers under n.instance n.page) there.0 (λ at. GoesOnFromPlace l b at t) found goes

    from_book : GoesOnFromBook l b t (n.instance, n.page)
    from_book f has = record { at = there.0; found = found; goes = given_too l b there.0 t here f has n.instance n.page there.1.here there.1.shown }

    of_script : (k : ℕ) → k ≡ n.instance → script_at l.all k b ≡ Some (script_in l.all t.script)
    of_script k same =
        ap (λ (j : ℕ). script_at l.all j b) same
        ∙ (ap (option_map (λ (i : Instance). i.script)) there.1.here ∙ ap (λ (s : Named). Some s) (sym here.script))

  -- it goes on from what the book has of the page that it answers
  pub as_given : (d : Destination) (c : Change) → refusal_of (admit under d) ≡ None → KeepsStateOf t r d (Some c) → IsChangeBy t (segment_of r) d (change_of c) → GoesOnWhere l b t d
      → GoesOnAsGiven l b t c
  as_given (start name) (Opens o) ok (inl none) is goes = absurd none
  as_given (start name) (Opens o) ok (inr from) is goes =
      subst (λ (c : spec.Change). IfSome (answered_in c) (GoesOnFromBook l b t)) (sym (start_shows t (segment_of r) o.record is).1) tt
  as_given (start name) (Extends x) ok (inl none) is goes = absurd none
  as_given (start name) (Extends x) ok (inr from) is goes = absurd from.1.1
  as_given (page name n) (Opens o) ok (inl none) is goes = absurd none
  as_given (page name n) (Opens o) ok (inr from) is goes = absurd from.1.1
  as_given (page name n) (Extends x) ok keeps is goes =
      subst (λ (c : spec.Change). IfSome (answered_in c) (GoesOnFromBook l b t)) (sym (answer_shows t (segment_of r) n.instance n.page x.record is).1) (from_book name n ok goes)
  as_given (start name) (Ends e) ok keeps is goes = tt
  as_given (start name) (Finishes f) ok keeps is goes = tt
  as_given (page name n) (Ends e) ok keeps is goes = tt
  as_given (page name n) (Finishes f) ok keeps is goes = tt

  -- and the instance whose page it answers is of its script
  pub of_its_script : (d : Destination) (c : Change) → refusal_of (admit under d) ≡ None → KeepsStateOf t r d (Some c) → GoesOnWhere l b t d → IsOfItsScript l.all b t c
  of_its_script (start name) (Opens o) ok keeps goes = tt
  of_its_script (start name) (Extends x) ok (inl none) goes = absurd none
  of_its_script (start name) (Extends x) ok (inr from) goes = absurd from.1.1
  of_its_script (page name n) (Opens o) ok keeps goes = tt
  of_its_script (page name n) (Extends x) ok (inl none) goes = absurd none
  of_its_script (page name n) (Extends x) ok (inr from) goes = of_script name n ok goes x.instance from.1.1.instance
  of_its_script (start name) (Ends e) ok keeps goes = tt
  of_its_script (start name) (Finishes f) ok keeps goes = tt
  of_its_script (page name n) (Ends e) ok keeps goes = tt
  of_its_script (page name n) (Finishes f) ok keeps goes = tt

-- where the instance of the page that is answered is admitted, it has as many cells as the ticket's script
pub as_many_cells : (l : Library) (b : kept.Book) (t : Ticket) (name : List ℕ) (n : PageName) → refusal_of (admit (book_under l b) (page name n)) ≡ None → GoesOnWhere l b t (page name n)
    → ((k : ℕ) (i : Instance) → instance_at k (book_under l b).instances ≡ Some i → length i.cells ≡ length i.script.script.cells)
    → (i : Instance) × ((instance_at n.instance (book_under l b).instances ≡ Some i) × (length (script_in l.all t.script).script.cells ≡ length i.cells))
as_many_cells l b t name n ok goes theirs =
    let under = book_under l b in
    let at = page_there under name n (admit under (page name n)) refl ok in
    let here = of_some (page_of_numbers under n.instance n.page) at.0 (λ y. GoesOnFromPlace l b y t) (place_found under name n at.0 at.1) goes in (
      at.0.instance,
      (at.1.here, ap (λ (s : Named). length s.script.cells) here.script ∙ sym (theirs n.instance at.0.instance at.1.here)),
    )

-- ---- what stays

numbers_found : (b : Book) (k m : ℕ) (i : Instance) (p : Page) → instance_at k b.instances ≡ Some i → page_at m i.pages ≡ Some p → page_of_numbers b k m ≡ Some (record { instance = i; page = p })
numbers_found b k m i p here shown = rw (here, shown) refl

-- in the later shelf the pages have states that are given: those of used numbers the ones that were given before
abbrev pub KeepsGiven : {D N : Type 0} → (D → View) → (s u : Shelf D N) → Type 0
KeepsGiven view s u =
    (f : ℕ → Option Suspended) → HasStatesFrom (given f) (library_in s).all s.book
    → (g : ℕ → Option Suspended) × (HasStatesFrom (given g) (library_in u).all u.book × ((n : ℕ) (d : Suspended) → ¬ Unused (book_in view s) n → f n ≡ Some d → g n ≡ Some d))

module _ {D N : Type 0} (view : D → View) (s u : Shelf D N) (same : u.library ≡ s.library) (orderly : IsOrderly (book_in view s)) (later : Later (book_in view s) (book_in view u)) (keeps : KeepsGiven view s u) (t : Ticket) where
  abbrev b : Book
  b = book_in view s

  abbrev c : Book
  c = book_in view u

  module _ (name : List ℕ) (n : PageName) (used : AreNumbersUsed (book_in view s) (page name n)) (goes : GoesOnWhere (library_in s) s.book t (page name n)) where
    stays_there : (y : Place) → page_of_numbers c n.instance n.page ≡ Some y → GoesOnFromPlace (library_in u) u.book y t
    stays_there y found =
        let i = came_from (instance_at n.instance c.instances) _ y found in
        let p = came_from (page_at n.page i.0.pages) _ y i.1.1 in
        let q = p.0 in
        let w : Place = record { instance = i.0; page = q } in
        let is : w ≡ y = same_Some w y p.1.1 in
        let was = later.since.was n.instance i.0 i.1.0 used.0 in
        let paged = later.since.paged n.instance n.page q (record { instance = i.0; found = i.1.0; shown = p.1.0 }) used.1 in
        let before : Instance = was.instance in
        let same_instance : paged.instance ≡ before = same_Some paged.instance before (sym paged.found ∙ was.found) in
        let shown : page_at n.page before.pages ≡ Some q = subst (λ (j : Instance). page_at n.page j.pages ≡ Some q) same_instance paged.shown in
        let x : Place = record { instance = before; page = q } in
        let stood : page_of_numbers b n.instance n.page ≡ Some x = numbers_found b n.instance n.page before q was.found shown in
        let from = of_some (page_of_numbers b n.instance n.page) x (λ at. GoesOnFromPlace (library_in s) s.book at t) stood goes in
        let states = keeps from.states from.has in
        let old = orderly.instances.lineage n.instance before was.found n.page q shown in
        let new = lineage_grown before.pages i.0.pages was.grown was.longer q old in
        let chains : chain before.pages q ≡ chain i.0.pages q = chain_is before.pages q old.ancestors old.are old.few ∙ sym (chain_is i.0.pages q old.ancestors new.are new.few) in
        let number : q.number ≡ n.page = number_of (λ (r : Page). r.number) n.page before.pages q shown in
        let still : ¬ Unused b q.number = λ h. used.1 (subst (λ (k : ℕ). Unused b k) number h) in
        let goes_on : GoesOnGiven states.0 w t = record {
          before = from.goes.before;
          from = from.goes.from;
          state = (
            states.1.1 q.number from.goes.before still from.goes.state.0,
            subst (λ (z : Named). IsStored (arena_of z.script) from.goes.before) (sym was.script) from.goes.state.1,
          );
          links = from.goes.links ∙ ap (λ (ps : List Page). links_at (length ps)) chains;
        } in
        let script : script_in (library_in u).all t.script ≡ i.0.script = ap (λ (l : rust.Library). script_in (library_of l).all t.script) same ∙ (from.script ∙ sym was.script) in
        let there : GoesOnFromPlace (library_in u) u.book w t = record { states = states.0; has = states.1.0; goes = goes_on; script = script } in
        subst (λ (at : Place). GoesOnFromPlace (library_in u) u.book at t) is there

    stays_where : GoesOnWhere (library_in u) u.book t (page name n)
    stays_where = by_place (page_of_numbers c n.instance n.page) refl
      where
        by_place : (o : Option Place) → page_of_numbers c n.instance n.page ≡ o → IfSome o (λ at. GoesOnFromPlace (library_in u) u.book at t)
        by_place None e = tt
        by_place (Some y) e = stays_there y e

  stays_by : (d : Destination) → AreNumbersUsed (book_in view s) d → GoesOnWhere (library_in s) s.book t d → AreNumbersUsed (book_in view u) d × GoesOnWhere (library_in u) u.book t d
  stays_by (start name) used goes = (tt, tt)
  stays_by (page name n) used goes = ((λ h. used.0 (later.fewer n.instance h), λ h. used.1 (later.fewer n.page h)), stays_where name n used goes)

  -- a ticket that goes on from its page goes on to do so
  pub tickets_kept : GoesOnFromItsPage view s t → GoesOnFromItsPage view u t
  tickets_kept h = let both = stays_by (target_of t.target) h.used h.goes in record { used = both.0; goes = both.1 }

-- ---- by what is done

-- where states stay as they are
pub states_stay : {D N : Type 0} (view : D → View) (s u : Shelf D N) → ((source : Source ⊤) → HasStatesFrom source (library_in s).all s.book → HasStatesFrom source (library_in u).all u.book) → KeepsGiven view s u
states_stay view s u stay f has = (f, (stay (given f) has, λ n d used is. is))

-- the book after an event is a later one
pub later_step : {D N : Type 0} (view : D → View) (s : Shelf D N) (event : step.Event) (fate : step.Fate) (x : step.Reply) (d : Book) → IsOrderly (book_in view s) → IsLawful event (book_in view s)
    → step.step (rules_of s.rules) (book_in view s) 0 event fate ≡ (x, d) → Later (book_in view s) d
later_step view s event fate x d orderly lawful e =
    let m : Moment = record { rules = rules_of s.rules; nonce = 0; event = event; fate = fate } in
    subst (λ (c : Book). Later (book_in view s) c) (ap (λ (y : step.Reply × Book). y.1) e) (stepped m (book_in view s) orderly lawful)

pub later_spent : (rules : Rules) (b : Book) (n : ℕ) → IsOrderly b → Contains b.out n → Later b (spend n b)
later_spent rules b n orderly out = went {lawful = ⊤} rules b (spend n b) None (spends n (λ _. among_of b.out n out)) tt orderly

pub later_drawn : (rules : Rules) (b : Book) → IsOrderly b → Later b (draw b)
later_drawn rules b orderly = went {lawful = ⊤} rules b (draw b) None draws tt orderly

-- on a shelf whose book was made anew, the same
module _ {D N : Type 0} (view : D → View) (s : Shelf D N) (orderly : IsOrderly (book_in view s)) (book : kept.Book) (keeps : KeepsStates s.book book) where
  abbrev with_book : Shelf D N
  with_book = record s { book = book }

  pub anew_keeps : StaysSame s.book book → KeepsTickets view s with_book
  anew_keeps same t h =
      let is : book_in view with_book ≡ book_in view s = same (library_in s) (beside_of view s) in
      tickets_kept view s with_book refl orderly (subst (λ (c : Book). Later (book_in view s) c) (sym is) (orderly_books.same (book_in view s) orderly))
      (states_stay view s with_book (λ source. keeps source (library_in s).all)) t h

  pub spent_keeps : (n : ℕ) → Contains (book_in view s).out n → Makes (spend n) s.book book → KeepsTickets view s with_book
  spent_keeps n out spending t h =
      let is : book_in view with_book ≡ spend n (book_in view s) = spending (library_in s) (beside_of view s) in
      tickets_kept view s with_book refl orderly (subst (λ (c : Book). Later (book_in view s) c) (sym is) (later_spent (rules_of s.rules) (book_in view s) n orderly out))
      (states_stay view s with_book (λ source. keeps source (library_in s).all)) t h

  pub drawn_keeps : Makes draw s.book book → KeepsTickets view s with_book
  drawn_keeps drawing t h =
      let is : book_in view with_book ≡ draw (book_in view s) = drawing (library_in s) (beside_of view s) in
      tickets_kept view s with_book refl orderly (subst (λ (c : Book). Later (book_in view s) c) (sym is) (later_drawn (rules_of s.rules) (book_in view s) orderly))
      (states_stay view s with_book (λ source. keeps source (library_in s).all)) t h

-- ---- the ticket of a take

module _ {D N : Type 0} (view : D → View) (s : Shelf D N) (orderly : IsOrderly (book_in view s)) (t : Ticket) where
  -- the page that is answered stands, so its numbers are used
  numbers_used : (name : List ℕ) (n : PageName) (at : Place) → StandsAt (book_in view s) name n at → AreNumbersUsed (book_in view s) (page name n)
  numbers_used name n at h =
      let b = book_in view s in (
        λ unused. let none : None ≡ Some at.instance = sym (orderly.instances.no_instance n.instance unused) ∙ h.here in let no : ⊥ = cc none in no,
        λ unused. let none : None ≡ Some at.page = sym (orderly.instances.no_page n.page unused n.instance at.instance h.here) ∙ h.shown in let no : ⊥ = cc none in no,
      )

  taken_by : (d : Destination) → refusal_of (admit (book_in view s) d) ≡ None → GoesOnBy (library_in s) s.book (admit (book_under (library_in s) s.book) d) t
      → AreNumbersUsed (book_in view s) d × GoesOnWhere (library_in s) s.book t d
  taken_by (start name) ok goes = (tt, tt)
  taken_by (page name n) ok goes =
      let l = library_in s in
      let b = book_in view s in
      let at = page_there b name n (admit b (page name n)) refl ok in (
        numbers_used name n at.0 at.1,
        by_admission (admit (book_under l s.book) (page name n)) refl goes,
      )
    where
      refused_not : (why : _) → admit (book_under (library_in s) s.book) (page name n) ≡ spec_admission.refused why → ⊥
      refused_not why e =
          let same : refusal_of (admit (book_in view s) (page name n)) ≡ Some why = ap refusal_of (admit_same (library_in s) (beside_of view s) no_journal s.book (page name n)) ∙ ap refusal_of e in
          let no : None ≡ Some why = sym ok ∙ same in
          cc no

      by_admission : (a : spec_admission.Admission) → admit (book_under (library_in s) s.book) (page name n) ≡ a → GoesOnBy (library_in s) s.book a t → GoesOnWhere (library_in s) s.book t (page name n)
      by_admission (spec_admission.begins k x) e h = absurd (page_is_no_start (book_under (library_in s) s.book) name n k x e)
      by_admission (spec_admission.resumes y) e h =
          let under = book_under (library_in s) s.book in
          if_some (page_of_numbers under n.instance n.page) y (λ z. GoesOnFromPlace (library_in s) s.book z t) (place_found under name n y (page_stands under name n y e)) h
      by_admission (spec_admission.refused why) e h = absurd (refused_not why e)

  -- so it goes on from its page where its target is admitted
  pub taken_goes : (d : Destination) → target_of t.target ≡ d → refusal_of (admit (book_in view s) d) ≡ None → GoesOnBy (library_in s) s.book (admit (book_under (library_in s) s.book) d) t → GoesOnFromItsPage view s t
  taken_goes d same ok goes =
      let both = taken_by d ok goes in
      record {
        used = subst (λ (x : Destination). AreNumbersUsed (book_in view s) x) (sym same) both.0;
        goes = subst (λ (x : Destination). GoesOnWhere (library_in s) s.book t x) (sym same) both.1;
      }
