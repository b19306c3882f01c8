-- The page that a change shows has the state that its record tells, after what records told of the page that is answered.
use Rattle.std.proofs.Common.{◌≡◌, ◌∙◌, ap, sym, subst, refl, ℕ, zero, suc, List, slice_get, Option, Some, None, option_map, Contains, inl, inr}
use Rattle.std.specs.Prelude.{IfSome}
use Rattle.std.proofs.lemmas.Option.{same_Some}
use Rattle.script_value.specs.declared.outcome.TxName.{TxName}
use Rattle.script_nodes.specs.Setup.{Named, Library}
use Rattle.web_cells.specs.Shadows.{Rise}
use Rattle.page_names.specs.Names.{Destination, start, page}
use Rattle.page_names.specs.declared.names.PageName.{PageName}
use Rattle.replay_spec.specs.Eval as eval
use Rattle.replay_spec.specs.Book as spec
use Rattle.replay_spec.specs.Book.{Instance, Book}
use Rattle.replay_spec.specs.Admission.{◌>>=◌, Place, refusal_of, admit}
use Rattle.replay_spec.specs.Recovery.{page_of_numbers}
use Rattle.replay_spec.specs.Invariant.{IsOrderly}
use Rattle.replay_spec.proofs.Stand.{among_of}
use Rattle.replay_spec.proofs.Admitted.{StandsAt}
use Rattle.machine_states.specs.Machine.{Suspended}
use Rattle.machine_states.specs.Views.{segment_of, origin_of, suspended_of, state_of, Keeps}
use Rattle.machine_states.specs.declared.segment.Outcome.{Outcome}
use Rattle.machine_states.specs.declared.segment.Outcome.TheVariants.{Shown, Finished, Ended, Faulted, Fuel}
use Rattle.machine_states.specs.declared.segment.Segment.{Segment}
use Rattle.book_recovery.specs.InstanceBook.FrameCodec.Spelling.{StateHasBytes}
use Rattle.book_recovery.specs.InstanceBook.FrameCodec.Forms.{RisesBefore}
use Rattle.book_recovery.specs.InstanceBook.KeptStates.Links.{behind_at}
use Rattle.book_recovery.specs.JournalSpec.Before.{state_at, Earlier, links_behind, before_told}
use Rattle.book_recovery.specs.InstanceBook.declared.book.Book as kept
use Rattle.book_recovery.specs.InstanceBook.declared.in_order.InOrder.{InOrder}
use Rattle.book_recovery.specs.InstanceBook.declared.instance.KeptInstance.{KeptInstance}
use Rattle.book_recovery.specs.InstanceBook.declared.change.Opening.{Opening}
use Rattle.book_recovery.specs.InstanceBook.declared.change.Extension.{Extension}
use Rattle.book_recovery.specs.InstanceBook.declared.change.Change.{Change}
use Rattle.book_recovery.specs.InstanceBook.declared.change.Change.TheVariants.{Opens, Extends, Ends, Finishes}
use Rattle.book_visits.specs.declared.ticket.Ticket.{Ticket}
use Rattle.book_recovery.specs.InstanceBook.KeptStates.Kept.{IsKeptFrom}
use Rattle.book_recovery.specs.InstanceBook.Places.{given, arena_of, kept_at}
use Rattle.book_recovery.specs.InstanceBook.Standing.{script_at}
use Rattle.book_recovery.specs.InstanceBook.Views.{Beside, book_of, instances_of}
use Rattle.book_recovery.specs.InstanceBook.Changes.{change_of, HasStateIn, OpensKept}
use Rattle.book_visits.specs.Fits.{GoesOnGiven}
use Rattle.book_recovery.specs.InstanceBook.Makes.{HasStatesFrom}
use Rattle.book_recovery.specs.InstanceBook.Places.{IsNextAt}
use Rattle.book_visits.specs.Prepares.{OpensAs, ExtendsAs, OpensFrom, ExtendsFrom, extension_by, IsStartBy, IsAnswerBy, IsChangeBy, HasItsScript, KeepsStateOf, IsKeptOfTicket}
use Rattle.book_visits.proofs.States.{first_kept, next_kept}
use Rattle.shelf.specs.Holding.{IsWhole, IsWholeIn, IsWholeFrom, ShowsWhole, ShowsWholeFrom}
use Rattle.shelf.specs.Recording.{state_in, behind_in, answered_in, IsKeptIn, GoesOnFromBook, GoesOnAsGiven}
use Rattle.book_visits.specs.Changes.{IsSpelledIn}
use Rattle.shelf.proofs.Now.{of_some}
use Rattle.shelf.proofs.Stated.{place_found, start_shows, answer_shows}
use Rattle.shelf.proofs.Taken.{page_there}

-- what holds of the state of a segment's page holds of this one
keeps_there : (o : Outcome) (d : Suspended) (P : Suspended → Type 0) → state_of o ≡ Some d → Keeps o P → P d
keeps_there (Shown bytes kind state) d P e h = subst P (same_Some (suspended_of state) d e) h
keeps_there (Finished bytes) d P e h = absurd (let no : ⊥ = cc in no)
keeps_there (Ended bytes) d P e h = absurd (let no : ⊥ = cc in no)
keeps_there (Faulted k) d P e h = absurd (let no : ⊥ = cc in no)
keeps_there (Fuel cost) d P e h = absurd (let no : ⊥ = cc in no)

which_whole : (o : Option Named) (r : Segment) (d e : Suspended) (inside : List TxName) → ((s : Named) → o ≡ Some s → ShowsWhole (arena_of s.script) r) → state_of r.outcome ≡ Some d → e ≡ d → inside ≡ r.entered.items
    → IfSome o (λ s. IsWhole (arena_of s.script) e inside)
which_whole None r d e inside whole is told names = tt
which_whole (Some s) r d e inside whole is told names =
    let a = arena_of s.script in
    let there : IsWhole a d r.entered.items = keeps_there r.outcome d (λ x. IsWhole a x r.entered.items) is (whole s refl) in
    subst (λ (x : Suspended). IsWhole a x inside) (sym told) (subst (λ (ns : List TxName). IsWhole a d ns) (sym names) there)

-- the page that a change of the segment shows is whole where that of the segment is
pub whole_from : (all : List Named) (t : Ticket) (r : Segment) (d : Destination) (c : Change) → KeepsStateOf t r d (Some c) → ShowsWholeFrom all t r → IsWholeFrom all t c
whole_from all t r (start name) (Opens o) (inl none) whole = absurd none
whole_from all t r (start name) (Opens o) (inr from) whole =
    which_whole (slice_get all o.instance.script) r from.0 (suspended_of o.state) o.page.item.inside.items (λ s e. whole s (ap (slice_get all) (sym from.1.1.script) ∙ e)) from.1.0 from.1.1.told
    (ap (λ (p : spec.Page). p.inside) from.1.1.page)
whole_from all t r (start name) (Extends x) (inl none) whole = absurd none
whole_from all t r (start name) (Extends x) (inr from) whole = absurd from.1.1
whole_from all t r (start name) (Ends e) keeps whole = tt
whole_from all t r (start name) (Finishes f) keeps whole = tt
whole_from all t r (page name n) (Opens o) (inl none) whole = absurd none
whole_from all t r (page name n) (Opens o) (inr from) whole = absurd from.1.1
whole_from all t r (page name n) (Extends x) (inl none) whole = absurd none
whole_from all t r (page name n) (Extends x) (inr from) whole =
    which_whole (slice_get all t.script) r from.0 (suspended_of x.state) x.show.page.item.inside.items whole from.1.0 from.1.1.told (ap (λ (p : spec.Page). p.inside) from.1.1.page)
whole_from all t r (page name n) (Ends e) keeps whole = tt
whole_from all t r (page name n) (Finishes f) keeps whole = tt

-- what is kept of a change's page is of its ticket
pub kept_in : (t : Ticket) (r : Segment) (d : Destination) (c : Change) → KeepsStateOf t r d (Some c) → IsKeptIn t c
kept_in t r (start name) (Opens o) (inl none) = absurd none
kept_in t r (start name) (Opens o) (inr from) = subst (λ (y : Suspended). IsKeptFrom None 0 y (kept_at o.page)) (sym from.1.1.told) from.1.1.state
kept_in t r (start name) (Extends x) (inl none) = absurd none
kept_in t r (start name) (Extends x) (inr from) = absurd from.1.1
kept_in t r (start name) (Ends e) keeps = tt
kept_in t r (start name) (Finishes f) keeps = tt
kept_in t r (page name n) (Opens o) (inl none) = absurd none
kept_in t r (page name n) (Opens o) (inr from) = absurd from.1.1
kept_in t r (page name n) (Extends x) (inl none) = absurd none
kept_in t r (page name n) (Extends x) (inr from) = subst (λ (y : Suspended). IsKeptOfTicket t y x.show.page) (sym from.1.1.told) from.1.1.state
kept_in t r (page name n) (Ends e) keeps = tt
kept_in t r (page name n) (Finishes f) keeps = tt

-- the ticket goes on from the state that is given to the page of these numbers
abbrev GoesFrom : Book → (ℕ → Option Suspended) → Ticket → ℕ × ℕ → Type 0
GoesFrom b f t n = (at : Place) × ((page_of_numbers b n.0 n.1 ≡ Some at) × GoesOnGiven f at t)

-- the ticket of an answer goes on from the state that is given to the page that is answered
abbrev pub GoesHere : Book → (ℕ → Option Suspended) → Ticket → Change → Type 0
GoesHere b f t c = IfSome (answered_in (change_of c)) (GoesFrom b f t)

some_then : {X : Type 0} (o : Option X) (P Q : X → Type 0) → ((x : X) → P x → Q x) → IfSome o P → IfSome o Q
some_then None P Q so h = tt
some_then (Some x) P Q so h = so x h

pub goes_here : (l : Library) (beside : Beside) (book spent : kept.Book) (t : Ticket) (c : Change) (f : ℕ → Option Suspended) → spent.instances ≡ book.instances → GoesOnAsGiven l spent t c
    → HasStatesFrom (given f) l.all spent → GoesHere (book_of l beside book) f t c
goes_here l beside book spent t c f same goes all =
    let b = book_of l beside book in
    some_then (answered_in (change_of c)) (GoesOnFromBook l spent t) (GoesFrom b f t)
    (λ n here.
    let given_there = here f all in
    let there : page_of_numbers b n.0 n.1 ≡ Some given_there.at =
    ap (λ (is : InOrder KeptInstance). page_of_numbers (record b { instances = instances_of l.all is }) n.0 n.1) (sym same) ∙ given_there.found in
    (given_there.at, (there, given_there.goes)))
    goes

rises_behind : (links : ℕ) (o : Option Suspended) (p : Suspended) → o ≡ Some p → Rise p.shadows → RisesBefore (behind_at links o)
rises_behind zero o p e rise = tt
rises_behind (suc n) o p e rise = subst RisesBefore (sym e) rise

-- so the page of the change is written after what records told
module _ (b : Book) (t : Ticket) (r : Segment) (earlier : Earlier) where
  abbrev IsBehindTold : Change → Type 0
  IsBehindTold c = (before_told earlier b (change_of c) ≡ behind_in t c) × RisesBefore (behind_in t c)

  opening_told : (o : Opening) → IsStartBy t (segment_of r) (change_of (Opens o)) → IsBehindTold (Opens o)
  opening_told o is = (ap (before_told earlier b) (start_shows t (segment_of r) o.record is).1, tt)

  answer_told : (n : PageName) (x : Extension) → IsAnswerBy t (segment_of r) n.instance n.page (change_of (Extends x)) → GoesHere b (λ n. state_at n earlier.states) t (Extends x) → IsBehindTold (Extends x)
  answer_told n x is goes =
      let so = answer_shows t (segment_of r) n.instance n.page x.record is in
      let change : change_of (Extends x) ≡ spec.extends (extension_by t n.instance n.page (segment_of r).effects (segment_of r).left so.0) = so.1 in
      let state : Place → Option Suspended = λ y. state_at y.page.number earlier.states in
      let on_there : GoesFrom b (λ k. state_at k earlier.states) t (n.instance, n.page) =
      subst (λ (c : spec.Change). IfSome (answered_in c) (GoesFrom b (λ k. state_at k earlier.states) t)) change goes in
      let at = on_there.0 in
      let there = on_there.1.0 in
      let on = on_there.1.1 in (
        ap (before_told earlier b) change
            ∙ (ap (λ (o : Option Place). o >>= (λ y. behind_at (links_behind y) (state y))) there
            ∙ (ap (behind_at (links_behind at)) (on.state.0 ∙ sym on.from) ∙ ap (λ (k : ℕ). behind_at k (origin_of t.from)) (sym on.links))),
        rises_behind t.links (origin_of t.from) on.before on.from on.state.1.shadows.rise,
      )

  pub behind_told : (d : Destination) (c : Change) → KeepsStateOf t r d (Some c) → IsChangeBy t (segment_of r) d (change_of c) → GoesHere b (λ n. state_at n earlier.states) t c → IsBehindTold c
  behind_told (start name) (Opens o) keeps is goes = opening_told o is
  behind_told (start name) (Extends x) (inl none) is goes = absurd none
  behind_told (start name) (Extends x) (inr from) is goes = absurd from.1.1
  behind_told (page name n) (Opens o) (inl none) is goes = absurd none
  behind_told (page name n) (Opens o) (inr from) is goes = absurd from.1.1
  behind_told (page name n) (Extends x) keeps is goes = answer_told n x is goes
  behind_told (start name) (Ends e) keeps is goes = (refl, tt)
  behind_told (start name) (Finishes e) keeps is goes = (refl, tt)
  behind_told (page name n) (Ends e) keeps is goes = (refl, tt)
  behind_told (page name n) (Finishes e) keeps is goes = (refl, tt)

-- ---- and the book has the state that is told of it

module _ (l : Library) (beside : Beside) (book : kept.Book) (orderly : IsOrderly (book_of l beside book)) (t : Ticket) (out : Contains (book_of l beside book).out t.number) (r : Segment)
    (f g : ℕ → Option Suspended) (more : (n : ℕ) (d : Suspended) → f n ≡ Some d → g n ≡ Some d) where
  abbrev b : Book
  b = book_of l beside book

  abbrev s : eval.Segment
  s = segment_of r

  start_shown : (name : List ℕ) (o : Opening) → HasItsScript l t (start name) → OpensFrom t r (Some (Opens o)) → IsWholeIn l.all book (Opens o) → StateHasBytes (suspended_of o.state)
      → g t.number ≡ Some (suspended_of o.state) → OpensKept l.all (given g) o
  start_shown name o has from whole bytes now =
      let d = suspended_of o.state in
      let made : OpensAs t s.effects r.entered.items d o = subst (λ (y : Suspended). OpensAs t s.effects r.entered.items y o) (sym from.1.1.told) from.1.1 in
      let here : IsWhole (arena_of has.named.script) d o.page.item.inside.items = of_some (slice_get l.all o.instance.script) has.named _ (ap (slice_get l.all) made.script ∙ has.told) whole in
      first_kept (given g) l.all b t t.start has.named s.effects r.entered.items d o has.told made (now, here.stored bytes) bytes

  module _ (name : List ℕ) (n : PageName) (at : Place) (stands : StandsAt b name n at) where
    answer_shown : (x : Extension) → ExtendsFrom t r n.instance n.page (Some (Extends x)) → IsAnswerBy t s n.instance n.page (change_of (Extends x)) → IsWholeIn l.all book (Extends x) → StateHasBytes (suspended_of x.state)
        → g t.number ≡ Some (suspended_of x.state) → GoesHere b f t (Extends x) → IsNextAt (given g) b.instances x.instance x.show.page
    answer_shown x from is whole bytes now goes =
        let d = suspended_of x.state in
        let made : ExtendsAs t n.instance n.page s.effects r.entered.items d x = subst (λ (y : Suspended). ExtendsAs t n.instance n.page s.effects r.entered.items y x) (sym from.1.1.told) from.1.1 in
        let so = answer_shows t s n.instance n.page x.record is in
        let given_there : GoesFrom b f t (n.instance, n.page) = subst (λ (c : spec.Change). IfSome (answered_in c) (GoesFrom b f t)) so.1 goes in
        let same : given_there.0 ≡ at = let both : Some given_there.0 ≡ Some at = sym given_there.1.0 ∙ place_found b name n at stands in cc both in
        let script : script_at l.all x.instance book ≡ Some at.instance.script = ap (λ (k : ℕ). script_at l.all k book) made.instance ∙ ap (option_map (λ (i : Instance). i.script)) stands.here in
        let here : IsWhole (arena_of at.instance.script.script) d x.show.page.item.inside.items = of_some (script_at l.all x.instance book) at.instance.script _ script whole in
        let on : GoesOnGiven f at t = subst (λ (y : Place). GoesOnGiven f y t) same given_there.1.1 in
        let goes_on : GoesOnGiven g at t = record { before = on.before; from = on.from; state = (more at.page.number on.before on.state.0, on.state.1); links = on.links } in
        let lineage = orderly.instances.lineage n.instance at.instance stands.here n.page at.page stands.shown in
        let free = orderly.instances.no_page t.number (inl (among_of b.out t.number out)) n.instance at.instance stands.here in
        next_kept (given g) l.all b t at n.instance n.page s.effects r.entered.items d x lineage free stands.here stands.shown made (now, here.stored bytes) bytes goes_on

  pub shown_given : (d : Destination) (c : Change) → refusal_of (admit b d) ≡ None → HasItsScript l t d → KeepsStateOf t r d (Some c) → IsChangeBy t s d (change_of c) → IsWholeIn l.all book c → IsSpelledIn c
      → ((y : Suspended) → state_in c ≡ Some y → g t.number ≡ Some y) → GoesHere b f t c → HasStateIn l.all (given g) b.instances c
  shown_given (start name) (Opens o) ok has (inl none) is whole spelled now goes = absurd none
  shown_given (start name) (Opens o) ok has (inr from) is whole spelled now goes = start_shown name o has from whole spelled (now (suspended_of o.state) refl)
  shown_given (start name) (Extends x) ok has (inl none) is whole spelled now goes = absurd none
  shown_given (start name) (Extends x) ok has (inr from) is whole spelled now goes = absurd from.1.1
  shown_given (start name) (Ends e) ok has keeps is whole spelled now goes = tt
  shown_given (start name) (Finishes e) ok has keeps is whole spelled now goes = tt
  shown_given (page name n) (Opens o) ok has (inl none) is whole spelled now goes = absurd none
  shown_given (page name n) (Opens o) ok has (inr from) is whole spelled now goes = absurd from.1.1
  shown_given (page name n) (Extends x) ok has (inl none) is whole spelled now goes = absurd none
  shown_given (page name n) (Extends x) ok has (inr from) is whole spelled now goes =
      let p = page_there b name n (admit b (page name n)) refl ok in answer_shown name n p.0 p.1 x from is whole spelled (now (suspended_of x.state) refl) goes
  shown_given (page name n) (Ends e) ok has keeps is whole spelled now goes = tt
  shown_given (page name n) (Finishes e) ok has keeps is whole spelled now goes = tt
