-- The states of pages.
use Rattle.std.proofs.Common.{◌≡◌, ◌∙◌, ap, sym, subst, ℕ, ◌<◌, List, [], ◌∷◌, length, reverse, slice_get, Option, Some, None, ◌++◌, refl, arith, length-append, Contains, inl, inr}
use Rattle.std.specs.Bool.{⊤}
use Rattle.std.proofs.lemmas.List.{reverse-append}
use Rattle.std.proofs.lemmas.Option.{same_Some, get_or_from_slice_get, slice_get_within}
use Rattle.script_nodes.specs.Setup.{Named}
use Rattle.page_names.specs.Names.{Destination, start, page}
use Rattle.page_names.specs.Views.{target_of}
use Rattle.page_names.specs.declared.names.PageName.{PageName}
use Rattle.instance_cells.specs.Cells.{Effect, reads_of}
use Rattle.script_value.specs.declared.outcome.TxName.{TxName}
use Rattle.replay_spec.specs.Tape.{recorded, Tape}
use Rattle.replay_spec.specs.Book.{Page, Instance, Book, page_at, instance_at, parent_of, chain}
use Rattle.replay_spec.specs.Change.{put_page}
use Rattle.replay_spec.specs.Admission.{Place, Admission, begins, resumes, refused, refusal_of, admit}
use Rattle.replay_spec.specs.Next.{Home, home, tape_for, page_tape, start_visit, page_visit}
use Rattle.replay_spec.specs.Next as next
use Rattle.replay_spec.specs.Invariant.{AreAncestors, Lineage, IsOrderly}
use Rattle.replay_spec.proofs.Ancestors.{Grown, put_grown, ancestors_grown, chain_is}
use Rattle.replay_spec.proofs.Numbered.{put_length}
use Rattle.replay_spec.proofs.Stand.{among_of}
use Rattle.replay_spec.proofs.Admitted.{page_stands, start_is_no_page, page_is_no_start}
use Rattle.machine_states.specs.Machine.{Suspended}
use Rattle.instance_book.specs.KeptStates.Kept.{IsKeptFrom}
use Rattle.instance_book.specs.KeptStates.Links.{links_at}
use Rattle.machine_states.specs.Laws.{IsStateOf}
use Rattle.machine_states.specs.Views.{Keeps, origin_of, state_of, segment_of}
use Rattle.machine_states.specs.declared.segment.Outcome.{Outcome}
use Rattle.machine_states.specs.declared.segment.Outcome.TheVariants.{Shown, Finished, Ended, Faulted, Fuel}
use Rattle.machine_states.specs.declared.segment.Segment.{Segment}
use Rattle.instance_book.specs.declared.change.Opening.{Opening}
use Rattle.instance_book.specs.declared.change.Extension.{Extension}
use Rattle.instance_book.specs.declared.change.Change.{Change}
use Rattle.instance_book.specs.declared.change.Change.TheVariants.{Opens, Extends, Ends, Finishes}
use Rattle.book_visits.specs.declared.ticket.Ticket.{Ticket}
use Rattle.instance_book.specs.Views.{page_of, script_in, no_script}
use Rattle.book_visits.specs.Views.{ticket_of}
use Rattle.instance_book.specs.Places.{Source, own, given, source_in, arena_of, kept_at, IsStateAt, IsNextIn, IsNextAt}
use Rattle.instance_book.specs.FrameCodec.Spelling.{StateHasBytes}
use Rattle.instance_book.specs.Changes.{OpensKept}
use Rattle.book_visits.specs.Changes.{HasStateBy, IsSpelledBy}
use Rattle.book_visits.specs.Fits.{GoesOnFrom, GoesOnBySource, FitsAs, IsStateOver}
use Rattle.instance_book.specs.Makes.{shelf_from}
use Rattle.book_visits.specs.Prepares.{OpensAs, ExtendsAs, KeepsStateOf}
use Rattle.book_visits.specs.Laws.{KeepsStateAs, AShownPageHasItsState}
use Rattle.instance_book.proofs.States.{chain_length}

keeps_state : (o : Outcome) (P : Suspended → Type 0) (d : Suspended) → Keeps o P → state_of o ≡ Some d → P d
keeps_state (Shown bytes kind state) P d k e = subst P (same_Some _ d e) k
keeps_state (Finished bytes) P d k e = absurd (cc)
keeps_state (Ended bytes) P d k e = absurd (cc)
keeps_state (Faulted f) P d k e = absurd (cc)
keeps_state (Fuel cost) P d k e = absurd (cc)

-- the state over a page's tape, or the one that is given to its number
state_there : (source : Source ⊤) (s : Named) (shelf n k : ℕ) (older : List Page) (p : Page) (t : Tape) (d : Suspended) → page_tape (home s shelf n) (reverse older) p ≡ t → p.number ≡ k
    → IsStateOver source s t k d → IsStateAt s (source_in s (shelf_from source shelf) n) older p d
state_there (own every) s shelf n k older p t d tape number is = subst (λ (x : Tape). IsStateOf (arena_of s.script) x d) (sym tape) is
state_there (given states) s shelf n k older p t d tape number is = (ap states number ∙ is.0, is.1)

-- the first page of a start
pub first_kept : (source : Source ⊤) (scripts : List Named) (b : Book) (t : Ticket) (k : ℕ) (s : Named) (effects : List Effect) (inside : List TxName) (d : Suspended) (o : Opening)
    → slice_get scripts t.script ≡ Some s → OpensAs t effects inside d o
    → IsStateOver source s (tape_for (start_visit b (ticket_of t) k s) (recorded (reads_of effects))) t.number d → StateHasBytes d → OpensKept scripts (shelf_from source b.shelf) o
first_kept source scripts b t k s effects inside d o found made state has =
    let its : script_in scripts o.instance.script ≡ s = ap (script_in scripts) made.script ∙ get_or_from_slice_get scripts t.script s no_script found in
    let p = page_of o.page in
    let parent : p.parent ≡ None = ap (λ (q : Page). q.parent) made.page in
    let number : o.page.number ≡ t.number = ap (λ (q : Page). q.number) made.page in
    let tape : page_tape (home s b.shelf o.page.number) [] p ≡ tape_for (start_visit b (ticket_of t) k s) (recorded (reads_of effects)) =
    ap (λ (n : ℕ). page_tape (home s b.shelf n) [] p) number ∙ ap (λ (q : Page). page_tape (home s b.shelf t.number) [] q) made.page in
    record {
      place = subst (λ (m : ℕ). m < length scripts) (sym made.script) (slice_get_within scripts t.script s found);
      pages = made.pages;
      shown = made.shown;
      state = rw its (record {
        lineage = record { ancestors = []; are = parent; few = omega arith };
        state = d;
        its = state_there source s b.shelf o.page.number t.number [] p (tape_for (start_visit b (ticket_of t) k s) (recorded (reads_of effects))) d tape number state;
        bytes = has;
        kept = made.state;
      });
    }

-- two lists with the same last one
same_last : {A : Type 0} (xs ys : List A) (x y : A) → xs ++ x ∷ [] ≡ ys ++ y ∷ [] → (xs ≡ ys) × (x ≡ y)
same_last [] [] x y e = (refl, cc)
same_last [] (z ∷ ys) x y e = absurd (let n = ap length e in omega (arith, n, length-append ys (y ∷ [])))
same_last (z ∷ xs) [] x y e = absurd (let n = ap length e in omega (arith, n, length-append xs (x ∷ [])))
same_last (z ∷ xs) (w ∷ ys) x y e =
    let first : z ≡ w = cc in
    let more : xs ++ x ∷ [] ≡ ys ++ y ∷ [] = cc in
    let rest = same_last xs ys x y more in
    let same : xs ≡ ys = rest.0 in (cc, rest.1)

-- what an answer to a page goes on from is the state of the page
module _ (b : Book) (t : next.Ticket) (at : Place) (h : Lineage at.instance.pages at.page) where
  page_chain : chain at.instance.pages at.page ≡ reverse h.ancestors ++ at.page ∷ []
  page_chain = chain_is at.instance.pages at.page h.ancestors h.are h.few ∙ reverse-append (at.page ∷ []) h.ancestors

  state_before : (o : Option Suspended) → GoesOnFrom (page_visit b t at) o
      → (d : Suspended) × ((o ≡ Some d) × IsStateAt at.instance.script (own (home at.instance.script b.shelf at.instance.number)) h.ancestors at.page d)
  state_before None from =
      absurd (let n = ap length (sym from ∙ page_chain) in omega (arith, n, length-append (reverse h.ancestors) (at.page ∷ [])))
  state_before (Some d) from =
      let same = same_last from.ancestors (reverse h.ancestors) from.page at.page (sym from.chain ∙ page_chain) in
      let a = arena_of at.instance.script.script in
      let home_at = home at.instance.script b.shelf at.instance.number in (
        d,
        (
          refl,
          subst (λ (q : Page). IsStateOf a (page_tape home_at (reverse h.ancestors) q) d) same.1
              (subst (λ (qs : List Page). IsStateOf a (page_tape home_at qs from.page) d) same.0 from.state),
        ),
      )

-- what an answer to a page goes on from by its ticket, and the links of its page
record GoesOnLinked (source : Source ⊤) (b : Book) (t : Ticket) (at : Place) (h : Lineage at.instance.pages at.page) : Type 0 where
  before : Suspended
  from : origin_of t.from ≡ Some before
  its : IsStateAt at.instance.script (source_in at.instance.script (shelf_from source b.shelf) at.instance.number) h.ancestors at.page before
  links : t.links ≡ links_at (length (chain at.instance.pages at.page))

goes_on_linked : (source : Source ⊤) (scripts : List Named) (b : Book) (t : Ticket) (at : Place) (h : Lineage at.instance.pages at.page) → GoesOnBySource source scripts b at t
    → GoesOnLinked source b t at h
goes_on_linked (own every) scripts b t at h fits =
    let before = state_before b (ticket_of t) at h (origin_of t.from) fits.from in
    record { before = before.0; from = before.1.0; its = before.1.1; links = fits.links }
goes_on_linked (given states) scripts b t at h fits = record { before = fits.before; from = fits.from; its = fits.state; links = fits.links }

-- the next page of an answer: it is new, and the page that it answers has its ancestors there
pub next_kept : (source : Source ⊤) (scripts : List Named) (b : Book) (t : Ticket) (at : Place) (k m : ℕ) (effects : List Effect) (inside : List TxName) (d : Suspended) (x : Extension)
    → Lineage at.instance.pages at.page → page_at t.number at.instance.pages ≡ None → instance_at k b.instances ≡ Some at.instance → page_at m at.instance.pages ≡ Some at.page → ExtendsAs t k m effects inside d x
    → IsStateOver source at.instance.script (tape_for (page_visit b (ticket_of t) at) (recorded (reads_of effects))) t.number d
    → StateHasBytes d → GoesOnBySource source scripts b at t → IsNextAt (shelf_from source b.shelf) b.instances x.instance x.show.page
next_kept source scripts b t at k m effects inside d x h free here shown made state has fits i found =
    let same : at.instance ≡ i = same_Some at.instance i (sym here ∙ (ap (λ (n : ℕ). instance_at n b.instances) (sym made.instance) ∙ found)) in
    subst (λ (j : Instance). IsNextIn (shelf_from source b.shelf) j (page_of x.show.page) (kept_at x.show.page)) same next
  where
    p : Page
    p = page_of x.show.page

    ps : List Page
    ps = at.instance.pages

    s : Named
    s = at.instance.script

    next : IsNextIn (shelf_from source b.shelf) at.instance p (kept_at x.show.page)
    next =
        let number : p.number ≡ t.number = ap (λ (q : Page). q.number) made.page in
        let parent : p.parent ≡ Some m = ap (λ (q : Page). q.parent) made.page in
        let unused : page_at p.number ps ≡ None = subst (λ (n : ℕ). page_at n ps ≡ None) (sym number) free in
        let grown : Grown ps (put_page p ps) = put_grown p ps unused in
        let mine : AreAncestors (put_page p ps) p (at.page ∷ h.ancestors) =
        (subst (λ (o : Option ℕ). parent_of (put_page p ps) o ≡ Some at.page) (sym parent) (grown m at.page shown), ancestors_grown ps (put_page p ps) grown at.page h.ancestors h.are) in
        let home_at : Home = home s b.shelf at.instance.number in
        let all : reverse (at.page ∷ h.ancestors) ≡ chain ps at.page = sym (chain_is ps at.page h.ancestors h.are h.few) in
        let tape : page_tape home_at (reverse (at.page ∷ h.ancestors)) p ≡ tape_for (page_visit b (ticket_of t) at) (recorded (reads_of effects)) =
        ap (λ (qs : List Page). page_tape home_at qs p) all ∙ ap (λ (q : Page). page_tape home_at (chain ps at.page) q) made.page in
        let goes = goes_on_linked source scripts b t at h fits in
        let links : t.links ≡ links_at (length (at.page ∷ h.ancestors)) = goes.links ∙ ap links_at (chain_length ps at.page h) in
        record {
          unused = unused;
          state = record {
            lineage = record { ancestors = at.page ∷ h.ancestors; are = mine; few = omega (arith, h.few, put_length (λ (q : Page). q.number) p ps unused) };
            state = d;
            its = state_there source s b.shelf at.instance.number t.number (at.page ∷ h.ancestors) p (tape_for (page_visit b (ticket_of t) at) (recorded (reads_of effects))) d tape number state;
            bytes = has;
            kept = (
              goes.before,
              (
                goes.its,
                subst (λ (n : ℕ). IsKeptFrom (Some goes.before) n d (kept_at x.show.page)) links
                    (subst (λ (o : Option Suspended). IsKeptFrom o t.links d (kept_at x.show.page)) goes.from made.state),
              ),
            );
          };
        }

-- by the kinds of admission and of change
module _ (all : List Named) (b : Book) (orderly : IsOrderly b) (t : Ticket) (out : Contains b.out t.number) (r : Segment) where
  start_keeps : (name : List ℕ) (a : Admission) → admit b (start name) ≡ a → refusal_of a ≡ None → FitsAs all b t a → KeepsStateAs b t a r
      → (c : Option Change) → KeepsStateOf t r (start name) c → IsSpelledBy c → HasStateBy all b.shelf b.instances c
  start_keeps name (resumes at) adm ok fits over c keeps has = absurd (start_is_no_page b name at adm)
  start_keeps name (refused why) adm ok fits over c keeps has = absurd (cc)
  start_keeps name (begins k s) adm ok fits over None keeps has = tt
  start_keeps name (begins k s) adm ok fits over (Some (Ends e)) keeps has = tt
  start_keeps name (begins k s) adm ok fits over (Some (Finishes f)) keeps has = tt
  start_keeps name (begins k s) adm ok fits over (Some (Opens o)) (inl none) has = absurd none
  start_keeps name (begins k s) adm ok fits over (Some (Opens o)) (inr from) has =
      first_kept (own tt) all b t k s (segment_of r).effects r.entered.items from.0 o fits.run.script from.1.1 (keeps_state r.outcome _ from.0 over from.1.0)
      (subst StateHasBytes from.1.1.told has)
  start_keeps name (begins k s) adm ok fits over (Some (Extends x)) (inl none) has = absurd none
  start_keeps name (begins k s) adm ok fits over (Some (Extends x)) (inr from) has = absurd from.1.1

  page_keeps : (name : List ℕ) (n : PageName) (a : Admission) → admit b (page name n) ≡ a → refusal_of a ≡ None → FitsAs all b t a → KeepsStateAs b t a r
      → (c : Option Change) → KeepsStateOf t r (page name n) c → IsSpelledBy c → HasStateBy all b.shelf b.instances c
  page_keeps name n (begins k s) adm ok fits over c keeps has = absurd (page_is_no_start b name n k s adm)
  page_keeps name n (refused why) adm ok fits over c keeps has = absurd (cc)
  page_keeps name n (resumes at) adm ok fits over None keeps has = tt
  page_keeps name n (resumes at) adm ok fits over (Some (Ends e)) keeps has = tt
  page_keeps name n (resumes at) adm ok fits over (Some (Finishes f)) keeps has = tt
  page_keeps name n (resumes at) adm ok fits over (Some (Opens o)) (inl none) has = absurd none
  page_keeps name n (resumes at) adm ok fits over (Some (Opens o)) (inr from) has = absurd from.1.1
  page_keeps name n (resumes at) adm ok fits over (Some (Extends x)) (inl none) has = absurd none
  page_keeps name n (resumes at) adm ok fits over (Some (Extends x)) (inr from) has =
      let stands = page_stands b name n at adm in
      let h = orderly.instances.lineage n.instance at.instance stands.here n.page at.page stands.shown in
      let free = orderly.instances.no_page t.number (inl (among_of b.out t.number out)) n.instance at.instance stands.here in
      next_kept (own tt) all b t at n.instance n.page (segment_of r).effects r.entered.items from.0 x h free stands.here stands.shown from.1.1 (keeps_state r.outcome _ from.0 over from.1.0) (subst StateHasBytes from.1.1.told has) fits

  keeps_by : (d : Destination) (a : Admission) → admit b d ≡ a → refusal_of a ≡ None → FitsAs all b t a → KeepsStateAs b t a r
      → (c : Option Change) → KeepsStateOf t r d c → IsSpelledBy c → HasStateBy all b.shelf b.instances c
  keeps_by (start name) a adm ok fits over c keeps has = start_keeps name a adm ok fits over c keeps has
  keeps_by (page name n) a adm ok fits over c keeps has = page_keeps name n a adm ok fits over c keeps has

pub a_shown_page_has_its_state : AShownPageHasItsState
a_shown_page_has_its_state all b orderly t out a adm ok fits r over c keeps has = keeps_by all b orderly t out r (target_of t.target) a adm ok fits over c keeps has
