-- What a page goes on from.
use Rattle.std.proofs.Common.{◌≡◌, ◌∙◌, ap, sym, subst, ℕ, Option, Some, None, IfSome, Result, Ok, Err, slice_get, refl}
use Rattle.std.specs.Prelude.{IfOk}
use Rattle.std.specs.declared.alloc.AllocError.{AllocError}
use Rattle.std.proofs.lemmas.Option.{get_or_from_slice_get, same_Some}
use Rattle.script_nodes.specs.Setup.{Named, Library}
use Rattle.script_nodes.specs.Views.{named_of}
use Rattle.replay_spec.specs.Book.{Opening, Extension, Change, opens, extends}
use Rattle.replay_spec.specs.Admission.{◌>>=◌, Place}
use Rattle.replay_spec.specs.Next as next
use Rattle.replay_spec.specs.Next.{page_visit}
use Rattle.replay_spec.specs.Recovery.{page_of_numbers}
use Rattle.machine_states.specs.Machine.{Suspended}
use Rattle.script_nodes.specs.Arena.{Arena}
use Rattle.machine_states.specs.Views.{origin_of}
use Rattle.machine_states.specs.declared.segment.Origin.{Origin}
use Rattle.frame_codec.specs.Forms.{IsStoredBefore}
use Rattle.instance_book.specs.KeptStates.Links.{next_links, behind_at}
use Rattle.journal_records.specs.Fields as fields
use Rattle.journal_records.specs.Views as told
use Rattle.journal_records.specs.Views.{page_change}
use Rattle.journal_records.specs.declared.records.PageRecord.{PageRecord}
use Rattle.script_value.specs.Val.{Val}
use Rattle.instance_book.specs.declared.book.Book.{Book}
use Rattle.instance_book.specs.declared.place.Place as lent
use Rattle.instance_book.specs.Fits.{IsStoredScript, IsStoredOrigin}
use Rattle.instance_book.specs.Views.{page_of, pages_of, script_in, no_script}
use Rattle.instance_book.specs.Places.{own, given, source_in, kept_at, AreStatesOf, IsOriginIn}
use Rattle.instance_book.specs.Makes.{shelf_from, HasItsStates}
use Rattle.instance_book.specs.Standing.{place_of, book_under, IsPlaceOf, IsPlacedAt, IsKeptWhere}
use Rattle.instance_book.proofs.States.{links_next}
use Rattle.instance_book.specs.Visits.{GoesOnFrom}
use Rattle.instance_book.proofs.Going.{origin_goes_on}
use Rattle.book_redo.proofs.Landed.{opening_in, opening_is, extension_in, extension_is}
use Rattle.journal_spec.specs.Before.{state_at, links_behind, before_told}
use Rattle.journal_spec.specs.Retaking.{arena_of, script_for}
use Rattle.book_redo.specs.declared.behind.Behind.{Behind}
use Rattle.book_redo.specs.Behind.{IsStoredFrom, StartsBehind, AnswersBehind, TellsBehind, GoesOnOwn, AnswersOwn, OwnsBehind, OwnsAnswer}

-- ---- a start

starts_tell : (library : Library) (b : Book) (k : ℕ) (o : Option Behind) → StartsBehind library k o → (x : Opening) → x.script ≡ k → TellsBehind library b (opens x) o
starts_tell library b k None none x is = ap (λ (n : ℕ). slice_get library.setup n) is ∙ none
starts_tell library b k (Some y) start x is = λ earlier states.
    record {
      script = ap (λ (n : ℕ). slice_get library.setup n) is ∙ start.present;
      before = sym (ap (λ (n : ℕ). behind_at n (origin_of y.from)) start.links_are);
      stored = subst (λ (d : Option Suspended). IsStoredBefore (arena_of (named_of y.script.now).script) d) (sym start.none) tt;
    }

-- a start goes on from nothing, which asks nothing of its script
pub start_stored : (library : Library) (k : ℕ) (o : Option Behind) → StartsBehind library k o → IfSome o IsStoredFrom
start_stored library k None none = tt
start_stored library k (Some y) start = subst (λ (d : Option Suspended). IsStoredBefore (arena_of (named_of y.script.now).script) d) (sym start.none) tt

pub of_start : (library : Library) (b : Book) (r : PageRecord) (k : ℕ) (o : Option Behind) → told.origin_of r.origin ≡ fields.start k → StartsBehind library k o
    → TellsBehind library b (page_change r) o
of_start library b r k o e starts = subst (λ (c : Change). TellsBehind library b c o) (sym (opening_is r k e)) (starts_tell library b k o starts (opening_in r k) refl)

-- ---- an answer

of_answer : (library : Library) (b : Book) (r : PageRecord) (k m : ℕ) (answer : Val) (o : Option Behind) → told.origin_of r.origin ≡ fields.answered k m answer → AnswersBehind library b k m o
    → TellsBehind library b (page_change r) o
of_answer library b r k m answer o e answers =
    subst (λ (c : Change). TellsBehind library b c o) (sym (extension_is r k m answer e)) (answers (extension_in r k m answer) refl refl)

pub of_answer_if : (library : Library) (b : Book) (r : PageRecord) (k m : ℕ) (answer : Val) (x : Result (Option Behind) AllocError) → told.origin_of r.origin ≡ fields.answered k m answer
    → IfOk x (AnswersBehind library b k m) → IfOk x (TellsBehind library b (page_change r))
of_answer_if library b r k m answer (Ok o) e answers = of_answer library b r k m answer o e answers
of_answer_if library b r k m answer (Err error) e answers = tt

-- the page of an extension is that of these numbers
at_numbers : (library : Library) (b : Book) (instance page : ℕ) (x : Extension) → x.instance ≡ instance → x.page ≡ page
    → page_of_numbers (book_under library b) x.instance x.page ≡ page_of_numbers (book_under library b) instance page
at_numbers library b instance page x k m =
    ap (λ (n : ℕ). page_of_numbers (book_under library b) n x.page) k ∙ ap (λ (n : ℕ). page_of_numbers (book_under library b) instance n) m

-- where no such page stands it goes on from nothing
pub answer_none : (library : Library) (b : Book) (instance page : ℕ) → IsPlaceOf library b instance page None → AnswersBehind library b instance page None
answer_none library b instance page none x k m =
    ap (λ (p : Option Place). p >>= (λ at. Some at.instance.script)) (at_numbers library b instance page x k m ∙ sym none)

pub stored_origin : (a : Arena) (o : Option Suspended) → IsStoredScript a o → IsStoredBefore a o
stored_origin a None h = tt
stored_origin a (Some d) h = h

-- the page that stands under the numbers of an answer
found_at : (library : Library) (b : Book) (instance page : ℕ) (place : lent.Place) → IsPlaceOf library b instance page (Some place) → (x : Extension) → x.instance ≡ instance → x.page ≡ page
    → page_of_numbers (book_under library b) x.instance x.page ≡ Some (place_of library.all place)
found_at library b instance page place is x k m = at_numbers library b instance page x k m ∙ sym is

-- the script of a place is its instance's
script_is : (library : Library) (place : lent.Place) → IsPlacedAt library.all place → script_in library.all place.instance.now.item.script ≡ named_of place.script.now
script_is library place placed = get_or_from_slice_get library.all place.instance.now.item.script (named_of place.script.now) no_script placed

script_there : (library : Library) (b : Book) (place : lent.Place) (x : Extension) → IsPlacedAt library.all place
    → page_of_numbers (book_under library b) x.instance x.page ≡ Some (place_of library.all place) → script_for (book_under library b) (extends x) ≡ Some (named_of place.script.now)
script_there library b place x placed found =
    ap (λ (p : Option Place). p >>= (λ y. Some y.instance.script)) found ∙ ap (λ (y : Named). Some y) (script_is library place placed)

-- it goes on from the state of the page, where the links ask for it
pub answer_some : (library : Library) (b : Book) (instance page : ℕ) (place : lent.Place) (from : Origin) (links : ℕ)
    → IsPlaceOf library b instance page (Some place) → IsPlacedAt library.all place → IsKeptWhere library b (Some place)
    → links ≡ next_links place.page.now.item.state.links
    → IsOriginIn (named_of place.script.now) place.instance.now.item.pages place.page.now from → IsStoredOrigin (named_of place.script.now) from
    → AnswersBehind library b instance page (Some (record { from = from; links = links; script = place.script }))
answer_some library b instance page place from links is placed keeps so origin stored x k m earlier states =
    record { script = script_there library b place x placed found; before = before; stored = stored_origin (arena_of (named_of place.script.now).script) (origin_of from) stored }
  where
    are : AreStatesOf (named_of place.script.now) place.instance.now.item.pages place.page.now
    are =
        let kept = keeps (given (λ n. state_at n earlier.states)) states in
        record { home = source_in (named_of place.script.now) (shelf_from (given (λ n. state_at n earlier.states)) b.shelf) place.instance.now.number; all = kept.pages; own = kept.state }

    found : page_of_numbers (book_under library b) x.instance x.page ≡ Some (place_of library.all place)
    found = found_at library b instance page place is x k m

    before : before_told earlier (book_under library b) (extends x) ≡ behind_at links (origin_of from)
    before =
        let kept = keeps (given (λ n. state_at n earlier.states)) states in
        let many : next_links place.page.now.item.state.links ≡ links_behind (place_of library.all place) =
        links_next (named_of place.script.now) (given (λ n. state_at n earlier.states)) (pages_of place.instance.now.item.pages) (page_of place.page.now) (kept_at place.page.now) kept.state in
        ap (λ (p : Option Place). p >>= (λ y. behind_at (links_behind y) (state_at y.page.number earlier.states))) found
        ∙ (ap (λ (n : ℕ). behind_at n (state_at place.page.now.number earlier.states)) (sym (so ∙ many))
        ∙ ap (behind_at links) (kept.state.its.0 ∙ sym (origin are)))

-- ---- where each page has the state of its chain

start_owns : (library : Library) (b : Book) (k : ℕ) (o : Option Behind) → StartsBehind library k o → (x : Opening) → x.script ≡ k → IfSome o (GoesOnOwn library b (opens x))
start_owns library b k None none x is = tt
start_owns library b k (Some y) start x is =
    record {
      script = ap (λ (n : ℕ). slice_get library.setup n) is ∙ start.present;
      stored = subst (λ (d : Option Suspended). IsStoredBefore (arena_of (named_of y.script.now).script) d) (sym start.none) tt;
      from = start.none;
    }

pub own_start : (library : Library) (b : Book) (r : PageRecord) (k : ℕ) (o : Option Behind) → told.origin_of r.origin ≡ fields.start k → StartsBehind library k o
    → IfSome o (GoesOnOwn library b (page_change r))
own_start library b r k o e starts = subst (λ (c : Change). IfSome o (GoesOnOwn library b c)) (sym (opening_is r k e)) (start_owns library b k o starts (opening_in r k) refl)

own_answer : (library : Library) (b : Book) (r : PageRecord) (k m : ℕ) (answer : Val) (o : Option Behind) → told.origin_of r.origin ≡ fields.answered k m answer → IfSome o (AnswersOwn library b k m)
    → IfSome o (GoesOnOwn library b (page_change r))
own_answer library b r k m answer None e answers = tt
own_answer library b r k m answer (Some y) e answers =
    subst (λ (c : Change). GoesOnOwn library b c y) (sym (extension_is r k m answer e)) (answers (extension_in r k m answer) refl refl)

pub own_answer_if : (library : Library) (b : Book) (r : PageRecord) (k m : ℕ) (answer : Val) (x : Result (Option Behind) AllocError) → told.origin_of r.origin ≡ fields.answered k m answer
    → IfOk x (OwnsAnswer library b k m) → IfOk x (OwnsBehind library b (page_change r))
own_answer_if library b r k m answer (Ok o) e answers = λ has. own_answer library b r k m answer o e (answers has)
own_answer_if library b r k m answer (Err error) e answers = tt

-- an answer goes on from the state of the page's chain
pub answer_owns : (library : Library) (b : Book) (instance page : ℕ) (place : lent.Place) (from : Origin) (links : ℕ)
    → IsPlaceOf library b instance page (Some place) → IsPlacedAt library.all place → IsKeptWhere library b (Some place)
    → IsOriginIn (named_of place.script.now) place.instance.now.item.pages place.page.now from → IsStoredOrigin (named_of place.script.now) from → HasItsStates library.all b
    → AnswersOwn library b instance page (record { from = from; links = links; script = place.script })
answer_owns library b instance page place from links is placed keeps origin stored has x k m =
    record { script = script_there library b place x placed found; stored = stored_origin (arena_of named.script) (origin_of from) stored; from = goes }
  where
    named : Named
    named = named_of place.script.now

    found : page_of_numbers (book_under library b) x.instance x.page ≡ Some (place_of library.all place)
    found = found_at library b instance page place is x k m

    goes : (at : Place) → page_of_numbers (book_under library b) x.instance x.page ≡ Some at → (t : next.Ticket) → GoesOnFrom (page_visit (book_under library b) t at) (origin_of from)
    goes at there t =
        let kept = keeps (own tt) has in
        let are : AreStatesOf named place.instance.now.item.pages place.page.now =
        record { home = own (next.home named b.shelf place.instance.now.number); all = kept.pages; own = kept.state } in
        let same : place_of library.all place ≡ at = same_Some (place_of library.all place) at (sym found ∙ there) in
        subst (λ (z : Place). GoesOnFrom (page_visit (book_under library b) t z) (origin_of from)) same
        (origin_goes_on (book_under library b) t (place_of library.all place) named (origin_of from) (kept_at place.page.now) (script_is library place placed) kept.state (origin are))
