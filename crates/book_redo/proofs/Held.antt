-- Whether the record of a change lands.
use Rattle.std.proofs.Common.{◌≡◌, ◌∙◌, ap, sym, subst, ℕ, Bool, true, false, ◌&&◌, List, [], Option, Some, None, is_some, option_map, if◌then◌else◌, slice_get, Result, Ok, Err, IfOk, refl}
use Rattle.std.specs.declared.alloc.AllocError.{AllocError}
use Rattle.std.specs.Borrow.{Bor}
use Rattle.script_value.specs.Val.{Val}
use Rattle.script_value.specs.declared.outcome.TxName.{TxName}
use Rattle.script_nodes.specs.Setup.{Named, Library}
use Rattle.instance_cells.specs.Cells.{Effect}
use Rattle.replay_spec.specs.Book as spec
use Rattle.replay_spec.specs.Book.{Change, opens, extends, ends, finishes}
use Rattle.replay_spec.specs.Admission.{◌>>=◌, Place, when}
use Rattle.replay_spec.specs.Recovery.{can_go, if_can_go, page_of_numbers}
use Rattle.journal_records.specs.Fields as fields
use Rattle.journal_records.specs.Records.{changes}
use Rattle.journal_records.specs.Views.{origin_of, page_change}
use Rattle.journal_records.specs.declared.records.PageRecord.{PageRecord}
use Rattle.journal_spec.specs.Retaking.{if_held, held}
use Rattle.instance_book.specs.declared.book.Book.{Book}
use Rattle.instance_book.specs.declared.numbered.Numbered.{Numbered}
use Rattle.instance_book.specs.declared.instance.KeptInstance.{KeptInstance}
use Rattle.instance_book.specs.Views.{no_journal, effects_in}
use Rattle.instance_book.specs.Standing.{book_under}
use Rattle.book_redo.specs.Redo.{are_held, opens_so, EndsIn}
use Rattle.book_redo.specs.Lands.{StartLands, AnswerLands, IsPageLanding, TellsLanding}
use Rattle.book_redo.proofs.Landed.{opening_in, opening_is, extension_in, extension_is}

-- ---- two tests, and one of both

pub told_so : {A : Type 0} (t : Bool) (x : A) → t ≡ is_some (if t then Some x else None)
told_so true x = refl
told_so false x = refl

both_tests : {A B : Type 0} (a b : Bool) (x : A) (y : B) → is_some (if a then when b x else None) ≡ is_some (if a && b then Some y else None)
both_tests true true x y = refl
both_tests true false x y = refl
both_tests false b x y = refl

each_test : {A B : Type 0} (a b : Bool) (x : A) (y : B) → is_some (if a then when b x else None) ≡ is_some (if a then (if b then Some y else None) else None)
each_test true true x y = refl
each_test true false x y = refl
each_test false b x y = refl

-- ---- a start

start_held : (b : spec.Book) (k : ℕ) (r : PageRecord) (inside : List TxName)
    → is_some (held b (opens (opening_in r k)) inside) ≡ is_some (slice_get b.scripts k >>= (λ s. if opens_so s r then Some s else None))
start_held b k r inside = by_script (slice_get b.scripts k)
  where
    by_script : (o : Option Named)
        → is_some (o >>= (λ s. if_can_go r.evicted.items [] (if_held (effects_in r) s.script.cells inside))) ≡ is_some (o >>= (λ s. if opens_so s r then Some s else None))
    by_script None = refl
    by_script (Some s) = both_tests (can_go r.evicted.items []) (are_held (effects_in r) s.script.cells) inside s

pub of_start : (library : Library) (b : Book) (r : PageRecord) (k : ℕ) (result : Result Bool AllocError) → origin_of r.origin ≡ fields.start k → IfOk result (StartLands library k r)
    → IfOk result (IsPageLanding library b (page_change r))
of_start library b r k (Err e) origin lands = tt
of_start library b r k (Ok t) origin lands = λ inside.
    subst (λ (c : Change). t ≡ is_some (held (book_under library b) c inside)) (sym (opening_is r k origin)) (lands ∙ sym (start_held (book_under library b) k r inside))

-- where the setup has no such script
pub no_start : (library : Library) (k : ℕ) (r : PageRecord) → slice_get library.setup k ≡ None → StartLands library k r false
no_start library k r none = sym (ap (λ (o : Option Named). is_some (o >>= (λ s. if opens_so s r then Some s else None))) none)

pub a_start : (library : Library) (k : ℕ) (r : PageRecord) (s : Named) (t : Bool) → slice_get library.setup k ≡ Some s → opens_so s r ≡ t → StartLands library k r t
a_start library k r s t found is =
    told_so t s
    ∙ (ap (λ (u : Bool). is_some (if u then Some s else None)) (sym is) ∙ sym (ap (λ (o : Option Named). is_some (o >>= (λ x. if opens_so x r then Some x else None))) found))

-- ---- an answer

answer_held : (b : spec.Book) (k m : ℕ) (answer : Val) (r : PageRecord) (inside : List TxName)
    → is_some (held b (extends (extension_in r k m answer)) inside)
    ≡ is_some (page_of_numbers b k m >>= (λ at. if can_go r.evicted.items at.instance.used then (if are_held (effects_in r) at.instance.cells then Some at else None) else None))
answer_held b k m answer r inside = by_place (page_of_numbers b k m)
  where
    by_place : (o : Option Place)
        → is_some (o >>= (λ at. if_can_go r.evicted.items at.instance.used (if_held (effects_in r) at.instance.cells inside)))
        ≡ is_some (o >>= (λ at. if can_go r.evicted.items at.instance.used then (if are_held (effects_in r) at.instance.cells then Some at else None) else None))
    by_place None = refl
    by_place (Some at) = each_test (can_go r.evicted.items at.instance.used) (are_held (effects_in r) at.instance.cells) inside at

pub of_answer : (library : Library) (b : Book) (r : PageRecord) (k m : ℕ) (answer : Val) (t : Bool) → origin_of r.origin ≡ fields.answered k m answer → AnswerLands library b k m r t
    → IsPageLanding library b (page_change r) t
of_answer library b r k m answer t origin lands inside =
    subst (λ (c : Change). t ≡ is_some (held (book_under library b) c inside)) (sym (extension_is r k m answer origin)) (lands ∙ sym (answer_held (book_under library b) k m answer r inside))

pub an_answer : (library : Library) (b : Book) (k m : ℕ) (r : PageRecord) (o : Option Place) (t : Bool) → o ≡ page_of_numbers (book_under library b) k m
    → t ≡ is_some (o >>= (λ at. if can_go r.evicted.items at.instance.used then (if are_held (effects_in r) at.instance.cells then Some at else None) else None))
    → AnswerLands library b k m r t
an_answer library b k m r o t is so =
    so ∙ ap (λ (p : Option Place). is_some (p >>= (λ at. if can_go r.evicted.items at.instance.used then (if are_held (effects_in r) at.instance.cells then Some at else None) else None))) is

pub taken_so : (r : PageRecord) (at : Place) (t : Bool) → t ≡ (can_go r.evicted.items at.instance.used && are_held (effects_in r) at.instance.cells)
    → t ≡ is_some (if can_go r.evicted.items at.instance.used then (if are_held (effects_in r) at.instance.cells then Some at else None) else None)
taken_so r at t is = is ∙ by_tests (can_go r.evicted.items at.instance.used) (are_held (effects_in r) at.instance.cells)
  where
    by_tests : (a b : Bool) → (a && b) ≡ is_some (if a then (if b then Some at else None) else None)
    by_tests true true = refl
    by_tests true false = refl
    by_tests false b = refl

-- ---- an ending and a finish

pub ended_lands : (library : Library) (b : Book) (k m : ℕ) (es : List Effect) (o : Option (Bor (Numbered KeptInstance))) (inside : List TxName) → EndsIn b k m es o
    → is_some o ≡ is_some (page_of_numbers (book_under library b) k m >>= (λ at. if_held es at.instance.cells []))
ended_lands library b k m es (Some i) inside is = sym (ap (λ (o : Option (List TxName)). is_some o) (is.so library no_journal))
ended_lands library b k m es None inside is = sym (ap (λ (o : Option (List TxName)). is_some o) (is library no_journal))

-- the record of one lands where its page is there and its effects are held
pub tells_ended : (library : Library) (b : Book) (c : Change) (k m : ℕ) (es : List Effect) (again t : Bool) (o : Option (Bor (Numbered KeptInstance)))
    → ((x : spec.Book) (inside : List TxName) → held x c inside ≡ (page_of_numbers x k m >>= (λ at. if_held es at.instance.cells []))) → again ≡ false → EndsIn b k m es o → t ≡ is_some o
    → TellsLanding library b (changes c None) again t
tells_ended library b c k m es again t o held_is new ends_so is inside =
    is
    ∙ (ended_lands library b k m es o inside ends_so
    ∙ (sym (ap (λ (x : Option (List TxName)). is_some x) (held_is (book_under library b) inside))
    ∙ ap (λ (y : Bool). is_some (if y then None else held (book_under library b) c inside)) (sym new)))
