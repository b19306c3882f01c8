-- A record of format 1 whose script does not come to its page again is passed over.
use Rattle.std.proofs.Common.{◌≡◌, ◌∙◌, ap, sym, subst, ℕ, Bool, true, false, List, [], Option, Some, None, if◌then◌else◌, slice_get, refl}
use Rattle.script_value.specs.declared.outcome.TxName.{TxName}
use Rattle.script_nodes.specs.Setup.{Named, Library}
use Rattle.replay_spec.specs.Book as spec
use Rattle.replay_spec.specs.Book.{Opening, Extension, Change, opens, extends, Use}
use Rattle.replay_spec.specs.Admission.{◌>>=◌, Place}
use Rattle.replay_spec.specs.Next.{comes_to}
use Rattle.replay_spec.specs.Recovery.{can_go, if_can_go, is_repeated, number_in, page_of_numbers, opening_visit, extension_visit, again, remade, taken_in}
use Rattle.replay_spec.specs.Tape.{present}
use Rattle.server_limits.specs.Limits.{most_fuel}
use Rattle.instance_book.specs.declared.book.Book.{Book}
use Rattle.instance_book.specs.Views.{Beside, book_of}
use Rattle.instance_book.specs.Standing.{book_under}
use Rattle.journal_records.specs.Fields as fields
use Rattle.journal_records.specs.Views.{origin_of, page_change}
use Rattle.journal_records.specs.declared.records.PageRecord.{PageRecord}
use Rattle.journal_spec.specs.Before.{Made, plain}
use Rattle.journal_spec.specs.Retaking.{retaken}
use Rattle.journal_spec.specs.Making.{made}
use Rattle.journal_spec.specs.Lengths.{own_told}
use Rattle.book_redo.proofs.Landed.{opening_in, opening_is, extension_in, extension_is}
use Rattle.book_redo.specs.Again.{comes_again}
use Rattle.book_redo.specs.Renewing.{IsPassedOver}

-- ---- whichever pages go

none_goes : (ns : List ℕ) (us : List Use) → if_can_go ns us None ≡ None
none_goes ns us = by_test (can_go ns us)
  where
    by_test : (t : Bool) → (if t then (let none : Option (List TxName) = None in none) else None) ≡ None
    by_test true = refl
    by_test false = refl

opens_never : (b : spec.Book) (o : Opening) → comes_again b (opens o) ≡ None → remade b (opens o) ≡ None
opens_never b o = by_script (slice_get b.scripts o.script)
  where
    names : Named → Option (List TxName)
    names s = again o.kind o.effects o.left (comes_to (opening_visit b o s) (present s.script.cells most_fuel))

    by_script : (x : Option Named) → (x >>= names) ≡ None → (x >>= (λ s. if_can_go o.evicted [] (names s))) ≡ None
    by_script None e = refl
    by_script (Some s) e = ap (if_can_go o.evicted []) e ∙ none_goes o.evicted []

extends_never : (b : spec.Book) (x : Extension) → comes_again b (extends x) ≡ None → remade b (extends x) ≡ None
extends_never b x = by_place (page_of_numbers b x.instance x.page)
  where
    names : Place → Option (List TxName)
    names at = again x.kind x.effects x.left (comes_to (extension_visit b x at) (present at.instance.cells most_fuel))

    by_place : (p : Option Place) → (p >>= names) ≡ None → (p >>= (λ at. if_can_go x.evicted at.instance.used (names at))) ≡ None
    by_place None e = refl
    by_place (Some at) e = ap (if_can_go x.evicted at.instance.used) e ∙ none_goes x.evicted at.instance.used

-- ---- a run looks at no journal

opens_beside : (library : Library) (beside : Beside) (b : Book) (o : Opening) → remade (book_of library beside b) (opens o) ≡ remade (book_under library b) (opens o)
opens_beside library beside b o = refl

extends_beside : (library : Library) (beside : Beside) (b : Book) (x : Extension) → remade (book_of library beside b) (extends x) ≡ remade (book_under library b) (extends x)
extends_beside library beside b x = refl

-- ---- it is passed over

never_taken : (m : Made) (c : Change) → remade m.book c ≡ None → taken_in (plain m) c ≡ None
never_taken m c none = by_test (is_repeated (number_in c) m.earlier.seen)
  where
    by_test : (t : Bool) → (if t then None else remade m.book c) ≡ None
    by_test true = refl
    by_test false = none

passed_so : (library : Library) (b : Book) (c : Change) (state : Option (List ℕ)) → ((beside : Beside) → remade (book_of library beside b) c ≡ None) → IsPassedOver 1 library b c state
passed_so library b c state never m beside place n is states =
    ap (λ (o : Option (List TxName)). made (retaken n c o (own_told m.book c) m)) (never_taken m c (ap (λ (y : spec.Book). remade y c) is ∙ never beside))

pub passed_again : (library : Library) (b : Book) (r : PageRecord) (o : fields.Origin) (state : Option (List ℕ)) → origin_of r.origin ≡ o → comes_again (book_under library b) (page_change r) ≡ None
    → IsPassedOver 1 library b (page_change r) state
passed_again library b r (fields.start k) state e never =
    subst (λ (c : Change). IsPassedOver 1 library b c state) (sym (opening_is r k e))
    (passed_so library b (opens (opening_in r k)) state
    (λ beside. opens_beside library beside b (opening_in r k) ∙ opens_never (book_under library b) (opening_in r k) (sym (ap (comes_again (book_under library b)) (opening_is r k e)) ∙ never)))
passed_again library b r (fields.answered k m answer) state e never =
    subst (λ (c : Change). IsPassedOver 1 library b c state) (sym (extension_is r k m answer e))
    (passed_so library b (extends (extension_in r k m answer)) state
    (λ beside. extends_beside library beside b (extension_in r k m answer)
    ∙ extends_never (book_under library b) (extension_in r k m answer) (sym (ap (comes_again (book_under library b)) (extension_is r k m answer e)) ∙ never)))

-- its number counts
pub page_number : (r : PageRecord) (o : fields.Origin) → origin_of r.origin ≡ o → number_in (page_change r) ≡ Some r.ticket
page_number r (fields.start k) e = ap (λ (c : Change). number_in c) (opening_is r k e)
page_number r (fields.answered k m answer) e = ap (λ (c : Change). number_in c) (extension_is r k m answer e)
