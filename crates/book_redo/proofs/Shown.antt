-- Whether a segment comes to the page of a record.
use Rattle.std.proofs.Common.{◌≡◌, ◌∙◌, ap, sym, ◌==◌, ◌&&◌, List, map, Some, None, Bool, true, false, refl, arith}
use Rattle.std.specs.Bool.{Decides}
use lib.Pointwise.{pointwise}
use Rattle.std.proofs.lemmas.Slice.Eq.{slice_eq-Decides}
use Rattle.std.proofs.lemmas.Bool.{and_from, and_parts}
use Rattle.std.proofs.lemmas.Option.{same_Some}
use Rattle.std.proofs.lemmas.Bool.Decides.{nat_tests}
use Rattle.script_value.specs.declared.outcome.TxName.{TxName}
use Rattle.script_nodes.specs.declared.script.SendKind.{SendKind}
use Rattle.instance_cells.specs.Cells.{Effect}
use Rattle.instance_cells.specs.Views.{effect_of}
use Rattle.replay_spec.specs.Names.{is_name}
use Rattle.replay_spec.specs.Admission.{when}
use Rattle.replay_spec.specs.Recovery.{are_effects, are_names, is_kind, shows_so, again}
use Rattle.replay_spec.proofs.Tests.{effects_self, names_self, kind_self}
use Rattle.replay_spec.proofs.Again.{passes}
use Rattle.machine_states.specs.Views.{outcome_of, segment_of}
use Rattle.machine_states.specs.declared.segment.Outcome.{Outcome}
use Rattle.machine_states.specs.declared.segment.Outcome.TheVariants.{Shown, Finished, Ended, Faulted, Fuel}
use Rattle.machine_states.specs.declared.segment.Segment.{Segment}
use Rattle.journal_records.specs.Views.{effects_in}
use Rattle.journal_records.specs.declared.records.PageRecord.{PageRecord}
use Rattle.replay_spec.proofs.Tests.{kind_means, name_means, names_mean}
use Rattle.journal_spec.proofs.Remaking.{effects_mean}
use Rattle.book_redo.specs.Runs.{kind_in, ShowsSo}

-- ---- what passes the tests is the same

-- so `==` tells of two lists of names whether they are the same
pub names_decide : (ss ts : List TxName) (r : Bool) → r ≡ pointwise is_name ss ts → Decides r (ss ≡ ts)
names_decide ss ts r e = slice_eq-Decides decides ss ts r e
  where
    name_self : (s : TxName) → is_name s s ≡ true
    name_self s = and_from (s.ticket == s.ticket) (s.entry == s.entry) (grind (arith, nat_tests)) (grind (arith, nat_tests))

    decides : (s t : TxName) → Decides (is_name s t) (s ≡ t)
    decides s t = (name_means s t, λ same. ap (is_name s) (sym same) ∙ name_self s)

-- ---- the segment of a run

abbrev tests : PageRecord → SendKind → Segment → Bool
tests p k r = is_kind k p.kind && are_effects (map effect_of r.effects.items) (effects_in p.effects) && are_names r.left.items p.left.items

shown_by : (p : PageRecord) (r : Segment) (o : Outcome) → kind_in o ≡ Some p.kind → map effect_of r.effects.items ≡ effects_in p.effects → r.left.items ≡ p.left.items
    → shows_so (outcome_of o) p.kind (effects_in p.effects) p.left.items (segment_of r) ≡ Some r.entered.items
shown_by p r (Shown bytes kind state) k es ns =
    let same : kind ≡ p.kind = same_Some kind p.kind k in
    let effects : are_effects (map effect_of r.effects.items) (effects_in p.effects) ≡ true =
    ap (λ (xs : List Effect). are_effects xs (effects_in p.effects)) es ∙ effects_self (effects_in p.effects) in
    let names : are_names r.left.items p.left.items ≡ true = ap (λ (xs : List TxName). are_names xs p.left.items) ns ∙ names_self p.left.items in
    let its : is_kind kind p.kind ≡ true = ap (λ (x : SendKind). is_kind x p.kind) same ∙ kind_self p.kind in
    passes (tests p kind r) r.entered.items
    (and_from (is_kind kind p.kind && are_effects (map effect_of r.effects.items) (effects_in p.effects)) (are_names r.left.items p.left.items)
    (and_from (is_kind kind p.kind) (are_effects (map effect_of r.effects.items) (effects_in p.effects)) its effects) names)
shown_by p r (Finished bytes) k es ns = absurd (let no : ⊥ = cc in no)
shown_by p r (Ended bytes) k es ns = absurd (let no : ⊥ = cc in no)
shown_by p r (Faulted f) k es ns = absurd (let no : ⊥ = cc in no)
shown_by p r (Fuel cost) k es ns = absurd (let no : ⊥ = cc in no)

-- a segment that comes to the page is so by the definitions
pub comes_so : (p : PageRecord) (r : Segment) → ShowsSo p r → again p.kind (effects_in p.effects) p.left.items (segment_of r) ≡ Some r.entered.items
comes_so p r so = shown_by p r r.outcome so.kind so.effects so.left

never_by : (p : PageRecord) (r : Segment) (o : Outcome) → (kind_in o ≡ Some p.kind → map effect_of r.effects.items ≡ effects_in p.effects → r.left.items ≡ p.left.items → ⊥)
    → shows_so (outcome_of o) p.kind (effects_in p.effects) p.left.items (segment_of r) ≡ None
never_by p r (Shown bytes kind state) never = by_test (tests p kind r) refl
  where
    by_test : (t : Bool) → tests p kind r ≡ t → when t r.entered.items ≡ None
    by_test true e =
        let x = and_parts (is_kind kind p.kind && are_effects (map effect_of r.effects.items) (effects_in p.effects)) (are_names r.left.items p.left.items) e in
        let y = and_parts (is_kind kind p.kind) (are_effects (map effect_of r.effects.items) (effects_in p.effects)) x.0 in
        absurd
        (never (ap (λ (k : SendKind). Some k) (kind_means kind p.kind y.0)) (effects_mean (map effect_of r.effects.items) (effects_in p.effects) y.1)
        (names_mean r.left.items p.left.items x.1))
    by_test false e = refl
never_by p r (Finished bytes) never = refl
never_by p r (Ended bytes) never = refl
never_by p r (Faulted f) never = refl
never_by p r (Fuel cost) never = refl

-- and one that does not is not
pub comes_not : (p : PageRecord) (r : Segment) → ¬ (ShowsSo p r) → again p.kind (effects_in p.effects) p.left.items (segment_of r) ≡ None
comes_not p r not = never_by p r r.outcome (λ kind effects left. not (record { kind = kind; effects = effects; left = left }))
