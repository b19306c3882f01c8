-- Effects that are the same pass their test, and no others.
use Rattle.std.proofs.Common.{◌≡◌, ◌∙◌, ap, sym, List, Bool, true, false, refl}
use Rattle.std.specs.Prelude.{◌↔◌, IsTrue}
use Rattle.instance_cells.specs.Cells.{Effect}
use Rattle.replay_spec.specs.Recovery.{are_effects}
use Rattle.replay_spec.proofs.Tests.{effects_self}
use Rattle.book_redo.proofs.JournalSpec.Remaking.{effects_mean}

pub effects_test : (ds es : List Effect) (r : Bool) → (IsTrue r ↔ (ds ≡ es)) → r ≡ are_effects ds es
effects_test ds es true h = sym (ap (are_effects ds) (sym (h.0 refl)) ∙ effects_self ds)
effects_test ds es false h = by_test (are_effects ds es) refl
  where
    by_test : (t : Bool) → are_effects ds es ≡ t → false ≡ t
    by_test true e = h.1 (effects_mean ds es e)
    by_test false e = refl
