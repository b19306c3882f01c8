-- A pair has two values.
use Rattle.std.proofs.Common.{◌≡◌, List, [], ◌∷◌, map, length, None, refl}
use Rattle.script_value.specs.Val.{vals_of}
use Rattle.script_value.specs.Views.{meaning}
use Rattle.script_value.specs.declared.value.Value.{Value}
use Rattle.prim_spec.specs.Bindings.{pair_in}

pub no_pair : (xs : List Value) → (length xs ≡ 2 → ⊥) → None ≡ pair_in (vals_of (map meaning xs))
no_pair [] h = refl
no_pair (x ∷ []) h = refl
no_pair (x ∷ y ∷ []) h = absurd (h refl)
no_pair (x ∷ y ∷ z ∷ xs) h = refl
