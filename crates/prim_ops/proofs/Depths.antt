-- Joined lists nest as deep as the deepest of them.
use Rattle.std.proofs.Common.{◌≡◌, true, List, [], ◌∷◌, ◌++◌, max, refl, arith}
use Rattle.std.specs.Prelude.{nat_lt}
use Rattle.std.proofs.lemmas.Bool.Decides.{nat_tests}
use Rattle.script_value.specs.Val.{Val, Vals, list, no_vals, val, vals_of, items_of, depth, depth_all}
use Rattle.prim_spec.specs.Lists.{are_lists, joined, is_any_too_deep}

depth_of_two : (vs ws : List Val) → depth_all (vals_of (vs ++ ws)) ≡ max (depth_all (vals_of vs)) (depth_all (vals_of ws))
depth_of_two [] ws = omega arith
depth_of_two (v ∷ vs) ws = omega (arith, depth_of_two vs ws)

depth_of_items : (vs : Vals) → depth_all (vals_of (items_of vs)) ≡ depth_all vs
depth_of_items no_vals = refl
depth_of_items (val v vs) = omega (arith, depth_of_items vs)

pub too_deep_joined : (vs : List Val) → are_lists vs ≡ true → nat_lt 200 (depth (list (vals_of (joined vs)))) ≡ is_any_too_deep vs
too_deep_joined [] h = refl
too_deep_joined (list ws ∷ vs) h = grind (arith, nat_tests, depth_of_two (items_of ws) (joined vs), depth_of_items ws, too_deep_joined vs h)
too_deep_joined (v ∷ vs) h = cc
