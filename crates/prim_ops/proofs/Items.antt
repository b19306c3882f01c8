-- A list's items are those that it was made of, also from the last to the first.
use Rattle.std.proofs.Common.{◌≡◌, List, [], ◌∷◌, map, reverse, refl}
use Rattle.std.proofs.lemmas.List.{reverse-append, map-append}
use Rattle.script_value.proofs.Folds.{items_of-vals_of}
use Rattle.script_value.specs.declared.value.Value.{Value}
use Rattle.script_value.specs.Val.{Val}

pub ruleset back = (items_of-vals_of)

pub map_reverse : (f : Value → Val) (vs : List Value) → map f (reverse vs) ≡ reverse (map f vs)
map_reverse f [] = refl
map_reverse f (v ∷ vs) =
    let here = reverse-append (v ∷ []) vs in
    let there = reverse-append (f v ∷ []) (map f vs) in
    let both = map-append f (reverse vs) (v ∷ []) in
    let more = map_reverse f vs in
    cc
