-- What holds of the bindings of web cells.
use Rattle.std.specs.Prelude.{◌≡◌, ℕ, ◌==◌, List, Some, if◌then◌else◌}
use Rattle.script_value.specs.Val.{Val}
use Rattle.web_cells.specs.Shadows.{bound_to, binding, all_bound, last_shadow, Rise}

-- a shadow is the binding of its cell, and leaves those of all others
abbrev pub AShadowBindsItsCell : Type 0
AShadowBindsItsCell =
    (c d : ℕ) (v : Val) (ss : List (ℕ × Val)) → binding d (bound_to c v ss) ≡ (if c == d then Some v else binding d ss)

-- after any shadows a cell is bound to its last one, or else to what it was bound to before
abbrev pub TheLastShadowBinds : Type 0
TheLastShadowBinds =
    (d : ℕ) (made ss : List (ℕ × Val)) → binding d (all_bound made ss) ≡ last_shadow d made (binding d ss)

-- a shadow keeps the cells rising
abbrev pub ShadowsRise : Type 0
ShadowsRise = (c : ℕ) (v : Val) (ss : List (ℕ × Val)) → Rise ss → Rise (bound_to c v ss)
