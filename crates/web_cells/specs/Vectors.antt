-- Bindings of web cells, computed.
use Rattle.std.specs.Prelude.{◌≡◌, ℕ, List, [], ◌∷◌, Some, None, pos, codes, refl}
use Rattle.script_value.specs.Val.{Val, number, text}
use Rattle.web_cells.specs.Shadows.{bound_to, binding, all_bound, last_shadow}

-- two windows on one page: each has the hotel that was picked in it
abbrev asked : List (ℕ × Val)
asked = (0, text (codes "none")) ∷ []

-- the first window has the hotel that was picked in it
pub first_window : binding 0 (bound_to 0 (text (codes "A")) asked) ≡ Some (text (codes "A"))
first_window = refl

-- the second window has the hotel that was picked in it
pub second_window : binding 0 (bound_to 0 (text (codes "B")) asked) ≡ Some (text (codes "B"))
second_window = refl

-- the cells rise, whatever the order of the shadows, and a cell that is bound again keeps one binding
pub in_any_order : all_bound ((2, number (pos 1)) ∷ (0, number (pos 2)) ∷ (2, number (pos 3)) ∷ (1, number (pos 4)) ∷ []) []
    ≡ (0, number (pos 2)) ∷ (1, number (pos 4)) ∷ (2, number (pos 3)) ∷ []
in_any_order = refl

-- of two shadows of a cell the last one binds
pub the_last_of_two : last_shadow 2 ((2, number (pos 1)) ∷ (0, number (pos 2)) ∷ (2, number (pos 3)) ∷ []) None ≡ Some (number (pos 3))
the_last_of_two = refl

-- a cell without a shadow is not bound
pub never_bound : binding 1 ((0, number (pos 1)) ∷ (2, number (pos 2)) ∷ []) ≡ None
never_bound = refl
