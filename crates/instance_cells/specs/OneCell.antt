-- Effects as one cell sees them.
use Rattle.std.specs.Prelude.{◌≡◌, ℕ, ◌==◌, List, [], ◌∷◌, Option, Some, None, if◌then◌else◌, ⊤}
use Rattle.script_value.specs.Val.{Val}
use Rattle.instance_cells.specs.Cells.{Effect, cell_of, left_by, Stands}
use Rattle.instance_cells.specs.Views.{seen_of}
use Rattle.instance_cells.specs.declared.effect.Seen.{Seen}

-- what an effect leaves of this cell's value
abbrev pub left_at : ℕ → Effect → Val → Val
left_at c e w = if cell_of e == c then left_by e w else w

-- the effects on this cell stand over its value, one after the other
abbrev pub HoldsAt : ℕ → List Effect → Val → Type 0
HoldsAt c [] w = ⊤
HoldsAt c (e ∷ es) w = (cell_of e ≡ c → Stands e w) × HoldsAt c es (left_at c e w)

-- the cell's value after an effect that stands, or none where it does not stand
abbrev pub Turns : ℕ → Effect → Val → Option Seen → Type 0
Turns c e w None = (cell_of e ≡ c → Stands e w) → ⊥
Turns c e w (Some s) = (cell_of e ≡ c → Stands e w) × (seen_of s ≡ left_at c e w)
