-- What the program's shadows stand for.
use Rattle.std.specs.Prelude.{◌≡◌, ℕ, List, map}
use Rattle.script_value.specs.Val.{Val}
use Rattle.script_value.specs.Views.{meaning}
use Rattle.web_cells.specs.Shadows.{bound_to}
use Rattle.web_cells.specs.declared.shades.Shadow.{Shadow}

-- a web cell's number, and the value that it is bound to
abbrev pub pair_of : Shadow → ℕ × Val
pair_of s = (s.cell, meaning s.value)

-- one more shadow binds its cell anew
abbrev pub Binds : Shadow → (old new : List Shadow) → Type 0
Binds s old new = map pair_of new ≡ bound_to s.cell (meaning s.value) (map pair_of old)
