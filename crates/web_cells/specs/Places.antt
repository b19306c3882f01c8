-- Where a shadow is put among those that are there.
use Rattle.std.specs.Prelude.{◌≡◌, ℕ, zero, suc, ◌<◌, ◌≤◌, List, [], ◌∷◌, ⊤}
use Rattle.web_cells.specs.declared.shades.Shadow.{Shadow}

-- the first so many of these shadows are of lower cells than this one
abbrev pub Below : ℕ → ℕ → List Shadow → Type 0
Below c zero ss = ⊤
Below c (suc k) [] = ⊤
Below c (suc k) (s ∷ ss) = (s.cell < c) × Below c k ss

-- the first of these shadows, if there is one, is not of a lower cell than this one
abbrev pub NotBelow : ℕ → List Shadow → Type 0
NotBelow c [] = ⊤
NotBelow c (s ∷ ss) = c ≤ s.cell

-- the first of these shadows is of this cell
abbrev pub IsAt : ℕ → List Shadow → Type 0
IsAt c [] = ⊥
IsAt c (s ∷ ss) = s.cell ≡ c
