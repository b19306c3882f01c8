-- The bindings of web cells: the nearest of each cell, the cells rising. It is what a stored state keeps.
use Rattle.std.specs.Prelude.{ℕ, ◌<◌, ◌==◌, List, [], ◌∷◌, Option, Some, None, nat_lt, if◌then◌else◌, ⊤}
use Rattle.script_value.specs.Val.{Val}

-- a cell is bound anew, in its place
abbrev pub bound_to : ℕ → Val → List (ℕ × Val) → List (ℕ × Val)
bound_to c v [] = (c, v) ∷ []
bound_to c v (s ∷ ss) = if nat_lt c s.0 then (c, v) ∷ s ∷ ss else (if c == s.0 then (c, v) ∷ ss else s ∷ bound_to c v ss)

-- what a cell is bound to
abbrev pub binding : ℕ → List (ℕ × Val) → Option Val
binding c [] = None
binding c (s ∷ ss) = if s.0 == c then Some s.1 else binding c ss

-- the bindings after shadows, the oldest shadow first
abbrev pub all_bound : List (ℕ × Val) → List (ℕ × Val) → List (ℕ × Val)
all_bound [] ss = ss
all_bound (s ∷ later) ss = all_bound later (bound_to s.0 s.1 ss)

-- the last shadow of a cell among these, the oldest first, or else what it is bound to
abbrev pub last_shadow : ℕ → List (ℕ × Val) → Option Val → Option Val
last_shadow c [] found = found
last_shadow c (s ∷ later) found = last_shadow c later (if s.0 == c then Some s.1 else found)

-- each of these bindings is of a higher cell than this one
abbrev pub AreAbove : ℕ → List (ℕ × Val) → Type 0
AreAbove c [] = ⊤
AreAbove c (s ∷ ss) = (c < s.0) × AreAbove c ss

-- the cells rise: there is one binding of each at most
abbrev pub Rise : List (ℕ × Val) → Type 0
Rise [] = ⊤
Rise (s ∷ ss) = AreAbove s.0 ss × Rise ss
