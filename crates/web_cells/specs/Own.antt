-- What the bindings of a page have that those of its parent have not.
use Rattle.std.specs.Prelude.{◌≡◌, ℕ, ◌⊎◌, List, [], ◌∷◌, Some, None}
use Rattle.script_value.specs.Val.{Val}
use Rattle.web_cells.specs.Shadows.{binding, all_bound, Rise}

-- among these bindings a web cell is bound to this value
abbrev pub IsBoundSo : List (ℕ × Val) → ℕ × Val → Type 0
IsBoundSo ss s = binding s.0 ss ≡ Some s.1

-- a page's own bindings: those that its parent has not, or has with another value, in their order
abbrev pub IsOwn : (parent child own : List (ℕ × Val)) → Type 0
IsOwn parent [] own = own ≡ []
IsOwn parent (s ∷ ss) own =
    (IsBoundSo parent s × IsOwn parent ss own)
    ⊎ (¬ (IsBoundSo parent s) × ((rest : List (ℕ × Val)) × ((own ≡ s ∷ rest) × IsOwn parent ss rest)))

-- a page binds each web cell that its parent binds
abbrev pub BindsAllOf : (parent child : List (ℕ × Val)) → Type 0
BindsAllOf parent child = (c : ℕ) → binding c child ≡ None → binding c parent ≡ None

-- the parent's bindings, with a page's own bound over them, are the page's
abbrev pub OwnGiveBack : Type 0
OwnGiveBack =
    (parent child own : List (ℕ × Val)) → Rise parent → Rise child → BindsAllOf parent child → IsOwn parent child own
    → all_bound own parent ≡ child

-- a page has one list of its own bindings
abbrev pub OwnAreOne : Type 0
OwnAreOne = (parent child first second : List (ℕ × Val)) → IsOwn parent child first → IsOwn parent child second → first ≡ second
