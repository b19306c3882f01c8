-- Setups of the same names and texts.
use Rattle.std.specs.Prelude.{◌≡◌, ℕ, Bool, ◌&&◌, List, drop, suc}
use Rattle.std.specs.Str.{bytes_eq}
use Rattle.script_nodes.specs.Setup.{Named}
use Rattle.replay_spec.specs.Book.{are_same}

-- whether two scripts have the same name and text
abbrev pub is_same : (s t : Named) → Bool
is_same s t = bytes_eq s.name t.name && bytes_eq s.text t.text

-- from this place on the scripts of two setups have the same names and texts just where they have them there, and from the next place on
abbrev pub IsSameAt : (ss ts : List Named) → (place : ℕ) → Bool → Type 0
IsSameAt ss ts n same = are_same (drop n ss) (drop n ts) ≡ (same && are_same (drop (suc n) ss) (drop (suc n) ts))
