-- Variables in a scope, the innermost first.
use Rattle.std.specs.Prelude.{◌≡◌, ℕ, List, [], ◌∷◌, map, reverse, Option, ⊤}
use Rattle.std.specs.Borrow.{Bor}
use Rattle.std.specs.BTreeMap.{BTreeMap, get_by}
use Rattle.std.specs.Map.{update}
use Rattle.std.specs.Str.{bytes_eq}
use Rattle.std.specs.Ordering.{nat_cmp}
use Rattle.std.specs.Cmp.Lexicographic.{slice_cmp}
use Rattle.core_syntax.specs.declared.names.Named.{Named}
use Rattle.core_syntax.specs.Names.{place_of}

-- the names of variables, as texts
abbrev pub texts : List Named → List (List ℕ)
texts names = map (λ n. n.name.now) names

-- each variable has the place of the next outer variable of its name
abbrev pub IsLinked : List Named → Type 0
IsLinked [] = ⊤
IsLinked (n ∷ outer) = (n.earlier ≡ place_of n.name.now (texts outer)) × IsLinked outer

-- the place that these places have at a name
abbrev pub place_at : BTreeMap (Bor (List ℕ)) ℕ → List ℕ → Option ℕ
place_at places x = get_by (λ k. slice_cmp nat_cmp x k.now) places

-- the new places have w at x, and at each other name what the old ones have
abbrev pub PutsPlace : (old new : BTreeMap (Bor (List ℕ)) ℕ) → List ℕ → Option ℕ → Type 0
PutsPlace old new x w = (y : List ℕ) → place_at new y ≡ update bytes_eq (place_at old) x w y

-- the place at each name is that of the innermost variable of the name
abbrev pub HasNewest : BTreeMap (Bor (List ℕ)) ℕ → List (List ℕ) → Type 0
HasNewest places names = (x : List ℕ) → place_at places x ≡ place_of x names

-- names, the outermost first, and where each of them is found
abbrev pub HasPlaces : BTreeMap (Bor (List ℕ)) ℕ → List Named → Type 0
HasPlaces places names = record { linked : IsLinked (reverse names); newest : HasNewest places (texts (reverse names)) }
