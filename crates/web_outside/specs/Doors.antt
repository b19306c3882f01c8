-- Porches that a door gives to the workers.
use Rattle.std.specs.Prelude.{◌≡◌, ◌+◌, ◌-◌, ◌^◌, [], ℕ, List, Option, Some, IfSome, All, map, min, sum_by}
use Rattle.web_outside.specs.View.{PorchView}

-- each porch gives its list of links, where the lists are told
abbrev pub GiveLists : {P L : Type 0} → (P → PorchView L) → List P → Option (List (List L)) → Type 0
GiveLists view porches told = IfSome told (λ lists. map (λ porch. (view porch).coming) porches ≡ map Some lists)

-- no porch was handed back a link, where the porches tell it
abbrev pub HaveNone : {P L : Type 0} → (P → PorchView L) → List P → Type 0
HaveNone view porches = All (λ porch. IfSome (view porch).served (λ links. links ≡ [])) porches

-- the count rises by what those of the porches come to, up to the type's end
abbrev pub counts_with : {P L : Type 0} → (P → PorchView L) → List P → ℕ → ℕ
counts_with view porches count = min (count + sum_by (λ porch. (view porch).faults) porches) (2 ^ 64 - 1)
