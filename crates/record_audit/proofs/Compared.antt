-- What the tests of a page and of numbers come to.
use Rattle.std.proofs.Common.{◌≡◌, ℕ, ◌==◌, List, [], ◌∷◌, length, Bool, true, false, not, Option, Some, None, is_some, refl, ap, ◌&&◌, arith}
use Rattle.std.proofs.lemmas.Bool.Decides.{nat_tests}
use Rattle.std.specs.Cmp.Lexicographic.{pointwise}
use Rattle.audit_spec.specs.Tests.{is_none, are_numbers}

pub none_by : {A : Type 0} (o : Option A) (t : Bool) → is_some o ≡ not t → t ≡ is_none o
none_by None true h = refl
none_by None false h = absurd (let no : ⊥ = cc in no)
none_by (Some x) true h = absurd (let no : ⊥ = cc in no)
none_by (Some x) false h = refl

-- two lists of numbers are the same where `==` says so
pub numbers_test : (ms ns : List ℕ) → pointwise (λ m n. m == n) ms ns ≡ are_numbers ms ns
numbers_test [] [] = refl
numbers_test [] (n ∷ ns) = refl
numbers_test (m ∷ ms) [] = refl
numbers_test (m ∷ ms) (n ∷ ns) = ap (λ (t : Bool). m == n && t) (numbers_test ms ns)

-- a list of numbers is the empty one where it has none
pub no_numbers : (ns : List ℕ) → (length ns == 0) ≡ are_numbers ns []
no_numbers [] = refl
no_numbers (n ∷ ns) = grind (arith, nat_tests)
