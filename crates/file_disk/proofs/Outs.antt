-- Which numbers are left where one was taken out of a list.
use Rattle.std.proofs.Common.{◌≡◌, ◌≢◌, ℕ, true, false, not, nat_eq, List, arith, ap}
use Rattle.std.specs.List.{filter, list_any}
use Rattle.std.proofs.lemmas.Map.Views.{any-filter_same}
use Rattle.std.proofs.lemmas.Bool.Decides.{nat_tests}

others_differ : (n k number : ℕ) → n ≢ number → nat_eq k n ≡ true → not (nat_eq k number) ≡ true
others_differ n k number differ is = grind (arith, nat_tests)

same_is : (k number : ℕ) → nat_eq k number ≡ true → not (nat_eq k number) ≡ false
same_is k number is = ap not is

pub none_left : (number : ℕ) (numbers : List ℕ) → list_any (λ n. nat_eq n number) (filter (λ n. not (nat_eq n number)) numbers) ≡ false
none_left number numbers = any-filter_same (λ n. nat_eq n number) (λ n. not (nat_eq n number)) false (λ k is. same_is k number is) numbers

pub others_left : (n number : ℕ) (numbers : List ℕ) → n ≢ number → list_any (λ m. nat_eq m n) (filter (λ m. not (nat_eq m number)) numbers) ≡ list_any (λ m. nat_eq m n) numbers
others_left n number numbers differ = any-filter_same (λ m. nat_eq m n) (λ m. not (nat_eq m number)) true (λ k is. others_differ n k number differ is) numbers
