-- Disks are home where the shelves' are.
use Rattle.std.proofs.Common.{◌≡◌, ◌⊎◌, inl, inr, ℕ, ◌+◌, ◌-◌, ◌*◌, ◌<◌, ◌≤◌, Bool, true, false, ◌||◌, nat_lt, sym, refl, subst, arith}
use Rattle.std.proofs.lemmas.Bool.{lt-ltb, le-ltb, ltb-true, ltb-false}
use Rattle.web_disk.specs.View.{RackView}
use Rattle.server_limits.specs.Limits.{most_shelves}
use Rattle.trio_rack.specs.Numbers.{is_shelf, file_number, root_number, number_behind}
use Rattle.trio_rack.specs.Trios.{out_by, shelves_of}
use Rattle.disk_trio.specs.declared.side.Side.TheVariants.{A, B}

none_of_three : (a b c : Bool) → a ≡ false → b ≡ false → c ≡ false → (a || (b || c)) ≡ false
none_of_three a b c p q r = λ i. p i || (q i || r i)

home_by : (rack : RackView) (n : ℕ) (b : Bool) → ((m : ℕ) → rack.out m ≡ false) → out_by b rack n ≡ false
home_by rack n true home = none_of_three (rack.out (file_number A n)) (rack.out (file_number B n)) (rack.out (root_number n)) (home _) (home _) (home _)
home_by rack n false home = home (number_behind n)

-- the shelves' disks are home where all are
pub shelves_home : (rack : RackView) → ((n : ℕ) → rack.out n ≡ false) → (n : ℕ) → (shelves_of rack).out n ≡ false
shelves_home rack home n = home_by rack n (is_shelf n) home

all_three : (a b c : Bool) → (a || (b || c)) ≡ false → (a ≡ false) × (b ≡ false) × (c ≡ false)
all_three false false false is = (refl, refl, refl)
all_three true b c is = absurd (let no : ⊥ = cc is in no)
all_three false true c is = absurd (let no : ⊥ = cc is in no)
all_three false false true is = absurd (let no : ⊥ = cc is in no)

three_home : (rack : RackView) (shelf : ℕ) → shelf < most_shelves → (shelves_of rack).out shelf ≡ false
    → (rack.out shelf ≡ false) × (rack.out (most_shelves + shelf) ≡ false) × (rack.out (2 * most_shelves + shelf) ≡ false)
three_home rack shelf low is = all_three _ _ _ (subst (λ (b : Bool). out_by b rack shelf ≡ false) (lt-ltb shelf most_shelves low) is)

pub below_or_not : (k n : ℕ) → (k < n) ⊎ (n ≤ k)
below_or_not k n = by_test (nat_lt k n) refl
  where
    by_test : (b : Bool) → nat_lt k n ≡ b → (k < n) ⊎ (n ≤ k)
    by_test true is = inl (ltb-true k n is)
    by_test false is = inr (ltb-false k n is)

-- all disks are home where the shelves' are
pub disks_home : (rack : RackView) → ((n : ℕ) → (shelves_of rack).out n ≡ false) → (n : ℕ) → rack.out n ≡ false
disks_home rack home n = elim (below_or_not n most_shelves) [
  | inl a ↦ (three_home rack n a (home n)).0
  | inr not_a ↦ elim (below_or_not n (2 * most_shelves)) [
    | inl b ↦ moved n (most_shelves + (n - most_shelves)) (omega (arith, not_a)) (three_home rack (n - most_shelves) (omega (arith, b, not_a)) (home (n - most_shelves))).1
    | inr not_b ↦ elim (below_or_not n (3 * most_shelves)) [
      | inl root ↦ moved n (2 * most_shelves + (n - 2 * most_shelves)) (omega (arith, not_b)) (three_home rack (n - 2 * most_shelves) (omega (arith, root, not_b)) (home (n - 2 * most_shelves))).2
      | inr behind ↦ moved n (2 * most_shelves + (n - 2 * most_shelves)) (omega (arith, behind))
          (subst (λ (b : Bool). out_by b rack (n - 2 * most_shelves) ≡ false) (le-ltb (n - 2 * most_shelves) most_shelves (omega (arith, behind))) (home (n - 2 * most_shelves)))
    ]
  ]
]
  where
    moved : (m k : ℕ) → m ≡ k → rack.out k ≡ false → rack.out m ≡ false
    moved m k is = subst (λ j. rack.out j ≡ false) (sym is)
