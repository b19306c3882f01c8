-- The numbers of the disks of a shelf.
use Rattle.std.specs.Prelude.{◌≡◌, ◌≢◌, ◌⊎◌, ℕ, ◌+◌, ◌*◌, Bool, List, [], ◌∷◌, nat_lt}
use Rattle.server_limits.specs.Limits.{most_shelves}
use Rattle.disk_trio.specs.declared.side.Side.{Side}
use Rattle.disk_trio.specs.declared.side.Side.TheVariants.{A, B}

-- the number of the disk of a shelf's file of this side
abbrev pub file_number : Side → (shelf : ℕ) → ℕ
file_number A shelf = shelf
file_number B shelf = most_shelves + shelf

-- the number of the disk of a shelf's root
abbrev pub root_number : (shelf : ℕ) → ℕ
root_number shelf = 2 * most_shelves + shelf

-- whether this is the number of a shelf
abbrev pub is_shelf : ℕ → Bool
is_shelf n = nat_lt n most_shelves

-- the number of a disk after those of the shelves, where all numbers after those of the shelves stand for these disks in order
abbrev pub number_behind : ℕ → ℕ
number_behind n = 2 * most_shelves + n

-- the disk of this number is none of the three of a shelf
pub record IsNoneOf (shelf number : ℕ) : Type 0 where
  pub a : number ≢ file_number A shelf
  pub b : number ≢ file_number B shelf
  pub root : number ≢ root_number shelf

-- this is the number of one of the three disks of a shelf
abbrev pub IsOneOfThree : (shelf number : ℕ) → Type 0
IsOneOfThree shelf number = (number ≡ file_number A shelf) ⊎ ((number ≡ file_number B shelf) ⊎ (number ≡ root_number shelf))

-- the numbers of the three disks of a shelf, in the order in which they are taken
abbrev pub three_numbers : (shelf : ℕ) → List ℕ
three_numbers shelf = file_number A shelf ∷ file_number B shelf ∷ root_number shelf ∷ []
