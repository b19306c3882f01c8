-- Numbers that rise, and where one of them stands.
use Rattle.std.specs.Prelude.{◌≡◌, ℕ, ◌<◌, ◌≤◌, List, length, map, slice_index, Result, IfOk, IfErr}
use Rattle.instance_book.specs.declared.numbered.Numbered.{Numbered}

-- each number is below those after it
abbrev pub Rises : List ℕ → Type 0
Rises ns = (j k : ℕ) → j < k → k < length ns → slice_index ns j < slice_index ns k

-- the numbers of numbered things, in their order
abbrev pub numbers_of : {T : Type 0} → List (Numbered T) → List ℕ
numbers_of things = map (λ thing. thing.number) things

-- the number stands at this place
pub record IsAt (ns : List ℕ) (n place : ℕ) : Type 0 where
  pub within : place < length ns
  pub here : slice_index ns place ≡ n

-- the number would stand at this place: lower ones are before it, and greater ones from it on
pub record IsGap (ns : List ℕ) (n place : ℕ) : Type 0 where
  pub within : place ≤ length ns
  pub lower : (k : ℕ) → k < place → slice_index ns k < n
  pub greater : (k : ℕ) → place ≤ k → k < length ns → n < slice_index ns k

-- what a search for the number found: its place, or the one at which it would stand
pub record Finds (ns : List ℕ) (n : ℕ) (result : Result ℕ ℕ) : Type 0 where
  pub found : IfOk result (IsAt ns n)
  pub absent : IfErr result (IsGap ns n)
