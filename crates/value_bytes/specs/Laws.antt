-- Writing and reading undo each other, so what has a spelling has one alone.
use Rattle.std.specs.Prelude.{◌≡◌, ℕ, List, [], ◌++◌, Some}
pub use Rattle.wire_bytes.specs.Reading.{AreBytes}
use Rattle.value_bytes.specs.Spelling.{value_bytes, values_bytes, HasBytes, HaveBytes}
use Rattle.value_bytes.specs.Reading.{Reader, read_value, read_values}

-- what is read in front of the rest has a spelling, which stands there
pub record Spells {A : Type 0} (spelled : A → List ℕ) (fits : A → Type 0) (bytes : List ℕ) (x : A) (rest : List ℕ) : Type 0 where
  pub whole : bytes ≡ spelled x ++ rest
  pub fit : fits x

-- What is written is read back, and what stands after it is left; what is read is spelled so, and has a spelling.
pub record IsExact {A : Type 0} (spelled : A → List ℕ) (fits : A → Type 0) (read : Reader A) : Type 0 where
  pub back : (x : A) (rest : List ℕ) → fits x → read (spelled x ++ rest) ≡ Some (x, rest)
  pub exact : (bytes : List ℕ) (x : A) (rest : List ℕ) → AreBytes bytes → read bytes ≡ Some (x, rest) → Spells spelled fits bytes x rest

-- no spelling is the front of another one
abbrev pub HasNoPrefix : {A : Type 0} → (A → List ℕ) → (A → Type 0) → Type 0
HasNoPrefix {A} spelled fits = (x y : A) (rest : List ℕ) → fits x → fits y → spelled x ++ rest ≡ spelled y → (x ≡ y) × (rest ≡ [])

-- values are spelled in one way
pub record AreValuesExact : Type 0 where
  pub value : IsExact value_bytes HasBytes read_value
  pub list : IsExact values_bytes HaveBytes read_values
  pub prefix : HasNoPrefix value_bytes HasBytes
  pub prefixes : HasNoPrefix values_bytes HaveBytes
