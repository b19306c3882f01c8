-- Writing and reading undo each other, so each number and each byte string has one spelling.
use Rattle.std.specs.Prelude.{◌≡◌, ℕ, ◌<◌, ◌^◌, List, ◌∷◌, ◌++◌, length, Some}
use Rattle.wire_bytes.specs.Spelling.{u32_bytes, u64_bytes, byte_string}
use Rattle.wire_bytes.specs.Reading.{read_u8, read_u32, read_u64, read_bytes}

-- what is written is read back, and what stands after it is left
pub record IsReadBack : Type 0 where
  pub byte : (byte : ℕ) (rest : List ℕ) → read_u8 (byte ∷ rest) ≡ Some (byte, rest)
  pub short : (number : ℕ) (rest : List ℕ) → number < 2 ^ 32 → read_u32 (u32_bytes number ++ rest) ≡ Some (number, rest)
  pub long : (number : ℕ) (rest : List ℕ) → number < 2 ^ 64 → read_u64 (u64_bytes number ++ rest) ≡ Some (number, rest)
  pub string : (bytes rest : List ℕ) → length bytes < 2 ^ 32 → read_bytes (byte_string bytes ++ rest) ≡ Some (bytes, rest)
