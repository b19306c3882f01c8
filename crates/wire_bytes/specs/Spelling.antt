-- How numbers and byte strings are written.
use Rattle.std.specs.Prelude.{ℕ, List, ◌++◌, length}
use Rattle.std.specs.Int.{w32, w64, to_le_bytes}

-- a number of 32 bits in four bytes, the least first
abbrev pub u32_bytes : ℕ → List ℕ
u32_bytes n = to_le_bytes w32 n

-- a number of 64 bits in eight bytes, the least first
abbrev pub u64_bytes : ℕ → List ℕ
u64_bytes n = to_le_bytes w64 n

-- a byte string: its length, and the bytes
abbrev pub byte_string : List ℕ → List ℕ
byte_string bytes = u32_bytes (length bytes) ++ bytes
