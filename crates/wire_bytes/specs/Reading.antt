-- How numbers and byte strings are read: what stands at the front, and what is left after it.
use Rattle.std.specs.Prelude.{ℕ, ◌<◌, List, [], ◌∷◌, length, take, drop, get_or, Option, Some, None, option_map, if◌then◌else◌, nat_le}
use Rattle.std.specs.Int.{w32, w64, from_le_bytes}

-- each of these numbers is a byte: it is below 256
abbrev pub AreBytes : List ℕ → Type 0
AreBytes bytes = (i : ℕ) → get_or bytes i 0 < 256

-- a byte
abbrev pub read_u8 : List ℕ → Option (ℕ × List ℕ)
read_u8 [] = None
read_u8 (byte ∷ rest) = Some (byte, rest)

-- a number of 32 bits
abbrev pub read_u32 : List ℕ → Option (ℕ × List ℕ)
read_u32 bytes = if nat_le 4 (length bytes) then Some (from_le_bytes w32 (take 4 bytes), drop 4 bytes) else None

-- a number of 64 bits
abbrev pub read_u64 : List ℕ → Option (ℕ × List ℕ)
read_u64 bytes = if nat_le 8 (length bytes) then Some (from_le_bytes w64 (take 8 bytes), drop 8 bytes) else None

-- a count that was read, where no fewer bytes stand after it
abbrev pub counted : Option (ℕ × List ℕ) → Option (ℕ × List ℕ)
counted None = None
counted (Some (count, bytes)) = if nat_le count (length bytes) then Some (count, bytes) else None

-- a count of 32 bits, where no fewer bytes stand after it
abbrev pub read_count : List ℕ → Option (ℕ × List ℕ)
read_count bytes = counted (read_u32 bytes)

-- as many bytes as the size that was read says, where there are as many
abbrev pub read_sized : Option (ℕ × List ℕ) → Option (List ℕ × List ℕ)
read_sized None = None
read_sized (Some (size, bytes)) = if nat_le size (length bytes) then Some (take size bytes, drop size bytes) else None

-- a byte string
abbrev pub read_bytes : List ℕ → Option (List ℕ × List ℕ)
read_bytes bytes = read_sized (read_u32 bytes)

-- the value that was read, if one was, without the bytes that are left
abbrev pub value_of : {A : Type 0} → Option (A × List ℕ) → Option A
value_of outcome = option_map (λ pair. pair.0) outcome

-- the bytes that are left after a read; all of them, where nothing could be read
abbrev pub rest_of : {A : Type 0} → Option (A × List ℕ) → List ℕ → List ℕ
rest_of None bytes = bytes
rest_of (Some pair) bytes = pair.1
