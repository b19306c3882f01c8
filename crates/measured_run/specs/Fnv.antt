-- The 64-bit FNV-1a hash of bytes.
use Rattle.std.specs.Prelude.{◌≡◌, ℕ, ◌*◌, ◌%◌, ◌^◌, ◌++◌, List, bit_xor, fold}

-- the hash of no bytes
abbrev pub offset : ℕ
offset = 14695981039346656037

-- the prime that a hash is multiplied by
abbrev pub prime : ℕ
prime = 1099511628211

-- One byte more: it is joined to the hash by an exclusive or, and then the product with the prime is cut to 64 bits.
unfoldable pub mixed : (hash byte : ℕ) → ℕ
mixed hash byte = bit_xor hash byte * prime % 2 ^ 64

-- the hash of bytes, from the hash of those before them
abbrev pub goes_on : (hash : ℕ) → List ℕ → ℕ
goes_on hash bytes = fold mixed hash bytes

-- the hash of bytes
abbrev pub fnv1a : List ℕ → ℕ
fnv1a bytes = goes_on offset bytes

-- the hash of bytes in two pieces is that of the second, from the hash of the first
abbrev pub HashGoesOn : Type 0
HashGoesOn = (first second : List ℕ) → fnv1a (first ++ second) ≡ goes_on (fnv1a first) second
