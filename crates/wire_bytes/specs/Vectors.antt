-- Worked rows.
use Rattle.std.specs.Prelude.{◌≡◌, [], ◌∷◌, ◌-◌, ◌^◌, Some, None, refl}
use Rattle.wire_bytes.specs.Spelling.{u32_bytes, u64_bytes, byte_string}
use Rattle.wire_bytes.specs.Reading.{read_u8, read_u32, read_u64, read_bytes, read_count}

-- the least byte comes first
least_first : u32_bytes 1027 ≡ 3 ∷ 4 ∷ 0 ∷ 0 ∷ []
least_first = refl

-- the greatest number of 32 bits has four bytes of 255
greatest : u32_bytes (2 ^ 32 - 1) ≡ 255 ∷ 255 ∷ 255 ∷ 255 ∷ []
greatest = refl

-- a number of 64 bits has eight bytes
eight_bytes : u64_bytes 50 ≡ 50 ∷ 0 ∷ 0 ∷ 0 ∷ 0 ∷ 0 ∷ 0 ∷ 0 ∷ []
eight_bytes = refl

-- "hi", after its length
a_string : byte_string (104 ∷ 105 ∷ []) ≡ 2 ∷ 0 ∷ 0 ∷ 0 ∷ 104 ∷ 105 ∷ []
a_string = refl

-- an empty string has its length alone
no_bytes : byte_string [] ≡ 0 ∷ 0 ∷ 0 ∷ 0 ∷ []
no_bytes = refl

-- a byte is read off the front of bytes
a_byte_is_read : read_u8 (7 ∷ 8 ∷ []) ≡ Some (7, 8 ∷ [])
a_byte_is_read = refl

-- a number of 32 bits is read off the front of bytes
a_number_is_read : read_u32 (3 ∷ 4 ∷ 0 ∷ 0 ∷ 9 ∷ []) ≡ Some (1027, 9 ∷ [])
a_number_is_read = refl

-- three bytes are no number of 32 bits
three_bytes_are_too_few : read_u32 (3 ∷ 4 ∷ 0 ∷ []) ≡ None
three_bytes_are_too_few = refl

-- seven bytes are no number of 64 bits
seven_bytes_are_too_few : read_u64 (50 ∷ 0 ∷ 0 ∷ 0 ∷ 0 ∷ 0 ∷ 0 ∷ []) ≡ None
seven_bytes_are_too_few = refl

-- a string is read off the front of bytes, by its length
a_string_is_read : read_bytes (2 ∷ 0 ∷ 0 ∷ 0 ∷ 104 ∷ 105 ∷ 106 ∷ []) ≡ Some (104 ∷ 105 ∷ [], 106 ∷ [])
a_string_is_read = refl

-- a string that lacks a byte is not read
a_string_is_cut_short : read_bytes (2 ∷ 0 ∷ 0 ∷ 0 ∷ 104 ∷ []) ≡ None
a_string_is_cut_short = refl

-- a count is read where as many bytes follow it
a_count_is_read : read_count (2 ∷ 0 ∷ 0 ∷ 0 ∷ 9 ∷ 9 ∷ []) ≡ Some (2, 9 ∷ 9 ∷ [])
a_count_is_read = refl

-- a count is not read where fewer bytes follow it
a_count_is_too_large : read_count (3 ∷ 0 ∷ 0 ∷ 0 ∷ 9 ∷ 9 ∷ []) ≡ None
a_count_is_too_large = refl
