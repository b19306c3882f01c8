-- What was written is read back.
use Rattle.std.proofs.Common.{◌≡◌, ℕ, ◌<◌, ◌^◌, List, ◌++◌, length, take, drop, Bool, true, nat_le, if◌then◌else◌, Some, None, refl, ◌∙◌, ap, arith, length-append, append_assoc}
use Rattle.std.proofs.lemmas.List.{take_at, drop_at}
use Rattle.std.proofs.lemmas.Bool.Decides.{nat_tests}
use Rattle.std.proofs.lemmas.Nat.{from_le_bytes-to_le_bytes_4, from_le_bytes-to_le_bytes_8}
use Rattle.std.specs.Int.{w32, w64, from_le_bytes}
use Rattle.wire_bytes.specs.Spelling.{u32_bytes, u64_bytes, byte_string}
use Rattle.wire_bytes.specs.Reading.{read_u32, read_u64, read_sized, read_bytes}

pub u32_read_back : (number : ℕ) (rest : List ℕ) → number < 2 ^ 32 → read_u32 (u32_bytes number ++ rest) ≡ Some (number, rest)
u32_read_back number rest fits =
    let test : nat_le 4 (length (u32_bytes number ++ rest)) ≡ true = grind (arith, nat_tests, length-append (u32_bytes number) rest) in
    ap (λ (t : Bool). if t then Some (from_le_bytes w32 (u32_bytes number), rest) else None) test
    ∙ ap (λ (n : ℕ). Some (n, rest)) (from_le_bytes-to_le_bytes_4 number fits)

pub u64_read_back : (number : ℕ) (rest : List ℕ) → number < 2 ^ 64 → read_u64 (u64_bytes number ++ rest) ≡ Some (number, rest)
u64_read_back number rest fits =
    let test : nat_le 8 (length (u64_bytes number ++ rest)) ≡ true = grind (arith, nat_tests, length-append (u64_bytes number) rest) in
    ap (λ (t : Bool). if t then Some (from_le_bytes w64 (u64_bytes number), rest) else None) test
    ∙ ap (λ (n : ℕ). Some (n, rest)) (from_le_bytes-to_le_bytes_8 number fits)

pub string_read_back : (bytes rest : List ℕ) → length bytes < 2 ^ 32 → read_bytes (byte_string bytes ++ rest) ≡ Some (bytes, rest)
string_read_back bytes rest fits =
    let test : nat_le (length bytes) (length (bytes ++ rest)) ≡ true = grind (arith, nat_tests, length-append bytes rest) in
    ap read_bytes (append_assoc (u32_bytes (length bytes)) bytes rest)
    ∙ ap read_sized (u32_read_back (length bytes) (bytes ++ rest) fits)
    ∙ ap (λ (t : Bool). if t then Some (take (length bytes) (bytes ++ rest), drop (length bytes) (bytes ++ rest)) else None) test
    ∙ (λ i. Some (take_at bytes rest (length bytes) refl i, drop_at bytes rest (length bytes) refl i))
