-- The records of any bytes have room in a journal.
use Rattle.std.proofs.Common.{◌≡◌, ℕ, zero, suc, ◌+◌, ◌^◌, ◌≤◌, ◌==◌, ◌&&◌, nat_le, Bool, true, false, List, [], ◌∷◌, length, take, drop, Option, Some, None, if◌then◌else◌, length-append, refl, arith}
use Rattle.std.proofs.lemmas.List.{length-take}
use Rattle.std.specs.Prelude.{⊤}
use Rattle.std.specs.Int.{w32, from_le_bytes}
use Rattle.std.proofs.lemmas.Bool.{and_parts, leb-true}
use Rattle.page_journal.specs.Records.{Log, Damaged, Intact, with_first, records_from, records_behind, records, is_format, behind, magic, bodies_of, stored, framed, frames, at_rest}
use Rattle.page_journal.proofs.Frames.{length-framed, length-at_rest}

-- these records, from a place on, end at 2^30 or before
abbrev EndsShort : (place : ℕ) → Log → Type 0
EndsShort place (Damaged at) = ⊤
EndsShort place (Intact bodies) = place + length (frames bodies) + 1 ≤ 2 ^ 30

with_one : (body : List ℕ) (n place : ℕ) (log : Log) → length body ≤ n → EndsShort (place + 5 + n) log → EndsShort place (with_first body log)
with_one body n place (Damaged at) le h = tt
with_one body n place (Intact bodies) le h =
    let size = length-framed body in
    let both = length-append (framed body) (frames bodies) in
    omega (arith, le, h, size, both)

short_take : (n : ℕ) (xs : List ℕ) → length (take n xs) ≤ n
short_take n xs = (let is = length-take n xs in omega (arith, is))

from_short : (fuel place : ℕ) (bytes : List ℕ) → place + 1 ≤ 2 ^ 30 → EndsShort place (records_from fuel place bytes)
from_short zero place bytes fits = tt
from_short (suc fuel) place [] fits = tt
from_short (suc fuel) place (gate ∷ rest) fits = by_gate (gate == 1) (from_short fuel)
  where
    size : ℕ
    size = from_le_bytes w32 (take 4 rest)

    there : Bool
    there = nat_le (4 + size) (length rest) && nat_le (place + 6 + size) (2 ^ 30)

    by_record : (b : Bool) → (b ≡ true → place + 6 + size ≤ 2 ^ 30) → ((at : ℕ) (more : List ℕ) → at + 1 ≤ 2 ^ 30 → EndsShort at (records_from fuel at more))
        → EndsShort place (if b then with_first (take size (drop 4 rest)) (records_from fuel (place + 5 + size) (drop size (drop 4 rest))) else Damaged place)
    by_record true low later =
        let ends = low refl in
        with_one (take size (drop 4 rest)) size place (records_from fuel (place + 5 + size) (drop size (drop 4 rest))) (short_take size (drop 4 rest))
        (later (place + 5 + size) (drop size (drop 4 rest)) (omega (arith, ends)))
    by_record false low later = tt

    by_gate : (b : Bool) → ((at : ℕ) (more : List ℕ) → at + 1 ≤ 2 ^ 30 → EndsShort at (records_from fuel at more))
        → EndsShort place (if b then (if there then with_first (take size (drop 4 rest)) (records_from fuel (place + 5 + size) (drop size (drop 4 rest))) else Damaged place) else Intact [])
    by_gate true later = by_record there (λ e. leb-true (place + 6 + size) (2 ^ 30) (and_parts (nat_le (4 + size) (length rest)) (nat_le (place + 6 + size) (2 ^ 30)) e).1) later
    by_gate false later = omega (arith, fits)

short_log : (log : Log) → EndsShort 8 log → length (at_rest (bodies_of log)) ≤ 2 ^ 30
short_log (Damaged at) h = (let size = length-at_rest [] in omega (arith, size))
short_log (Intact bodies) h = (let size = length-at_rest bodies in omega (arith, size, h))

behind_short : (o : Option (List ℕ)) → EndsShort 8 (records_behind o)
behind_short None = tt
behind_short (Some []) = tt
behind_short (Some (f ∷ rest)) = by_format (is_format f)
  where
    by_format : (b : Bool) → EndsShort 8 (if b then records_from (suc (length rest)) 8 rest else Damaged 0)
    by_format true = from_short (suc (length rest)) 8 rest (omega arith)
    by_format false = tt

pub stored_short : (bytes : List ℕ) → length (at_rest (stored bytes)) ≤ 2 ^ 30
stored_short bytes = short_log (records bytes) (behind_short (behind magic bytes))
