-- A list whose count no fewer bytes stand after is none, where each item has a byte.
use Rattle.std.proofs.Common.{◌≡◌, ap, sym, subst, ℕ, ◌<◌, ◌≤◌, Bool, true, false, nat_le, if◌then◌else◌, List, [], ◌∷◌, length, Option, Some, None, refl, arith}
use Rattle.std.proofs.lemmas.Bool.Decides.{nat_tests}
use Rattle.std.proofs.lemmas.List.{length-append}
use Rattle.std.proofs.lemmas.Option.{some_pair_parts}
use Rattle.std.specs.Prelude.{Result, Err}
use Rattle.std.specs.List.{flat_map, AllByRecursion}
use Rattle.script_value.specs.Pieces.{◌>>=◌}
use Rattle.script_value.specs.Val.{number, truth, text, symbol, list}
use Rattle.wire_bytes.specs.Spelling.{u32_bytes}
use Rattle.wire_bytes.specs.Reading.{read_u32, counted, read_count}
use Rattle.value_bytes.specs.Spelling.{value_bytes, HasBytesWithin}
use Rattle.value_bytes.specs.Reading.{Reader, read_several, read_list, read_within}
use Rattle.value_bytes.specs.Laws.{AreBytes, IsExact}
use Rattle.value_bytes.specs.Views.{Stops, Reads, HasCount}
use Rattle.value_bytes.specs.declared.unread.Unread.{Unread}
use Rattle.value_bytes.specs.declared.unread.Unread.TheVariants.{Misspelled}
use Rattle.value_bytes.proofs.Numbers.{rest_are_bytes, u32_exact}
use Rattle.value_bytes.proofs.Lists.{several_exact}
use Rattle.value_bytes.proofs.Trees.{value_exact}

-- each spelling has a byte
abbrev pub HasByte : {A : Type 0} → (A → List ℕ) → (A → Type 0) → Type 0
HasByte {A} spelled fits = (x : A) → fits x → 0 < length (spelled x)

no_fewer : {A : Type 0} (spelled : A → List ℕ) (fits : A → Type 0) → HasByte spelled fits → (xs : List A) → AllByRecursion fits xs → length xs ≤ length (flat_map spelled xs)
no_fewer spelled fits some [] fit = omega arith
no_fewer spelled fits some (x ∷ xs) fit =
    omega (arith, some x fit.0, no_fewer spelled fits some xs fit.1, length-append (spelled x) (flat_map spelled xs))

none_if : {A : Type 0} (o : Option A) → ((x : A) → o ≡ Some x → ⊥) → o ≡ None
none_if None never = refl
none_if (Some x) never = absurd (never x refl)

pub too_many : {A : Type 0} (spelled : A → List ℕ) (fits : A → Type 0) (read : Reader A) → IsExact spelled fits read → HasByte spelled fits
    → (n : ℕ) (bytes : List ℕ) → AreBytes bytes → length bytes < n → read_several read n bytes ≡ None
too_many spelled fits read law some n bytes small over =
    none_if (read_several read n bytes) (λ x e.
    let s = several_exact spelled fits read law n bytes x.0 x.1 small e in
    omega (arith, over, s.count, no_fewer spelled fits some x.0 s.fit, ap length s.whole, length-append (flat_map spelled x.0) x.1))

le_there : (m : ℕ) (bytes : List ℕ) → nat_le m (length bytes) ≡ true → m ≤ length bytes
le_there m bytes t = grind (arith, nat_tests, t)

abbrev kept : Bool → ℕ → List ℕ → Option (ℕ × List ℕ)
kept b m bytes = if b then Some (m, bytes) else None

-- what is counted is so many, and no fewer bytes
counted_by : (m : ℕ) (bytes : List ℕ) (n : ℕ) (rest : List ℕ) (b : Bool) → nat_le m (length bytes) ≡ b → kept b m bytes ≡ Some (n, rest)
    → (kept true m bytes ≡ Some (n, rest)) × (n ≤ length rest)
counted_by m bytes n rest true t e =
    let parts = some_pair_parts m n bytes rest e in
    (e, omega (arith, le_there m bytes t, parts.0, ap length parts.1))
counted_by m bytes n rest false t e = absurd cc

pub counted_is : (o : Option (ℕ × List ℕ)) (n : ℕ) (rest : List ℕ) → counted o ≡ Some (n, rest) → (o ≡ Some (n, rest)) × (n ≤ length rest)
counted_is None n rest e = absurd cc
counted_is (Some (m, bytes)) n rest e = counted_by m bytes n rest (nat_le m (length bytes)) refl e

-- where there is a count that is none, it is above the bytes after it
over_by : (m : ℕ) (bytes : List ℕ) (b : Bool) → nat_le m (length bytes) ≡ b → kept b m bytes ≡ None → length bytes < m
over_by m bytes true t e = absurd cc
over_by m bytes false t e = grind (arith, nat_tests, t)

pub counted_none : (m : ℕ) (bytes : List ℕ) → counted (Some (m, bytes)) ≡ None → length bytes < m
counted_none m bytes e = over_by m bytes (nat_le m (length bytes)) refl e

pub has_count : (bytes : List ℕ) (n : ℕ) (rest : List ℕ) → read_count bytes ≡ Some (n, rest) → HasCount bytes
has_count bytes n rest e =
    let c = counted_is (read_u32 bytes) n rest e in
    rw c.0 c.1

-- and what is read of it is the list
pub list_from : {A : Type 0} (read : Reader A) (bytes : List ℕ) (n : ℕ) (rest : List ℕ) → read_count bytes ≡ Some (n, rest) → read_several read n rest ≡ read_list read bytes
list_from read bytes n rest e =
    sym (ap (λ o. o >>= λ (count : ℕ × List ℕ). read_several read count.0 count.1) (counted_is (read_u32 bytes) n rest e).0)

-- where no count is read, no list is
module _ {A : Type 0} (spelled : A → List ℕ) (fits : A → Type 0) (read : Reader A) (law : IsExact spelled fits read) (some : HasByte spelled fits) (bytes : List ℕ) (small : AreBytes bytes) where
  by_count : (o : Option (ℕ × List ℕ)) → read_u32 bytes ≡ o → counted o ≡ None → (o >>= λ (count : ℕ × List ℕ). read_several read count.0 count.1) ≡ None
  by_count None is h = refl
  by_count (Some (n, rest)) is h =
      let front = u32_exact.exact bytes n rest small is in
      too_many spelled fits read law some n rest (rest_are_bytes bytes (u32_bytes n) rest front.whole small) (counted_none n rest h)

  pub no_list : read_count bytes ≡ None → read_list read bytes ≡ None
  no_list e = by_count (read_u32 bytes) refl e

value_has_byte : (levels : ℕ) → HasByte value_bytes (HasBytesWithin levels)
value_has_byte levels (number n) fit = omega arith
value_has_byte levels (truth true) fit = omega arith
value_has_byte levels (truth false) fit = omega arith
value_has_byte levels (text t) fit = omega arith
value_has_byte levels (symbol s) fit = omega arith
value_has_byte levels (list vs) fit = omega arith

-- so it is with values
pub no_values : (levels : ℕ) (bytes : List ℕ) → AreBytes bytes → read_count bytes ≡ None → read_list (read_within levels) bytes ≡ None
no_values levels bytes small e = no_list value_bytes (HasBytesWithin levels) (read_within levels) (value_exact levels) (value_has_byte levels) bytes small e

-- what is told where no count is read
pub uncounted : {X Y : Type 0} (view : X → Y) (e : Unread) (counts : Option (ℕ × List ℕ)) (o : Option (Y × List ℕ)) (r : Result X Unread) (left : List ℕ)
    → e ≡ Misspelled → Stops e counts → (counts ≡ None → o ≡ None) → r ≡ Err Misspelled → Reads view r left o
uncounted view e counts o r left is stops none told =
    subst (λ (x : Result _ Unread). Reads view x left o) (sym told) (none (subst (λ (x : Unread). Stops x counts) is stops))
