-- Numbers and byte strings: what is written is read back, and what is read is spelled so.
use Rattle.std.proofs.Common.{◌≡◌, ℕ, ◌+◌, ◌<◌, ◌≤◌, ◌^◌, ℤ, Bool, true, false, List, [], ◌∷◌, ◌++◌, length, take, drop, Option, Some, None, nat_le, if◌then◌else◌, refl, sym, ap, subst, ◌∙◌, arith, append_assoc, inl, inr}
use Rattle.std.specs.Prelude.{FitsSigned}
use Rattle.std.specs.Int.{w32, w64, from_le_bytes, cast_signed, cast_unsigned}
use Rattle.std.specs.Str.{IsUtf8, is_utf8}
use Rattle.std.proofs.lemmas.Bool.{cases_lt}
use Rattle.std.proofs.lemmas.Bool.Decides.{nat_tests}
use mir.ValLaws.{of_z_fits, to_z-Fits}
use Rattle.std.proofs.lemmas.Int.{to_z-of_z, of_z-to_z}
use Rattle.std.proofs.lemmas.List.{drop_at, take-append-drop, length-take, get_or-drop, get_or-take, get_or_past}
use Rattle.std.proofs.lemmas.Nat.{le_bytes_4, le_bytes_8}
use Rattle.std.proofs.lemmas.Option.{cond_some, some_pair_parts}
use Rattle.std.proofs.lemmas.Str.{IsUtf8-from_is_utf8, is_utf8-from_IsUtf8}
use Rattle.script_value.specs.Pieces.{◌>>=◌}
use Rattle.wire_bytes.specs.Spelling.{u32_bytes, u64_bytes, byte_string}
use Rattle.wire_bytes.specs.Reading.{read_u8, read_u32, read_u64, read_sized, read_bytes}
use Rattle.wire_bytes.proofs.ReadBack.{u32_read_back, u64_read_back, string_read_back}
use Rattle.value_bytes.specs.Spelling.{i64_bytes}
use Rattle.value_bytes.specs.Reading.{seen_as, read_i64, read_utf8}
use Rattle.value_bytes.specs.Laws.{AreBytes, Spells, IsExact}

-- ---- options

pub bind_some : {A B : Type 0} (o : Option A) (k : A → Option B) (y : B) → (o >>= k) ≡ Some y → (x : A) × (o ≡ Some x) × (k x ≡ Some y)
bind_some None k y e = absurd cc
bind_some (Some x) k y e = (x, refl, e)

pub seen_some : {A B : Type 0} (view : A → B) (o : Option (A × List ℕ)) (x : B) (rest : List ℕ) → seen_as view o ≡ Some (x, rest)
    → (y : A) × (o ≡ Some (y, rest)) × (view y ≡ x)
seen_some view None x rest e = absurd cc
seen_some view (Some pair) x rest e =
    let parts = some_pair_parts (view pair.0) x pair.1 rest e in
    (pair.0, ap (λ (r : List ℕ). Some (pair.0, r)) parts.1, parts.0)

-- ---- bytes

pub take_are_bytes : (n : ℕ) (bytes : List ℕ) → AreBytes bytes → AreBytes (take n bytes)
take_are_bytes n bytes small i =
    elim (cases_lt i n) [
      | inl lt ↦ rw (get_or-take n bytes i 0 lt) (small i)
      | inr le ↦ rw (get_or_past (take n bytes) i 0 (omega (arith, length-take n bytes))) (omega arith)
    ]

drop_are_bytes : (n : ℕ) (bytes : List ℕ) → AreBytes bytes → AreBytes (drop n bytes)
drop_are_bytes n bytes small i = rw get_or-drop (small (n + i))

-- what is left after a front
pub rest_are_bytes : (bytes front rest : List ℕ) → bytes ≡ front ++ rest → AreBytes bytes → AreBytes rest
rest_are_bytes bytes front rest whole small =
    subst AreBytes (drop_at front rest (length front) refl) (drop_are_bytes (length front) (front ++ rest) (subst AreBytes whole small))

pub tail_are_bytes : (b : ℕ) (bytes : List ℕ) → AreBytes (b ∷ bytes) → AreBytes bytes
tail_are_bytes b bytes small = rest_are_bytes (b ∷ bytes) (b ∷ []) bytes refl small

-- ---- numbers

pub byte_exact : (bytes : List ℕ) (b : ℕ) (rest : List ℕ) → read_u8 bytes ≡ Some (b, rest) → bytes ≡ b ∷ rest
byte_exact [] b rest e = absurd cc
byte_exact (c ∷ bytes) b rest e =
    let parts = some_pair_parts c b bytes rest e in
    cc

short_exact : (bytes : List ℕ) (n : ℕ) (rest : List ℕ) → AreBytes bytes → read_u32 bytes ≡ Some (n, rest) → Spells u32_bytes (λ m. m < 2 ^ 32) bytes n rest
short_exact bytes n rest small e =
    let g = cond_some (nat_le 4 (length bytes)) (from_le_bytes w32 (take 4 bytes), drop 4 bytes) (n, rest) e in
    let long : 4 ≤ length bytes = grind (arith, nat_tests, g.0) in
    let same : from_le_bytes w32 (take 4 bytes) ≡ n = ap (λ (p : ℕ × List ℕ). p.0) g.1 in
    let left : drop 4 bytes ≡ rest = ap (λ (p : ℕ × List ℕ). p.1) g.1 in
    let fits = take_are_bytes 4 bytes small in
    let front : u32_bytes n ≡ take 4 bytes = le_bytes_4 (take 4 bytes) n (omega (arith, length-take 4 bytes)) fits (sym same) in
    record {
      whole = sym (take-append-drop 4 bytes) ∙ (λ i. sym front i ++ left i);
      fit = subst (λ m. m < 2 ^ 32) same (omega (arith, fits 0, fits 1, fits 2, fits 3));
    }

long_exact : (bytes : List ℕ) (n : ℕ) (rest : List ℕ) → AreBytes bytes → read_u64 bytes ≡ Some (n, rest) → Spells u64_bytes (λ m. m < 2 ^ 64) bytes n rest
long_exact bytes n rest small e =
    let g = cond_some (nat_le 8 (length bytes)) (from_le_bytes w64 (take 8 bytes), drop 8 bytes) (n, rest) e in
    let long : 8 ≤ length bytes = grind (arith, nat_tests, g.0) in
    let same : from_le_bytes w64 (take 8 bytes) ≡ n = ap (λ (p : ℕ × List ℕ). p.0) g.1 in
    let left : drop 8 bytes ≡ rest = ap (λ (p : ℕ × List ℕ). p.1) g.1 in
    let fits = take_are_bytes 8 bytes small in
    let front : u64_bytes n ≡ take 8 bytes = le_bytes_8 (take 8 bytes) n (omega (arith, length-take 8 bytes)) fits (sym same) in
    record {
      whole = sym (take-append-drop 8 bytes) ∙ (λ i. sym front i ++ left i);
      fit = subst (λ m. m < 2 ^ 64) same (omega (arith, fits 0, fits 1, fits 2, fits 3, fits 4, fits 5, fits 6, fits 7));
    }

pub u32_exact : IsExact u32_bytes (λ n. n < 2 ^ 32) read_u32
u32_exact = record { back = u32_read_back; exact = short_exact }

pub u64_exact : IsExact u64_bytes (λ n. n < 2 ^ 64) read_u64
u64_exact = record { back = u64_read_back; exact = long_exact }

signed_back : (n : ℤ) (rest : List ℕ) → FitsSigned w64 n → read_i64 (i64_bytes n ++ rest) ≡ Some (n, rest)
signed_back n rest fits =
    let small : cast_unsigned w64 n < 2 ^ 64 = (of_z_fits w64 n fits).fits in
    ap (seen_as (λ m. cast_signed w64 m)) (u64_read_back (cast_unsigned w64 n) rest small) ∙ ap (λ (m : ℤ). Some (m, rest)) (to_z-of_z w64 n fits)

signed_spells : (bytes : List ℕ) (n : ℤ) (rest : List ℕ) → AreBytes bytes → read_i64 bytes ≡ Some (n, rest) → Spells i64_bytes (λ m. FitsSigned w64 m) bytes n rest
signed_spells bytes n rest small e =
    let s = seen_some (λ m. cast_signed w64 m) (read_u64 bytes) n rest e in
    let x = long_exact bytes s.0 rest small s.1 in
    let same : cast_unsigned w64 n ≡ s.0 = ap (λ m. cast_unsigned w64 m) (sym s.2) ∙ of_z-to_z w64 s.0 x.fit in
    record {
      whole = x.whole ∙ ap (λ m. u64_bytes m ++ rest) (sym same);
      fit = subst (λ (m : ℤ). FitsSigned w64 m) s.2 (to_z-Fits w64 s.0 (record { fits = x.fit }));
    }

pub i64_exact : IsExact i64_bytes (λ n. FitsSigned w64 n) read_i64
i64_exact = record { back = signed_back; exact = signed_spells }

-- ---- byte strings

-- what a byte string that was read is made of
record Sized (outcome : Option (ℕ × List ℕ)) (text rest : List ℕ) : Type 0 where
  size : ℕ
  behind : List ℕ
  read : outcome ≡ Some (size, behind)
  len : length text ≡ size
  parts : behind ≡ text ++ rest

sized_some : (outcome : Option (ℕ × List ℕ)) (text rest : List ℕ) → read_sized outcome ≡ Some (text, rest) → Sized outcome text rest
sized_some None text rest e = absurd cc
sized_some (Some pair) text rest e =
    let g = cond_some (nat_le pair.0 (length pair.1)) (take pair.0 pair.1, drop pair.0 pair.1) (text, rest) e in
    let long : pair.0 ≤ length pair.1 = grind (arith, nat_tests, g.0) in
    let front : take pair.0 pair.1 ≡ text = ap (λ (p : List ℕ × List ℕ). p.0) g.1 in
    let left : drop pair.0 pair.1 ≡ rest = ap (λ (p : List ℕ × List ℕ). p.1) g.1 in
    record {
      size = pair.0;
      behind = pair.1;
      read = refl;
      len = omega (arith, ap length front, length-take pair.0 pair.1);
      parts = sym (take-append-drop pair.0 pair.1) ∙ (λ i. front i ++ left i);
    }

string_spells : (bytes text rest : List ℕ) → AreBytes bytes → read_bytes bytes ≡ Some (text, rest) → Spells byte_string (λ t. length t < 2 ^ 32) bytes text rest
string_spells bytes text rest small e =
    let b = sized_some (read_u32 bytes) text rest e in
    let x = short_exact bytes b.size b.behind small b.read in
    record {
      whole = x.whole ∙ ap (λ more. u32_bytes b.size ++ more) b.parts ∙ sym (append_assoc (u32_bytes b.size) text rest)
          ∙ ap (λ n. (u32_bytes n ++ text) ++ rest) (sym b.len);
      fit = omega (arith, b.len, x.fit);
    }

pub string_exact : IsExact byte_string (λ t. length t < 2 ^ 32) read_bytes
string_exact = record { back = string_read_back; exact = string_spells }

-- ---- texts

pub utf8_is_read : (bytes t rest : List ℕ) → read_bytes bytes ≡ Some (t, rest) → IsUtf8 t → read_utf8 bytes ≡ Some (t, rest)
utf8_is_read bytes t rest e u =
    ap (λ (o : Option (List ℕ × List ℕ)). o >>= λ x. if is_utf8 x.0 then Some x else None) e
    ∙ ap (λ (b : Bool). if b then Some (t, rest) else None) (is_utf8-from_IsUtf8 t u)

abbrev if_utf8 : List ℕ → List ℕ → Bool → Option (List ℕ × List ℕ)
if_utf8 t rest b = if b then Some (t, rest) else None

no_utf8 : (t rest : List ℕ) (b : Bool) → is_utf8 t ≡ b → ¬ (IsUtf8 t) → if_utf8 t rest b ≡ None
no_utf8 t rest true e other = absurd (other (IsUtf8-from_is_utf8 t e))
no_utf8 t rest false e other = refl

pub no_utf8_is_read : (bytes t rest : List ℕ) → read_bytes bytes ≡ Some (t, rest) → ¬ (IsUtf8 t) → read_utf8 bytes ≡ None
no_utf8_is_read bytes t rest e other =
    ap (λ (o : Option (List ℕ × List ℕ)). o >>= λ x. if is_utf8 x.0 then Some x else None) e
    ∙ no_utf8 t rest (is_utf8 t) refl other

text_back : (t rest : List ℕ) → IsUtf8 t × (length t < 2 ^ 32) → read_utf8 (byte_string t ++ rest) ≡ Some (t, rest)
text_back t rest fits = utf8_is_read (byte_string t ++ rest) t rest (string_read_back t rest fits.1) fits.0

text_spells : (bytes t rest : List ℕ) → AreBytes bytes → read_utf8 bytes ≡ Some (t, rest) → Spells byte_string (λ t. IsUtf8 t × (length t < 2 ^ 32)) bytes t rest
text_spells bytes t rest small e =
    let b = bind_some (read_bytes bytes) (λ x. if is_utf8 x.0 then Some x else None) (t, rest) e in
    let g = cond_some (is_utf8 b.0.0) b.0 (t, rest) b.2 in
    let same : b.0.0 ≡ t = ap (λ (p : List ℕ × List ℕ). p.0) g.1 in
    let x = string_spells bytes t rest small (b.1 ∙ ap (λ (p : List ℕ × List ℕ). Some p) g.1) in
    record { whole = x.whole; fit = (IsUtf8-from_is_utf8 t (ap is_utf8 (sym same) ∙ g.0), x.fit) }

pub utf8_exact : IsExact byte_string (λ t. IsUtf8 t × (length t < 2 ^ 32)) read_utf8
utf8_exact = record { back = text_back; exact = text_spells }
