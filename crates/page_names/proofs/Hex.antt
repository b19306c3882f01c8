-- Sixteen hexadecimal digits: what is read is what is written.
use Rattle.std.proofs.Common.{◌≡◌, min, ℕ, zero, suc, ◌+◌, ◌*◌, ◌-◌, ◌/◌, ◌%◌, ◌^◌, ◌<◌, ◌≤◌, ◌&&◌, ◌==◌, Bool, true, false, List, [], ◌∷◌, ◌++◌, length, Some, refl, sym, ◌∙◌, ap, arith, append-nil, length-append, pow-suc}
use Rattle.std.specs.Prelude.{replicate}
use Rattle.std.specs.List.{list_all}
use Rattle.std.specs.Char.{digit_value}
use Rattle.std.specs.Fmt.{digits, digits_onto, digit_glyph, padded_integral, format_spec, char_count}
use Rattle.std.specs.Str.Parse.{digits_value, digits_value_after, AllDigits}
use Rattle.std.proofs.lemmas.Bool.{and_parts, and_from, eq-eqb}
use Rattle.std.proofs.lemmas.Bool.Decides.{nat_tests}
use Rattle.std.proofs.lemmas.Int.Digits.{digits_value-lt}
use Rattle.std.proofs.lemmas.List.{length-replicate}
use Rattle.page_names.specs.Hex.{is_hex_digit, hex_number, hex_onto, hex16}
use Rattle.std.proofs.lemmas.Option.{cond_some}

glyph_is : (d : ℕ) → d < 16 → is_hex_digit (digit_glyph false d) ≡ true
glyph_is d small = grind (arith, nat_tests)

glyph_value : (d : ℕ) → d < 16 → digit_value (digit_glyph false d) ≡ d
glyph_value d small = grind (arith, nat_tests)

value_small : (c : ℕ) → is_hex_digit c ≡ true → digit_value c < 16
value_small c h = grind (arith, nat_tests)

value_glyph : (c : ℕ) → is_hex_digit c ≡ true → digit_glyph false (digit_value c) ≡ c
value_glyph c h = grind (arith, nat_tests)

all_digits : (ds : List ℕ) → list_all is_hex_digit ds ≡ true → AllDigits 16 ds
all_digits [] h = tt
all_digits (c ∷ ds) h = let two = and_parts _ _ h in (value_small c two.0, all_digits ds two.1)

weigh : (p m n : ℕ) → (m * p + n / 16) * 16 + n % 16 ≡ m * (p * 16) + n
weigh p m n = omega arith

-- what is written is read
onto_value : (k m n : ℕ) (after : List ℕ) → n < 16 ^ k
    → digits_value_after 16 m (hex_onto k n after) ≡ digits_value_after 16 (m * 16 ^ k + n) after
onto_value zero m n after small =
    let same : m ≡ m * 16 ^ 0 + n = omega arith in ap (λ v. digits_value_after 16 v after) same
onto_value (suc k) m n after small =
    let power : 16 ^ suc k ≡ 16 ^ k * 16 = pow-suc 16 k in
    let later = onto_value k m (n / 16) (digit_glyph false (n % 16) ∷ after) (omega arith) in
    let glyph = glyph_value (n % 16) (omega arith) in
    later ∙ rw (glyph, weigh (16 ^ k) m n, sym power) refl

onto_length : (k n : ℕ) (after : List ℕ) → length (hex_onto k n after) ≡ k + length after
onto_length zero n after = omega arith
onto_length (suc k) n after = omega (arith, onto_length k (n / 16) (digit_glyph false (n % 16) ∷ after))

onto_hex : (k n : ℕ) (after : List ℕ) → list_all is_hex_digit after ≡ true → list_all is_hex_digit (hex_onto k n after) ≡ true
onto_hex zero n after h = h
onto_hex (suc k) n after h = onto_hex k (n / 16) _ (and_from _ _ (glyph_is (n % 16) (omega arith)) h)

-- what is read is written so
onto_back : (ds : List ℕ) (j a : ℕ) (after : List ℕ) → list_all is_hex_digit ds ≡ true
    → hex_onto (length ds + j) (digits_value_after 16 a ds) after ≡ hex_onto j a (ds ++ after)
onto_back [] j a after h = let same : 0 + j ≡ j = omega arith in rw same refl
onto_back (c ∷ ds) j a after h =
    let two = and_parts _ _ h in
    let small = value_small c two.0 in
    let count : suc (length ds) + j ≡ length ds + suc j = omega arith in
    let later = onto_back ds (suc j) (a * 16 + digit_value c) after two.1 in
    let high : (a * 16 + digit_value c) / 16 ≡ a = omega arith in
    let low : (a * 16 + digit_value c) % 16 ≡ digit_value c = omega arith in
    ap (λ n. hex_onto n (digits_value_after 16 (a * 16 + digit_value c) ds) after) count ∙ later ∙ rw (high, low, value_glyph c two.0) refl

replicate_push : (k x : ℕ) (xs : List ℕ) → replicate k x ++ x ∷ xs ≡ x ∷ (replicate k x ++ xs)
replicate_push zero x xs = refl
replicate_push (suc k) x xs = ap (λ ys. x ∷ ys) (replicate_push k x xs)

onto_zero : (k : ℕ) (after : List ℕ) → hex_onto k 0 after ≡ replicate k 48 ++ after
onto_zero zero after = refl
onto_zero (suc k) after = onto_zero k (48 ∷ after) ∙ replicate_push k 48 after

-- the digits without leading zeros, after so many zeros
padded : (k f n : ℕ) (after : List ℕ) → k ≤ f → n < 16 ^ suc k
    → (j : ℕ) × (hex_onto (suc k) n after ≡ replicate j 48 ++ digits_onto (suc f) 16 false n after)
padded zero f n after le small =
    let none : n / 16 ≡ 0 = omega arith in
    let test : (n / 16 == 0) ≡ true = eq-eqb (n / 16) 0 none in
    (0, rw test refl)
padded (suc k) zero n after le small = absurd (omega arith)
padded (suc k) (suc f) n after le small =
    by_test (n / 16 == 0) refl (padded k f (n / 16) (digit_glyph false (n % 16) ∷ after) (omega arith))
  where
    below : n / 16 < 16 ^ suc k
    below = let power : 16 ^ suc (suc k) ≡ 16 ^ suc k * 16 = pow-suc 16 (suc k) in omega arith

    by_test : (t : Bool) → (n / 16 == 0) ≡ t
        → (n / 16 < 16 ^ suc k → (j : ℕ) × (hex_onto (suc k) (n / 16) (digit_glyph false (n % 16) ∷ after)
        ≡ replicate j 48 ++ digits_onto (suc f) 16 false (n / 16) (digit_glyph false (n % 16) ∷ after)))
        → (j : ℕ) × (hex_onto (suc (suc k)) n after ≡ replicate j 48 ++ digits_onto (suc (suc f)) 16 false n after)
    by_test true e later =
        let none : n / 16 ≡ 0 = grind (arith, nat_tests) in
        (suc k, rw (e, none) (onto_zero (suc k) (digit_glyph false (n % 16) ∷ after)))
    by_test false e later = let rest = later below in (rest.0, rw e rest.1)

filled : (ds : List ℕ) (j : ℕ) → j + length ds ≡ 16
    → padded_integral (format_spec 32 0 4 16 (2 ^ 64 - 1)) false [] ds ≡ replicate j 48 ++ ds
unfolding padded_integral char_count
filled ds j e = let short : 16 - length ds - 0 - 0 ≡ j = omega arith in rw (short, append-nil) refl

-- what `{:016x}` writes
pub hex_written : (n : ℕ) → n < 2 ^ 64
    → padded_integral (format_spec 32 0 4 16 (2 ^ 64 - 1)) false [] (digits 16 false n) ≡ hex16 n
unfolding digits hex16
hex_written n small =
    let pad = padded 15 63 n [] (omega arith) (omega arith) in
    let whole : length (replicate pad.0 48 ++ digits_onto 64 16 false n []) ≡ 16 = sym (ap length pad.1) ∙ onto_length 16 n [] in
    let count : pad.0 + length (digits_onto 64 16 false n []) ≡ 16 =
    omega (arith, whole, length-append (replicate pad.0 48) (digits_onto 64 16 false n []), length-replicate {A = ℕ} pad.0 48) in
    filled (digits_onto 64 16 false n []) pad.0 count ∙ sym pad.1

-- a digit below the letters
pub decimal_digit : (c : ℕ) → is_hex_digit c ≡ true → c ≤ 57 → digit_value c ≡ c - 48
decimal_digit c h low = grind (arith, nat_tests)

-- a digit that is a letter
pub letter_digit : (c : ℕ) → is_hex_digit c ≡ true → 57 < c → digit_value c ≡ (c - 97) + 10
letter_digit c h high = grind (arith, nat_tests)

-- what is read is the number of the digits, which fits
pub hex_read : (ds : List ℕ) → length ds ≡ 16 → list_all is_hex_digit ds ≡ true → Some (min (digits_value 16 ds) (2 ^ 64 - 1)) ≡ hex_number ds
hex_read ds len h =
    let test : (length ds == 16) ≡ true = eq-eqb _ _ len in
    let below : digits_value 16 ds < 16 ^ length ds = digits_value-lt 16 ds (all_digits ds h) in
    let fits : digits_value 16 ds < 2 ^ 64 = (let f : digits_value 16 ds < 16 ^ 16 = rw len at below in f) in
    let same : min (digits_value 16 ds) (2 ^ 64 - 1) ≡ digits_value 16 ds = omega (arith, fits) in
    rw (test, h, same) refl

-- what is read is spelled so, and fits
pub hex_spelled : (ds : List ℕ) (n : ℕ) → hex_number ds ≡ Some n → (ds ≡ hex16 n) × (n < 2 ^ 64)
unfolding hex16
hex_spelled ds n e =
    let c = cond_some (length ds == 16 && list_all is_hex_digit ds) (digits_value 16 ds) n e in
    let tests = and_parts (length ds == 16) (list_all is_hex_digit ds) c.0 in
    let len : length ds ≡ 16 = grind (arith, nat_tests) in
    let back = onto_back ds 0 0 [] tests.1 in
    let count : length ds + 0 ≡ 16 = omega arith in
    let below : digits_value 16 ds < 16 ^ length ds = digits_value-lt 16 ds (all_digits ds tests.1) in (
      sym (append-nil ds) ∙ sym back ∙ ap (λ k. hex_onto k (digits_value 16 ds) []) count ∙ ap (λ v. hex_onto 16 v []) c.1,
      (let fits : digits_value 16 ds < 16 ^ 16 = rw len at below in omega (arith, c.1)),
    )

-- what is spelled so is read
pub hex_found : (n : ℕ) → n < 2 ^ 64 → hex_number (hex16 n) ≡ Some n
unfolding hex16
hex_found n small =
    let len : (length (hex_onto 16 n []) == 16) ≡ true = eq-eqb _ _ (onto_length 16 n []) in
    let all = onto_hex 16 n [] refl in
    let value : digits_value 16 (hex_onto 16 n []) ≡ n =
    let read = onto_value 16 0 n [] small in
    let none : 0 * 16 ^ 16 + n ≡ n = omega arith in read ∙ none in
    rw (len, all, value) refl

pub hex16_length : (n : ℕ) → length (hex16 n) ≡ 16
unfolding hex16
hex16_length n = onto_length 16 n []

pub hex16_digits : (n : ℕ) → list_all is_hex_digit (hex16 n) ≡ true
unfolding hex16
hex16_digits n = onto_hex 16 n [] refl
