-- Tokens that are numbers or symbols are ASCII.
use Rattle.std.proofs.Common.{◌≡◌, ℕ, zero, suc, ◌<◌, Bool, true, List, [], ◌∷◌, length, get_or, arith, ⊎_elim}
use Rattle.std.specs.Prelude.{IsUtf8, Some, nat_lt}
use Rattle.std.specs.List.{list_all}
use Rattle.std.specs.Char.{is_ascii_digit}
use Rattle.std.specs.Str.Parse.{without_leading_sign}
use Rattle.std.proofs.lemmas.Str.{IsUtf8-from_ascii}
use Rattle.std.proofs.lemmas.Bool.{and_parts}
use Rattle.std.proofs.lemmas.Bool.Decides.{nat_tests, eqb_tells}
use Rattle.script_value.specs.Numbers.{is_number}
use Rattle.sexp_reader.specs.Letters.{truth_of, is_symbol, is_symbol_byte}
use Rattle.sexp_reader.specs.Spells.{Truth, short_true, long_true, short_false, long_false}
use Rattle.sexp_reader.proofs.Truths.{truth_spelled}

abbrev pub AllAscii : List ℕ → Type 0
AllAscii [] = Unit {0}
AllAscii (b ∷ bs) = (b < 128) × AllAscii bs

ascii_at : (bs : List ℕ) → AllAscii bs → (i : ℕ) → get_or bs i 0 < 128
ascii_at [] h i = omega arith
ascii_at (b ∷ bs) h zero = h.0
ascii_at (b ∷ bs) h (suc i) = ascii_at bs h.1 i

pub ascii_utf8 : (bs : List ℕ) → AllAscii bs → IsUtf8 bs
ascii_utf8 bs h = IsUtf8-from_ascii bs (ascii_at bs h)

pub all_ascii : (p : ℕ → Bool) → ((b : ℕ) → p b ≡ true → b < 128) → (bs : List ℕ) → list_all p bs ≡ true → AllAscii bs
all_ascii p f [] h = tt
all_ascii p f (b ∷ bs) h = let e = and_parts (p b) (list_all p bs) h in (f b e.0, all_ascii p f bs e.1)

pub digit_ascii : (b : ℕ) → is_ascii_digit b ≡ true → b < 128
digit_ascii b h = grind (arith, nat_tests)

pub symbol_byte_ascii : (b : ℕ) → is_symbol_byte b ≡ true → b < 128
symbol_byte_ascii b h = grind (arith, nat_tests)

signed_ascii : (b : ℕ) (bs : List ℕ) → AllAscii (without_leading_sign (b ∷ bs)) → AllAscii (b ∷ bs)
signed_ascii b bs h =
    ⊎_elim
    (λ e. let s : b ≡ 45 = e.1 in let t : AllAscii bs = rw e.0 at h in (omega arith, t))
    (λ e. ⊎_elim
    (λ d. let t : AllAscii bs = rw (e.0, d.0) at h in (omega (arith, d.1), t))
    (λ d. rw (e.0, d.0) at h)
    (eqb_tells b 43))
    (eqb_tells b 45)

pub number_ascii : (token : List ℕ) → is_number token ≡ true → AllAscii token
number_ascii [] h = tt
number_ascii (b ∷ bs) h =
    signed_ascii b bs (all_ascii is_ascii_digit digit_ascii (without_leading_sign (b ∷ bs)) (and_parts (nat_lt 0 (length (without_leading_sign (b ∷ bs)))) (list_all is_ascii_digit (without_leading_sign (b ∷ bs))) h).1)

pub symbol_ascii : (token : List ℕ) → is_symbol token ≡ true → AllAscii token
symbol_ascii [] h = tt
symbol_ascii (b ∷ bs) h =
    all_ascii is_symbol_byte symbol_byte_ascii (b ∷ bs) (and_parts _ _ (and_parts _ _ (and_parts _ _ h).0).0).0

truth_bytes : {token : List ℕ} {b : Bool} → Truth token b → AllAscii token
truth_bytes short_true = (omega arith, (omega arith, tt))
truth_bytes long_true = (omega arith, (omega arith, (omega arith, (omega arith, (omega arith, tt)))))
truth_bytes short_false = (omega arith, (omega arith, tt))
truth_bytes long_false = (omega arith, (omega arith, (omega arith, (omega arith, (omega arith, (omega arith, tt))))))

pub truth_ascii : (token : List ℕ) (b : Bool) → truth_of token ≡ Some b → AllAscii token
truth_ascii token b h = truth_bytes (truth_spelled token b h)
