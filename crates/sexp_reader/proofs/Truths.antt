-- The truth values and their spellings.
use Rattle.std.proofs.Common.{◌≡◌, ℕ, Bool, true, false, List, cond, refl, sym, ⊎_elim, inl, inr}
use Rattle.std.specs.Prelude.{Option, None, Some, ◌⊎◌, codes}
use Rattle.std.specs.Str.{bytes_eq}
use Rattle.std.proofs.lemmas.Slice.Eq.{bytes_eq-Decides}
use Rattle.script_value.specs.Numbers.{is_number}
use Rattle.sexp_reader.specs.Letters.{truth_of, is_symbol}
use Rattle.sexp_reader.specs.Spells.{Truth, short_true, long_true, short_false, long_false}

choose_some : {A : Type 0} (b : Bool) (x : A) (other : Option A) (y : A) → cond b (Some x) other ≡ Some y
    → ((b ≡ true) × (x ≡ y)) ⊎ (other ≡ Some y)
choose_some true x other y h = inl (refl, cc)
choose_some false x other y h = inr h

-- one name of the table, and those after it
truth_step : (token name : List ℕ) (x b : Bool) (other : Option Bool) → Truth name x → cond (bytes_eq token name) (Some x) other ≡ Some b
    → (other ≡ Some b → Truth token b) → Truth token b
truth_step token name x b other t h f =
    ⊎_elim (λ e. rw ((bytes_eq-Decides token name).0 e.0, sym e.1) t) f (choose_some (bytes_eq token name) x other b h)

pub truth_spelled : (token : List ℕ) (b : Bool) → truth_of token ≡ Some b → Truth token b
truth_spelled token b h =
    truth_step token (codes "#t") true b _ short_true h (λ h. truth_step token (codes "#true") true b _ long_true h
    (λ h. truth_step token (codes "#f") false b _ short_false h (λ h. truth_step token (codes "#false") false b None long_false h (λ h. absurd (cc)))))

pub truth_read : {token : List ℕ} {b : Bool} → Truth token b → truth_of token ≡ Some b
truth_read short_true = refl
truth_read long_true = refl
truth_read short_false = refl
truth_read long_false = refl

pub truth_no_number : {token : List ℕ} {b : Bool} → Truth token b → is_number token ≡ false
truth_no_number short_true = refl
truth_no_number long_true = refl
truth_no_number short_false = refl
truth_no_number long_false = refl

no_symbol : {token : List ℕ} {b : Bool} → Truth token b → is_symbol token ≡ true → ⊥
no_symbol short_true h = cc
no_symbol long_true h = cc
no_symbol short_false h = cc
no_symbol long_false h = cc

pub symbol_no_truth : (token : List ℕ) → is_symbol token ≡ true → truth_of token ≡ None
symbol_no_truth token h =
    elim (truth_of token) as (λ v. truth_of token ≡ v → v ≡ None) [ None ↦ λ e. refl | Some b ↦ λ e. absurd (no_symbol (truth_spelled token b e) h) ] refl
