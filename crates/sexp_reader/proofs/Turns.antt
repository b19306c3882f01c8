-- One piece after the other.
use Rattle.std.proofs.Common.{◌≡◌, ℕ, zero, suc, ◌-◌, ◌<◌, ◌≤◌, Bool, false, ⊎_elim, List, [], ◌∷◌, length, refl, sym, ap, ◌∙◌, arith}
use Rattle.std.specs.Prelude.{Result, Ok, Err, IsUtf8, nat_lt, ◌==◌}
use Rattle.std.specs.Str.{is_utf8}
use Rattle.std.specs.Str.Lossy.{utf8_valid_len}
use Rattle.std.proofs.lemmas.Str.{is_utf8-from_IsUtf8, IsUtf8-from_is_utf8}
use Rattle.std.proofs.lemmas.Bool.{cases_Bool, cond-true, cond-false}
use Rattle.std.proofs.lemmas.Bool.Decides.{nat_tests}
use Rattle.sexp_reader.specs.declared.fault.ReadKind.TheVariants.{Utf8}
use Rattle.script_value.specs.Val.{Val}
use Rattle.sexp_reader.specs.Read.{Fault, State, pieces, after_gap, ◌>>=◌, finish, start, read, scan}
use Rattle.sexp_reader.specs.Views.{piece_at, Fails}
use Rattle.sexp_reader.specs.declared.fault.ReadFault.{ReadFault}
use Rattle.sexp_reader.specs.declared.fault.ReadFault.TheVariants.{Memory, At}

pub next_piece : (n total : ℕ) (state next : State) (bytes rest : List ℕ) → length bytes < n → 0 < length bytes
    → piece_at (total - length bytes) bytes state ≡ Ok (next, rest) → length (after_gap rest) < length bytes
    → (m : ℕ) × (length (after_gap rest) < m) × (pieces n total state bytes ≡ pieces m total next (after_gap rest))
next_piece zero total state next bytes rest l z h s = absurd (omega arith)
next_piece (suc n) total state next [] rest l z h s = absurd (omega arith)
next_piece (suc n) total state next (b ∷ bs) rest l z h s =
    (n, omega arith, ap (λ r. r >>= λ found. pieces n total found.0 (after_gap found.1)) h)

pub bad_piece : (n total : ℕ) (state : State) (bytes : List ℕ) (e : Fault) → length bytes < n → 0 < length bytes
    → piece_at (total - length bytes) bytes state ≡ Err e → pieces n total state bytes ≡ Err e
bad_piece zero total state bytes e l z h = absurd (omega arith)
bad_piece (suc n) total state [] e l z h = absurd (omega arith)
bad_piece (suc n) total state (b ∷ bs) e l z h = ap (λ r. r >>= λ found. pieces n total found.0 (after_gap found.1)) h

pub no_piece : (n total : ℕ) (state : State) (bytes : List ℕ) → length bytes < n → length bytes ≡ 0
    → pieces n total state bytes ≡ finish state.items state.levels
no_piece zero total state bytes l z = absurd (omega arith)
no_piece (suc n) total state [] l z = refl
no_piece (suc n) total state (b ∷ bs) l z = absurd (omega arith)

pub first_piece : (bytes rest : List ℕ) (state : State) → state ≡ start → rest ≡ after_gap bytes → length rest ≤ length bytes
    → (n : ℕ) × (length rest < n) × (pieces n (length bytes) state rest ≡ pieces (suc (length bytes)) (length bytes) start (after_gap bytes))
first_piece bytes rest state e f l = (suc (length bytes), omega arith, cc)

pub more_pieces : (n total : ℕ) (state next : State) (bytes rest gone : List ℕ) (all : Result (List Val) Fault) → length bytes < n → 0 < length bytes
    → pieces n total state bytes ≡ all
    → piece_at (total - length bytes) bytes state ≡ Ok (next, rest) → gone ≡ after_gap rest → length gone < length bytes
    → (m : ℕ) × (length gone < m) × (pieces m total next gone ≡ all)
more_pieces n total state next bytes rest gone all l z same h g s =
    let e = next_piece n total state next bytes rest l z h (rw g at s) in
    (e.0, rw g (e.1), rw g (sym e.2 ∙ same))

pub fails_piece : (e : ReadFault) (n total : ℕ) (state : State) (bytes : List ℕ) (all : Result (List Val) Fault) → length bytes < n → 0 < length bytes
    → pieces n total state bytes ≡ all → Fails e (piece_at (total - length bytes) bytes state) → Fails e all
fails_piece Memory n total state bytes all l z same h = tt
fails_piece (At error) n total state bytes all l z same h = sym same ∙ bad_piece n total state bytes (error.place, error.kind) l z h

pub short_test : (n : ℕ) → n ≤ 65536 → nat_lt 65536 n ≡ false
short_test n h = grind (arith, nat_tests)

pub read_utf8 : (bytes : List ℕ) → length bytes ≤ 65536 → IsUtf8 bytes → read bytes ≡ scan bytes
read_utf8 bytes l u = cond-false _ _ _ (short_test (length bytes) l) ∙ cond-true _ _ _ (is_utf8-from_IsUtf8 bytes u)

not_utf8 : (bytes : List ℕ) → (IsUtf8 bytes → ⊥) → is_utf8 bytes ≡ false
not_utf8 bytes h = ⊎_elim (λ e. absurd (h (IsUtf8-from_is_utf8 bytes e))) (λ e. e) (cases_Bool (is_utf8 bytes))

pub read_bytes : (bytes : List ℕ) (e : ReadFault) (place : ℕ) → length bytes ≤ 65536 → (IsUtf8 bytes → ⊥) → place ≡ utf8_valid_len bytes
    → e ≡ At (record { place = place; kind = Utf8 }) → Fails e (read bytes)
read_bytes bytes e place l u p h =
    rw (h, p) (cond-false _ _ _ (short_test (length bytes) l) ∙ cond-false _ _ _ (not_utf8 bytes u))

pub some_left : (n : ℕ) (b : Bool) → b ≡ (n == 0) → b ≡ false → 0 < n
some_left zero b e h = absurd (cc)
some_left (suc n) b e h = omega arith
