-- What is left of a UTF-8 text after a piece is UTF-8.
use Rattle.std.proofs.Common.{◌≡◌, ℕ, ◌+◌, ◌<◌, Bool, true, false, cond, inl, inr, ⊎_elim, List, [], ◌∷◌, ◌++◌, length, get_or, take, drop, refl, sym, ap, ◌∙◌, subst, arith, append_assoc, ◌-◌}
use Rattle.std.specs.Prelude.{not, IsUtf8, ◌==◌, Option, None, Some, Result, Ok, Err, ◌⊎◌}
use Rattle.std.proofs.lemmas.List.{length-append}
use Rattle.std.proofs.lemmas.Bool.Decides.{nat_tests}
use Rattle.std.proofs.lemmas.Str.{IsUtf8-take, IsUtf8-drop, IsUtf8-nil, IsUtf8-append, IsCharBoundary-before_ascii, IsCharBoundary-after_ascii}
use Rattle.std.proofs.Math.Seq.{take-append_seam, drop-append-add, get_or-append_seam}
use Rattle.script_value.specs.Numbers.{is_number}
use Rattle.sexp_reader.specs.declared.classes.Class.{Class}
use Rattle.sexp_reader.specs.declared.classes.Class.TheVariants.{Blank, Comment, Opening, Closing, Marking, DoubleQuote, Plain}
use Rattle.sexp_reader.specs.declared.classes.Mark.{Mark}
use Rattle.sexp_reader.specs.declared.classes.Mark.TheVariants.{Quote, Quasiquote, Unquote, UnquoteSplicing}
use Rattle.std.proofs.lemmas.Bool.{eqb-true, cond-false, false_from_ne_true}
use Rattle.sexp_reader.specs.declared.fault.ReadKind.TheVariants.{Token}
use Rattle.sexp_reader.specs.Letters.{class_of, is_plain, whole_mark, escaped, truth_of, is_symbol}
use Rattle.sexp_reader.specs.Read.{Fault, State, ◌>>=◌, text_from, escape_from, past_gap, word_at, token_len, with_rest, take_mark, take_text, take_token, put, open_list, open_mark, close_list}
use Rattle.sexp_reader.specs.Views.{piece_at}
use Rattle.script_value.specs.Val.{Val, truth, symbol, text}
use Rattle.std.proofs.Math.Seq.{take-length}
use Rattle.std.proofs.lemmas.List.{take-append-drop}
use Rattle.sexp_reader.proofs.Ascii.{AllAscii, ascii_utf8, number_ascii, truth_ascii, symbol_ascii}

-- a text that is cut at an ASCII byte
pub front_utf8 : (xs ys : List ℕ) (b : ℕ) → IsUtf8 (xs ++ b ∷ ys) → b < 128 → IsUtf8 xs
front_utf8 xs ys b u h =
    let l : length xs < length (xs ++ b ∷ ys) = omega (arith, length-append xs (b ∷ ys)) in
    let g : get_or (xs ++ b ∷ ys) (length xs) 0 < 128 = omega (arith, get_or-append_seam xs b ys 0) in
    let r = IsUtf8-take (xs ++ b ∷ ys) (length xs) u (IsCharBoundary-before_ascii (xs ++ b ∷ ys) (length xs) l g) in
    let P : List ℕ → Type 0 = λ t. IsUtf8 t in
    subst P (take-append_seam xs (b ∷ ys)) r

pub back_utf8 : (xs ys : List ℕ) (b : ℕ) → IsUtf8 (xs ++ b ∷ ys) → b < 128 → IsUtf8 ys
back_utf8 xs ys b u h =
    let l : length xs < length (xs ++ b ∷ ys) = omega (arith, length-append xs (b ∷ ys)) in
    let g : get_or (xs ++ b ∷ ys) (length xs) 0 < 128 = omega (arith, get_or-append_seam xs b ys 0) in
    let r = IsUtf8-drop (xs ++ b ∷ ys) (length xs + 1) u (IsCharBoundary-after_ascii (xs ++ b ∷ ys) (length xs) u l g) in
    let P : List ℕ → Type 0 = λ t. IsUtf8 t in
    subst P (drop-append-add xs (b ∷ ys) 1) r

pub class_ascii : (b : ℕ) → is_plain (class_of b) ≡ false → b < 128
class_ascii b h = grind (arith, nat_tests)

pub escaped_ascii : (b c : ℕ) → escaped b ≡ Some c → (b < 128) × (c < 128)
escaped_ascii b c h = grind (arith, nat_tests)

pub same_rest : {A B : Type 0} (p q : A × B) (r : Result (A × B) Fault) → r ≡ Ok p → r ≡ Ok q → (p.0 ≡ q.0) × (p.1 ≡ q.1)
same_rest p q r e f = let k : p ≡ q = cc in (ap (λ x. x.0) k, ap (λ x. x.1) k)

pub err_ok : {A : Type 0} (e : Fault) (x : A) (r : Result A Fault) → r ≡ Err e → r ≡ Ok x → ⊥
err_ok e x r h k = cc

mutual
  pub text_utf8 : (place : ℕ) (done bytes : List ℕ) (p : List ℕ × List ℕ) → IsUtf8 (done ++ bytes) → text_from place done bytes ≡ Ok p
      → IsUtf8 p.0 × IsUtf8 p.1
  text_utf8 place done [] p u h = absurd (cc)
  text_utf8 place done (b ∷ bs) p u h =
      let here : List ℕ × List ℕ = (done, bs) in
      elim (b == 34) as (λ v. (b == 34) ≡ v
      → (elim v [ true ↦ Ok here | false ↦ elim (b == 92) [ true ↦ escape_from place done bs | false ↦ text_from place (done ++ b ∷ []) bs ] ]) ≡ Ok p
      → IsUtf8 p.0 × IsUtf8 p.1) [
        | true ↦ λ e k. let q : b ≡ 34 = eqb-true b 34 e in let s : b < 128 = omega arith in
            let o = same_rest here p (Ok here) refl k in
            let P : List ℕ → Type 0 = λ t. IsUtf8 t in
            (subst P o.0 (front_utf8 done bs b u s), subst P o.1 (back_utf8 done bs b u s))
        | false ↦ λ e. elim (b == 92) as (λ v. (b == 92) ≡ v
            → (elim v [ true ↦ escape_from place done bs | false ↦ text_from place (done ++ b ∷ []) bs ]) ≡ Ok p
            → IsUtf8 p.0 × IsUtf8 p.1) [
              | true ↦ λ d k. let q : b ≡ 92 = eqb-true b 92 d in let s : b < 128 = omega arith in
                  escape_utf8 place done bs p (front_utf8 done bs b u s) (back_utf8 done bs b u s) k
              | false ↦ λ d k. text_utf8 place (done ++ b ∷ []) bs p (rw append_assoc u) k
            ] refl
      ] refl h

  escape_utf8 : (place : ℕ) (done bytes : List ℕ) (p : List ℕ × List ℕ) → IsUtf8 done → IsUtf8 bytes → escape_from place done bytes ≡ Ok p
      → IsUtf8 p.0 × IsUtf8 p.1
  escape_utf8 place done [] p u w h = absurd (cc)
  escape_utf8 place done (b ∷ bs) p u w h =
      let bad : Fault = (place, Token) in
      elim (escaped b) as (λ v. escaped b ≡ v
      → (elim v [ None ↦ Err bad | Some d ↦ text_from place (done ++ d ∷ []) bs ]) ≡ Ok p
      → IsUtf8 p.0 × IsUtf8 p.1) [
        | None ↦ λ e k. absurd (err_ok bad p (Err bad) refl k)
        | Some d ↦ λ e k. let s = escaped_ascii b d e in
            text_utf8 place (done ++ d ∷ []) bs p
            (IsUtf8-append (done ++ d ∷ []) bs (IsUtf8-append done (d ∷ []) u (ascii_utf8 (d ∷ []) (s.1, tt))) (back_utf8 [] bs b w s.0)) k
      ] refl h

pub gap_utf8 : (in_comment : Bool) (front bytes : List ℕ) → (in_comment ≡ false → front ≡ []) → IsUtf8 (front ++ bytes)
    → IsUtf8 (past_gap in_comment bytes)
gap_utf8 in_comment front [] n u = IsUtf8-nil
gap_utf8 true front (b ∷ bs) n u =
    elim (b == 10) as (λ v. (b == 10) ≡ v → IsUtf8 (past_gap (not v) bs)) [
      | true ↦ λ e. let q : b ≡ 10 = eqb-true b 10 e in let s : b < 128 = omega arith in gap_utf8 false [] bs (λ _. refl) (back_utf8 front bs b u s)
      | false ↦ λ e. gap_utf8 true (front ++ b ∷ []) bs (λ x. absurd (cc)) (rw append_assoc u)
    ] refl
gap_utf8 false front (b ∷ bs) n u =
    let w : IsUtf8 (b ∷ bs) = rw (n refl) at u in
    elim (class_of b) as (λ v. class_of b ≡ v → IsUtf8 (elim v [ Blank ↦ past_gap false bs | Comment ↦ past_gap true bs | _ ↦ b ∷ bs ])) [
      | Blank ↦ λ e. gap_utf8 false [] bs (λ _. refl) (back_utf8 [] bs b w (class_ascii b (ap is_plain e)))
      | Comment ↦ λ e. gap_utf8 true [] bs (λ _. refl) (back_utf8 [] bs b w (class_ascii b (ap is_plain e)))
      | _ ↦ λ e. w
    ] refl

pub bind_ok : {A B : Type 0} (r : Result A Fault) (f : A → Result B Fault) (y : B) → (r >>= f) ≡ Ok y → (x : A) × (r ≡ Ok x) × (f x ≡ Ok y)
bind_ok (Ok x) f y h = (x, refl, h)
bind_ok (Err e) f y h = absurd (cc)

pub choose_ok : {A : Type 0} (b : Bool) (x y : Result A Fault) (z : A) → (cond b x y) ≡ Ok z
    → ((b ≡ true) × (x ≡ Ok z)) ⊎ ((b ≡ false) × (y ≡ Ok z))
choose_ok true x y z h = inl (refl, h)
choose_ok false x y z h = inr (refl, h)

ascii_front : (xs ys : List ℕ) → AllAscii xs → IsUtf8 (xs ++ ys) → IsUtf8 ys
ascii_front [] ys h u = u
ascii_front (x ∷ xs) ys h u = ascii_front xs ys h.1 (back_utf8 [] (xs ++ ys) x u h.0)

-- what a token at this place is that is no number, where this is its truth value
abbrev pub other_word : ℕ → List ℕ → Option Bool → Result Val Fault
other_word place token (Some b) = Ok (truth b)
other_word place token None = cond (is_symbol token) (Ok (symbol token)) (Err (place, Token))

pub word_ascii : (place : ℕ) (token : List ℕ) (v : Val) → word_at place token ≡ Ok v → AllAscii token
word_ascii place token v h =
    let bad : Result Val Fault = Err (place, Token) in
    ⊎_elim (λ e. number_ascii token e.0)
    (λ e. elim (truth_of token) as (λ t. truth_of token ≡ t → other_word place token t ≡ Ok v → AllAscii token) [
      | Some b ↦ λ d k. truth_ascii token b d
      | None ↦ λ d k. ⊎_elim (λ f. symbol_ascii token f.0) (λ f. absurd (err_ok (place, Token) v bad refl f.1))
          (choose_ok (is_symbol token) (Ok (symbol token)) bad v k)
    ] refl e.1)
    (choose_ok (is_number token) _ _ v h)

-- a token that is no text is no word
pub not_word : (place : ℕ) (token : List ℕ) → (IsUtf8 token → ⊥) → word_at place token ≡ Err (place, Token)
not_word place token u =
    let n = false_from_ne_true (is_number token) (λ e. u (ascii_utf8 token (number_ascii token e))) in
    let s = false_from_ne_true (is_symbol token) (λ e. u (ascii_utf8 token (symbol_ascii token e))) in
    let t : truth_of token ≡ None = elim (truth_of token) as (λ v. truth_of token ≡ v → v ≡ None) [
      | None ↦ λ e. refl
      | Some b ↦ λ e. absurd (u (ascii_utf8 token (truth_ascii token b e)))
    ] refl in
    cond-false _ _ _ n ∙ (ap (other_word place token) t ∙ cond-false _ _ _ s)

with_rest_is : (bs : List ℕ) (r : Result State Fault) (next : State) (rest : List ℕ) → with_rest bs r ≡ Ok (next, rest) → bs ≡ rest
with_rest_is bs r next rest h =
    let e = bind_ok r (λ state. Ok (state, bs)) (next, rest) h in
    (same_rest (e.0, bs) (next, rest) (Ok (e.0, bs)) refl e.2).1

whole_mark_utf8 : (mark : Mark) (bytes : List ℕ) → IsUtf8 bytes → IsUtf8 (whole_mark mark bytes).1
whole_mark_utf8 Quote bytes u = u
whole_mark_utf8 Quasiquote bytes u = u
whole_mark_utf8 Unquote [] u = u
whole_mark_utf8 Unquote (b ∷ bs) u =
    let split : Mark × List ℕ = (UnquoteSplicing, bs) in
    let alone : Mark × List ℕ = (Unquote, b ∷ bs) in
    elim (b == 64) as (λ v. (b == 64) ≡ v → IsUtf8 (cond v split alone).1) [
      | true ↦ λ e. let q : b ≡ 64 = eqb-true b 64 e in let s : b < 128 = omega arith in back_utf8 [] bs b u s
      | false ↦ λ e. u
    ] refl
whole_mark_utf8 UnquoteSplicing bytes u = u

text_rest : (place : ℕ) (bs : List ℕ) (state next : State) (rest : List ℕ) → IsUtf8 bs → take_text place bs state ≡ Ok (next, rest) → IsUtf8 rest
text_rest place bs state next rest u h =
    let e = bind_ok (text_from place [] bs) (λ found. Ok (put (text found.0) state.items state.levels, found.1)) (next, rest) h in
    let P : List ℕ → Type 0 = λ t. IsUtf8 t in
    subst P (same_rest (put (text e.0.0) state.items state.levels, e.0.1) (next, rest) (Ok (put (text e.0.0) state.items state.levels, e.0.1)) refl e.2).1
    (text_utf8 place [] bs e.0 u e.1).1

token_rest : (place : ℕ) (bytes : List ℕ) (state next : State) (rest : List ℕ) → IsUtf8 bytes → take_token place bytes state ≡ Ok (next, rest) → IsUtf8 rest
token_rest place bytes state next rest u h =
    let e = bind_ok (word_at place (take (token_len bytes) bytes)) (λ v. Ok (put v state.items state.levels, drop (token_len bytes) bytes)) (next, rest) h in
    let P : List ℕ → Type 0 = λ t. IsUtf8 t in
    subst P (same_rest (put e.0 state.items state.levels, drop (token_len bytes) bytes) (next, rest) (Ok (put e.0 state.items state.levels, drop (token_len bytes) bytes)) refl e.2).1
    (ascii_front (take (token_len bytes) bytes) (drop (token_len bytes) bytes) (word_ascii place (take (token_len bytes) bytes) e.0 e.1)
    (subst P (sym (take-append-drop (token_len bytes) bytes)) u))

pub piece_utf8 : (place : ℕ) (bytes : List ℕ) (state next : State) (rest : List ℕ) → IsUtf8 bytes → piece_at place bytes state ≡ Ok (next, rest) → IsUtf8 rest
piece_utf8 place [] state next rest u h = absurd (cc)
piece_utf8 place (b ∷ bs) state next rest u h =
    let P : List ℕ → Type 0 = λ t. IsUtf8 t in
    let p : State × List ℕ = (next, rest) in
    let bad : Fault = (place, Token) in
    let read_at : Class → Result (State × List ℕ) Fault = λ v. elim v [
      | Opening d ↦ with_rest bs (open_list d place state)
      | Closing d ↦ with_rest bs (close_list d place state.items state.levels)
      | Marking m ↦ take_mark m place bs state
      | DoubleQuote ↦ take_text place bs state
      | Plain ↦ take_token place (b ∷ bs) state
      | _ ↦ Err bad
    ] in
    elim (class_of b) as (λ v. class_of b ≡ v → read_at v ≡ Ok p → IsUtf8 rest) [
      | Opening d ↦ λ e k. subst P (with_rest_is bs (open_list d place state) next rest k) (back_utf8 [] bs b u (class_ascii b (ap is_plain e)))
      | Closing d ↦ λ e k. subst P (with_rest_is bs (close_list d place state.items state.levels) next rest k) (back_utf8 [] bs b u (class_ascii b (ap is_plain e)))
      | Marking m ↦ λ e k. subst P (with_rest_is (whole_mark m bs).1 (open_mark (whole_mark m bs).0 place state) next rest k)
          (whole_mark_utf8 m bs (back_utf8 [] bs b u (class_ascii b (ap is_plain e))))
      | DoubleQuote ↦ λ e k. text_rest place bs state next rest (back_utf8 [] bs b u (class_ascii b (ap is_plain e))) k
      | Plain ↦ λ e k. token_rest place (b ∷ bs) state next rest u k
      | _ ↦ λ e k. absurd (err_ok bad p (Err bad) refl k)
    ] refl h

pub tail_utf8 : (bytes : List ℕ) → IsUtf8 bytes → 0 < length bytes → is_plain (class_of (get_or bytes 0 0)) ≡ false
    → IsUtf8 (take (length bytes - 1) (drop 1 bytes))
tail_utf8 [] u l h = absurd (omega arith)
tail_utf8 (b ∷ bs) u l h =
    let e : length (b ∷ bs) - 1 ≡ length bs = omega arith in
    rw (e, take-length bs) (back_utf8 [] bs b u (class_ascii b h))
