-- A fault stays whatever is written after a text.
use Rattle.std.proofs.Common.{◌≡◌, ℕ, zero, suc, ◌≤◌, Bool, true, false, cond, List, [], ◌∷◌, ◌++◌, length, take, drop, refl, sym, ap, ◌∙◌, arith}
use Rattle.std.specs.Prelude.{not, ◌==◌, Option, None, Some, Result, Ok, Err}
use Rattle.std.proofs.lemmas.Bool.{cond-false}
use Rattle.std.proofs.lemmas.List.{take-append-le, drop-append-le}
use Rattle.script_value.specs.Val.{Val, text}
use Rattle.sexp_reader.specs.declared.fault.ReadKind.{ReadKind}
use Rattle.sexp_reader.specs.declared.fault.ReadKind.TheVariants.{Long, Token, Unclosed}
use Rattle.sexp_reader.specs.declared.classes.Class.{Class}
use Rattle.sexp_reader.specs.declared.classes.Class.TheVariants.{Blank, Comment, Opening, Closing, Marking, DoubleQuote, Plain}
use Rattle.sexp_reader.specs.declared.classes.Mark.{Mark}
use Rattle.sexp_reader.specs.declared.classes.Mark.TheVariants.{Quote, Quasiquote, Unquote, UnquoteSplicing}
use Rattle.sexp_reader.specs.Letters.{class_of, is_plain, ends_token, whole_mark, escaped}
use Rattle.sexp_reader.specs.Read.{Fault, ◌>>=◌, past_gap, token_len, word_at, text_from, escape_from, Level, opened, marked, State, put, open_list, open_mark, close_list, finish, take_mark, take_text, take_token, with_rest, piece, pieces}
use Rattle.sexp_reader.specs.Spells.{AtTokenEnd}
use Rattle.sexp_reader.specs.Laws.{is_met_inside}
use Rattle.sexp_reader.proofs.ByteClasses.{plain_is}
use Rattle.sexp_reader.proofs.Again.{test_false}

-- what is left, with more after it
abbrev pub extend : {A : Type 0} → List ℕ → Result (A × List ℕ) Fault → Result (A × List ℕ) Fault
extend more (Ok p) = Ok (p.0, p.1 ++ more)
extend more (Err e) = Err e

pub kinds_met : (e : Fault) (place : ℕ) (kind : ReadKind) {A : Type 0} (r : Result A Fault) → r ≡ Err e → r ≡ Err (place, kind) → e.1 ≡ kind
kinds_met e place kind r h k = let s : e ≡ (place, kind) = cc in ap (λ x. x.1) s

-- a kind of fault that is not met inside
pub outside : {A : Type 0} (p : ℕ) (k : ReadKind) (place : ℕ) (kind : ReadKind) (r : Result A Fault) → r ≡ Err (p, k) → is_met_inside k ≡ false
    → r ≡ Err (place, kind) → is_met_inside kind ≡ true → ⊥
outside p k place kind r h o e i =
    let s : k ≡ kind = kinds_met (p, k) place kind r h e in
    let t : is_met_inside k ≡ true = ap is_met_inside s ∙ i in cc

pub gap_more : (in_comment : Bool) (bytes more : List ℕ) (b : ℕ) (bs : List ℕ) → past_gap in_comment bytes ≡ b ∷ bs
    → past_gap in_comment (bytes ++ more) ≡ (b ∷ bs) ++ more
gap_more in_comment [] more b bs h = absurd (cc)
gap_more true (x ∷ xs) more b bs h = gap_more (not (x == 10)) xs more b bs h
gap_more false (x ∷ xs) more b bs h =
    let past : List ℕ → Class → List ℕ = λ t v. elim v [ Blank ↦ past_gap false t | Comment ↦ past_gap true t | _ ↦ x ∷ t ] in
    elim (class_of x) as (λ v. past xs v ≡ b ∷ bs → past (xs ++ more) v ≡ (b ∷ bs) ++ more) [
      | Blank ↦ λ e. gap_more false xs more b bs e
      | Comment ↦ λ e. gap_more true xs more b bs e
      | _ ↦ λ e. ap (λ t. t ++ more) e
    ] h

-- tokens

length_more : (bytes more : List ℕ) → AtTokenEnd more → token_len (bytes ++ more) ≡ token_len bytes
length_more [] [] e = refl
length_more [] (b ∷ bs) e =
    let count : Bool → ℕ = λ v. elim v [ true ↦ suc (token_len bs) | false ↦ 0 ] in
    ap count (plain_is b ∙ ap not e)
length_more (b ∷ bs) more e =
    let count : List ℕ → Bool → ℕ = λ t v. elim v [ true ↦ suc (token_len t) | false ↦ 0 ] in
    elim (is_plain (class_of b)) as (λ v. count (bs ++ more) v ≡ count bs v) [ true ↦ ap suc (length_more bs more e) | false ↦ refl ]

token_within : (bytes : List ℕ) → token_len bytes ≤ length bytes
token_within [] = omega arith
token_within (b ∷ bs) =
    let count : Bool → ℕ = λ v. elim v [ true ↦ suc (token_len bs) | false ↦ 0 ] in
    elim (is_plain (class_of b)) as (λ v. count v ≤ suc (length bs)) [ true ↦ omega (arith, token_within bs) | false ↦ omega arith ]

word_more : (r : Result Val Fault) (f : Val → State) (rest more : List ℕ)
    → (r >>= λ v. Ok (f v, rest ++ more)) ≡ extend more (r >>= λ v. Ok (f v, rest))
word_more (Ok v) f rest more = refl
word_more (Err e) f rest more = refl

token_more : (place : ℕ) (bytes more : List ℕ) (state : State) → AtTokenEnd more
    → take_token place (bytes ++ more) state ≡ extend more (take_token place bytes state)
token_more place bytes more state e =
    let f : Val → State = λ v. put v state.items state.levels in
    let by_count : ℕ → Result (State × List ℕ) Fault = λ n.
    word_at place (take n (bytes ++ more)) >>= λ v. Ok (f v, drop n (bytes ++ more)) in
    let by_front : List ℕ → Result (State × List ℕ) Fault = λ t.
    word_at place t >>= λ v. Ok (f v, drop (token_len bytes) (bytes ++ more)) in
    let by_back : List ℕ → Result (State × List ℕ) Fault = λ t.
    word_at place (take (token_len bytes) bytes) >>= λ v. Ok (f v, t) in
    ap by_count (length_more bytes more e) ∙ (ap by_front (take-append-le (token_len bytes) bytes more (token_within bytes))
    ∙ (ap by_back (drop-append-le (token_len bytes) bytes more (token_within bytes))
    ∙ word_more (word_at place (take (token_len bytes) bytes)) f (drop (token_len bytes) bytes) more))

-- texts

mutual
  text_more : (place : ℕ) (done bytes more : List ℕ) → (text_from place done bytes ≡ Err (place, Unclosed) → ⊥)
      → text_from place done (bytes ++ more) ≡ extend more (text_from place done bytes)
  text_more place done [] more h = absurd (h refl)
  text_more place done (b ∷ bs) more h =
      let other : List ℕ → Bool → Result (List ℕ × List ℕ) Fault = λ t v. elim v [ true ↦ escape_from place done t | false ↦ text_from place (done ++ b ∷ []) t ] in
      let at_byte : List ℕ → Bool → Result (List ℕ × List ℕ) Fault = λ t v. elim v [ true ↦ Ok (done, t) | false ↦ other t (b == 92) ] in
      elim (b == 34) as (λ v. (at_byte bs v ≡ Err (place, Unclosed) → ⊥) → at_byte (bs ++ more) v ≡ extend more (at_byte bs v)) [
        | true ↦ λ k. refl
        | false ↦ λ k. elim (b == 92) as (λ v. (other bs v ≡ Err (place, Unclosed) → ⊥) → other (bs ++ more) v ≡ extend more (other bs v)) [
          | true ↦ λ l. escape_more place done bs more l
          | false ↦ λ l. text_more place (done ++ b ∷ []) bs more l
        ] k
      ] h

  escape_more : (place : ℕ) (done bytes more : List ℕ) → (escape_from place done bytes ≡ Err (place, Unclosed) → ⊥)
      → escape_from place done (bytes ++ more) ≡ extend more (escape_from place done bytes)
  escape_more place done [] more h = absurd (h refl)
  escape_more place done (c ∷ bs) more h =
      let at_byte : List ℕ → Option ℕ → Result (List ℕ × List ℕ) Fault = λ t v. elim v [ None ↦ Err (place, Token) | Some d ↦ text_from place (done ++ d ∷ []) t ] in
      elim (escaped c) as (λ v. (at_byte bs v ≡ Err (place, Unclosed) → ⊥) → at_byte (bs ++ more) v ≡ extend more (at_byte bs v)) [
        | None ↦ λ k. refl
        | Some d ↦ λ k. text_more place (done ++ d ∷ []) bs more k
      ] h

letters_more : (r : Result (List ℕ × List ℕ) Fault) (state : State) (more : List ℕ)
    → (extend more r >>= λ found. Ok (put (text found.0) state.items state.levels, found.1))
    ≡ extend more (r >>= λ found. Ok (put (text found.0) state.items state.levels, found.1))
letters_more (Ok p) state more = refl
letters_more (Err e) state more = refl

-- marks

whole_more : (mark : Mark) (bytes more : List ℕ) → AtTokenEnd more → whole_mark mark (bytes ++ more) ≡ ((whole_mark mark bytes).0, (whole_mark mark bytes).1 ++ more)
whole_more Quote bytes more e = refl
whole_more Quasiquote bytes more e = refl
whole_more Unquote [] [] e = refl
whole_more Unquote [] (b ∷ bs) e =
    cond-false _ _ _ (test_false b 64 (λ q. let f : ends_token 64 ≡ true = ap ends_token (sym q) ∙ e in cc))
whole_more Unquote (b ∷ bs) more e =
    let whole : List ℕ → Bool → Mark × List ℕ = λ t v. cond v (UnquoteSplicing, t) (Unquote, b ∷ t) in
    elim (b == 64) as (λ v. whole (bs ++ more) v ≡ ((whole bs v).0, (whole bs v).1 ++ more)) [ true ↦ refl | false ↦ refl ]
whole_more UnquoteSplicing bytes more e = refl

rest_more : (rest more : List ℕ) (r : Result State Fault) → with_rest (rest ++ more) r ≡ extend more (with_rest rest r)
rest_more rest more (Ok state) = refl
rest_more rest more (Err e) = refl

-- pieces

pub piece_more : (place b : ℕ) (bs more : List ℕ) (state : State) → AtTokenEnd more → (piece place b bs state ≡ Err (place, Unclosed) → ⊥)
    → piece place b (bs ++ more) state ≡ extend more (piece place b bs state)
piece_more place b bs more state e h =
    let read_at : List ℕ → Class → Result (State × List ℕ) Fault = λ t v. elim v [
      | Opening d ↦ with_rest t (open_list d place state)
      | Closing d ↦ with_rest t (close_list d place state.items state.levels)
      | Marking m ↦ take_mark m place t state
      | DoubleQuote ↦ take_text place t state
      | Plain ↦ take_token place (b ∷ t) state
      | _ ↦ Err (place, Token)
    ] in
    elim (class_of b) as (λ v. (read_at bs v ≡ Err (place, Unclosed) → ⊥) → read_at (bs ++ more) v ≡ extend more (read_at bs v)) [
      | Opening d ↦ λ k. rest_more bs more (open_list d place state)
      | Closing d ↦ λ k. rest_more bs more (close_list d place state.items state.levels)
      | Marking m ↦ λ k.
          let taken : Mark × List ℕ → Result (State × List ℕ) Fault = λ p. with_rest p.1 (open_mark p.0 place state) in
          ap taken (whole_more m bs more e) ∙ rest_more (whole_mark m bs).1 more (open_mark (whole_mark m bs).0 place state)
      | DoubleQuote ↦ λ k.
          let given : Result (List ℕ × List ℕ) Fault → Result (State × List ℕ) Fault = λ r. r >>= λ found. Ok (put (text found.0) state.items state.levels, found.1) in
          ap given (text_more place [] bs more (λ q. k (ap given q))) ∙ letters_more (text_from place [] bs) state more
      | Plain ↦ λ k. token_more place (b ∷ bs) more state e
      | _ ↦ λ k. refl
    ] h

finish_kind : (items : List Val) (levels : List Level) (place : ℕ) (kind : ReadKind) → finish items levels ≡ Err (place, kind)
    → is_met_inside kind ≡ true → ⊥
finish_kind items [] place kind h i = cc
finish_kind items (opened d at before ∷ levels) place kind h i = outside at Unclosed place kind (finish items (opened d at before ∷ levels)) refl refl h i
finish_kind items (marked m at ∷ levels) place kind h i = outside at Unclosed place kind (finish items (marked m at ∷ levels)) refl refl h i

pub not_at_end : (k total : ℕ) (state : State) (place : ℕ) (kind : ReadKind) → pieces k total state [] ≡ Err (place, kind)
    → is_met_inside kind ≡ true → ⊥
not_at_end zero total state place kind h i = outside total Long place kind (pieces zero total state []) refl refl h i
not_at_end (suc k) total state place kind h i = finish_kind state.items state.levels place kind h i
