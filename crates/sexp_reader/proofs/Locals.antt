-- What a piece and a gap are does not hang on what stands further after.
use Rattle.std.proofs.Common.{◌≡◌, ℕ, suc, Bool, true, false, cond, List, [], ◌∷◌, ◌++◌, take, drop, refl, sym, ap, ◌∙◌, subst}
use Rattle.std.specs.Prelude.{not, ◌==◌, Result, Ok, Err, codes}
use Rattle.std.proofs.lemmas.Bool.{eqb-true}
use Rattle.std.proofs.lemmas.List.{take-append-drop}
use Rattle.script_value.specs.Val.{Val, text}
use Rattle.sexp_reader.specs.declared.fault.ReadKind.TheVariants.{Token}
use Rattle.sexp_reader.specs.declared.classes.Class.{Class}
use Rattle.sexp_reader.specs.declared.classes.Class.TheVariants.{Blank, Comment, Opening, Closing, Marking, DoubleQuote, Plain}
use Rattle.sexp_reader.specs.declared.classes.Mark.{Mark}
use Rattle.sexp_reader.specs.declared.classes.Mark.TheVariants.{Quote, Quasiquote, Unquote, UnquoteSplicing}
use Rattle.sexp_reader.specs.Letters.{class_of, is_plain, whole_mark}
use Rattle.sexp_reader.specs.Read.{Fault, ◌>>=◌, past_gap, token_len, word_at, text_from, State, put, open_list, open_mark, close_list, take_mark, take_text, take_token, with_rest, piece}
use Rattle.sexp_reader.specs.Spells.{AllPlain, AtTokenEnd, Letters, end_of_text, letter, escape, Marks, quote, quasiquote, unquote, unquote_splicing}
use Rattle.sexp_reader.proofs.ByteClasses.{mark_byte}
use Rattle.sexp_reader.proofs.Utf8.{same_rest, err_ok, bind_ok}
use Rattle.sexp_reader.proofs.Taken.{text_read, token_plain, token_ends}
use Rattle.sexp_reader.proofs.Again.{text_again, token_again, no_gap_here, begins_gap, begins_with_at, alone}

-- what may stand after a piece in the place of the rest
abbrev pub Instead : List ℕ → List ℕ → Type 0
Instead rest ys = (AtTokenEnd rest → AtTokenEnd ys) × (begins_with_at rest ≡ false → begins_with_at ys ≡ false)

pub instead_behind : (u v w : List ℕ) → Instead v w → Instead (u ++ v) (u ++ w)
instead_behind [] v w i = i
instead_behind (x ∷ u) v w i = (λ e. e, λ e. e)

-- a piece that is read, and the same piece with something else after it
pub record Local (read_at : List ℕ → Result (State × List ℕ) Fault) (bs : List ℕ) (next : State) (rest : List ℕ) : Type 0 where
  pub tail : List ℕ
  pub parts : tail ++ rest ≡ bs
  pub again : (ys : List ℕ) → Instead rest ys → read_at (tail ++ ys) ≡ Ok (next, ys)

pub rest_again : (bs : List ℕ) (r : Result State Fault) (next : State) (rest : List ℕ) → with_rest bs r ≡ Ok (next, rest)
    → (bs ≡ rest) × ((ys : List ℕ) → with_rest ys r ≡ Ok (next, ys))
rest_again bs (Err e) next rest h = absurd (cc)
rest_again bs (Ok s) next rest h =
    let here : State × List ℕ = (s, bs) in
    let k = same_rest here (next, rest) (Ok here) refl h in
    let f : List ℕ → State → Result (State × List ℕ) Fault = λ ys x. Ok (x, ys) in
    (k.1, λ ys. ap (f ys) k.0)

rest_local : (bs : List ℕ) (r : Result State Fault) (next : State) (rest : List ℕ) → with_rest bs r ≡ Ok (next, rest) → Local (λ t. with_rest t r) bs next rest
rest_local bs r next rest h = let k = rest_again bs r next rest h in record { tail = []; parts = sym k.0; again = λ ys i. k.1 ys }

letters_local : {bytes chars rest : List ℕ} → Letters bytes chars rest
    → (tail : List ℕ) × (tail ++ rest ≡ bytes) × ((ys : List ℕ) → Letters (tail ++ ys) chars ys)
letters_local (end_of_text rest) = (34 ∷ [], refl, λ ys. end_of_text ys)
letters_local (letter b bytes chars rest q r l) =
    let t = letters_local l in (b ∷ t.0, ap (λ x. b ∷ x) t.1, λ ys. letter b (t.0 ++ ys) chars ys q r (t.2 ys))
letters_local (escape b c bytes chars rest e l) =
    let t = letters_local l in (92 ∷ b ∷ t.0, ap (λ x. 92 ∷ b ∷ x) t.1, λ ys. escape b c (t.0 ++ ys) chars ys e (t.2 ys))

text_local : (place : ℕ) (bs : List ℕ) (state next : State) (rest : List ℕ) → take_text place bs state ≡ Ok (next, rest)
    → Local (λ t. take_text place t state) bs next rest
text_local place bs state next rest h =
    let f : List ℕ × List ℕ → Result (State × List ℕ) Fault = λ found. Ok (put (text found.0) state.items state.levels, found.1) in
    let o = bind_ok (text_from place [] bs) f (next, rest) h in
    let here : State × List ℕ = (put (text o.0.0) state.items state.levels, o.0.1) in
    let k = same_rest here (next, rest) (Ok here) refl o.2 in
    let t = text_read place [] bs o.0 o.1 in
    let l = letters_local t.spelled in
    let P : List ℕ → Type 0 = λ x. l.0 ++ x ≡ bs in
    let g : Result (List ℕ × List ℕ) Fault → Result (State × List ℕ) Fault = λ r. r >>= f in
    let by_chars : List ℕ → List ℕ → Result (State × List ℕ) Fault = λ ys c. Ok (put (text c) state.items state.levels, ys) in
    let by_state : List ℕ → State → Result (State × List ℕ) Fault = λ ys x. Ok (x, ys) in
    record {
      tail = l.0;
      parts = subst P k.1 l.1;
      again = λ ys i. ap g (text_again place [] (l.2 ys)) ∙ (ap (by_chars ys) (sym t.found) ∙ ap (by_state ys) k.0);
    }

-- a token and its first byte
pub token_head : (b : ℕ) (bs : List ℕ) → class_of b ≡ Plain
    → (take (token_len (b ∷ bs)) (b ∷ bs) ≡ b ∷ take (token_len bs) bs) × (drop (token_len (b ∷ bs)) (b ∷ bs) ≡ drop (token_len bs) bs)
token_head b bs e =
    let front : Bool → List ℕ = λ v. take (elim v [ true ↦ suc (token_len bs) | false ↦ 0 ]) (b ∷ bs) in
    let back : Bool → List ℕ = λ v. drop (elim v [ true ↦ suc (token_len bs) | false ↦ 0 ]) (b ∷ bs) in
    (ap front (ap is_plain e), ap back (ap is_plain e))

token_local : (place b : ℕ) (bs : List ℕ) (state next : State) (rest : List ℕ) → class_of b ≡ Plain → take_token place (b ∷ bs) state ≡ Ok (next, rest)
    → Local (λ t. take_token place (b ∷ t) state) bs next rest
token_local place b bs state next rest e h =
    let token : List ℕ = take (token_len (b ∷ bs)) (b ∷ bs) in
    let back : List ℕ = drop (token_len (b ∷ bs)) (b ∷ bs) in
    let f : Val → Result (State × List ℕ) Fault = λ v. Ok (put v state.items state.levels, back) in
    let o = bind_ok (word_at place token) f (next, rest) h in
    let here : State × List ℕ = (put o.0 state.items state.levels, back) in
    let k = same_rest here (next, rest) (Ok here) refl o.2 in
    let s = token_head b bs e in
    let tail : List ℕ = take (token_len bs) bs in
    let P : List ℕ → Type 0 = λ x. tail ++ x ≡ bs in
    let A : List ℕ → Type 0 = λ x. AllPlain x in
    let E : List ℕ → Type 0 = λ x. AtTokenEnd x in
    let W : List ℕ → Type 0 = λ x. word_at place x ≡ Ok o.0 in
    let plain = subst A s.0 (token_plain (b ∷ bs)) in
    let word = subst W s.0 o.1 in
    let ends = subst E k.1 (token_ends (b ∷ bs)) in
    let by_state : List ℕ → State → Result (State × List ℕ) Fault = λ ys x. Ok (x, ys) in
    record {
      tail = tail;
      parts = subst P (sym s.1 ∙ k.1) (take-append-drop (token_len bs) bs);
      again = λ ys i. token_again place (b ∷ tail) ys o.0 state plain (i.0 ends) word ∙ ap (by_state ys) k.0;
    }

-- a mark of which the first byte is given
pub record Whole_mark (m : Mark) (bs : List ℕ) (p : Mark × List ℕ) : Type 0 where
  pub tail : List ℕ
  pub name : List ℕ
  pub spelled : Marks (mark_byte m ∷ tail) name
  pub parts : tail ++ p.1 ≡ bs
  pub again : (ys : List ℕ) → Instead p.1 ys → whole_mark m (tail ++ ys) ≡ (p.0, ys)

pub whole_local : (m : Mark) (bs : List ℕ) → Whole_mark m bs (whole_mark m bs)
whole_local Quote bs = record { tail = []; name = codes "quote"; spelled = quote; parts = refl; again = λ ys i. refl }
whole_local Quasiquote bs = record { tail = []; name = codes "quasiquote"; spelled = quasiquote; parts = refl; again = λ ys i. refl }
whole_local UnquoteSplicing bs = record { tail = []; name = codes "unquote"; spelled = unquote; parts = refl; again = λ ys i. refl }
whole_local Unquote [] = record { tail = []; name = codes "unquote"; spelled = unquote; parts = refl; again = λ ys i. alone ys (i.1 refl) }
whole_local Unquote (c ∷ cs) =
    let split : Mark × List ℕ = (UnquoteSplicing, cs) in
    let single : Mark × List ℕ = (Unquote, c ∷ cs) in
    elim (c == 64) as (λ v. (c == 64) ≡ v → Whole_mark Unquote (c ∷ cs) (cond v split single)) [
      | true ↦ λ e. record {
        tail = 64 ∷ [];
        name = codes "unquote-splicing";
        spelled = unquote_splicing;
        parts = ap (λ x. x ∷ cs) (sym (eqb-true c 64 e));
        again = λ ys i. refl;
      }
      | false ↦ λ e. record { tail = []; name = codes "unquote"; spelled = unquote; parts = refl; again = λ ys i. alone ys (i.1 e) }
    ] refl

pub record Read_mark (m : Mark) (place : ℕ) (bs : List ℕ) (state next : State) (rest : List ℕ) : Type 0 where
  pub tail : List ℕ
  pub name : List ℕ
  pub spelled : Marks (mark_byte m ∷ tail) name
  pub parts : tail ++ rest ≡ bs
  pub again : (ys : List ℕ) → Instead rest ys → take_mark m place (tail ++ ys) state ≡ Ok (next, ys)

pub mark_again : (m : Mark) (place : ℕ) (bs : List ℕ) (state next : State) (rest : List ℕ) → take_mark m place bs state ≡ Ok (next, rest)
    → Read_mark m place bs state next rest
mark_again m place bs state next rest h =
    let w = whole_local m bs in
    let mark : Mark × List ℕ = whole_mark m bs in
    let k = rest_again mark.1 (open_mark mark.0 place state) next rest h in
    let P : List ℕ → Type 0 = λ x. w.tail ++ x ≡ bs in
    let taken : Mark × List ℕ → Result (State × List ℕ) Fault = λ p. with_rest p.1 (open_mark p.0 place state) in
    record {
      tail = w.tail;
      name = w.name;
      spelled = w.spelled;
      parts = subst P k.0 w.parts;
      again = λ ys i. let Q : List ℕ → Type 0 = λ x. Instead x ys in ap taken (w.again ys (subst Q (sym k.0) i)) ∙ k.1 ys;
    }

mark_local : (m : Mark) (place : ℕ) (bs : List ℕ) (state next : State) (rest : List ℕ) → take_mark m place bs state ≡ Ok (next, rest)
    → Local (λ t. take_mark m place t state) bs next rest
mark_local m place bs state next rest h =
    let r = mark_again m place bs state next rest h in record { tail = r.tail; parts = r.parts; again = r.again }

pub piece_local : (place b : ℕ) (bs : List ℕ) (state next : State) (rest : List ℕ) → piece place b bs state ≡ Ok (next, rest)
    → Local (λ t. piece place b t state) bs next rest
piece_local place b bs state next rest h =
    let p : State × List ℕ = (next, rest) in
    let bad : Fault = (place, Token) in
    let read_at : List ℕ → Class → Result (State × List ℕ) Fault = λ t v. elim v [
      | Opening d ↦ with_rest t (open_list d place state)
      | Closing d ↦ with_rest t (close_list d place state.items state.levels)
      | Marking m ↦ take_mark m place t state
      | DoubleQuote ↦ take_text place t state
      | Plain ↦ take_token place (b ∷ t) state
      | _ ↦ Err bad
    ] in
    elim (class_of b) as (λ v. class_of b ≡ v → read_at bs v ≡ Ok p → Local (λ t. read_at t v) bs next rest) [
      | Opening d ↦ λ e k. rest_local bs (open_list d place state) next rest k
      | Closing d ↦ λ e k. rest_local bs (close_list d place state.items state.levels) next rest k
      | Marking m ↦ λ e k. mark_local m place bs state next rest k
      | DoubleQuote ↦ λ e k. text_local place bs state next rest k
      | Plain ↦ λ e k. token_local place b bs state next rest e k
      | _ ↦ λ e k. absurd (err_ok bad p (Err bad) refl k)
    ] refl h

-- a gap before a byte that is no gap's, and the same gap with something else after it
pub record Gap_local (in_comment : Bool) (bytes : List ℕ) (x : ℕ) (r : List ℕ) : Type 0 where
  pub gap : List ℕ
  pub parts : gap ++ x ∷ r ≡ bytes
  pub again : (ys : List ℕ) → past_gap in_comment (gap ++ ys) ≡ past_gap false ys
  pub starts : (ys : List ℕ) → past_gap false (x ∷ ys) ≡ x ∷ ys
  pub other : begins_gap (class_of x) ≡ false

no_gap_local : (y : ℕ) (ys : List ℕ) (x : ℕ) (r : List ℕ) → begins_gap (class_of y) ≡ false → y ∷ ys ≡ x ∷ r → Gap_local false (y ∷ ys) x r
no_gap_local y ys x r b k =
    let q : y ≡ x = cc in
    record {
      gap = [];
      parts = sym k;
      again = λ zs. refl;
      starts = λ s. let P : ℕ → Type 0 = λ z. past_gap false (z ∷ s) ≡ z ∷ s in subst P q (no_gap_here y s b);
      other = ap (λ z. begins_gap (class_of z)) (sym q) ∙ b;
    }

pub gap_local : (in_comment : Bool) (bytes : List ℕ) (x : ℕ) (r : List ℕ) → past_gap in_comment bytes ≡ x ∷ r → Gap_local in_comment bytes x r
gap_local in_comment [] x r h = absurd (cc)
gap_local true (y ∷ ys) x r h =
    let t = gap_local (not (y == 10)) ys x r h in
    record { gap = y ∷ t.gap; parts = ap (λ z. y ∷ z) t.parts; again = t.again; starts = t.starts; other = t.other }
gap_local false (y ∷ ys) x r h =
    let past : List ℕ → Class → List ℕ = λ t v. elim v [ Blank ↦ past_gap false t | Comment ↦ past_gap true t | _ ↦ y ∷ t ] in
    elim (class_of y) as (λ v. class_of y ≡ v → past ys v ≡ x ∷ r → Gap_local false (y ∷ ys) x r) [
      | Blank ↦ λ e k. let t = gap_local false ys x r k in
          record { gap = y ∷ t.gap; parts = ap (λ z. y ∷ z) t.parts; again = λ zs. ap (past (t.gap ++ zs)) e ∙ t.again zs; starts = t.starts; other = t.other }
      | Comment ↦ λ e k. let t = gap_local true ys x r k in
          record { gap = y ∷ t.gap; parts = ap (λ z. y ∷ z) t.parts; again = λ zs. ap (past (t.gap ++ zs)) e ∙ t.again zs; starts = t.starts; other = t.other }
      | _ ↦ λ e k. no_gap_local y ys x r (ap begins_gap e) k
    ] refl h
