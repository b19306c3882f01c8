-- A text that ended too early can be gone on with.
use Rattle.std.proofs.Common.{◌≡◌, ℕ, zero, suc, ◌+◌, ◌-◌, Bool, true, false, cond, List, [], ◌∷◌, ◌++◌, length, take, drop, refl, sym, ap, ◌∙◌, subst, arith}
use Rattle.std.specs.Prelude.{not, nat_lt, ◌==◌, Option, None, Some, Result, Ok, Err}
use Rattle.std.specs.Str.{is_utf8}
use Rattle.std.specs.Str.Lossy.{utf8_valid_len}
use Rattle.std.proofs.lemmas.Bool.{eqb-true, eqb-false}
use Rattle.std.proofs.lemmas.List.{append-nil}
use Rattle.script_value.specs.Val.{Val, number, text, symbol, list, vals_of}
use Rattle.script_value.specs.Numbers.{is_number, number_of, is_in_range}
use Rattle.sexp_reader.specs.declared.fault.ReadKind.{ReadKind}
use Rattle.sexp_reader.specs.declared.fault.ReadKind.TheVariants.{Long, Utf8, Token, Unclosed, Unopened, Mismatch, Range, Deep}
use Rattle.sexp_reader.specs.declared.classes.Class.{Class}
use Rattle.sexp_reader.specs.declared.classes.Class.TheVariants.{Blank, Comment, Opening, Closing, Marking, DoubleQuote, Plain}
use Rattle.sexp_reader.specs.declared.classes.Delimiter.{Delimiter}
use Rattle.sexp_reader.specs.declared.classes.Delimiter.TheVariants.{Parenthesis, Bracket}
use Rattle.sexp_reader.specs.Letters.{class_of, ends_token, same_delimiter, whole_mark, escaped, truth_of, is_symbol}
use Rattle.sexp_reader.specs.Limits.{most_bytes, most_levels}
use Rattle.sexp_reader.specs.Read.{Fault, ◌>>=◌, past_gap, after_gap, token_len, word_at, text_from, escape_from, Level, opened, marked, State, marked_list, put, open_list, open_mark, close_list, take_mark, take_text, take_token, with_rest, piece, pieces, start, scan}
use Rattle.sexp_reader.specs.Spells.{AtTokenEnd, Gap, no_gap, Letters, end_of_text, letter, escape, Datum, a_symbol, a_text, no_data}
use Rattle.sexp_reader.specs.Laws.{UnclosedGoesOn}
use Rattle.std.proofs.lemmas.Str.{IsUtf8-append, IsUtf8-from_is_utf8}
use Rattle.sexp_reader.proofs.Ascii.{AllAscii, ascii_utf8}
use Rattle.sexp_reader.proofs.ByteClasses.{class_text, closing_byte}
use Rattle.sexp_reader.proofs.Utf8.{err_ok, other_word}
use Rattle.sexp_reader.proofs.Taken.{gap_of, Takes, Completes, gap_completes, datum_completes, piece_goes}
use Rattle.sexp_reader.proofs.Stays.{extend, kinds_met, gap_more, piece_more}

abbrev is_unclosed : ReadKind → Bool
is_unclosed Unclosed = true
is_unclosed _ = false

-- a fault of another kind
other_kind : {A : Type 0} (p : ℕ) (k : ReadKind) (at : ℕ) (r : Result A Fault) → r ≡ Err (p, k) → is_unclosed k ≡ false → r ≡ Err (at, Unclosed) → ⊥
other_kind p k at r h o e =
    let s : k ≡ Unclosed = kinds_met (p, k) at Unclosed r h e in
    let t : is_unclosed k ≡ true = ap is_unclosed s in cc

-- what closes all lists that are open

abbrev closers : List Level → List ℕ
closers [] = []
closers (opened d at before ∷ levels) = closing_byte d ∷ closers levels
closers (marked m at ∷ levels) = closers levels

closer_ends : (d : Delimiter) → ends_token (closing_byte d) ≡ true
closer_ends Parenthesis = refl
closer_ends Bracket = refl

closers_ascii : (levels : List Level) → AllAscii (closers levels)
closers_ascii [] = tt
closers_ascii (opened Parenthesis at before ∷ levels) = (omega arith, closers_ascii levels)
closers_ascii (opened Bracket at before ∷ levels) = (omega arith, closers_ascii levels)
closers_ascii (marked m at ∷ levels) = closers_ascii levels

closers_end : (levels : List Level) → AtTokenEnd (closers levels)
closers_end [] = tt
closers_end (opened d at before ∷ levels) = closer_ends d
closers_end (marked m at ∷ levels) = closers_end levels

record Ends (n : ℕ) (v : Val) (items : List Val) (levels : List Level) : Type 0 where
  all : List Val
  takes : Takes n v items levels (closers levels) all

takes_end : (n : ℕ) (v : Val) (items : List Val) (levels : List Level) → Ends n v items levels
takes_end n v items [] = record { all = items ++ v ∷ []; takes = ([], no_data n [] [] (no_gap []), sym (append-nil (items ++ v ∷ []))) }
takes_end n v items (opened d at before ∷ levels) =
    let t = takes_end (suc n) (list (vals_of ((items ++ v ∷ []) ++ []))) before levels in
    let here : List ℕ = closing_byte d ∷ closers levels in
    record { all = t.all; takes = ([], closers levels, no_data n here here (no_gap here), t.takes) }
takes_end n v items (marked m at ∷ levels) =
    let t = takes_end (suc n) (marked_list m v) items levels in
    record { all = t.all; takes = t.takes }

-- the same where nothing is given to the innermost level: a mark gets a symbol

abbrev pub ending : List Level → List ℕ
ending [] = []
ending (opened d at before ∷ levels) = closing_byte d ∷ closers levels
ending (marked m at ∷ levels) = 97 ∷ closers levels

pub ending_ascii : (levels : List Level) → AllAscii (ending levels)
ending_ascii [] = tt
ending_ascii (opened Parenthesis at before ∷ levels) = (omega arith, closers_ascii levels)
ending_ascii (opened Bracket at before ∷ levels) = (omega arith, closers_ascii levels)
ending_ascii (marked m at ∷ levels) = (omega arith, closers_ascii levels)

pub ending_starts : (levels : List Level) → after_gap (ending levels) ≡ ending levels
ending_starts [] = refl
ending_starts (opened Parenthesis at before ∷ levels) = refl
ending_starts (opened Bracket at before ∷ levels) = refl
ending_starts (marked m at ∷ levels) = refl

pub record Ended (n : ℕ) (items : List Val) (levels : List Level) : Type 0 where
  pub all : List Val
  pub whole : Completes n items levels (ending levels) all

pub ending_completes : (n : ℕ) (items : List Val) (levels : List Level) → Ended n items levels
ending_completes n items [] = record { all = items; whole = ([], no_data n [] [] (no_gap []), sym (append-nil items)) }
ending_completes n items (opened d at before ∷ levels) =
    let t = takes_end (suc n) (list (vals_of (items ++ []))) before levels in
    let here : List ℕ = closing_byte d ∷ closers levels in
    record { all = t.all; whole = ([], closers levels, no_data n here here (no_gap here), t.takes) }
ending_completes n items (marked m at ∷ levels) =
    let t = takes_end (suc n) (marked_list m (symbol (97 ∷ []))) items levels in
    let here : List ℕ = 97 ∷ closers levels in
    record {
      all = t.all;
      whole = (here, symbol (97 ∷ []), closers levels, no_gap here, a_symbol n (97 ∷ []) (closers levels) (refl, tt) (closers_end levels) refl refl, t.takes);
    }

-- where a text is gone on with so, the data that it then has
record Goes_on (n : ℕ) (state : State) (bytes : List ℕ) : Type 0 where
  more : List ℕ
  ended : AtTokenEnd more
  ascii : AllAscii more
  all : List Val
  whole : Completes n state.items state.levels (bytes ++ more) all

line_end_gap : (in_comment : Bool) (bytes more : List ℕ) → past_gap in_comment bytes ≡ [] → past_gap in_comment (bytes ++ 10 ∷ more) ≡ past_gap false more
line_end_gap true [] more h = refl
line_end_gap false [] more h = refl
line_end_gap true (x ∷ xs) more h = line_end_gap (not (x == 10)) xs more h
line_end_gap false (x ∷ xs) more h =
    let past : List ℕ → Class → List ℕ = λ t v. elim v [ Blank ↦ past_gap false t | Comment ↦ past_gap true t | _ ↦ x ∷ t ] in
    elim (class_of x) as (λ v. past xs v ≡ [] → past (xs ++ 10 ∷ more) v ≡ past_gap false more) [
      | Blank ↦ λ e. line_end_gap false xs more e
      | Comment ↦ λ e. line_end_gap true xs more e
      | _ ↦ λ e. absurd (cc)
    ] h

goes_on_at_end : (n : ℕ) (state : State) (bytes : List ℕ) → after_gap bytes ≡ [] → Goes_on n state bytes
goes_on_at_end n state bytes e =
    let c = ending_completes n state.items state.levels in
    let more : List ℕ = 10 ∷ ending state.levels in
    let P : List ℕ → Type 0 = λ t. Gap (bytes ++ more) t in
    let g = subst P (line_end_gap false bytes (ending state.levels) e ∙ ending_starts state.levels) (gap_of (bytes ++ more)) in
    record { more = more; ended = refl; ascii = (omega arith, ending_ascii state.levels); all = c.all; whole = gap_completes n state.items state.levels (bytes ++ more) (ending state.levels) c.all g c.whole }

goes_on_behind_gap : (n : ℕ) (state : State) (bytes : List ℕ) (b : ℕ) (bs : List ℕ) → after_gap bytes ≡ b ∷ bs → Goes_on n state (b ∷ bs) → Goes_on n state bytes
goes_on_behind_gap n state bytes b bs e g =
    let P : List ℕ → Type 0 = λ t. Gap (bytes ++ g.more) t in
    let gap = subst P (gap_more false bytes g.more b bs e) (gap_of (bytes ++ g.more)) in
    record {
      more = g.more;
      ended = g.ended;
      ascii = g.ascii;
      all = g.all;
      whole = gap_completes n state.items state.levels (bytes ++ g.more) ((b ∷ bs) ++ g.more) g.all gap g.whole;
    }

-- a text that is open

record Text_end (bytes rest : List ℕ) : Type 0 where
  more : List ℕ
  ended : AtTokenEnd more
  ascii : AllAscii more
  chars : List ℕ
  letters : Letters (bytes ++ more) chars rest

mutual
  text_end : (place : ℕ) (done bytes rest : List ℕ) (at : ℕ) → AllAscii rest → text_from place done bytes ≡ Err (at, Unclosed) → Text_end bytes rest
  text_end place done [] rest at u h = record { more = 34 ∷ rest; ended = refl; ascii = (omega arith, u); chars = []; letters = end_of_text rest }
  text_end place done (b ∷ bs) rest at u h =
      let here : List ℕ × List ℕ = (done, bs) in
      let other : Bool → Result (List ℕ × List ℕ) Fault = λ v. elim v [ true ↦ escape_from place done bs | false ↦ text_from place (done ++ b ∷ []) bs ] in
      let at_byte : Bool → Result (List ℕ × List ℕ) Fault = λ v. elim v [ true ↦ Ok here | false ↦ other (b == 92) ] in
      elim (b == 34) as (λ v. (b == 34) ≡ v → at_byte v ≡ Err (at, Unclosed) → Text_end (b ∷ bs) rest) [
        | true ↦ λ e k. absurd (err_ok (at, Unclosed) here (Ok here) k refl)
        | false ↦ λ e. elim (b == 92) as (λ v. (b == 92) ≡ v → other v ≡ Err (at, Unclosed) → Text_end (b ∷ bs) rest) [
          | true ↦ λ d k. escape_end place done b bs rest at u (eqb-true b 92 d) k
          | false ↦ λ d k. let t = text_end place (done ++ b ∷ []) bs rest at u k in
              record { more = t.more; ended = t.ended; ascii = t.ascii; chars = b ∷ t.chars; letters = letter b (bs ++ t.more) t.chars rest (eqb-false b 34 e) (eqb-false b 92 d) t.letters }
        ] refl
      ] refl h

  escape_end : (place : ℕ) (done : List ℕ) (a : ℕ) (bytes rest : List ℕ) (at : ℕ) → AllAscii rest → a ≡ 92 → escape_from place done bytes ≡ Err (at, Unclosed) → Text_end (a ∷ bytes) rest
  escape_end place done a [] rest at u s h =
      record { more = 34 ∷ 34 ∷ rest; ended = refl; ascii = (omega arith, (omega arith, u)); chars = 34 ∷ []; letters = rw s (escape 34 34 (34 ∷ rest) [] rest refl (end_of_text rest)) }
  escape_end place done a (c ∷ bs) rest at u s h =
      let bad : Result (List ℕ × List ℕ) Fault = Err (place, Token) in
      let at_byte : Option ℕ → Result (List ℕ × List ℕ) Fault = λ v. elim v [ None ↦ bad | Some d ↦ text_from place (done ++ d ∷ []) bs ] in
      elim (escaped c) as (λ v. escaped c ≡ v → at_byte v ≡ Err (at, Unclosed) → Text_end (a ∷ c ∷ bs) rest) [
        | None ↦ λ e k. absurd (other_kind place Token at bad refl refl k)
        | Some d ↦ λ e k. let t = text_end place (done ++ d ∷ []) bs rest at u k in
            record { more = t.more; ended = t.ended; ascii = t.ascii; chars = d ∷ t.chars; letters = rw s (escape c d (bs ++ t.more) t.chars rest e t.letters) }
      ] refl h

-- only a text is a piece that is open

pub rest_err : (rest : List ℕ) (r : Result State Fault) (e : Fault) → with_rest rest r ≡ Err e → r ≡ Err e
rest_err rest (Ok state) e h = absurd (cc)
rest_err rest (Err x) e h = let s : x ≡ e = cc in ap (λ y. Err y) s

not_chosen : (b : Bool) (state : State) (place : ℕ) (k : ReadKind) (at : ℕ) → is_unclosed k ≡ false → cond {A = Result State Fault} b (Ok state) (Err (place, k)) ≡ Err (at, Unclosed) → ⊥
not_chosen true state place k at o h = cc
not_chosen false state place k at o h = other_kind {A = State} place k at (Err (place, k)) refl o h

not_closed : (d : Delimiter) (place : ℕ) (items : List Val) (levels : List Level) (at : ℕ) → close_list d place items levels ≡ Err (at, Unclosed) → ⊥
not_closed d place items [] at h = other_kind place Unopened at (close_list d place items []) refl refl h
not_closed d place items (opened x from before ∷ levels) at h =
    not_chosen (same_delimiter d x) (put (list (vals_of items)) before levels) place Mismatch at refl h
not_closed d place items (marked m from ∷ levels) at h = other_kind from Token at (close_list d place items (marked m from ∷ levels)) refl refl h

pub bind_err : {A B : Type 0} (r : Result A Fault) (f : A → Result B Fault) (e : Fault) → ((x : A) → f x ≡ Err e → ⊥) → (r >>= f) ≡ Err e → r ≡ Err e
bind_err (Ok x) f e n h = absurd (n x h)
bind_err (Err x) f e n h = let s : x ≡ e = cc in ap (λ y. Err y) s

number_fault : (b : Bool) (v : Val) (place at : ℕ) → cond {A = Result Val Fault} b (Ok v) (Err (place, Range)) ≡ Err (at, Unclosed) → ⊥
number_fault true v place at h = cc
number_fault false v place at h = other_kind {A = Val} place Range at (Err (place, Range)) refl refl h

name_fault : (b : Bool) (v : Val) (place at : ℕ) → cond {A = Result Val Fault} b (Ok v) (Err (place, Token)) ≡ Err (at, Unclosed) → ⊥
name_fault true v place at h = cc
name_fault false v place at h = other_kind {A = Val} place Token at (Err (place, Token)) refl refl h

other_fault : (t : Option Bool) (place : ℕ) (token : List ℕ) (at : ℕ) → other_word place token t ≡ Err (at, Unclosed) → ⊥
other_fault (Some b) place token at h = cc
other_fault None place token at h = name_fault (is_symbol token) (symbol token) place at h

word_fault : (place : ℕ) (token : List ℕ) (at : ℕ) → word_at place token ≡ Err (at, Unclosed) → ⊥
word_fault place token at h =
    let in_range : Result Val Fault = cond (is_in_range (number_of token)) (Ok (number (number_of token))) (Err (place, Range)) in
    elim (is_number token) as (λ v. cond v in_range (other_word place token (truth_of token)) ≡ Err (at, Unclosed) → ⊥) [
      | true ↦ λ k. number_fault (is_in_range (number_of token)) (number (number_of token)) place at k
      | false ↦ λ k. other_fault (truth_of token) place token at k
    ] h

text_goes_on : (n place b : ℕ) (bs : List ℕ) (state : State) (at : ℕ) → class_of b ≡ DoubleQuote → take_text place bs state ≡ Err (at, Unclosed)
    → Goes_on n state (b ∷ bs)
text_goes_on n place b bs state at e h =
    let given : List ℕ × List ℕ → Result (State × List ℕ) Fault = λ found. Ok (put (text found.0) state.items state.levels, found.1) in
    let t = text_end place [] bs (closers state.levels) at (closers_ascii state.levels) (bind_err (text_from place [] bs) given (at, Unclosed) (λ x k. cc) h) in
    let m = takes_end n (text t.chars) state.items state.levels in
    let Q : ℕ → Type 0 = λ x. Datum n (x ∷ (bs ++ t.more)) (text t.chars) (closers state.levels) in
    record {
      more = t.more;
      ended = t.ended;
      ascii = t.ascii;
      all = m.all;
      whole = datum_completes n (text t.chars) state.items state.levels (b ∷ (bs ++ t.more)) (closers state.levels) m.all
          (subst Q (sym (class_text b e)) (a_text n (bs ++ t.more) t.chars (closers state.levels) t.letters)) m.takes;
    }

open_piece_goes_on : (n place b : ℕ) (bs : List ℕ) (state : State) (at : ℕ) → piece place b bs state ≡ Err (at, Unclosed) → Goes_on n state (b ∷ bs)
open_piece_goes_on n place b bs state at h =
    let bad : Result (State × List ℕ) Fault = Err (place, Token) in
    let read_at : Class → Result (State × List ℕ) Fault = λ v. elim v [
      | Opening d ↦ with_rest bs (open_list d place state)
      | Closing d ↦ with_rest bs (close_list d place state.items state.levels)
      | Marking m ↦ take_mark m place bs state
      | DoubleQuote ↦ take_text place bs state
      | Plain ↦ take_token place (b ∷ bs) state
      | _ ↦ bad
    ] in
    elim (class_of b) as (λ v. class_of b ≡ v → read_at v ≡ Err (at, Unclosed) → Goes_on n state (b ∷ bs)) [
      | Opening d ↦ λ e k. absurd (not_chosen (nat_lt (length state.levels) most_levels) _ place Deep at refl (rest_err bs (open_list d place state) (at, Unclosed) k))
      | Closing d ↦ λ e k. absurd (not_closed d place state.items state.levels at (rest_err bs (close_list d place state.items state.levels) (at, Unclosed) k))
      | Marking m ↦ λ e k. absurd (not_chosen (nat_lt (length state.levels) most_levels) _ place Deep at refl
          (rest_err (whole_mark m bs).1 (open_mark (whole_mark m bs).0 place state) (at, Unclosed) k))
      | DoubleQuote ↦ λ e k. text_goes_on n place b bs state at e k
      | Plain ↦ λ e k.
          let token : List ℕ = take (token_len (b ∷ bs)) (b ∷ bs) in
          let given : Val → Result (State × List ℕ) Fault = λ v. Ok (put v state.items state.levels, drop (token_len (b ∷ bs)) (b ∷ bs)) in
          absurd (word_fault place token at (bind_err (word_at place token) given (at, Unclosed) (λ x l. cc) k))
      | _ ↦ λ e k. absurd (other_kind place Token at bad refl refl k)
    ] refl h

-- pieces

piece_goes_on : (k total n b : ℕ) (bs : List ℕ) (state : State) (at : ℕ) → n + length state.levels ≡ 128
    → ((left : ℕ) (next : State) (rest : List ℕ) → left + length next.levels ≡ 128 → pieces k total next (after_gap rest) ≡ Err (at, Unclosed) → Goes_on left next rest)
    → (r : Result (State × List ℕ) Fault) → piece (total - length (b ∷ bs)) b bs state ≡ r
    → (r >>= λ found. pieces k total found.0 (after_gap found.1)) ≡ Err (at, Unclosed) → Goes_on n state (b ∷ bs)
piece_goes_on k total n b bs state at c f (Err x) e h =
    let s : x ≡ (at, Unclosed) = cc in
    open_piece_goes_on n (total - length (b ∷ bs)) b bs state at (e ∙ ap (λ y. Err y) s)
piece_goes_on k total n b bs state at c f (Ok p) e h =
    let here : ℕ = total - length (b ∷ bs) in
    let first = piece_goes n here b bs state p [] c e in
    let t = f first.left p.0 p.1 first.count h in
    let after : State × List ℕ = (p.0, p.1 ++ t.more) in
    let q : piece here b (bs ++ t.more) state ≡ Ok after =
    piece_more here b bs t.more state t.ended (λ u. err_ok (here, Unclosed) p (piece here b bs state) u e) ∙ ap (λ r. extend t.more r) e in
    let g = piece_goes n here b (bs ++ t.more) state after t.all c q in
    let same : first.left ≡ g.left = omega (arith, first.count, g.count) in
    let P : ℕ → Type 0 = λ x. Completes x p.0.items p.0.levels (p.1 ++ t.more) t.all in
    record { more = t.more; ended = t.ended; ascii = t.ascii; all = t.all; whole = g.back (subst P same t.whole) }

goes_on : (k total n : ℕ) (state : State) (bytes : List ℕ) (at : ℕ) → n + length state.levels ≡ 128
    → pieces k total state (after_gap bytes) ≡ Err (at, Unclosed) → Goes_on n state bytes
goes_on zero total n state bytes at c h = absurd (other_kind total Long at (pieces zero total state (after_gap bytes)) refl refl h)
goes_on (suc k) total n state bytes at c h =
    elim (after_gap bytes) as (λ v. after_gap bytes ≡ v → pieces (suc k) total state v ≡ Err (at, Unclosed) → Goes_on n state bytes) [
      | [] ↦ λ e l. goes_on_at_end n state bytes e
      | b ∷ bs ↦ λ e l. goes_on_behind_gap n state bytes b bs e
          (piece_goes_on k total n b bs state at c (λ left next rest d m. goes_on k total left next rest at d m) (piece (total - length (b ∷ bs)) b bs state) refl l)
    ] refl h

scanned : (b c : Bool) (long short at : ℕ) (r : Result (List Val) Fault) → cond b (Err (long, Long)) (cond c r (Err (short, Utf8))) ≡ Err (at, Unclosed)
    → (c ≡ true) × (r ≡ Err (at, Unclosed))
scanned true c long short at r h = absurd (other_kind {A = List Val} long Long at (Err (long, Long)) refl refl h)
scanned false true long short at r h = (refl, h)
scanned false false long short at r h = absurd (other_kind {A = List Val} short Utf8 at (Err (short, Utf8)) refl refl h)

pub unclosed_goes_on : UnclosedGoesOn
unclosed_goes_on bytes place h =
    let s = scanned (nat_lt most_bytes (length bytes)) (is_utf8 bytes) most_bytes (utf8_valid_len bytes) place (scan bytes) h in
    let t = goes_on (suc (length bytes)) (length bytes) 128 start bytes place (omega arith) s.1 in
    (t.more, t.whole.0, IsUtf8-append bytes t.more (IsUtf8-from_is_utf8 bytes s.0) (ascii_utf8 t.more t.ascii), t.whole.1)
