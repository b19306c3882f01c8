-- The first fault is the first place where nothing helps.
use Rattle.std.proofs.Common.{◌≡◌, ℕ, zero, suc, ◌+◌, ◌-◌, ◌<◌, Bool, true, false, cond, inl, inr, ⊎_elim, List, [], ◌∷◌, ◌++◌, length, take, drop, refl, sym, ap, ◌∙◌, subst, arith, append_assoc}
use Rattle.std.specs.Prelude.{not, nat_lt, ◌==◌, ◌⊎◌, Option, None, Some, Result, Ok, Err}
use Rattle.std.specs.Str.{is_utf8}
use Rattle.std.specs.Str.Lossy.{utf8_valid_len}
use Rattle.std.proofs.lemmas.Bool.{eqb-true, eqb-false, cond-false}
use Rattle.std.proofs.lemmas.List.{length-append, take-append-drop}
use Rattle.script_value.specs.Val.{Val, number, text, symbol, list, vals_of}
use Rattle.script_value.specs.Numbers.{is_number, number_of, is_in_range}
use Rattle.sexp_reader.specs.declared.fault.ReadKind.{ReadKind}
use Rattle.sexp_reader.specs.declared.fault.ReadKind.TheVariants.{Long, Utf8, Token, Unclosed, Unopened, Mismatch, Range, Deep}
use Rattle.sexp_reader.specs.declared.classes.Class.{Class}
use Rattle.sexp_reader.specs.declared.classes.Class.TheVariants.{Blank, Comment, Opening, Closing, Marking, DoubleQuote, Plain}
use Rattle.sexp_reader.specs.declared.classes.Delimiter.{Delimiter}
use Rattle.sexp_reader.specs.declared.classes.Mark.{Mark}
use Rattle.sexp_reader.specs.declared.classes.Mark.TheVariants.{Quote, Quasiquote, Unquote, UnquoteSplicing}
use Rattle.sexp_reader.specs.Letters.{class_of, is_plain, same_delimiter, whole_mark, escaped, truth_of, is_symbol}
use Rattle.sexp_reader.specs.Limits.{most_bytes, most_levels}
use Rattle.sexp_reader.specs.Read.{Fault, ◌>>=◌, after_gap, token_len, word_at, text_from, escape_from, Level, opened, marked, State, marked_list, put, open_list, open_mark, close_list, take_mark, take_text, take_token, with_rest, piece, pieces, start, scan}
use Rattle.sexp_reader.specs.Spells.{AllPlain, IsToken, AtTokenEnd, Gap, Encloses, Marks, quote, quasiquote, unquote, Data}
use Rattle.sexp_reader.specs.Laws.{is_met_inside, BadEscape, no_escape, past_letter, past_escape, Faulty, no_word, no_text, no_datum, no_opening, other_opening, too_large, deep_list, deep_mark, MayFollow, FirstFault, FirstFaults}
use Rattle.sexp_reader.proofs.ByteClasses.{opening_byte, closing_byte, class_opening, class_closing, class_mark, class_text, mark_byte, plain_is}
use Rattle.std.specs.Str.{IsUtf8}
use Rattle.std.proofs.lemmas.Str.{IsUtf8-append, IsUtf8-from_is_utf8, IsUtf8-take, IsCharBoundary-at_seam}
use Rattle.std.proofs.Math.Seq.{take-append_seam}
use Rattle.sexp_reader.proofs.Ascii.{AllAscii, ascii_utf8}
use Rattle.sexp_reader.proofs.Utf8.{gap_utf8, piece_utf8, err_ok, bind_ok, same_rest, other_word}
use Rattle.sexp_reader.proofs.Turns.{next_piece, bad_piece, read_utf8}
use Rattle.sexp_reader.proofs.Taken.{gap_of, gap_data, gap_completes, Completes, piece_goes, encloses, same_ok, token_plain, token_ends}
use Rattle.sexp_reader.proofs.Again.{begins_gap, piece_of, token_front, token_back, scan_again}
use Rattle.sexp_reader.proofs.Stays.{outside, not_at_end}
use Rattle.sexp_reader.proofs.GoesOn.{ending, ending_ascii, ending_starts, ending_completes, rest_err, bind_err}
use Rattle.sexp_reader.proofs.Locals.{Instead, instead_behind, Local, token_head, mark_again, piece_local, Gap_local, gap_local}

-- three lists before a fourth
three_before : (t g u z : List ℕ) → (t ++ (g ++ u)) ++ z ≡ t ++ (g ++ (u ++ z))
three_before t g u z = append_assoc t (g ++ u) z ∙ ap (λ w. t ++ w) (append_assoc g u z)

-- no token begins with a byte that ends one
not_token : (b : ℕ) (tail : List ℕ) → is_plain (class_of b) ≡ false → IsToken (b ∷ tail) → ⊥
not_token b tail h t = let s : false ≡ not false = sym h ∙ (plain_is b ∙ ap not t.0) in cc

same_err : {A : Type 0} (e f : Fault) (r : Result A Fault) → r ≡ Err e → r ≡ Err f → e ≡ f
same_err e f r h k = cc

choice_err : {A : Type 0} (b : Bool) (x : A) (e f : Fault) → cond {A = Result A Fault} b (Ok x) (Err e) ≡ Err f → (b ≡ false) × (e ≡ f)
choice_err true x e f h = absurd (cc)
choice_err false x e f h = (refl, cc)

-- A fault in what begins at this place: what stands before the piece at fault, what may be written there instead, and what is read where
-- that piece stands.
record Faulted (n here : ℕ) (fault : Fault) (state : State) (bytes : List ℕ) : Type 0 where
  before : List ℕ
  piece : List ℕ
  rest : List ℕ
  parts : before ++ (piece ++ rest) ≡ bytes
  utf8 : IsUtf8 bytes → IsUtf8 (piece ++ rest)
  count : fault.0 ≡ here + length before
  faulty : Faulty fault.1 piece
  follows : MayFollow piece rest
  other : (ys : List ℕ) → Instead (piece ++ rest) (piece ++ ys)
  starts : (ys : List ℕ) → after_gap (before ++ (piece ++ ys)) ≡ before ++ (piece ++ ys)
  stays : (ys : List ℕ) (j total : ℕ) → MayFollow piece ys → total ≡ here + length (before ++ (piece ++ ys))
      → length (before ++ (piece ++ ys)) < j → pieces j total state (before ++ (piece ++ ys)) ≡ Err fault
  more : List ℕ
  ascii : AllAscii more
  all : List Val
  instead : Instead (piece ++ rest) more
  whole : Completes n state.items state.levels (after_gap (before ++ more)) all

-- the piece that stands here is at fault
record Bad (here : ℕ) (fault : Fault) (state : State) (b : ℕ) (bs : List ℕ) : Type 0 where
  tail : List ℕ
  rest : List ℕ
  parts : tail ++ rest ≡ bs
  place : fault.0 ≡ here
  faulty : Faulty fault.1 (b ∷ tail)
  follows : MayFollow (b ∷ tail) rest
  again : (ys : List ℕ) → MayFollow (b ∷ tail) ys → piece here b (tail ++ ys) state ≡ Err fault

-- a mark is open, and what closes stands here
record Behind (fault : Fault) (state : State) (b : ℕ) : Type 0 where
  mark : Mark
  levels : List Level
  delimiter : Delimiter
  open_here : state.levels ≡ marked mark fault.0 ∷ levels
  closes : class_of b ≡ Closing delimiter
  kind : fault.1 ≡ Token

-- what may be written at any place: a newline, and what ends all that is open
newline_completes : (n : ℕ) (state : State) → Completes n state.items state.levels (after_gap (10 ∷ ending state.levels)) (ending_completes n state.items state.levels).all
newline_completes n state =
    let c = ending_completes n state.items state.levels in
    let P : List ℕ → Type 0 = λ t. Completes n state.items state.levels t c.all in
    subst P (sym (ending_starts state.levels)) c.whole

bad_faulted : (n here : ℕ) (fault : Fault) (state : State) (b : ℕ) (bs : List ℕ) → ((ys : List ℕ) → after_gap (b ∷ ys) ≡ b ∷ ys)
    → Bad here fault state b bs → Faulted n here fault state (b ∷ bs)
bad_faulted n here fault state b bs starts bad = record {
  before = [];
  piece = b ∷ bad.tail;
  rest = bad.rest;
  parts = ap (λ x. b ∷ x) bad.parts;
  utf8 = λ u. let P : List ℕ → Type 0 = λ t. IsUtf8 (b ∷ t) in subst P (sym bad.parts) u;
  count = omega (arith, bad.place);
  faulty = bad.faulty;
  follows = bad.follows;
  other = λ ys. (λ e. e, λ e. e);
  starts = λ ys. starts (bad.tail ++ ys);
  stays = λ ys j total m e l.
      let at_place : ℕ → Result (State × List ℕ) Fault = λ x. piece x b (bad.tail ++ ys) state in
      let same : total - length (b ∷ (bad.tail ++ ys)) ≡ here = omega (arith, e) in
      bad_piece j total state (b ∷ (bad.tail ++ ys)) fault l (omega arith) (ap at_place same ∙ bad.again ys m);
  more = 10 ∷ ending state.levels;
  ascii = (omega arith, ending_ascii state.levels);
  all = (ending_completes n state.items state.levels).all;
  instead = (λ _. refl, λ _. refl);
  whole = newline_completes n state;
}

-- a fault after a piece and a gap
fault_behind : (here b : ℕ) (t g y : List ℕ) (state next : State) (fault : Fault) (j total : ℕ) → piece here b (t ++ (g ++ y)) state ≡ Ok (next, g ++ y)
    → after_gap (g ++ y) ≡ y → ((m : ℕ) → length y < m → pieces m total next y ≡ Err fault) → total ≡ here + length (b ∷ (t ++ (g ++ y)))
    → length (b ∷ (t ++ (g ++ y))) < j → pieces j total state (b ∷ (t ++ (g ++ y))) ≡ Err fault
fault_behind here b t g y state next fault j total h e f c l =
    let bytes : List ℕ = b ∷ (t ++ (g ++ y)) in
    let short : length (after_gap (g ++ y)) ≡ length y = ap length e in
    let shorter : length (after_gap (g ++ y)) < length bytes = omega (arith, short, length-append t (g ++ y), length-append g y) in
    let at_place : ℕ → Result (State × List ℕ) Fault = λ x. piece x b (t ++ (g ++ y)) state in
    let same : total - length bytes ≡ here = omega (arith, c) in
    let p = next_piece j total state next bytes (g ++ y) l (omega arith) (ap at_place same ∙ h) shorter in
    let by_rest : List ℕ → Result (List Val) Fault = λ z. pieces p.0 total next z in
    p.2 ∙ (ap by_rest e ∙ f p.0 (omega (arith, short, p.1)))

step : (n left here inner : ℕ) (fault : Fault) (state next : State) (b : ℕ) (bs r1 : List ℕ) (x : ℕ) (r : List ℕ)
    → ((ys : List ℕ) → after_gap (b ∷ ys) ≡ b ∷ ys) → n + length state.levels ≡ 128 → left + length next.levels ≡ 128
    → (l : Local (λ t. piece here b t state) bs next r1) → (g : Gap_local false r1 x r) → inner ≡ here + suc (length l.tail + length g.gap)
    → (IsUtf8 (b ∷ bs) → IsUtf8 (x ∷ r)) → Faulted left inner fault next (x ∷ r) → Faulted n here fault state (b ∷ bs)
step n left here inner fault state next b bs r1 x r starts c d l g i v f =
    let front : List ℕ = l.tail ++ (g.gap ++ f.before) in
    let seen : List ℕ → List ℕ = λ z. l.tail ++ (g.gap ++ (f.before ++ z)) in
    let same : (z : List ℕ) → front ++ z ≡ seen z = λ z. three_before l.tail g.gap f.before z in
    let behind : f.before ++ (f.piece ++ f.rest) ≡ x ∷ r = f.parts in
    let gapped : g.gap ++ (f.before ++ (f.piece ++ f.rest)) ≡ r1 = ap (λ z. g.gap ++ z) behind ∙ g.parts in
    let I : List ℕ → List ℕ → Type 0 = λ ys z. Instead z ys in
    let with_instead : (z : List ℕ) → Instead (f.piece ++ f.rest) z → Instead r1 (g.gap ++ (f.before ++ z)) = λ z k.
    subst (I (g.gap ++ (f.before ++ z))) gapped
    (instead_behind g.gap (f.before ++ (f.piece ++ f.rest)) (f.before ++ z) (instead_behind f.before (f.piece ++ f.rest) z k)) in
    let read_on : (z : List ℕ) → Instead (f.piece ++ f.rest) z → piece here b (seen z) state ≡ Ok (next, g.gap ++ (f.before ++ z)) = λ z k.
    l.again (g.gap ++ (f.before ++ z)) (with_instead z k) in
    let after : State × List ℕ = (next, g.gap ++ (f.before ++ f.more)) in
    let goes = piece_goes n here b (seen f.more) state after f.all c (read_on f.more f.instead) in
    let lefts : left ≡ goes.left = omega (arith, d, goes.count) in
    let C : ℕ → Type 0 = λ y. Completes y next.items next.levels (g.gap ++ (f.before ++ f.more)) f.all in
    let gap = gap_of (g.gap ++ (f.before ++ f.more)) in
    let G : List ℕ → Type 0 = λ t. Gap (g.gap ++ (f.before ++ f.more)) t in
    let completes = gap_completes left next.items next.levels (g.gap ++ (f.before ++ f.more)) (after_gap (f.before ++ f.more)) f.all
    (subst G (g.again (f.before ++ f.more)) gap) f.whole in
    let W : List ℕ → Type 0 = λ t. Completes n state.items state.levels t f.all in
    record {
      before = b ∷ front;
      piece = f.piece;
      rest = f.rest;
      parts = ap (λ z. b ∷ z) (same (f.piece ++ f.rest) ∙ (ap (λ z. l.tail ++ z) gapped ∙ l.parts));
      count = omega (arith, f.count, i, length-append l.tail (g.gap ++ f.before), length-append g.gap f.before);
      utf8 = λ u. f.utf8 (v u);
      faulty = f.faulty;
      follows = f.follows;
      other = f.other;
      starts = λ ys. starts (front ++ (f.piece ++ ys));
      stays = λ ys j total m e k.
          let y : List ℕ = f.before ++ (f.piece ++ ys) in
          let P : List ℕ → Type 0 = λ t. total ≡ here + length (b ∷ t) → length (b ∷ t) < j → pieces j total state (b ∷ t) ≡ Err fault in
          let inside : total ≡ here + length (b ∷ seen (f.piece ++ ys)) → length (b ∷ seen (f.piece ++ ys)) < j
          → pieces j total state (b ∷ seen (f.piece ++ ys)) ≡ Err fault = λ u v.
          fault_behind here b l.tail g.gap y state next fault j total (read_on (f.piece ++ ys) (f.other ys)) (g.again y ∙ f.starts ys)
          (λ w z. f.stays ys w total m (omega (arith, u, i, length-append l.tail (g.gap ++ y), length-append g.gap y)) z) u v in
          subst P (sym (same (f.piece ++ ys))) inside e k;
      more = f.more;
      ascii = f.ascii;
      all = f.all;
      instead = f.instead;
      whole = subst W (sym (starts (front ++ f.more))) (subst W (ap (λ z. b ∷ z) (sym (same f.more))) (goes.back (subst C lefts completes)));
    }

-- a piece at fault

bad_list : (here b : ℕ) (d : Delimiter) (bs : List ℕ) (state : State) (fault : Fault) → class_of b ≡ Opening d → open_list d here state ≡ Err fault
    → Bad here fault state b bs
bad_list here b d bs state fault e h =
    let inner : State = record { items = []; levels = opened d here state.items ∷ state.levels } in
    let k = choice_err (nat_lt (length state.levels) most_levels) inner (here, Deep) fault h in
    let P : Fault → Type 0 = λ x. Faulty x.1 (b ∷ []) in
    let Q : ℕ → Type 0 = λ x. Faulty Deep (x ∷ []) in
    record {
      tail = [];
      rest = bs;
      parts = refl;
      place = ap (λ x. x.0) (sym k.1);
      faulty = subst P k.1 (subst Q (sym (class_opening b d e)) (deep_list (opening_byte d) (closing_byte d) (encloses d)));
      follows = λ t. absurd (not_token b [] (ap is_plain e) t);
      again = λ ys m. piece_of here b ys state (Opening d) e ∙ ap (λ r. with_rest ys r) h;
    }

deep_piece : (m : Mark) → Faulty Deep (mark_byte m ∷ [])
deep_piece Quote = deep_mark 39 [] _ quote
deep_piece Quasiquote = deep_mark 96 [] _ quasiquote
deep_piece Unquote = deep_mark 44 [] _ unquote
deep_piece UnquoteSplicing = deep_mark 44 [] _ unquote

bad_mark : (here b : ℕ) (m : Mark) (bs : List ℕ) (state : State) (fault : Fault) → class_of b ≡ Marking m
    → open_mark (whole_mark m bs).0 here state ≡ Err fault → Bad here fault state b bs
bad_mark here b m bs state fault e h =
    let inner : Mark → State = λ x. record { items = state.items; levels = marked x here ∷ state.levels } in
    let k = choice_err (nat_lt (length state.levels) most_levels) (inner (whole_mark m bs).0) (here, Deep) fault h in
    let deep : Result State Fault = Err (here, Deep) in
    let P : Fault → Type 0 = λ x. Faulty x.1 (b ∷ []) in
    let Q : ℕ → Type 0 = λ x. Faulty Deep (x ∷ []) in
    record {
      tail = [];
      rest = bs;
      parts = refl;
      place = ap (λ x. x.0) (sym k.1);
      faulty = subst P k.1 (subst Q (sym (class_mark b m e)) (deep_piece m));
      follows = λ t. absurd (not_token b [] (ap is_plain e) t);
      again = λ ys i.
          let refused : open_mark (whole_mark m ys).0 here state ≡ deep = cond-false _ _ _ k.0 in
          piece_of here b ys state (Marking m) e
          ∙ (ap (λ r. with_rest (whole_mark m ys).1 r) refused ∙ ap (λ x. Err x) k.1);
    }

-- a text with a bad escape
record Bad_text (here : ℕ) (fault : Fault) (done bytes : List ℕ) : Type 0 where
  tail : List ℕ
  rest : List ℕ
  parts : tail ++ rest ≡ bytes
  is : (here, Token) ≡ fault
  bad : BadEscape tail
  again : (ys : List ℕ) → text_from here done (tail ++ ys) ≡ Err fault

record Bad_letter (here : ℕ) (fault : Fault) (done : List ℕ) (a : ℕ) (bytes : List ℕ) : Type 0 where
  tail : List ℕ
  rest : List ℕ
  parts : tail ++ rest ≡ bytes
  is : (here, Token) ≡ fault
  bad : BadEscape (a ∷ tail)
  again : (ys : List ℕ) → escape_from here done (tail ++ ys) ≡ Err fault

unclosed_inside : {A : Type 0} (here : ℕ) (fault : Fault) (r : Result A Fault) → r ≡ Err (here, Unclosed) → r ≡ Err fault → is_met_inside fault.1 ≡ true → ⊥
unclosed_inside here fault r h k i = outside here Unclosed fault.0 fault.1 r h refl k i

mutual
  bad_text : (here : ℕ) (done bytes : List ℕ) (fault : Fault) → is_met_inside fault.1 ≡ true → text_from here done bytes ≡ Err fault
      → Bad_text here fault done bytes
  bad_text here done [] fault i h = absurd (unclosed_inside here fault (text_from here done []) refl h i)
  bad_text here done (b ∷ bs) fault i h =
      let found : List ℕ × List ℕ = (done, bs) in
      let other : List ℕ → Bool → Result (List ℕ × List ℕ) Fault = λ t v. elim v [ true ↦ escape_from here done t | false ↦ text_from here (done ++ b ∷ []) t ] in
      let at_byte : List ℕ → Bool → Result (List ℕ × List ℕ) Fault = λ t v. elim v [ true ↦ Ok (done, t) | false ↦ other t (b == 92) ] in
      elim (b == 34) as (λ v. (b == 34) ≡ v → at_byte bs v ≡ Err fault → Bad_text here fault done (b ∷ bs)) [
        | true ↦ λ e k. absurd (err_ok fault found (Ok found) k refl)
        | false ↦ λ e. elim (b == 92) as (λ v. (b == 92) ≡ v → other bs v ≡ Err fault → Bad_text here fault done (b ∷ bs)) [
          | true ↦ λ d k. let t = bad_escape here done b bs fault i (eqb-true b 92 d) k in
              record {
                tail = b ∷ t.tail;
                rest = t.rest;
                parts = ap (λ x. b ∷ x) t.parts;
                is = t.is;
                bad = t.bad;
                again = λ ys. ap (at_byte (t.tail ++ ys)) e ∙ (ap (other (t.tail ++ ys)) d ∙ t.again ys);
              }
          | false ↦ λ d k. let t = bad_text here (done ++ b ∷ []) bs fault i k in
              record {
                tail = b ∷ t.tail;
                rest = t.rest;
                parts = ap (λ x. b ∷ x) t.parts;
                is = t.is;
                bad = past_letter b t.tail (eqb-false b 34 e) (eqb-false b 92 d) t.bad;
                again = λ ys. ap (at_byte (t.tail ++ ys)) e ∙ (ap (other (t.tail ++ ys)) d ∙ t.again ys);
              }
        ] refl
      ] refl h

  bad_escape : (here : ℕ) (done : List ℕ) (a : ℕ) (bytes : List ℕ) (fault : Fault) → is_met_inside fault.1 ≡ true → a ≡ 92
      → escape_from here done bytes ≡ Err fault → Bad_letter here fault done a bytes
  bad_escape here done a [] fault i s h = absurd (unclosed_inside here fault (escape_from here done []) refl h i)
  bad_escape here done a (c ∷ bs) fault i s h =
      let bad : Result (List ℕ × List ℕ) Fault = Err (here, Token) in
      let at_byte : List ℕ → Option ℕ → Result (List ℕ × List ℕ) Fault = λ t v. elim v [ None ↦ bad | Some d ↦ text_from here (done ++ d ∷ []) t ] in
      elim (escaped c) as (λ v. escaped c ≡ v → at_byte bs v ≡ Err fault → Bad_letter here fault done a (c ∷ bs)) [
        | None ↦ λ e k. record {
          tail = c ∷ [];
          rest = bs;
          parts = refl;
          is = same_err (here, Token) fault bad refl k;
          bad = rw s (no_escape c e);
          again = λ ys. ap (at_byte ys) e ∙ k;
        }
        | Some d ↦ λ e k. let t = bad_text here (done ++ d ∷ []) bs fault i k in
            record {
              tail = c ∷ t.tail;
              rest = t.rest;
              parts = ap (λ x. c ∷ x) t.parts;
              is = t.is;
              bad = rw s (past_escape c d t.tail e t.bad);
              again = λ ys. ap (at_byte (t.tail ++ ys)) e ∙ t.again ys;
            }
      ] refl h

bad_quoted : (here b : ℕ) (bs : List ℕ) (state : State) (fault : Fault) → is_met_inside fault.1 ≡ true → class_of b ≡ DoubleQuote
    → take_text here bs state ≡ Err fault → Bad here fault state b bs
bad_quoted here b bs state fault i e h =
    let given : List ℕ × List ℕ → Result (State × List ℕ) Fault = λ found. Ok (put (text found.0) state.items state.levels, found.1) in
    let t = bad_text here [] bs fault i (bind_err (text_from here [] bs) given fault (λ x k. cc) h) in
    let P : Fault → Type 0 = λ x. Faulty x.1 (b ∷ t.tail) in
    let Q : ℕ → Type 0 = λ x. Faulty Token (x ∷ t.tail) in
    record {
      tail = t.tail;
      rest = t.rest;
      parts = t.parts;
      place = ap (λ x. x.0) (sym t.is);
      faulty = subst P t.is (subst Q (sym (class_text b e)) (no_text t.tail t.bad));
      follows = λ k. absurd (not_token b t.tail (ap is_plain e) k);
      again = λ ys m. piece_of here b (t.tail ++ ys) state DoubleQuote e ∙ ap (λ r. r >>= given) (t.again ys);
    }

-- a token at fault

other_faulty : (here : ℕ) (token : List ℕ) (t : Option Bool) (fault : Fault) → IsToken token → is_number token ≡ false → other_word here token t ≡ Err fault
    → ((here, Token) ≡ fault) × Faulty fault.1 token
other_faulty here token (Some b) fault t n h = absurd (cc)
other_faulty here token None fault t n h =
    let k = choice_err (is_symbol token) (symbol token) (here, Token) fault h in
    let P : Fault → Type 0 = λ x. Faulty x.1 token in
    (k.1, subst P k.1 (no_word token t n k.0))

word_faulty : (here : ℕ) (token : List ℕ) (fault : Fault) → IsToken token → word_at here token ≡ Err fault → (fault.0 ≡ here) × Faulty fault.1 token
word_faulty here token fault t h =
    let in_range : Result Val Fault = cond (is_in_range (number_of token)) (Ok (number (number_of token))) (Err (here, Range)) in
    let P : Fault → Type 0 = λ x. Faulty x.1 token in
    elim (is_number token) as (λ v. is_number token ≡ v → cond v in_range (other_word here token (truth_of token)) ≡ Err fault
    → (fault.0 ≡ here) × Faulty fault.1 token) [
      | true ↦ λ e k. let c = choice_err (is_in_range (number_of token)) (number (number_of token)) (here, Range) fault k in
          (ap (λ x. x.0) (sym c.1), subst P c.1 (too_large token t e c.0))
      | false ↦ λ e k. let c = other_faulty here token (truth_of token) fault t e k in (ap (λ x. x.0) (sym c.0), c.1)
    ] refl h

token_refused : (place : ℕ) (token rest : List ℕ) (state : State) (fault : Fault) → AllPlain token → AtTokenEnd rest → word_at place token ≡ Err fault
    → take_token place (token ++ rest) state ≡ Err fault
token_refused place token rest state fault h e w =
    let f : List ℕ → Result (State × List ℕ) Fault = λ back. word_at place (take (token_len (token ++ rest)) (token ++ rest)) >>= λ v. Ok (put v state.items state.levels, back) in
    let g : List ℕ → Result (State × List ℕ) Fault = λ front. word_at place front >>= λ v. Ok (put v state.items state.levels, rest) in
    let k : Result Val Fault → Result (State × List ℕ) Fault = λ r. r >>= λ v. Ok (put v state.items state.levels, rest) in
    ap f (token_back token rest h e) ∙ (ap g (token_front token rest h e) ∙ ap k w)

bad_token : (here b : ℕ) (bs : List ℕ) (state : State) (fault : Fault) → class_of b ≡ Plain → take_token here (b ∷ bs) state ≡ Err fault
    → Bad here fault state b bs
bad_token here b bs state fault e h =
    let token : List ℕ = take (token_len (b ∷ bs)) (b ∷ bs) in
    let back : List ℕ = drop (token_len (b ∷ bs)) (b ∷ bs) in
    let given : Val → Result (State × List ℕ) Fault = λ v. Ok (put v state.items state.levels, back) in
    let w = bind_err (word_at here token) given fault (λ x k. cc) h in
    let s = token_head b bs e in
    let tail : List ℕ = take (token_len bs) bs in
    let A : List ℕ → Type 0 = λ x. AllPlain x in
    let E : List ℕ → Type 0 = λ x. AtTokenEnd x in
    let W : List ℕ → Type 0 = λ x. word_at here x ≡ Err fault in
    let plain : AllPlain (b ∷ tail) = subst A s.0 (token_plain (b ∷ bs)) in
    let word = subst W s.0 w in
    let f = word_faulty here (b ∷ tail) fault plain word in
    record {
      tail = tail;
      rest = drop (token_len bs) bs;
      parts = take-append-drop (token_len bs) bs;
      place = f.0;
      faulty = f.1;
      follows = λ _. subst E s.1 (token_ends (b ∷ bs));
      again = λ ys m. piece_of here b (tail ++ ys) state Plain e ∙ token_refused here (b ∷ tail) ys state fault plain (m plain) word;
    }

-- what closes

abbrev BadOrBehind : ℕ → Fault → State → ℕ → List ℕ → Type 0
BadOrBehind here fault state b bs = Bad here fault state b bs ⊎ Behind fault state b

closed_badly : (here b : ℕ) (d : Delimiter) (bs : List ℕ) (state : State) (fault : Fault) (kind : ReadKind) → class_of b ≡ Closing d → Faulty kind (b ∷ [])
    → (here, kind) ≡ fault → close_list d here state.items state.levels ≡ Err fault → BadOrBehind here fault state b bs
closed_badly here b d bs state fault kind e y k h =
    let P : Fault → Type 0 = λ x. Faulty x.1 (b ∷ []) in
    inl (record {
      tail = [];
      rest = bs;
      parts = refl;
      place = ap (λ x. x.0) (sym k);
      faulty = subst P k y;
      follows = λ t. absurd (not_token b [] (ap is_plain e) t);
      again = λ ys m. piece_of here b ys state (Closing d) e ∙ ap (λ r. with_rest ys r) h;
    })

closing : (kind : ReadKind) (b : ℕ) (d : Delimiter) → class_of b ≡ Closing d → Faulty kind (closing_byte d ∷ []) → Faulty kind (b ∷ [])
closing kind b d e f = let Q : ℕ → Type 0 = λ x. Faulty kind (x ∷ []) in subst Q (sym (class_closing b d e)) f

bad_close : (here b : ℕ) (d : Delimiter) (bs : List ℕ) (items : List Val) (levels : List Level) (fault : Fault) → class_of b ≡ Closing d
    → close_list d here items levels ≡ Err fault → BadOrBehind here fault (record { items = items; levels = levels }) b bs
bad_close here b d bs items [] fault e h =
    closed_badly here b d bs (record { items = items; levels = [] }) fault Unopened e (closing Unopened b d e (no_opening _ _ (encloses d)))
    (same_err (here, Unopened) fault (close_list d here items []) refl h) h
bad_close here b d bs items (opened x at before ∷ levels) fault e h =
    let k = choice_err (same_delimiter d x) (put (list (vals_of items)) before levels) (here, Mismatch) fault h in
    closed_badly here b d bs (record { items = items; levels = opened x at before ∷ levels }) fault Mismatch e
    (closing Mismatch b d e (other_opening _ _ (encloses d))) k.1 h
bad_close here b d bs items (marked m at ∷ levels) fault e h =
    let k = same_err (at, Token) fault (close_list d here items (marked m at ∷ levels)) refl h in
    inr (record {
      mark = m;
      levels = levels;
      delimiter = d;
      open_here = ap (λ x. marked m x.0 ∷ levels) k;
      closes = e;
      kind = ap (λ x. x.1) (sym k);
    })

bad_found : (here b : ℕ) (bs : List ℕ) (state : State) (fault : Fault) → is_met_inside fault.1 ≡ true → begins_gap (class_of b) ≡ false
    → piece here b bs state ≡ Err fault → BadOrBehind here fault state b bs
bad_found here b bs state fault i g h =
    let bad : Result (State × List ℕ) Fault = Err (here, Token) in
    let read_at : Class → Result (State × List ℕ) Fault = λ v. elim v [
      | Opening d ↦ with_rest bs (open_list d here state)
      | Closing d ↦ with_rest bs (close_list d here state.items state.levels)
      | Marking m ↦ take_mark m here bs state
      | DoubleQuote ↦ take_text here bs state
      | Plain ↦ take_token here (b ∷ bs) state
      | _ ↦ bad
    ] in
    elim (class_of b) as (λ v. class_of b ≡ v → begins_gap v ≡ false → read_at v ≡ Err fault → BadOrBehind here fault state b bs) [
      | Opening d ↦ λ e _ k. inl (bad_list here b d bs state fault e (rest_err bs (open_list d here state) fault k))
      | Closing d ↦ λ e _ k. bad_close here b d bs state.items state.levels fault e (rest_err bs (close_list d here state.items state.levels) fault k)
      | Marking m ↦ λ e _ k. inl (bad_mark here b m bs state fault e (rest_err (whole_mark m bs).1 (open_mark (whole_mark m bs).0 here state) fault k))
      | DoubleQuote ↦ λ e _ k. inl (bad_quoted here b bs state fault i e k)
      | Plain ↦ λ e _ k. inl (bad_token here b bs state fault e k)
      | Blank ↦ λ e j k. absurd (cc)
      | Comment ↦ λ e j k. absurd (cc)
    ] refl g h

-- a mark that something closes

put_unmarked : (v : Val) (items : List Val) (levels : List Level) (m : Mark) (at : ℕ) (others : List Level) → (put v items levels).levels ≡ marked m at ∷ others → ⊥
put_unmarked v items [] m at others h = cc
put_unmarked v items (opened d from before ∷ levels) m at others h = cc
put_unmarked v items (marked x from ∷ levels) m at others h = put_unmarked (marked_list x v) items levels m at others h

choice_ok : {A : Type 0} (b : Bool) (x y : A) (e : Fault) → cond {A = Result A Fault} b (Ok x) (Err e) ≡ Ok y → x ≡ y
choice_ok true x y e h = same_ok x y (Ok x) refl h
choice_ok false x y e h = absurd (cc)

rest_ok : (bs : List ℕ) (r : Result State Fault) (next : State) (rest : List ℕ) → with_rest bs r ≡ Ok (next, rest) → r ≡ Ok next
rest_ok bs (Err e) next rest h = absurd (cc)
rest_ok bs (Ok s) next rest h =
    let here : State × List ℕ = (s, bs) in
    ap (λ x. Ok x) (same_rest here (next, rest) (Ok here) refl h).0

put_next : (v : Val) (state next : State) (bs rest : List ℕ) (m : Mark) (at : ℕ) (others : List Level) (q : Result (State × List ℕ) Fault)
    → q ≡ Ok (put v state.items state.levels, bs) → q ≡ Ok (next, rest) → next.levels ≡ marked m at ∷ others → ⊥
put_next v state next bs rest m at others q h k e =
    let here : State × List ℕ = (put v state.items state.levels, bs) in
    let s = same_rest here (next, rest) q h k in
    put_unmarked v state.items state.levels m at others (ap (λ x. x.levels) s.0 ∙ e)

closed_next : (here : ℕ) (d : Delimiter) (items : List Val) (levels : List Level) (next : State) (m : Mark) (at : ℕ) (others : List Level)
    → close_list d here items levels ≡ Ok next → next.levels ≡ marked m at ∷ others → ⊥
closed_next here d items [] next m at others h e = absurd (cc)
closed_next here d items (opened x from before ∷ levels) next m at others h e =
    let k = choice_ok (same_delimiter d x) (put (list (vals_of items)) before levels) next (here, Mismatch) h in
    put_unmarked (list (vals_of items)) before levels m at others (ap (λ s. s.levels) k ∙ e)
closed_next here d items (marked x from ∷ levels) next m at others h e = absurd (cc)

-- only a mark opens a mark
mark_only : (here b : ℕ) (bs : List ℕ) (state next : State) (rest : List ℕ) (m : Mark) (at : ℕ) (others : List Level) → piece here b bs state ≡ Ok (next, rest)
    → next.levels ≡ marked m at ∷ others → (x : Mark) × (class_of b ≡ Marking x) × (take_mark x here bs state ≡ Ok (next, rest))
mark_only here b bs state next rest m at others h o =
    let p : State × List ℕ = (next, rest) in
    let bad : Fault = (here, Token) in
    let read_at : Class → Result (State × List ℕ) Fault = λ v. elim v [
      | Opening d ↦ with_rest bs (open_list d here state)
      | Closing d ↦ with_rest bs (close_list d here state.items state.levels)
      | Marking x ↦ take_mark x here bs state
      | DoubleQuote ↦ take_text here bs state
      | Plain ↦ take_token here (b ∷ bs) state
      | _ ↦ Err bad
    ] in
    elim (class_of b) as (λ v. class_of b ≡ v → read_at v ≡ Ok p → (x : Mark) × (class_of b ≡ Marking x) × (take_mark x here bs state ≡ Ok p)) [
      | Opening d ↦ λ e k.
          let inner : State = record { items = []; levels = opened d here state.items ∷ state.levels } in
          let s = choice_ok (nat_lt (length state.levels) most_levels) inner next (here, Deep) (rest_ok bs (open_list d here state) next rest k) in
          let q : opened d here state.items ∷ state.levels ≡ marked m at ∷ others = ap (λ z. z.levels) s ∙ o in
          absurd (cc)
      | Closing d ↦ λ e k.
          absurd (closed_next here d state.items state.levels next m at others (rest_ok bs (close_list d here state.items state.levels) next rest k) o)
      | Marking x ↦ λ e k. (x, e, k)
      | DoubleQuote ↦ λ e k.
          let given : List ℕ × List ℕ → Result (State × List ℕ) Fault = λ found. Ok (put (text found.0) state.items state.levels, found.1) in
          let f = bind_ok (text_from here [] bs) given p k in
          absurd (put_next (text f.0.0) state next f.0.1 rest m at others (given f.0) refl f.2 o)
      | Plain ↦ λ e k.
          let back : List ℕ = drop (token_len (b ∷ bs)) (b ∷ bs) in
          let given : Val → Result (State × List ℕ) Fault = λ v. Ok (put v state.items state.levels, back) in
          let f = bind_ok (word_at here (take (token_len (b ∷ bs)) (b ∷ bs))) given p k in
          absurd (put_next f.0 state next back rest m at others (given f.0) refl f.2 o)
      | _ ↦ λ e k. absurd (err_ok bad p (Err bad) refl k)
    ] refl h

mark_place : (mark : Mark) (here : ℕ) (state next : State) (m : Mark) (at : ℕ) (others : List Level) → open_mark mark here state ≡ Ok next
    → next.levels ≡ marked m at ∷ others → at ≡ here
mark_place mark here state next m at others h o =
    let inner : State = record { items = state.items; levels = marked mark here ∷ state.levels } in
    let s = choice_ok (nat_lt (length state.levels) most_levels) inner next (here, Deep) h in
    let q : marked mark here ∷ state.levels ≡ marked m at ∷ others = ap (λ z. z.levels) s ∙ o in cc

mark_faulted : (n here : ℕ) (fault : Fault) (state next : State) (b : ℕ) (bs r1 : List ℕ) (x : ℕ) (r : List ℕ) → ((ys : List ℕ) → after_gap (b ∷ ys) ≡ b ∷ ys)
    → piece here b bs state ≡ Ok (next, r1) → Gap_local false r1 x r → Behind fault next x → Faulted n here fault state (b ∷ bs)
mark_faulted n here fault state next b bs r1 x r starts h g k =
    let only = mark_only here b bs state next r1 k.mark fault.0 k.levels h k.open_here in
    let w = mark_again only.0 here bs state next r1 only.2 in
    let whole : Mark × List ℕ = whole_mark only.0 bs in
    let at = mark_place whole.0 here state next k.mark fault.0 k.levels (rest_ok whole.1 (open_mark whole.0 here state) next r1 only.2) k.open_here in
    let tail : List ℕ = w.tail ++ (g.gap ++ x ∷ []) in
    let same : (z : List ℕ) → tail ++ z ≡ w.tail ++ (g.gap ++ x ∷ z) = λ z. three_before w.tail g.gap (x ∷ []) z in
    let M : ℕ → Type 0 = λ y. Marks (y ∷ w.tail) w.name in
    let E : ℕ → Type 0 = λ y. Encloses (opening_byte k.delimiter) y in
    let G : List ℕ → Type 0 = λ t. Gap (g.gap ++ x ∷ []) t in
    let K : ReadKind → Type 0 = λ y. Faulty y (b ∷ tail) in
    let mark = subst M (sym (class_mark b only.0 only.1)) w.spelled in
    let gap = subst G (g.again (x ∷ []) ∙ g.starts []) (gap_of (g.gap ++ x ∷ [])) in
    let close = subst E (sym (class_closing x k.delimiter k.closes)) (encloses k.delimiter) in
    let I : List ℕ → List ℕ → Type 0 = λ ys z. Instead z ys in
    let read_on : (ys : List ℕ) → piece here b (w.tail ++ (g.gap ++ x ∷ ys)) state ≡ Ok (next, g.gap ++ x ∷ ys) = λ ys.
    piece_of here b (w.tail ++ (g.gap ++ x ∷ ys)) state (Marking only.0) only.1
    ∙ w.again (g.gap ++ x ∷ ys) (subst (I (g.gap ++ x ∷ ys)) g.parts (instead_behind g.gap (x ∷ r) (x ∷ ys) (λ e. e, λ e. e))) in
    let closed : (p : ℕ) → close_list k.delimiter p next.items next.levels ≡ Err fault = λ p.
    let by_levels : List Level → Result State Fault = λ z. close_list k.delimiter p next.items z in
    let by_kind : ReadKind → Result State Fault = λ z. Err (fault.0, z) in
    ap by_levels k.open_here ∙ ap by_kind (sym k.kind) in
    let refused : (ys : List ℕ) (total m : ℕ) → length (x ∷ ys) < m → pieces m total next (x ∷ ys) ≡ Err fault = λ ys total m l.
    let place : ℕ = total - length (x ∷ ys) in
    bad_piece m total next (x ∷ ys) fault l (omega arith)
    (piece_of place x ys next (Closing k.delimiter) k.closes ∙ ap (λ z. with_rest ys z) (closed place)) in
    record {
      before = [];
      piece = b ∷ tail;
      rest = r;
      parts = ap (λ z. b ∷ z) (same r ∙ (ap (λ z. w.tail ++ z) g.parts ∙ w.parts));
      utf8 = λ u. let P : List ℕ → Type 0 = λ t. IsUtf8 (b ∷ t) in subst P (sym (same r ∙ (ap (λ z. w.tail ++ z) g.parts ∙ w.parts))) u;
      count = omega (arith, at);
      faulty = subst K (sym k.kind) (no_datum (b ∷ w.tail) w.name g.gap (opening_byte k.delimiter) x mark gap close);
      follows = λ t. absurd (not_token b tail (ap is_plain only.1) t);
      other = λ ys. (λ e. e, λ e. e);
      starts = λ ys. starts (tail ++ ys);
      stays = λ ys j total m e l.
          let P : List ℕ → Type 0 = λ t. total ≡ here + length (b ∷ t) → length (b ∷ t) < j → pieces j total state (b ∷ t) ≡ Err fault in
          let inside : total ≡ here + length (b ∷ (w.tail ++ (g.gap ++ x ∷ ys))) → length (b ∷ (w.tail ++ (g.gap ++ x ∷ ys))) < j
          → pieces j total state (b ∷ (w.tail ++ (g.gap ++ x ∷ ys))) ≡ Err fault = λ u v.
          fault_behind here b w.tail g.gap (x ∷ ys) state next fault j total (read_on ys) (g.again (x ∷ ys) ∙ g.starts ys)
          (λ i z. refused ys total i z) u v in
          subst P (sym (same ys)) inside e l;
      more = 10 ∷ ending state.levels;
      ascii = (omega arith, ending_ascii state.levels);
      all = (ending_completes n state.items state.levels).all;
      instead = (λ _. refl, λ _. refl);
      whole = newline_completes n state;
    }

-- one piece after the other

abbrev Found : ℕ → ℕ → Fault → State → ℕ → List ℕ → Type 0
Found n here fault state b bs = Faulted n here fault state (b ∷ bs) ⊎ Behind fault state b

find_at : (k total n here : ℕ) (state : State) (b : ℕ) (bs : List ℕ) (fault : Fault) → ((ys : List ℕ) → after_gap (b ∷ ys) ≡ b ∷ ys)
    → begins_gap (class_of b) ≡ false → n + length state.levels ≡ 128 → total ≡ here + length (b ∷ bs) → is_met_inside fault.1 ≡ true
    → ((left inner : ℕ) (next : State) (x : ℕ) (r : List ℕ) → ((ys : List ℕ) → after_gap (x ∷ ys) ≡ x ∷ ys) → begins_gap (class_of x) ≡ false
    → left + length next.levels ≡ 128 → total ≡ inner + length (x ∷ r) → pieces k total next (x ∷ r) ≡ Err fault → Found left inner fault next x r)
    → (q : Result (State × List ℕ) Fault) → piece here b bs state ≡ q → (q >>= λ found. pieces k total found.0 (after_gap found.1)) ≡ Err fault
    → Found n here fault state b bs
find_at k total n here state b bs fault starts g c t i f (Err x) e h =
    let s : x ≡ fault = cc in
    ⊎_elim (λ y. inl (bad_faulted n here fault state b bs starts y)) (λ y. inr y) (bad_found here b bs state fault i g (e ∙ ap (λ y. Err y) s))
find_at k total n here state b bs fault starts g c t i f (Ok p) e h =
    elim (after_gap p.1) as (λ v. after_gap p.1 ≡ v → pieces k total p.0 v ≡ Err fault → Found n here fault state b bs) [
      | [] ↦ λ a m. absurd (not_at_end k total p.0 fault.0 fault.1 m i)
      | x ∷ r ↦ λ a m.
          let gap = gap_local false p.1 x r a in
          let local = piece_local here b bs state p.0 p.1 e in
          let goes = piece_goes n here b bs state p [] c e in
          let inner : ℕ = here + suc (length local.tail + length gap.gap) in
          let long : length bs ≡ length local.tail + length p.1 = ap length (sym local.parts) ∙ length-append local.tail p.1 in
          let rest : length p.1 ≡ length gap.gap + length (x ∷ r) = ap length (sym gap.parts) ∙ length-append gap.gap (x ∷ r) in
          let P : List ℕ → Type 0 = λ t. IsUtf8 t in
          let utf8 : IsUtf8 (b ∷ bs) → IsUtf8 (x ∷ r) = λ u. subst P a (gap_utf8 false [] p.1 (λ _. refl) (piece_utf8 here (b ∷ bs) state p.0 p.1 u e)) in
          ⊎_elim
          (λ y. inl (step n goes.left here inner fault state p.0 b bs p.1 x r starts c goes.count local gap refl utf8 y))
          (λ y. inl (mark_faulted n here fault state p.0 b bs p.1 x r starts e gap y))
          (f goes.left inner p.0 x r gap.starts gap.other goes.count (omega (arith, t, long, rest)) m)
    ] refl h

find : (k total n here : ℕ) (state : State) (b : ℕ) (bs : List ℕ) (fault : Fault) → ((ys : List ℕ) → after_gap (b ∷ ys) ≡ b ∷ ys)
    → begins_gap (class_of b) ≡ false → n + length state.levels ≡ 128 → total ≡ here + length (b ∷ bs) → is_met_inside fault.1 ≡ true
    → pieces k total state (b ∷ bs) ≡ Err fault → Found n here fault state b bs
find zero total n here state b bs fault starts g c t i h =
    absurd (outside total Long fault.0 fault.1 (pieces zero total state (b ∷ bs)) refl refl h i)
find (suc k) total n here state b bs fault starts g c t i h =
    let same : total - length (b ∷ bs) ≡ here = omega (arith, t) in
    let at_place : ℕ → Result (List Val) Fault = λ p. piece p b bs state >>= λ found. pieces k total found.0 (after_gap found.1) in
    find_at k total n here state b bs fault starts g c t i
    (λ left inner next x r s o d u m. find k total left inner next x r fault s o d u i m) (piece here b bs state) refl
    (sym (ap at_place same) ∙ h)

scanned_inside : (b c : Bool) (long short : ℕ) (r : Result (List Val) Fault) (fault : Fault) → is_met_inside fault.1 ≡ true
    → cond b (Err (long, Long)) (cond c r (Err (short, Utf8))) ≡ Err fault → (c ≡ true) × (r ≡ Err fault)
scanned_inside true c long short r fault i h = absurd (outside {A = List Val} long Long fault.0 fault.1 (Err (long, Long)) refl refl h i)
scanned_inside false true long short r fault i h = (refl, h)
scanned_inside false false long short r fault i h = absurd (outside {A = List Val} short Utf8 fault.0 fault.1 (Err (short, Utf8)) refl refl h i)

-- what stands before UTF-8 in UTF-8 is UTF-8
front_is_utf8 : (bytes front back : List ℕ) → bytes ≡ front ++ back → IsUtf8 bytes → IsUtf8 back → IsUtf8 front
front_is_utf8 bytes front back e u v =
    let P : List ℕ → Type 0 = λ t. IsUtf8 t in
    subst P (ap (λ t. take (length front) t) e ∙ take-append_seam front back)
    (IsUtf8-take bytes (length front) u (IsCharBoundary-at_seam bytes front back e v))

first_fault : (bytes : List ℕ) (fault : Fault) (x : ℕ) (r : List ℕ) → (g : Gap_local false bytes x r) → IsUtf8 bytes → Faulted 128 (length g.gap) fault start (x ∷ r)
    → FirstFault bytes fault.0 fault.1
first_fault bytes fault x r g u f =
    let front : List ℕ = g.gap ++ f.before in
    let same : (z : List ℕ) → front ++ z ≡ g.gap ++ (f.before ++ z) = λ z. append_assoc g.gap f.before z in
    let G : List ℕ → Type 0 = λ t. Gap (g.gap ++ (f.before ++ f.more)) t in
    let D : List ℕ → Type 0 = λ t. Data 128 t f.whole.0 [] in
    let gap = subst G (g.again (f.before ++ f.more)) (gap_of (g.gap ++ (f.before ++ f.more))) in
    let scanned : (ys : List ℕ) → MayFollow f.piece ys → scan (front ++ (f.piece ++ ys)) ≡ Err fault = λ ys m.
    let y : List ℕ = f.before ++ (f.piece ++ ys) in
    let bytes : List ℕ = g.gap ++ y in
    let long : length bytes ≡ length g.gap + length y = length-append g.gap y in
    let by_rest : List ℕ → Result (List Val) Fault = λ z. pieces (suc (length bytes)) (length bytes) start z in
    ap scan (same (f.piece ++ ys))
    ∙ (ap by_rest (g.again y ∙ f.starts ys) ∙ f.stays ys (suc (length bytes)) (length bytes) m long (omega (arith, long))) in
    let parts : bytes ≡ front ++ (f.piece ++ f.rest) = sym (same (f.piece ++ f.rest) ∙ (ap (λ z. g.gap ++ z) f.parts ∙ g.parts)) in
    let P : List ℕ → Type 0 = λ t. IsUtf8 t in
    let behind : IsUtf8 (x ∷ r) = subst P (g.again (x ∷ r) ∙ g.starts r) (gap_utf8 false [] (g.gap ++ x ∷ r) (λ _. refl) (subst P (sym g.parts) u)) in
    let utf8 = IsUtf8-append front f.more (front_is_utf8 bytes front (f.piece ++ f.rest) parts u (f.utf8 behind)) (ascii_utf8 f.more f.ascii) in
    record {
      before = front;
      piece = f.piece;
      rest = f.rest;
      parts = parts;
      count = omega (arith, f.count, length-append g.gap f.before);
      faulty = f.faulty;
      follows = f.follows;
      viable = (f.more, f.whole.0, utf8, subst D (sym (same f.more)) (gap_data gap f.whole.1));
      dead = λ ys vs m d. err_ok fault vs (scan (front ++ (f.piece ++ ys))) (scanned ys m) (scan_again (front ++ (f.piece ++ ys)) vs d);
      stays = λ ys m u l. read_utf8 (front ++ (f.piece ++ ys)) l u ∙ scanned ys m;
    }

nothing_open : (fault : Fault) (x : ℕ) → Behind fault start x → ⊥
nothing_open fault x b = let h : [] ≡ marked b.mark fault.0 ∷ b.levels = b.open_here in cc

pub first_faults : FirstFaults
first_faults bytes place kind h i =
    let fault : Fault = (place, kind) in
    let s = scanned_inside (nat_lt most_bytes (length bytes)) (is_utf8 bytes) most_bytes (utf8_valid_len bytes) (scan bytes) fault i h in
    elim (after_gap bytes) as (λ v. after_gap bytes ≡ v → pieces (suc (length bytes)) (length bytes) start v ≡ Err fault → FirstFault bytes place kind) [
      | [] ↦ λ e k. absurd (not_at_end (suc (length bytes)) (length bytes) start place kind k i)
      | x ∷ r ↦ λ e k.
          let g = gap_local false bytes x r e in
          let long : length bytes ≡ length g.gap + length (x ∷ r) = ap length (sym g.parts) ∙ length-append g.gap (x ∷ r) in
          ⊎_elim (λ f. first_fault bytes fault x r g (IsUtf8-from_is_utf8 bytes s.0) f) (λ b. absurd (nothing_open fault x b))
          (find (suc (length bytes)) (length bytes) 128 (length g.gap) start x r fault g.starts g.other (omega arith) long i k)
    ] refl s.1
