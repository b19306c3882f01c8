-- What is spelled so is read.
use Rattle.std.proofs.Common.{◌≡◌, ◌≢◌, ℕ, zero, suc, ◌+◌, ◌-◌, ◌<◌, ◌≤◌, Bool, true, false, ⊎_elim, List, [], ◌∷◌, ◌++◌, length, take, drop, refl, sym, ap, ◌∙◌, subst, arith, append_assoc}
use Rattle.std.specs.Prelude.{not, nat_lt, ◌==◌, Option, None, Some, Result, Ok, Err}
use Rattle.std.proofs.lemmas.Bool.Decides.{nat_tests, eqb_tells}
use Rattle.std.proofs.lemmas.List.{append-nil, length-append}
use Rattle.std.proofs.Math.Seq.{take-append_seam, drop-append_seam}
use Rattle.std.specs.List.{list_all}
use Rattle.std.specs.Char.{is_ascii_digit}
use Rattle.script_value.specs.Val.{Val, number, truth, text, symbol, list, vals_of}
use Rattle.script_value.specs.Numbers.{is_number, number_of, is_in_range}
use Rattle.sexp_reader.specs.declared.fault.ReadKind.TheVariants.{Token}
use Rattle.sexp_reader.specs.declared.classes.Class.{Class}
use Rattle.sexp_reader.specs.declared.classes.Class.TheVariants.{Blank, Comment, Opening, Closing, Marking, DoubleQuote, Plain}
use Rattle.sexp_reader.specs.declared.classes.Delimiter.{Delimiter}
use Rattle.sexp_reader.specs.declared.classes.Delimiter.TheVariants.{Parenthesis, Bracket}
use Rattle.sexp_reader.specs.declared.classes.Mark.{Mark}
use Rattle.sexp_reader.specs.declared.classes.Mark.TheVariants.{Quote, Quasiquote, Unquote, UnquoteSplicing}
use Rattle.sexp_reader.specs.Letters.{class_of, is_plain, is_blank, ends_token, same_delimiter, whole_mark, name_of, is_symbol}
use Rattle.sexp_reader.specs.Limits.{most_levels}
use Rattle.sexp_reader.specs.Read.{Fault, ◌>>=◌, past_gap, after_gap, token_len, word_at, text_from, escape_from, Level, opened, marked, State, marked_list, put, open_list, open_mark, close_list, take_mark, take_text, take_token, with_rest, piece, pieces, scan, read}
use Rattle.sexp_reader.specs.Spells.{NoNewline, AtLineEnd, AllPlain, IsToken, AtTokenEnd, Gap, no_gap, blank, comment, Letters, end_of_text, letter, escape, Truth, short_true, long_true, short_false, long_false, Encloses, parentheses, brackets, Marks, quote, quasiquote, unquote, unquote_splicing, Datum, a_number, a_truth, a_symbol, a_text, a_list, a_mark, Data, no_data, a_datum, Spells}
use Rattle.sexp_reader.specs.Views.{innermost_mark}
use Rattle.sexp_reader.proofs.ByteClasses.{plain_is}
use Rattle.sexp_reader.proofs.Truths.{truth_read, truth_no_number, symbol_no_truth}
use Rattle.std.proofs.lemmas.Bool.{and_parts, cond-true, cond-false}
use Rattle.sexp_reader.proofs.Utf8.{other_word}
use Rattle.sexp_reader.proofs.Turns.{read_utf8, no_piece}

-- gaps

pub test_false : (a b : ℕ) → a ≢ b → (a == b) ≡ false
test_false a b h = ⊎_elim (λ e. absurd (h e.1)) (λ e. e.0) (eqb_tells a b)

line_end : (bytes : List ℕ) → AtLineEnd bytes → past_gap true bytes ≡ past_gap false bytes
line_end [] h = refl
line_end (b ∷ bs) h = rw h refl

past_line : (line bytes : List ℕ) → NoNewline line → AtLineEnd bytes → past_gap true (line ++ bytes) ≡ past_gap false bytes
past_line [] bytes n l = line_end bytes l
past_line (b ∷ line) bytes n l = ap (λ v. past_gap (not v) (line ++ bytes)) (test_false b 10 n.0) ∙ past_line line bytes n.1 l

pub gap_same : {bytes rest : List ℕ} → Gap bytes rest → after_gap bytes ≡ after_gap rest
gap_same (no_gap r) = refl
gap_same (blank b bytes rest e g) =
    let past : Class → List ℕ = λ v. elim v [ Blank ↦ past_gap false bytes | Comment ↦ past_gap true bytes | _ ↦ b ∷ bytes ] in
    ap past (cond-true _ _ _ e) ∙ gap_same g
gap_same (comment line bytes rest n l g) = past_line line bytes n l ∙ gap_same g

mutual
  pub past_shorter : (bytes : List ℕ) → length (past_gap false bytes) ≤ length bytes
  past_shorter [] = omega arith
  past_shorter (b ∷ bs) =
      let past : Class → List ℕ = λ v. elim v [ Blank ↦ past_gap false bs | Comment ↦ past_gap true bs | _ ↦ b ∷ bs ] in
      elim (class_of b) as (λ v. length (past v) ≤ suc (length bs)) [
        | Blank ↦ omega (arith, past_shorter bs)
        | Comment ↦ omega (arith, line_shorter bs)
        | _ ↦ omega arith
      ]

  line_shorter : (bytes : List ℕ) → length (past_gap true bytes) ≤ length bytes
  line_shorter [] = omega arith
  line_shorter (b ∷ bs) =
      elim (b == 10) as (λ v. length (past_gap (not v) bs) ≤ suc (length bs)) [
        | true ↦ omega (arith, past_shorter bs)
        | false ↦ omega (arith, line_shorter bs)
      ]

-- whether a gap may begin with a byte of this class
abbrev pub begins_gap : Class → Bool
begins_gap Blank = true
begins_gap Comment = true
begins_gap _ = false

pub no_gap_here : (b : ℕ) (bs : List ℕ) → begins_gap (class_of b) ≡ false → after_gap (b ∷ bs) ≡ b ∷ bs
no_gap_here b bs h =
    let past : Class → List ℕ = λ v. elim v [ Blank ↦ past_gap false bs | Comment ↦ past_gap true bs | _ ↦ b ∷ bs ] in
    elim (class_of b) as (λ v. begins_gap v ≡ false → past v ≡ b ∷ bs) [ Blank ↦ λ e. absurd (cc) | Comment ↦ λ e. absurd (cc) | _ ↦ λ e. refl ] h

plain_class : (c : Class) → is_plain c ≡ true → c ≡ Plain
plain_class Plain h = refl
plain_class Blank h = absurd (cc)
plain_class Comment h = absurd (cc)
plain_class (Opening d) h = absurd (cc)
plain_class (Closing d) h = absurd (cc)
plain_class (Marking m) h = absurd (cc)
plain_class DoubleQuote h = absurd (cc)

class_plain : (b : ℕ) → ends_token b ≡ false → class_of b ≡ Plain
class_plain b h = plain_class (class_of b) (plain_is b ∙ ap not h)

-- tokens

pub token_count : (token rest : List ℕ) → AllPlain token → AtTokenEnd rest → token_len (token ++ rest) ≡ length token
token_count [] [] h e = refl
token_count [] (b ∷ bs) h e =
    let count : Bool → ℕ = λ v. elim v [ true ↦ suc (token_len bs) | false ↦ 0 ] in
    ap count (plain_is b ∙ ap not e)
token_count (b ∷ bs) rest h e =
    let count : Bool → ℕ = λ v. elim v [ true ↦ suc (token_len (bs ++ rest)) | false ↦ 0 ] in
    ap count (plain_is b ∙ ap not h.0) ∙ ap suc (token_count bs rest h.1 e)

pub token_front : (token rest : List ℕ) → AllPlain token → AtTokenEnd rest → take (token_len (token ++ rest)) (token ++ rest) ≡ token
token_front token rest h e = rw (token_count token rest h e) (take-append_seam token rest)

pub token_back : (token rest : List ℕ) → AllPlain token → AtTokenEnd rest → drop (token_len (token ++ rest)) (token ++ rest) ≡ rest
token_back token rest h e = rw (token_count token rest h e) (drop-append_seam token rest)

number_word : (place : ℕ) (token : List ℕ) → is_number token ≡ true → is_in_range (number_of token) ≡ true → word_at place token ≡ Ok (number (number_of token))
number_word place token h k = cond-true _ _ _ h ∙ cond-true _ _ _ k

symbol_word : (place : ℕ) (token : List ℕ) → is_number token ≡ false → is_symbol token ≡ true → word_at place token ≡ Ok (symbol token)
symbol_word place token h k =
    cond-false _ _ _ h ∙ (ap (other_word place token) (symbol_no_truth token k) ∙ cond-true _ _ _ k)

truth_word : (place : ℕ) (token : List ℕ) (b : Bool) → Truth token b → word_at place token ≡ Ok (truth b)
truth_word place token b t =
    cond-false _ _ _ (truth_no_number t) ∙ ap (other_word place token) (truth_read t)

pub token_again : (place : ℕ) (token rest : List ℕ) (v : Val) (state : State) → AllPlain token → AtTokenEnd rest → word_at place token ≡ Ok v
    → take_token place (token ++ rest) state ≡ Ok (put v state.items state.levels, rest)
token_again place token rest v state h e w =
    let f : List ℕ → Result (State × List ℕ) Fault = λ back. word_at place (take (token_len (token ++ rest)) (token ++ rest)) >>= λ v. Ok (put v state.items state.levels, back) in
    let g : List ℕ → Result (State × List ℕ) Fault = λ front. word_at place front >>= λ v. Ok (put v state.items state.levels, rest) in
    let k : Result Val Fault → Result (State × List ℕ) Fault = λ r. r >>= λ v. Ok (put v state.items state.levels, rest) in
    ap f (token_back token rest h e) ∙ (ap g (token_front token rest h e) ∙ ap k w)

-- texts

pub text_again : (place : ℕ) (done : List ℕ) {bytes chars rest : List ℕ} → Letters bytes chars rest → text_from place done bytes ≡ Ok (done ++ chars, rest)
text_again place done (end_of_text rest) =
    let f : List ℕ → Result (List ℕ × List ℕ) Fault = λ x. Ok (x, rest) in
    ap f (sym (append-nil done))
text_again place done (letter b bytes chars rest q r l) =
    let f : List ℕ → Result (List ℕ × List ℕ) Fault = λ x. Ok (x, rest) in
    let other : Bool → Result (List ℕ × List ℕ) Fault = λ v. elim v [ true ↦ escape_from place done bytes | false ↦ text_from place (done ++ b ∷ []) bytes ] in
    let at_byte : Bool → Result (List ℕ × List ℕ) Fault = λ v. elim v [ true ↦ Ok (done, bytes) | false ↦ other (b == 92) ] in
    ap at_byte (test_false b 34 q) ∙ (ap other (test_false b 92 r) ∙ (text_again place (done ++ b ∷ []) l ∙ ap f (append_assoc done (b ∷ []) chars)))
text_again place done (escape b c bytes chars rest e l) =
    let f : List ℕ → Result (List ℕ × List ℕ) Fault = λ x. Ok (x, rest) in
    let at_byte : Option ℕ → Result (List ℕ × List ℕ) Fault = λ v. elim v [ None ↦ Err (place, Token) | Some d ↦ text_from place (done ++ d ∷ []) bytes ] in
    ap at_byte e ∙ (text_again place (done ++ c ∷ []) l ∙ ap f (append_assoc done (c ∷ []) chars))

letters_shorter : {bytes chars rest : List ℕ} → Letters bytes chars rest → length rest < length bytes
letters_shorter (end_of_text rest) = omega arith
letters_shorter (letter b bytes chars rest q r l) = omega (arith, letters_shorter l)
letters_shorter (escape b c bytes chars rest e l) = omega (arith, letters_shorter l)

-- levels

put_plain : (v : Val) (items : List Val) (levels : List Level) → innermost_mark levels ≡ None → put v items levels ≡ record { items = items ++ v ∷ []; levels = levels }
put_plain v items [] h = refl
put_plain v items (opened d at before ∷ levels) h = refl
put_plain v items (marked m at ∷ levels) h = absurd (cc)

-- With enough pieces left, reading goes from one state and one text to another, with enough pieces left.
pub record Reaches (k total : ℕ) (state : State) (bytes : List ℕ) (next : State) (rest : List ℕ) : Type 0 where
  left : ℕ
  enough : length rest < left
  same : pieces k total state bytes ≡ pieces left total next rest

-- one piece, and the gap after it
one_piece : (k total b : ℕ) (bs : List ℕ) (state next : State) (rest : List ℕ) → length (b ∷ bs) < k → length rest < length (b ∷ bs)
    → piece (total - length (b ∷ bs)) b bs state ≡ Ok (next, rest) → Reaches k total state (b ∷ bs) next (after_gap rest)
one_piece zero total b bs state next rest l s h = absurd (omega arith)
one_piece (suc k) total b bs state next rest l s h =
    let f : Result (State × List ℕ) Fault → Result (List Val) Fault = λ r. r >>= λ found. pieces k total found.0 (after_gap found.1) in
    record { left = k; enough = omega (arith, past_shorter rest); same = ap f h }

reaches_more : {k total : ℕ} {state next last : State} {bytes rest after : List ℕ} (r : Reaches k total state bytes next rest)
    → Reaches r.left total next rest last after → Reaches k total state bytes last after
reaches_more r t = record { left = t.left; enough = t.enough; same = r.same ∙ t.same }

may_open : (n : ℕ) (state : State) → suc n + length state.levels ≡ 128 → nat_lt (length state.levels) most_levels ≡ true
may_open n state h = grind (arith, nat_tests)

-- the piece that a byte of each class begins
pub piece_of : (place b : ℕ) (bs : List ℕ) (state : State) (c : Class) → class_of b ≡ c → piece place b bs state ≡ (elim c [
  | Opening d ↦ with_rest bs (open_list d place state)
  | Closing d ↦ with_rest bs (close_list d place state.items state.levels)
  | Marking m ↦ take_mark m place bs state
  | DoubleQuote ↦ take_text place bs state
  | Plain ↦ take_token place (b ∷ bs) state
  | _ ↦ Err (place, Token)
])
piece_of place b bs state c e =
    let read_at : Class → Result (State × List ℕ) Fault = λ v. elim v [
      | Opening d ↦ with_rest bs (open_list d place state)
      | Closing d ↦ with_rest bs (close_list d place state.items state.levels)
      | Marking m ↦ take_mark m place bs state
      | DoubleQuote ↦ take_text place bs state
      | Plain ↦ take_token place (b ∷ bs) state
      | _ ↦ Err (place, Token)
    ] in
    ap read_at e

open_piece : (n place b : ℕ) (d : Delimiter) (bs : List ℕ) (state : State) → class_of b ≡ Opening d → suc n + length state.levels ≡ 128
    → piece place b bs state ≡ Ok (record { items = []; levels = opened d place state.items ∷ state.levels }, bs)
open_piece n place b d bs state e h = piece_of place b bs state (Opening d) e ∙ ap (λ r. with_rest bs r) (cond-true _ _ _ (may_open n state h))

mark_piece : (n place b : ℕ) (m mark : Mark) (bs rest : List ℕ) (state : State) → class_of b ≡ Marking m → whole_mark m bs ≡ (mark, rest)
    → suc n + length state.levels ≡ 128
    → piece place b bs state ≡ Ok (record { items = state.items; levels = marked mark place ∷ state.levels }, rest)
mark_piece n place b m mark bs rest state e w h =
    let taken : Mark × List ℕ → Result (State × List ℕ) Fault = λ p. with_rest p.1 (open_mark p.0 place state) in
    piece_of place b bs state (Marking m) e ∙ (ap taken w ∙ ap (λ r. with_rest rest r) (cond-true _ _ _ (may_open n state h)))

same_as_itself : (d : Delimiter) → same_delimiter d d ≡ true
same_as_itself Parenthesis = refl
same_as_itself Bracket = refl

close_piece : (place at b : ℕ) (d : Delimiter) (bs : List ℕ) (items before : List Val) (levels : List Level) → class_of b ≡ Closing d
    → piece place b bs (record { items = items; levels = opened d at before ∷ levels }) ≡ Ok (put (list (vals_of items)) before levels, bs)
close_piece place at b d bs items before levels e =
    piece_of place b bs (record { items = items; levels = opened d at before ∷ levels }) (Closing d) e
    ∙ ap (λ r. with_rest bs r) (cond-true _ _ _ (same_as_itself d))

text_piece : (place : ℕ) (bs : List ℕ) (state : State) (chars rest : List ℕ) → Letters bs chars rest
    → piece place 34 bs state ≡ Ok (put (text chars) state.items state.levels, rest)
text_piece place bs state chars rest l =
    let f : Result (List ℕ × List ℕ) Fault → Result (State × List ℕ) Fault = λ r. r >>= λ found. Ok (put (text found.0) state.items state.levels, found.1) in
    ap f (text_again place [] l)

token_starts : (token rest : List ℕ) → IsToken token → after_gap (token ++ rest) ≡ token ++ rest
token_starts [] rest t = absurd t
token_starts (b ∷ bs) rest t = no_gap_here b (bs ++ rest) (ap begins_gap (class_plain b t.0))

token_shorter : (token rest : List ℕ) → IsToken token → length rest < length (token ++ rest)
token_shorter [] rest t = absurd t
token_shorter (b ∷ bs) rest t = omega (arith, length-append bs rest)

token_reaches : (k total : ℕ) (state : State) (token rest : List ℕ) (v : Val) → IsToken token → AtTokenEnd rest → ((place : ℕ) → word_at place token ≡ Ok v)
    → length (token ++ rest) < k → Reaches k total state (token ++ rest) (put v state.items state.levels) (after_gap rest)
token_reaches k total state [] rest v t e w l = absurd t
token_reaches k total state (b ∷ bs) rest v t e w l =
    let place : ℕ = total - length (b ∷ (bs ++ rest)) in
    one_piece k total b (bs ++ rest) state (put v state.items state.levels) rest l (token_shorter (b ∷ bs) rest t)
    (piece_of place b (bs ++ rest) state Plain (class_plain b t.0) ∙ token_again place (b ∷ bs) rest v state t e (w place))

truth_token : {token : List ℕ} {b : Bool} → Truth token b → IsToken token
truth_token short_true = (refl, (refl, tt))
truth_token long_true = (refl, (refl, (refl, (refl, (refl, tt)))))
truth_token short_false = (refl, (refl, tt))
truth_token long_false = (refl, (refl, (refl, (refl, (refl, (refl, tt))))))

-- what a list stands between
record Enclosing (b c : ℕ) : Type 0 where
  delimiter : Delimiter
  opens : class_of b ≡ Opening delimiter
  closes : class_of c ≡ Closing delimiter

enclosing : {b c : ℕ} → Encloses b c → Enclosing b c
enclosing parentheses = record { delimiter = Parenthesis; opens = refl; closes = refl }
enclosing brackets = record { delimiter = Bracket; opens = refl; closes = refl }

mark_longer : {mark name : List ℕ} (bytes : List ℕ) → Marks mark name → length bytes < length (mark ++ bytes)
mark_longer bytes quote = omega arith
mark_longer bytes quasiquote = omega arith
mark_longer bytes unquote = omega arith
mark_longer bytes unquote_splicing = omega arith

mark_shorter : {mark name : List ℕ} {whole : List ℕ} (bytes : List ℕ) → Marks mark name → whole ≡ mark ++ bytes → length bytes < length whole
mark_shorter bytes m e =
    let P : List ℕ → Type 0 = λ t. length bytes < length t in
    subst P (sym e) (mark_longer bytes m)

-- whether an @ stands first
abbrev pub begins_with_at : List ℕ → Bool
begins_with_at [] = false
begins_with_at (b ∷ bs) = b == 64

mark_starts : {mark name : List ℕ} (bytes : List ℕ) → Marks mark name → after_gap (mark ++ bytes) ≡ mark ++ bytes
mark_starts bytes quote = refl
mark_starts bytes quasiquote = refl
mark_starts bytes unquote = refl
mark_starts bytes unquote_splicing = refl

datum_starts : {n : ℕ} {bytes : List ℕ} {v : Val} {rest : List ℕ} → Datum n bytes v rest → after_gap bytes ≡ bytes
datum_starts (a_number n token rest t e h k) = token_starts token rest t
datum_starts (a_truth n token b rest t e) = token_starts token rest (truth_token t)
datum_starts (a_symbol n token rest t e h k) = token_starts token rest t
datum_starts (a_text n bytes chars rest l) = refl
datum_starts (a_list n b c bytes vs rest x d) = no_gap_here b bytes (ap begins_gap (enclosing x).opens)
datum_starts (a_mark n mark name bytes middle v rest m g d) = mark_starts bytes m

-- no datum begins with an @

no_number : (bs : List ℕ) → is_number (64 ∷ bs) ≡ true → ⊥
no_number bs h =
    let all = (and_parts (nat_lt 0 (length (64 ∷ bs))) (list_all is_ascii_digit (64 ∷ bs)) h).1 in
    let first : is_ascii_digit 64 ≡ true = (and_parts (is_ascii_digit 64) (list_all is_ascii_digit bs) all).0 in cc

no_symbol : (bs : List ℕ) → is_symbol (64 ∷ bs) ≡ true → ⊥
no_symbol bs h = cc

number_begins : (token rest : List ℕ) → IsToken token → is_number token ≡ true → begins_with_at (token ++ rest) ≡ false
number_begins [] rest t h = absurd t
number_begins (b ∷ bs) rest t h = test_false b 64 (λ e. no_number bs (ap (λ x. is_number (x ∷ bs)) (sym e) ∙ h))

symbol_begins : (token rest : List ℕ) → IsToken token → is_symbol token ≡ true → begins_with_at (token ++ rest) ≡ false
symbol_begins [] rest t h = absurd t
symbol_begins (b ∷ bs) rest t h = test_false b 64 (λ e. no_symbol bs (ap (λ x. is_symbol (x ∷ bs)) (sym e) ∙ h))

truth_begins : {token : List ℕ} {b : Bool} (rest : List ℕ) → Truth token b → begins_with_at (token ++ rest) ≡ false
truth_begins rest short_true = refl
truth_begins rest long_true = refl
truth_begins rest short_false = refl
truth_begins rest long_false = refl

list_begins : {b c : ℕ} → Encloses b c → (b == 64) ≡ false
list_begins parentheses = refl
list_begins brackets = refl

mark_begins : {mark name : List ℕ} (bytes : List ℕ) → Marks mark name → begins_with_at (mark ++ bytes) ≡ false
mark_begins bytes quote = refl
mark_begins bytes quasiquote = refl
mark_begins bytes unquote = refl
mark_begins bytes unquote_splicing = refl

datum_begins : {n : ℕ} {bytes : List ℕ} {v : Val} {rest : List ℕ} → Datum n bytes v rest → begins_with_at bytes ≡ false
datum_begins (a_number n token rest t e h k) = number_begins token rest t h
datum_begins (a_truth n token b rest t e) = truth_begins rest t
datum_begins (a_symbol n token rest t e h k) = symbol_begins token rest t k
datum_begins (a_text n bytes chars rest l) = refl
datum_begins (a_list n b c bytes vs rest x d) = list_begins x
datum_begins (a_mark n mark name bytes middle v rest m g d) = mark_begins bytes m

no_blank : (b : ℕ) → is_blank b ≡ true → b ≡ 64 → ⊥
no_blank b h e = let f : is_blank 64 ≡ true = ap is_blank (sym e) ∙ h in cc

gap_begins : {bytes middle : List ℕ} → Gap bytes middle → begins_with_at middle ≡ false → begins_with_at bytes ≡ false
gap_begins (no_gap rest) h = h
gap_begins (blank b bytes rest e g) h = test_false b 64 (no_blank b e)
gap_begins (comment line bytes rest n l g) h = refl

-- how a mark is read that bytes follow
record Mark_read (spelling name bytes : List ℕ) : Type 0 where
  first : ℕ
  more : List ℕ
  begun : Mark
  mark : Mark
  parts : first ∷ more ≡ spelling ++ bytes
  classed : class_of first ≡ Marking begun
  whole : whole_mark begun more ≡ (mark, bytes)
  named : name_of mark ≡ name

pub alone : (bytes : List ℕ) → begins_with_at bytes ≡ false → whole_mark Unquote bytes ≡ (Unquote, bytes)
alone [] h = refl
alone (b ∷ bs) h = cond-false _ _ _ h

mark_read : {spelling name : List ℕ} (bytes : List ℕ) → Marks spelling name → begins_with_at bytes ≡ false → Mark_read spelling name bytes
mark_read bytes quote h =
    record { first = 39; more = bytes; begun = Quote; mark = Quote; parts = refl; classed = refl; whole = refl; named = refl }
mark_read bytes quasiquote h =
    record { first = 96; more = bytes; begun = Quasiquote; mark = Quasiquote; parts = refl; classed = refl; whole = refl; named = refl }
mark_read bytes unquote h =
    record { first = 44; more = bytes; begun = Unquote; mark = Unquote; parts = refl; classed = refl; whole = alone bytes h; named = refl }
mark_read bytes unquote_splicing h =
    record { first = 44; more = 64 ∷ bytes; begun = Unquote; mark = UnquoteSplicing; parts = refl; classed = refl; whole = refl; named = refl }

mutual
  datum_again : (k total : ℕ) (state : State) {n : ℕ} {bytes : List ℕ} {v : Val} {rest : List ℕ} → Datum n bytes v rest → n + length state.levels ≡ 128
      → length bytes < k → Reaches k total state bytes (put v state.items state.levels) (after_gap rest)
  datum_again k total state (a_number n token rest t e h i) c l =
      token_reaches k total state token rest (number (number_of token)) t e (λ place. number_word place token h i) l
  datum_again k total state (a_truth n token b rest t e) c l =
      token_reaches k total state token rest (truth b) (truth_token t) e (λ place. truth_word place token b t) l
  datum_again k total state (a_symbol n token rest t e h i) c l =
      token_reaches k total state token rest (symbol token) t e (λ place. symbol_word place token h i) l
  datum_again k total state (a_text n bytes chars rest t) c l =
      one_piece k total 34 bytes state (put (text chars) state.items state.levels) rest l (omega (arith, letters_shorter t))
      (text_piece (total - length (34 ∷ bytes)) bytes state chars rest t)
  datum_again k total state (a_list n b x bytes vs rest y d) c l =
      let e = enclosing y in
      let place : ℕ = total - length (b ∷ bytes) in
      let inner : State = record { items = []; levels = opened e.delimiter place state.items ∷ state.levels } in
      let full : State = record { items = vs; levels = opened e.delimiter place state.items ∷ state.levels } in
      let r = one_piece k total b bytes state inner bytes l (omega arith) (open_piece n place b e.delimiter bytes state e.opens c) in
      let s = data_again r.left total [] (opened e.delimiter place state.items ∷ state.levels) d refl (omega arith) r.enough in
      let P : List ℕ → Type 0 = λ t. Reaches r.left total inner (after_gap bytes) full t in
      let t = subst P (no_gap_here x rest (ap begins_gap e.closes)) s in
      let u = one_piece t.left total x rest full (put (list (vals_of vs)) state.items state.levels) rest t.enough (omega arith)
      (close_piece (total - length (x ∷ rest)) place x e.delimiter rest vs state.items state.levels e.closes) in
      reaches_more r (reaches_more t u)
  datum_again k total state (a_mark n spelling name bytes middle v rest y g d) c l =
      let m = mark_read bytes y (gap_begins g (datum_begins d)) in
      let S : List ℕ → Type 0 = λ t. length t < k in
      let place : ℕ = total - length (m.first ∷ m.more) in
      let inner : State = record { items = state.items; levels = marked m.mark place ∷ state.levels } in
      let shorter : length bytes < length (m.first ∷ m.more) = mark_shorter bytes y m.parts in
      let r = one_piece k total m.first m.more state inner bytes (subst S (sym m.parts) l) shorter
      (mark_piece n place m.first m.begun m.mark m.more bytes state m.classed m.whole c) in
      let P : List ℕ → Type 0 = λ t. Reaches k total state (m.first ∷ m.more) inner t in
      let s = subst P (gap_same g ∙ datum_starts d) r in
      let t = reaches_more s (datum_again s.left total inner d (omega arith) s.enough) in
      let Q : List ℕ → Type 0 = λ t. Reaches k total state t (put (marked_list m.mark v) state.items state.levels) (after_gap rest) in
      let N : List ℕ → Type 0 = λ t. Reaches k total state (spelling ++ bytes) (put (list (vals_of (symbol t ∷ v ∷ []))) state.items state.levels) (after_gap rest) in
      subst N m.named (subst Q m.parts t)

  data_again : (k total : ℕ) (items : List Val) (levels : List Level) {n : ℕ} {bytes : List ℕ} {vs : List Val} {rest : List ℕ} → Data n bytes vs rest
      → innermost_mark levels ≡ None → n + length levels ≡ 128 → length (after_gap bytes) < k
      → Reaches k total (record { items = items; levels = levels }) (after_gap bytes) (record { items = items ++ vs; levels = levels }) (after_gap rest)
  data_again k total items levels (no_data n bytes rest g) m c l =
      let P : List ℕ → Type 0 = λ t. length t < k in
      let here : List Val × List ℕ → Result (List Val) Fault = λ x. pieces k total (record { items = x.0; levels = levels }) x.1 in
      record {
        left = k;
        enough = subst P (gap_same g) l;
        same = ap (λ t. pieces k total (record { items = items; levels = levels }) t) (gap_same g)
            ∙ ap (λ t. pieces k total (record { items = t; levels = levels }) (after_gap rest)) (sym (append-nil items));
      }
  data_again k total items levels (a_datum n bytes middle v after vs rest g d more) m c l =
      let here : State = record { items = items; levels = levels } in
      let same : after_gap bytes ≡ middle = gap_same g ∙ datum_starts d in
      let L : List ℕ → Type 0 = λ t. length t < k in
      let r = datum_again k total here d c (subst L same l) in
      let P : List ℕ → Type 0 = λ t. Reaches k total here t (put v items levels) (after_gap after) in
      let Q : State → Type 0 = λ t. Reaches k total here (after_gap bytes) t (after_gap after) in
      let s = subst Q (put_plain v items levels m) (subst P (sym same) r) in
      let t = data_again s.left total (items ++ v ∷ []) levels more m c s.enough in
      let W : List Val → Type 0 = λ x. Reaches k total here (after_gap bytes) (record { items = x; levels = levels }) (after_gap rest) in
      subst W (append_assoc items (v ∷ []) vs) (reaches_more s t)

pub scan_again : (bytes : List ℕ) (vs : List Val) → Data 128 bytes vs [] → scan bytes ≡ Ok vs
scan_again bytes vs d =
    let r = data_again (suc (length bytes)) (length bytes) [] [] d refl (omega arith) (omega (arith, past_shorter bytes)) in
    r.same ∙ no_piece r.left (length bytes) (record { items = vs; levels = [] }) [] r.enough refl

-- what is spelled so is read
pub spells_read : (bytes : List ℕ) (vs : List Val) → Spells bytes vs → read bytes ≡ Ok vs
spells_read bytes vs s = read_utf8 bytes s.short s.utf8 ∙ scan_again bytes vs s.grammar
