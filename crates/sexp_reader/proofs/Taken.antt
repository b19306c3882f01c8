-- What is read is spelled so.
use Rattle.std.proofs.Common.{◌≡◌, ◌≢◌, ℕ, zero, suc, ◌+◌, ◌-◌, ◌≤◌, Bool, true, false, cond, ⊎_elim, List, [], ◌∷◌, ◌++◌, length, take, drop, refl, sym, ap, ◌∙◌, subst, arith, append_assoc}
use Rattle.std.specs.Prelude.{not, nat_lt, ◌==◌, Option, None, Some, Result, Ok, Err, codes}
use Rattle.std.proofs.lemmas.Bool.{eqb-true, eqb-false, not-true, not-false}
use Rattle.std.proofs.lemmas.Bool.Decides.{nat_tests}
use Rattle.std.proofs.lemmas.List.{append-nil, take-append-drop}
use Rattle.std.specs.Str.{is_utf8}
use Rattle.std.proofs.lemmas.Str.{IsUtf8-from_is_utf8}
use Rattle.std.specs.Str.Lossy.{utf8_valid_len}
use Rattle.script_value.specs.Val.{Val, number, truth, text, symbol, list, vals_of}
use Rattle.script_value.specs.Numbers.{is_number, number_of, is_in_range}
use Rattle.sexp_reader.specs.declared.fault.ReadKind.TheVariants.{Long, Utf8, Token, Mismatch, Range, Deep}
use Rattle.sexp_reader.specs.declared.classes.Class.{Class}
use Rattle.sexp_reader.specs.declared.classes.Class.TheVariants.{Blank, Comment, Opening, Closing, Marking, DoubleQuote, Plain}
use Rattle.sexp_reader.specs.declared.classes.Delimiter.{Delimiter}
use Rattle.sexp_reader.specs.declared.classes.Delimiter.TheVariants.{Parenthesis, Bracket}
use Rattle.sexp_reader.specs.declared.classes.Mark.{Mark}
use Rattle.sexp_reader.specs.declared.classes.Mark.TheVariants.{Quote, Quasiquote, Unquote, UnquoteSplicing}
use Rattle.sexp_reader.specs.Letters.{class_of, is_plain, is_blank, ends_token, same_delimiter, whole_mark, name_of, escaped, truth_of, is_symbol}
use Rattle.sexp_reader.specs.Limits.{most_levels}
use Rattle.sexp_reader.specs.Read.{Fault, past_gap, after_gap, token_len, word_at, text_from, escape_from, Level, opened, marked, State, start, marked_list, put, open_list, open_mark, close_list, finish, take_mark, take_text, take_token, with_rest, piece, pieces, scan, read}
use Rattle.sexp_reader.specs.Spells.{NoNewline, AtLineEnd, AllPlain, IsToken, AtTokenEnd, Gap, no_gap, blank, comment, Letters, end_of_text, letter, escape, Encloses, parentheses, brackets, Marks, quote, quasiquote, unquote, unquote_splicing, Datum, a_number, a_truth, a_symbol, a_text, a_list, a_mark, Data, no_data, a_datum, Spells}
use Rattle.sexp_reader.proofs.Utf8.{same_rest, err_ok, bind_ok, choose_ok, other_word}
use Rattle.sexp_reader.proofs.ByteClasses.{class_blank, class_comment, class_opening, class_closing, class_mark, class_text, opening_byte, closing_byte, plain_is}
use Rattle.sexp_reader.proofs.Truths.{truth_spelled}

pub same_ok : {A : Type 0} (x y : A) (r : Result A Fault) → r ≡ Ok x → r ≡ Ok y → x ≡ y
same_ok x y r h k = cc

short_enough : (n : ℕ) → nat_lt 65536 n ≡ false → n ≤ 65536
short_enough n h = grind (arith, nat_tests)

-- gaps

pub gap_gap : {a b c : List ℕ} → Gap a b → Gap b c → Gap a c
gap_gap (no_gap r) h = h
gap_gap (blank b bytes rest e g) h = blank b bytes _ e (gap_gap g h)
gap_gap (comment line bytes rest n l g) h = comment line bytes _ n l (gap_gap g h)

pub gap_data : {n : ℕ} {a b c : List ℕ} {vs : List Val} → Gap a b → Data n b vs c → Data n a vs c
gap_data g (no_data n bytes rest h) = no_data n _ rest (gap_gap g h)
gap_data g (a_datum n bytes middle v after vs rest h d more) = a_datum n _ middle v after vs rest (gap_gap g h) d more

-- bytes up to the end of a line, and a gap from there on
pub record Line (bytes after : List ℕ) : Type 0 where
  line : List ℕ
  rest : List ℕ
  parts : line ++ rest ≡ bytes
  clean : NoNewline line
  ends : AtLineEnd rest
  gap : Gap rest after

comment_gap : (b : ℕ) (bs after : List ℕ) → class_of b ≡ Comment → Line bs after → Gap (b ∷ bs) after
comment_gap b bs after e l =
    let P : List ℕ → Type 0 = λ t. Gap (59 ∷ t) after in
    rw (class_comment b e) (subst P l.parts (comment l.line l.rest after l.clean l.ends l.gap))

mutual
  pub gap_of : (bytes : List ℕ) → Gap bytes (past_gap false bytes)
  gap_of [] = no_gap []
  gap_of (b ∷ bs) =
      let past : Class → List ℕ = λ v. elim v [ Blank ↦ past_gap false bs | Comment ↦ past_gap true bs | _ ↦ b ∷ bs ] in
      elim (class_of b) as (λ v. class_of b ≡ v → Gap (b ∷ bs) (past v)) [
        | Blank ↦ λ e. blank b bs _ (class_blank b e) (gap_of bs)
        | Comment ↦ λ e. comment_gap b bs (past_gap true bs) e (line_of bs)
        | _ ↦ λ e. no_gap (b ∷ bs)
      ] refl

  pub line_of : (bytes : List ℕ) → Line bytes (past_gap true bytes)
  line_of [] = record { line = []; rest = []; parts = refl; clean = tt; ends = tt; gap = no_gap [] }
  line_of (b ∷ bs) =
      elim (b == 10) as (λ v. (b == 10) ≡ v → Line (b ∷ bs) (past_gap (not v) bs)) [
        | true ↦ λ e. let q : b ≡ 10 = eqb-true b 10 e in
            record { line = []; rest = b ∷ bs; parts = refl; clean = tt; ends = q; gap = blank b bs _ (ap is_blank q) (gap_of bs) }
        | false ↦ λ e. let more = line_of bs in
            record { line = b ∷ more.line; rest = more.rest; parts = ap (λ r. b ∷ r) more.parts; clean = (eqb-false b 10 e, more.clean); ends = more.ends; gap = more.gap }
      ] refl

-- texts

pub record Read_text (done bytes : List ℕ) (p : List ℕ × List ℕ) : Type 0 where
  pub chars : List ℕ
  pub found : p.0 ≡ done ++ chars
  pub spelled : Letters bytes chars p.1

more_letters : (b : ℕ) (done bytes : List ℕ) (p : List ℕ × List ℕ) → b ≢ 34 → b ≢ 92 → Read_text (done ++ b ∷ []) bytes p → Read_text done (b ∷ bytes) p
more_letters b done bytes p q r t =
    record { chars = b ∷ t.chars; found = t.found ∙ append_assoc done (b ∷ []) t.chars; spelled = letter b bytes t.chars p.1 q r t.spelled }

more_escapes : (b c : ℕ) (done bytes : List ℕ) (p : List ℕ × List ℕ) → escaped b ≡ Some c → Read_text (done ++ c ∷ []) bytes p → Read_text done (92 ∷ b ∷ bytes) p
more_escapes b c done bytes p e t =
    record { chars = c ∷ t.chars; found = t.found ∙ append_assoc done (c ∷ []) t.chars; spelled = escape b c bytes t.chars p.1 e t.spelled }

text_ends : (b : ℕ) (done bs : List ℕ) (p : List ℕ × List ℕ) → b ≡ 34 → (done ≡ p.0) × (bs ≡ p.1) → Read_text done (b ∷ bs) p
text_ends b done bs p e s =
    let P : List ℕ → Type 0 = λ t. Letters (34 ∷ bs) [] t in
    record { chars = []; found = sym s.0 ∙ sym (append-nil done); spelled = rw e (subst P s.1 (end_of_text bs)) }

mutual
  pub text_read : (place : ℕ) (done bytes : List ℕ) (p : List ℕ × List ℕ) → text_from place done bytes ≡ Ok p → Read_text done bytes p
  text_read place done [] p h = absurd (cc)
  text_read place done (b ∷ bs) p h =
      let here : List ℕ × List ℕ = (done, bs) in
      let other : Bool → Result (List ℕ × List ℕ) Fault = λ v. elim v [ true ↦ escape_from place done bs | false ↦ text_from place (done ++ b ∷ []) bs ] in
      let at_byte : Bool → Result (List ℕ × List ℕ) Fault = λ v. elim v [ true ↦ Ok here | false ↦ other (b == 92) ] in
      elim (b == 34) as (λ v. (b == 34) ≡ v → at_byte v ≡ Ok p → Read_text done (b ∷ bs) p) [
        | true ↦ λ e k. text_ends b done bs p (eqb-true b 34 e) (same_rest here p (Ok here) refl k)
        | false ↦ λ e. elim (b == 92) as (λ v. (b == 92) ≡ v → other v ≡ Ok p → Read_text done (b ∷ bs) p) [
          | true ↦ λ d k. escape_read place done b bs p (eqb-true b 92 d) k
          | false ↦ λ d k. more_letters b done bs p (eqb-false b 34 e) (eqb-false b 92 d) (text_read place (done ++ b ∷ []) bs p k)
        ] refl
      ] refl h

  escape_read : (place : ℕ) (done : List ℕ) (a : ℕ) (bytes : List ℕ) (p : List ℕ × List ℕ) → a ≡ 92 → escape_from place done bytes ≡ Ok p → Read_text done (a ∷ bytes) p
  escape_read place done a [] p s h = absurd (cc)
  escape_read place done a (b ∷ bs) p s h =
      let bad : Fault = (place, Token) in
      let at_byte : Option ℕ → Result (List ℕ × List ℕ) Fault = λ v. elim v [ None ↦ Err bad | Some d ↦ text_from place (done ++ d ∷ []) bs ] in
      elim (escaped b) as (λ v. escaped b ≡ v → at_byte v ≡ Ok p → Read_text done (a ∷ b ∷ bs) p) [
        | None ↦ λ e k. absurd (err_ok bad p (Err bad) refl k)
        | Some d ↦ λ e k. rw s (more_escapes b d done bs p e (text_read place (done ++ d ∷ []) bs p k))
      ] refl h

-- tokens

plain_stays : (b : ℕ) → is_plain (class_of b) ≡ true → ends_token b ≡ false
plain_stays b h = not-true (ends_token b) (sym (plain_is b) ∙ h)

other_ends : (b : ℕ) → is_plain (class_of b) ≡ false → ends_token b ≡ true
other_ends b h = not-false (ends_token b) (sym (plain_is b) ∙ h)

pub token_plain : (bytes : List ℕ) → AllPlain (take (token_len bytes) bytes)
token_plain [] = tt
token_plain (b ∷ bs) =
    elim (is_plain (class_of b)) as (λ v. is_plain (class_of b) ≡ v → AllPlain (take (elim v [ true ↦ suc (token_len bs) | false ↦ 0 ]) (b ∷ bs))) [
      | true ↦ λ e. (plain_stays b e, token_plain bs)
      | false ↦ λ e. tt
    ] refl

pub token_ends : (bytes : List ℕ) → AtTokenEnd (drop (token_len bytes) bytes)
token_ends [] = tt
token_ends (b ∷ bs) =
    elim (is_plain (class_of b)) as (λ v. is_plain (class_of b) ≡ v → AtTokenEnd (drop (elim v [ true ↦ suc (token_len bs) | false ↦ 0 ]) (b ∷ bs))) [
      | true ↦ λ e. token_ends bs
      | false ↦ λ e. other_ends b e
    ] refl

token_here : (b : ℕ) (bs : List ℕ) → is_plain (class_of b) ≡ true → IsToken (take (token_len (b ∷ bs)) (b ∷ bs))
token_here b bs h =
    let P : Bool → Type 0 = λ v. IsToken (take (elim v [ true ↦ suc (token_len bs) | false ↦ 0 ]) (b ∷ bs)) in
    subst P (sym h) (plain_stays b h, token_plain bs)

-- a token that is no number
name_read : (place n : ℕ) (token rest : List ℕ) (v : Val) (t : Option Bool) → truth_of token ≡ t → is_number token ≡ false
    → other_word place token t ≡ Ok v → IsToken token → AtTokenEnd rest → Datum n (token ++ rest) v rest
name_read place n token rest v (Some b) f a h t e =
    let P : Val → Type 0 = λ w. Datum n (token ++ rest) w rest in
    subst P (same_ok (truth b) v (Ok (truth b)) refl h) (a_truth n token b rest (truth_spelled token b f) e)
name_read place n token rest v None f a h t e =
    let P : Val → Type 0 = λ w. Datum n (token ++ rest) w rest in
    let bad : Fault = (place, Token) in
    ⊎_elim
    (λ b. let k = same_ok (symbol token) v (Ok (symbol token)) refl b.1 in subst P k (a_symbol n token rest t e a b.0))
    (λ b. absurd (err_ok bad v (Err bad) refl b.1))
    (choose_ok (is_symbol token) (Ok (symbol token)) (Err bad) v h)

word_read : (place n : ℕ) (token rest : List ℕ) (v : Val) → word_at place token ≡ Ok v → IsToken token → AtTokenEnd rest → Datum n (token ++ rest) v rest
word_read place n token rest v h t e =
    let P : Val → Type 0 = λ w. Datum n (token ++ rest) w rest in
    let range : Fault = (place, Range) in
    ⊎_elim
    (λ a. ⊎_elim
    (λ b. let k = same_ok (number (number_of token)) v (Ok (number (number_of token))) refl b.1 in subst P k (a_number n token rest t e a.0 b.0))
    (λ b. absurd (err_ok range v (Err range) refl b.1))
    (choose_ok (is_in_range (number_of token)) (Ok (number (number_of token))) (Err range) v a.1))
    (λ a. name_read place n token rest v (truth_of token) refl a.0 a.1 t e)
    (choose_ok (is_number token) _ _ v h)

-- what is still to come

-- The levels are open, v is given to the innermost, and bytes follow: all is what the whole text then spells.
-- So many levels more may be opened.
abbrev pub Takes : ℕ → Val → List Val → List Level → List ℕ → List Val → Type 0
Takes n v items [] bytes all = (more : List Val) × Data n bytes more [] × (all ≡ (items ++ v ∷ []) ++ more)
Takes n v items (opened d at before ∷ levels) bytes all =
    (more : List Val) × (after : List ℕ) × Data n bytes more (closing_byte d ∷ after)
    × Takes (suc n) (list (vals_of ((items ++ v ∷ []) ++ more))) before levels after all
Takes n v items (marked m at ∷ levels) bytes all = Takes (suc n) (marked_list m v) items levels bytes all

-- the same where nothing is given to the innermost level
abbrev pub Completes : ℕ → List Val → List Level → List ℕ → List Val → Type 0
Completes n items [] bytes all = (more : List Val) × Data n bytes more [] × (all ≡ items ++ more)
Completes n items (opened d at before ∷ levels) bytes all =
    (more : List Val) × (after : List ℕ) × Data n bytes more (closing_byte d ∷ after)
    × Takes (suc n) (list (vals_of (items ++ more))) before levels after all
Completes n items (marked m at ∷ levels) bytes all =
    (middle : List ℕ) × (v : Val) × (after : List ℕ) × Gap bytes middle × Datum n middle v after × Takes (suc n) (marked_list m v) items levels after all

pub gap_completes : (n : ℕ) (items : List Val) (levels : List Level) (bytes middle : List ℕ) (all : List Val) → Gap bytes middle
    → Completes n items levels middle all → Completes n items levels bytes all
gap_completes n items [] bytes middle all g c = (c.0, gap_data g c.1, c.2)
gap_completes n items (opened d at before ∷ levels) bytes middle all g c = (c.0, c.1, gap_data g c.2, c.3)
gap_completes n items (marked m at ∷ levels) bytes middle all g c = (c.0, c.1, c.2, gap_gap g c.3, c.4, c.5)

pub datum_completes : (n : ℕ) (v : Val) (items : List Val) (levels : List Level) (bytes after : List ℕ) (all : List Val) → Datum n bytes v after
    → Takes n v items levels after all → Completes n items levels bytes all
datum_completes n v items [] bytes after all d t =
    (v ∷ t.0, a_datum n bytes bytes v after t.0 [] (no_gap bytes) d t.1, t.2 ∙ append_assoc items (v ∷ []) t.0)
datum_completes n v items (opened x at before ∷ levels) bytes after all d t =
    let P : List Val → Type 0 = λ vs. Takes (suc n) (list (vals_of vs)) before levels t.1 all in
    (v ∷ t.0, t.1, a_datum n bytes bytes v after t.0 (closing_byte x ∷ t.1) (no_gap bytes) d t.2, subst P (append_assoc items (v ∷ []) t.0) t.3)
datum_completes n v items (marked m at ∷ levels) bytes after all d t = (bytes, v, after, no_gap bytes, d, t)

-- how many levels more may be opened after a piece, and what comes before it
pub record Goes (n : ℕ) (state next : State) (bytes rest : List ℕ) (all : List Val) : Type 0 where
  pub left : ℕ
  pub count : left + length next.levels ≡ 128
  pub back : Completes left next.items next.levels rest all → Completes n state.items state.levels bytes all

pub record Put (n : ℕ) (v : Val) (items : List Val) (levels : List Level) (rest : List ℕ) (all : List Val) : Type 0 where
  left : ℕ
  count : left + length (put v items levels).levels ≡ 128
  back : Completes left (put v items levels).items (put v items levels).levels rest all → Takes n v items levels rest all

put_goes : (n : ℕ) (v : Val) (items : List Val) (levels : List Level) (rest : List ℕ) (all : List Val) → n + length levels ≡ 128
    → Put n v items levels rest all
put_goes n v items [] rest all h = record { left = n; count = h; back = λ c. c }
put_goes n v items (opened d at before ∷ levels) rest all h = record { left = n; count = h; back = λ c. c }
put_goes n v items (marked m at ∷ levels) rest all h =
    let more = put_goes (suc n) (marked_list m v) items levels rest all (omega arith) in
    record { left = more.left; count = more.count; back = more.back }

-- a datum that is read and given to the innermost level
datum_goes : (n : ℕ) (v : Val) (state : State) (bytes rest : List ℕ) (all : List Val) → n + length state.levels ≡ 128 → Datum n bytes v rest
    → Goes n state (put v state.items state.levels) bytes rest all
datum_goes n v state bytes rest all h d =
    let more = put_goes n v state.items state.levels rest all h in
    record { left = more.left; count = more.count; back = λ c. datum_completes n v state.items state.levels bytes rest all d (more.back c) }

-- the state and the rest after a piece are these
same_goes : (n : ℕ) (state : State) (bytes : List ℕ) (all : List Val) (p q : State × List ℕ) (r : Result (State × List ℕ) Fault)
    → r ≡ Ok p → r ≡ Ok q → Goes n state p.0 bytes p.1 all → Goes n state q.0 bytes q.1 all
same_goes n state bytes all p q r h k g =
    let P : State × List ℕ → Type 0 = λ x. Goes n state x.0 bytes x.1 all in
    subst P (same_ok p q r h k) g

opens : (n : ℕ) (state : State) → n + length state.levels ≡ 128 → nat_lt (length state.levels) most_levels ≡ true → (m : ℕ) × (n ≡ suc m)
opens zero state h l = absurd (grind (arith, nat_tests))
opens (suc m) state h l = (m, refl)

pub encloses : (d : Delimiter) → Encloses (opening_byte d) (closing_byte d)
encloses Parenthesis = parentheses
encloses Bracket = brackets

list_goes : (m place b : ℕ) (d : Delimiter) (bs : List ℕ) (items : List Val) (levels : List Level) (all : List Val) → suc m + length levels ≡ 128
    → class_of b ≡ Opening d
    → Goes (suc m) (record { items = items; levels = levels }) (record { items = []; levels = opened d place items ∷ levels }) (b ∷ bs) bs all
list_goes m place b d bs items levels all h e = record {
  left = m;
  count = omega arith;
  back = λ c. let P : ℕ → Type 0 = λ x. Datum (suc m) (x ∷ bs) (list (vals_of c.0)) c.1 in
      datum_completes (suc m) (list (vals_of c.0)) items levels (b ∷ bs) c.1 all
      (subst P (sym (class_opening b d e)) (a_list m (opening_byte d) (closing_byte d) bs c.0 c.1 (encloses d) c.2)) c.3;
}

-- a mark, of which the first byte and what stands after that are given
record Mark_spelled (b : ℕ) (bs : List ℕ) (p : Mark × List ℕ) : Type 0 where
  spelling : List ℕ
  means : Marks spelling (name_of p.0)
  parts : spelling ++ p.1 ≡ b ∷ bs

comma_spelled : (b : ℕ) (bs : List ℕ) → b ≡ 44 → Mark_spelled b bs (whole_mark Unquote bs)
comma_spelled b [] q = record { spelling = codes ","; means = unquote; parts = ap (λ x. x ∷ []) (sym q) }
comma_spelled b (c ∷ cs) q =
    let split : Mark × List ℕ = (UnquoteSplicing, cs) in
    let alone : Mark × List ℕ = (Unquote, c ∷ cs) in
    elim (c == 64) as (λ v. (c == 64) ≡ v → Mark_spelled b (c ∷ cs) (cond v split alone)) [
      | true ↦ λ e. record { spelling = codes ",@"; means = unquote_splicing; parts = rw (q, eqb-true c 64 e) refl }
      | false ↦ λ e. record { spelling = codes ","; means = unquote; parts = ap (λ x. x ∷ c ∷ cs) (sym q) }
    ] refl

mark_spelled : (b : ℕ) (bs : List ℕ) (m : Mark) → class_of b ≡ Marking m → Mark_spelled b bs (whole_mark m bs)
mark_spelled b bs Quote e = record { spelling = codes "'"; means = quote; parts = ap (λ x. x ∷ bs) (sym (class_mark b Quote e)) }
mark_spelled b bs Quasiquote e = record { spelling = codes "`"; means = quasiquote; parts = ap (λ x. x ∷ bs) (sym (class_mark b Quasiquote e)) }
mark_spelled b bs Unquote e = comma_spelled b bs (class_mark b Unquote e)
mark_spelled b bs UnquoteSplicing e =
    let f : class_of 44 ≡ Marking UnquoteSplicing = ap class_of (sym (class_mark b UnquoteSplicing e)) ∙ e in absurd (cc)

mark_goes : (m place b : ℕ) (mark : Mark) (bs rest : List ℕ) (items : List Val) (levels : List Level) (all : List Val) → suc m + length levels ≡ 128
    → Mark_spelled b bs (mark, rest)
    → Goes (suc m) (record { items = items; levels = levels }) (record { items = items; levels = marked mark place ∷ levels }) (b ∷ bs) rest all
mark_goes m place b mark bs rest items levels all h s = record {
  left = m;
  count = omega arith;
  back = λ c. let P : List ℕ → Type 0 = λ t. Datum (suc m) t (marked_list mark c.1) c.2 in
      datum_completes (suc m) (marked_list mark c.1) items levels (b ∷ bs) c.2 all
      (subst P s.parts (a_mark m s.spelling (name_of mark) rest c.0 c.1 c.2 s.means c.3 c.4)) c.5;
}

close_goes : (n at b : ℕ) (d : Delimiter) (bs : List ℕ) (items before : List Val) (levels : List Level) (all : List Val)
    → n + length (opened d at before ∷ levels) ≡ 128 → class_of b ≡ Closing d
    → Goes n (record { items = items; levels = opened d at before ∷ levels }) (put (list (vals_of items)) before levels) (b ∷ bs) bs all
close_goes n at b d bs items before levels all h e =
    let more = put_goes (suc n) (list (vals_of items)) before levels bs all (omega arith) in
    let P : List Val → Type 0 = λ vs. Takes (suc n) (list (vals_of vs)) before levels bs all in
    let Q : ℕ → Type 0 = λ x. Data n (b ∷ bs) [] (x ∷ bs) in
    record {
      left = more.left;
      count = more.count;
      back = λ c. ([], bs, subst Q (class_closing b d e) (no_data n (b ∷ bs) (b ∷ bs) (no_gap (b ∷ bs))), subst P (sym (append-nil items)) (more.back c));
    }

rest_goes : (n : ℕ) (state : State) (bytes bs : List ℕ) (all : List Val) (r : Result State Fault) (p : State × List ℕ) → with_rest bs r ≡ Ok p
    → ((next : State) → r ≡ Ok next → Goes n state next bytes bs all) → Goes n state p.0 bytes p.1 all
rest_goes n state bytes bs all (Ok next) p h f =
    let here : State × List ℕ = (next, bs) in
    same_goes n state bytes all here p (Ok here) refl h (f next refl)
rest_goes n state bytes bs all (Err e) p h f = absurd (cc)

next_goes : (n : ℕ) (state : State) (bytes bs : List ℕ) (all : List Val) (here next : State) (r : Result State Fault) → r ≡ Ok here → r ≡ Ok next
    → Goes n state here bytes bs all → Goes n state next bytes bs all
next_goes n state bytes bs all here next r h k g =
    let P : State → Type 0 = λ x. Goes n state x bytes bs all in
    subst P (same_ok here next r h k) g

open_list_goes : (n place b : ℕ) (d : Delimiter) (bs : List ℕ) (state next : State) (all : List Val) → n + length state.levels ≡ 128
    → class_of b ≡ Opening d → open_list d place state ≡ Ok next → Goes n state next (b ∷ bs) bs all
open_list_goes n place b d bs state next all h e k =
    let here : State = record { items = []; levels = opened d place state.items ∷ state.levels } in
    let deep : Fault = (place, Deep) in
    ⊎_elim
    (λ a. next_goes n state (b ∷ bs) bs all here next (Ok here) refl a.1 (
    let o = opens n state h a.0 in
    let P : ℕ → Type 0 = λ x. Goes x state here (b ∷ bs) bs all in
    subst P (sym o.1) (list_goes o.0 place b d bs state.items state.levels all (sym (ap (λ x. x + length state.levels) o.1) ∙ h) e)))
    (λ a. absurd (err_ok deep next (Err deep) refl a.1))
    (choose_ok (nat_lt (length state.levels) most_levels) (Ok here) (Err deep) next k)

open_mark_goes : (n place b : ℕ) (mark : Mark) (bs rest : List ℕ) (state next : State) (all : List Val) → n + length state.levels ≡ 128
    → Mark_spelled b bs (mark, rest) → open_mark mark place state ≡ Ok next → Goes n state next (b ∷ bs) rest all
open_mark_goes n place b mark bs rest state next all h s k =
    let here : State = record { items = state.items; levels = marked mark place ∷ state.levels } in
    let deep : Fault = (place, Deep) in
    ⊎_elim
    (λ a. next_goes n state (b ∷ bs) rest all here next (Ok here) refl a.1 (
    let o = opens n state h a.0 in
    let P : ℕ → Type 0 = λ x. Goes x state here (b ∷ bs) rest all in
    subst P (sym o.1) (mark_goes o.0 place b mark bs rest state.items state.levels all (sym (ap (λ x. x + length state.levels) o.1) ∙ h) s)))
    (λ a. absurd (err_ok deep next (Err deep) refl a.1))
    (choose_ok (nat_lt (length state.levels) most_levels) (Ok here) (Err deep) next k)

same_kind : (d e : Delimiter) → same_delimiter d e ≡ true → d ≡ e
same_kind Parenthesis Parenthesis h = refl
same_kind Parenthesis Bracket h = absurd (cc)
same_kind Bracket Parenthesis h = absurd (cc)
same_kind Bracket Bracket h = refl

close_list_goes : (n place b : ℕ) (d : Delimiter) (bs : List ℕ) (items : List Val) (levels : List Level) (next : State) (all : List Val)
    → n + length levels ≡ 128 → class_of b ≡ Closing d → close_list d place items levels ≡ Ok next
    → Goes n (record { items = items; levels = levels }) next (b ∷ bs) bs all
close_list_goes n place b d bs items [] next all h e k = absurd (cc)
close_list_goes n place b d bs items (opened x at before ∷ levels) next all h e k =
    let here : State = put (list (vals_of items)) before levels in
    let other : Fault = (place, Mismatch) in
    ⊎_elim
    (λ a. next_goes n _ (b ∷ bs) bs all here next (Ok here) refl a.1
    (close_goes n at b x bs items before levels all h (e ∙ ap (λ y. Closing y) (same_kind d x a.0))))
    (λ a. absurd (err_ok other next (Err other) refl a.1))
    (choose_ok (same_delimiter d x) (Ok here) (Err other) next k)
close_list_goes n place b d bs items (marked m at ∷ levels) next all h e k = absurd (cc)

text_goes : (n place b : ℕ) (bs : List ℕ) (state : State) (p : State × List ℕ) (all : List Val) → n + length state.levels ≡ 128 → class_of b ≡ DoubleQuote
    → take_text place bs state ≡ Ok p → Goes n state p.0 (b ∷ bs) p.1 all
text_goes n place b bs state p all h e k =
    let f : List ℕ × List ℕ → Result (State × List ℕ) Fault = λ found. Ok (put (text found.0) state.items state.levels, found.1) in
    let o = bind_ok (text_from place [] bs) f p k in
    let here : State × List ℕ = (put (text o.0.0) state.items state.levels, o.0.1) in
    let t = text_read place [] bs o.0 o.1 in
    let P : List ℕ → Type 0 = λ x. Datum n (b ∷ bs) (text x) o.0.1 in
    let Q : ℕ → Type 0 = λ x. Datum n (x ∷ bs) (text t.chars) o.0.1 in
    same_goes n state (b ∷ bs) all here p (Ok here) refl o.2
    (datum_goes n (text o.0.0) state (b ∷ bs) o.0.1 all h
    (subst P (sym t.found) (subst Q (sym (class_text b e)) (a_text n bs t.chars o.0.1 t.spelled))))

token_goes : (n place b : ℕ) (bs : List ℕ) (state : State) (p : State × List ℕ) (all : List Val) → n + length state.levels ≡ 128 → class_of b ≡ Plain
    → take_token place (b ∷ bs) state ≡ Ok p → Goes n state p.0 (b ∷ bs) p.1 all
token_goes n place b bs state p all h e k =
    let token : List ℕ = take (token_len (b ∷ bs)) (b ∷ bs) in
    let rest : List ℕ = drop (token_len (b ∷ bs)) (b ∷ bs) in
    let f : Val → Result (State × List ℕ) Fault = λ v. Ok (put v state.items state.levels, rest) in
    let o = bind_ok (word_at place token) f p k in
    let here : State × List ℕ = (put o.0 state.items state.levels, rest) in
    let P : List ℕ → Type 0 = λ x. Datum n x o.0 rest in
    same_goes n state (b ∷ bs) all here p (Ok here) refl o.2
    (datum_goes n o.0 state (b ∷ bs) rest all h
    (subst P (take-append-drop (token_len (b ∷ bs)) (b ∷ bs)) (word_read place n token rest o.0 o.1 (token_here b bs (ap is_plain e)) (token_ends (b ∷ bs)))))

pub piece_goes : (n place b : ℕ) (bs : List ℕ) (state : State) (p : State × List ℕ) (all : List Val) → n + length state.levels ≡ 128
    → piece place b bs state ≡ Ok p → Goes n state p.0 (b ∷ bs) p.1 all
piece_goes n place b bs state p all h k =
    let bad : Fault = (place, Token) in
    let read_at : Class → Result (State × List ℕ) Fault = λ v. elim v [
      | Opening d ↦ with_rest bs (open_list d place state)
      | Closing d ↦ with_rest bs (close_list d place state.items state.levels)
      | Marking m ↦ take_mark m place bs state
      | DoubleQuote ↦ take_text place bs state
      | Plain ↦ take_token place (b ∷ bs) state
      | _ ↦ Err bad
    ] in
    elim (class_of b) as (λ v. class_of b ≡ v → read_at v ≡ Ok p → Goes n state p.0 (b ∷ bs) p.1 all) [
      | Opening d ↦ λ e r. rest_goes n state (b ∷ bs) bs all (open_list d place state) p r
          (λ next s. open_list_goes n place b d bs state next all h e s)
      | Closing d ↦ λ e r. rest_goes n state (b ∷ bs) bs all (close_list d place state.items state.levels) p r
          (λ next s. close_list_goes n place b d bs state.items state.levels next all h e s)
      | Marking m ↦ λ e r. rest_goes n state (b ∷ bs) (whole_mark m bs).1 all (open_mark (whole_mark m bs).0 place state) p r
          (λ next s. open_mark_goes n place b (whole_mark m bs).0 bs (whole_mark m bs).1 state next all h (mark_spelled b bs m e) s)
      | DoubleQuote ↦ λ e r. text_goes n place b bs state p all h e r
      | Plain ↦ λ e r. token_goes n place b bs state p all h e r
      | _ ↦ λ e r. absurd (err_ok bad p (Err bad) refl r)
    ] refl k

finish_completes : (n : ℕ) (items : List Val) (levels : List Level) (all : List Val) → finish items levels ≡ Ok all → Completes n items levels [] all
finish_completes n items [] all h = ([], no_data n [] [] (no_gap []), sym (same_ok items all (Ok items) refl h) ∙ sym (append-nil items))
finish_completes n items (opened d at before ∷ levels) all h = absurd (cc)
finish_completes n items (marked m at ∷ levels) all h = absurd (cc)

pieces_complete : (k total n : ℕ) (state : State) (bytes : List ℕ) (all : List Val) → n + length state.levels ≡ 128
    → pieces k total state bytes ≡ Ok all → Completes n state.items state.levels bytes all
pieces_complete zero total n state bytes all h e = absurd (cc)
pieces_complete (suc k) total n state [] all h e = finish_completes n state.items state.levels all e
pieces_complete (suc k) total n state (b ∷ bs) all h e =
    let f : State × List ℕ → Result (List Val) Fault = λ found. pieces k total found.0 (after_gap found.1) in
    let o = bind_ok (piece (total - length (b ∷ bs)) b bs state) f all e in
    let g = piece_goes n (total - length (b ∷ bs)) b bs state o.0 all h o.1 in
    g.back (gap_completes g.left o.0.0.items o.0.0.levels o.0.1 (after_gap o.0.1) all (gap_of o.0.1)
    (pieces_complete k total g.left o.0.0 (after_gap o.0.1) all g.count o.2))

scan_data : (bytes : List ℕ) (vs : List Val) → scan bytes ≡ Ok vs → Data 128 bytes vs []
scan_data bytes vs h =
    let c = pieces_complete (suc (length bytes)) (length bytes) 128 start (after_gap bytes) vs (omega arith) h in
    let P : List Val → Type 0 = λ x. Data 128 bytes x [] in
    subst P (sym c.2) (gap_data (gap_of bytes) c.1)

-- what is read is spelled so
pub read_spells : (bytes : List ℕ) (vs : List Val) → read bytes ≡ Ok vs → Spells bytes vs
read_spells bytes vs h =
    let long : Fault = (65536, Long) in
    let bad : Fault = (utf8_valid_len bytes, Utf8) in
    ⊎_elim
    (λ a. absurd (err_ok long vs (Err long) refl a.1))
    (λ a. ⊎_elim
    (λ b. record { short = short_enough (length bytes) a.0; utf8 = IsUtf8-from_is_utf8 bytes b.0; grammar = scan_data bytes vs b.1 })
    (λ b. absurd (err_ok bad vs (Err bad) refl b.1))
    (choose_ok (is_utf8 bytes) (scan bytes) (Err bad) vs a.1))
    (choose_ok (nat_lt 65536 (length bytes)) (Err long) _ vs h)
