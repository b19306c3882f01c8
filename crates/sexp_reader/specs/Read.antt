-- Reading a text: its data, or the place and the kind of its first fault.
use Rattle.std.specs.Prelude.{ℕ, zero, suc, ◌-◌, Bool, true, false, not, None, Some, Result, Ok, Err, List, [], ◌∷◌, ◌++◌, length, take, drop, nat_lt, ◌==◌, if◌then◌else◌}
use Rattle.std.specs.Str.{is_utf8}
use Rattle.std.specs.Str.Lossy.{utf8_valid_len}
use Rattle.script_value.specs.Val.{Val, number, truth, text, symbol, list, vals_of}
use Rattle.script_value.specs.Numbers.{is_number, number_of, is_in_range}
use Rattle.sexp_reader.specs.declared.fault.ReadKind.{ReadKind}
use Rattle.sexp_reader.specs.declared.fault.ReadKind.TheVariants.{Long, Utf8, Token, Unclosed, Unopened, Mismatch, Range, Deep}
use Rattle.sexp_reader.specs.declared.classes.Class.TheVariants.{Blank, Comment, Opening, Closing, Marking, DoubleQuote, Plain}
use Rattle.sexp_reader.specs.declared.classes.Delimiter.{Delimiter}
use Rattle.sexp_reader.specs.declared.classes.Mark.{Mark}
use Rattle.sexp_reader.specs.Limits.{most_bytes, most_levels}
use Rattle.sexp_reader.specs.Letters.{class_of, is_plain, same_delimiter, whole_mark, name_of, escaped, truth_of, is_symbol}

-- a place and what is wrong there
abbrev pub Fault : Type 0
Fault = ℕ × ReadKind

-- what comes after an answer: a fault goes through
infixl 10 ◌>>=◌
abbrev pub ◌>>=◌ : {A B : Type 0} → Result A Fault → (A → Result B Fault) → Result B Fault
(Ok x) >>= f = f x
(Err e) >>= f = Err e

-- what stands after space and comments; the test says whether a comment is open
abbrev pub past_gap : Bool → List ℕ → List ℕ
past_gap in_comment [] = []
past_gap true (b ∷ bs) = past_gap (not (b == 10)) bs
past_gap false (b ∷ bs) = elim (class_of b) [ Blank ↦ past_gap false bs | Comment ↦ past_gap true bs | _ ↦ b ∷ bs ]

-- what stands after space and comments, any or none
abbrev pub after_gap : List ℕ → List ℕ
after_gap bytes = past_gap false bytes

-- how many bytes stand before the first that ends a token
abbrev pub token_len : List ℕ → ℕ
token_len [] = 0
token_len (b ∷ bs) = elim (is_plain (class_of b)) [ true ↦ suc (token_len bs) | false ↦ 0 ]

-- the datum that a token at this place is
abbrev pub word_at : ℕ → List ℕ → Result Val Fault
word_at place token =
    if is_number token then (if is_in_range (number_of token) then Ok (number (number_of token)) else Err (place, Range))
    else elim (truth_of token) [ Some b ↦ Ok (truth b) | None ↦ if is_symbol token then Ok (symbol token) else Err (place, Token) ]

-- the characters of a text after those so far, whose quote is at this place, and what follows the text
abbrev mutual
  pub text_from : ℕ → List ℕ → List ℕ → Result (List ℕ × List ℕ) Fault
  text_from place done [] = Err (place, Unclosed)
  text_from place done (b ∷ bs) =
      elim (b == 34) [
        | true ↦ Ok (done, bs)
        | false ↦ elim (b == 92) [ true ↦ escape_from place done bs | false ↦ text_from place (done ++ b ∷ []) bs ]
      ]

  -- the text after a backslash, up to its end, after the bytes that were read before
  pub escape_from : ℕ → List ℕ → List ℕ → Result (List ℕ × List ℕ) Fault
  escape_from place done [] = Err (place, Unclosed)
  escape_from place done (c ∷ bs) = elim (escaped c) [ None ↦ Err (place, Token) | Some d ↦ text_from place (done ++ d ∷ []) bs ]

-- what is open: a list, with its place and the data before it on the level around it, or a mark, with its place
pub data Level : Type 0 where
  opened : Delimiter → ℕ → List Val → Level
  marked : Mark → ℕ → Level

-- the data so far on the innermost level, and the levels that are open, the innermost first
pub record State : Type 0 where
  pub items : List Val
  pub levels : List Level

-- nothing is read, and nothing is open
abbrev pub start : State
start = record { items = []; levels = [] }

-- the list that a mark before a datum stands for
abbrev pub marked_list : Mark → Val → Val
marked_list mark v = list (vals_of (symbol (name_of mark) ∷ v ∷ []))

-- the state with one more datum, which ends each mark right before it
abbrev pub put : Val → List Val → List Level → State
put v items [] = record { items = items ++ v ∷ []; levels = [] }
put v items (opened delimiter at before ∷ levels) = record { items = items ++ v ∷ []; levels = opened delimiter at before ∷ levels }
put v items (marked mark at ∷ levels) = put (marked_list mark v) items levels

-- a parenthesis or bracket at this place opens a list
abbrev pub open_list : Delimiter → ℕ → State → Result State Fault
open_list delimiter place state =
    if nat_lt (length state.levels) most_levels then Ok (record { items = []; levels = opened delimiter place state.items ∷ state.levels })
    else Err (place, Deep)

-- a mark at this place opens a level
abbrev pub open_mark : Mark → ℕ → State → Result State Fault
open_mark mark place state =
    if nat_lt (length state.levels) most_levels then Ok (record { items = state.items; levels = marked mark place ∷ state.levels })
    else Err (place, Deep)

-- a parenthesis or bracket at this place closes the innermost list; a mark right before it has no datum
abbrev pub close_list : Delimiter → ℕ → List Val → List Level → Result State Fault
close_list delimiter place items [] = Err (place, Unopened)
close_list delimiter place items (opened opening at before ∷ levels) =
    if same_delimiter delimiter opening then Ok (put (list (vals_of items)) before levels) else Err (place, Mismatch)
close_list delimiter place items (marked mark at ∷ levels) = Err (at, Token)

-- the data of the text at its end
abbrev pub finish : List Val → List Level → Result (List Val) Fault
finish items [] = Ok items
finish items (opened delimiter at before ∷ levels) = Err (at, Unclosed)
finish items (marked mark at ∷ levels) = Err (at, Unclosed)

-- the state after a text, of which what stands after its quote is given, and what follows the text
abbrev pub take_text : ℕ → List ℕ → State → Result (State × List ℕ) Fault
take_text place bytes state =
    text_from place [] bytes >>= λ found. Ok (put (text found.0) state.items state.levels, found.1)

-- the state after the token at this place, and what follows the token
abbrev pub take_token : ℕ → List ℕ → State → Result (State × List ℕ) Fault
take_token place bytes state =
    word_at place (take (token_len bytes) bytes) >>= λ v. Ok (put v state.items state.levels, drop (token_len bytes) bytes)

-- the state after a piece, with what follows the piece, or a fault
abbrev pub with_rest : List ℕ → Result State Fault → Result (State × List ℕ) Fault
with_rest bytes read = read >>= λ state. Ok (state, bytes)

-- the state after a mark, of which the first byte and what stands after that are given, and what follows the mark
abbrev pub take_mark : Mark → ℕ → List ℕ → State → Result (State × List ℕ) Fault
take_mark mark place bytes state = with_rest (whole_mark mark bytes).1 (open_mark (whole_mark mark bytes).0 place state)

-- one piece at this place, which begins with a byte and goes on with bytes: the state after it, and what follows it
abbrev pub piece : ℕ → ℕ → List ℕ → State → Result (State × List ℕ) Fault
piece place b bs state =
    elim (class_of b) [
      | Opening delimiter ↦ with_rest bs (open_list delimiter place state)
      | Closing delimiter ↦ with_rest bs (close_list delimiter place state.items state.levels)
      | Marking mark ↦ take_mark mark place bs state
      | DoubleQuote ↦ take_text place bs state
      | Plain ↦ take_token place (b ∷ bs) state
      | _ ↦ Err (place, Token)
    ]

-- all data, of what stands after a gap in a text of so many bytes, in at most so many pieces; scan gives it more than the text has bytes, so
-- the first case is never met there
abbrev pub pieces : ℕ → ℕ → State → List ℕ → Result (List Val) Fault
pieces zero total state bytes = Err (total, Long)
pieces (suc n) total state [] = finish state.items state.levels
pieces (suc n) total state (b ∷ bs) =
    piece (total - length (b ∷ bs)) b bs state >>= λ found. pieces n total found.0 (after_gap found.1)

-- the data of a text that is UTF-8 and not too long, or its first fault
abbrev pub scan : List ℕ → Result (List Val) Fault
scan bytes = pieces (suc (length bytes)) (length bytes) start (after_gap bytes)

-- a text's data or its first fault: first its length is tested, then whether it is UTF-8, and then it is scanned
abbrev pub read : List ℕ → Result (List Val) Fault
read bytes =
    if nat_lt most_bytes (length bytes) then Err (most_bytes, Long) else
    if is_utf8 bytes then scan bytes else Err (utf8_valid_len bytes, Utf8)
