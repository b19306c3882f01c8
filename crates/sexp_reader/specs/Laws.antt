-- What holds of the faults of all texts.
use Rattle.std.specs.Prelude.{◌≡◌, ◌≢◌, ℕ, ◌≤◌, Bool, true, false, None, Some, Err, List, [], ◌∷◌, ◌++◌, length}
use Rattle.std.specs.Str.{IsUtf8}
use Rattle.script_value.specs.Val.{Val}
use Rattle.script_value.specs.Numbers.{is_number, number_of, is_in_range}
use Rattle.sexp_reader.specs.declared.fault.ReadKind.{ReadKind}
use Rattle.sexp_reader.specs.declared.fault.ReadKind.TheVariants.{Long, Utf8, Token, Unclosed, Unopened, Mismatch, Range, Deep}
use Rattle.sexp_reader.specs.Limits.{most_bytes, most_levels}
use Rattle.sexp_reader.specs.Read.{read}
use Rattle.sexp_reader.specs.Letters.{escaped, is_symbol}
use Rattle.sexp_reader.specs.Spells.{IsToken, AtTokenEnd, Gap, Encloses, Marks, Data}

-- whether a fault of this kind is met before the end of a text: a text's length and its end are those of the whole
abbrev pub is_met_inside : ReadKind → Bool
is_met_inside Long = false
is_met_inside Utf8 = false
is_met_inside Unclosed = false
is_met_inside Token = true
is_met_inside Unopened = true
is_met_inside Mismatch = true
is_met_inside Range = true
is_met_inside Deep = true

-- BadEscape bytes: what stands after the quote of a text, up to and with the first backslash and byte that are no escape
pub data BadEscape : List ℕ → Type 0 where
  no_escape : (b : ℕ) → escaped b ≡ None → BadEscape (92 ∷ b ∷ [])
  past_letter : (b : ℕ) (bytes : List ℕ) → b ≢ 34 → b ≢ 92 → BadEscape bytes → BadEscape (b ∷ bytes)
  past_escape : (b c : ℕ) (bytes : List ℕ) → escaped b ≡ Some c → BadEscape bytes → BadEscape (92 ∷ b ∷ bytes)

-- Faulty kind piece: at a fault of this kind stands this piece, which a text, a mark and a parenthesis end themselves
pub data Faulty : ReadKind → List ℕ → Type 0 where
  no_word : (token : List ℕ) → IsToken token → is_number token ≡ false → is_symbol token ≡ false → Faulty Token token
  no_text : (bytes : List ℕ) → BadEscape bytes → Faulty Token (34 ∷ bytes)
  no_datum : (mark name gap : List ℕ) (b c : ℕ) → Marks mark name → Gap (gap ++ c ∷ []) (c ∷ []) → Encloses b c
      → Faulty Token (mark ++ (gap ++ c ∷ []))
  no_opening : (b c : ℕ) → Encloses b c → Faulty Unopened (c ∷ [])
  other_opening : (b c : ℕ) → Encloses b c → Faulty Mismatch (c ∷ [])
  too_large : (token : List ℕ) → IsToken token → is_number token ≡ true → is_in_range (number_of token) ≡ false → Faulty Range token
  deep_list : (b c : ℕ) → Encloses b c → Faulty Deep (b ∷ [])
  deep_mark : (b : ℕ) (more name : List ℕ) → Marks (b ∷ more) name → Faulty Deep (b ∷ [])

-- after a token stands a byte that ends it, or the end; after another piece anything
abbrev pub MayFollow : List ℕ → List ℕ → Type 0
MayFollow piece rest = IsToken piece → AtTokenEnd rest

-- a front of a text, of whatever length, that the grammar spells
abbrev pub Viable : List ℕ → Type 0
Viable bytes = (more : List ℕ) × (vs : List Val) × IsUtf8 (bytes ++ more) × Data most_levels (bytes ++ more) vs []

-- The first fault is the first place where nothing helps: what stands before it is a front of what the grammar spells, and nothing that the
-- grammar spells begins with that and the piece at fault; that piece is at fault whatever follows it.
pub record FirstFault (bytes : List ℕ) (place : ℕ) (kind : ReadKind) : Type 0 where
  pub before : List ℕ
  pub piece : List ℕ
  pub rest : List ℕ
  pub parts : bytes ≡ before ++ (piece ++ rest)
  pub count : length before ≡ place
  pub faulty : Faulty kind piece
  pub follows : MayFollow piece rest
  pub viable : Viable before
  pub dead : (more : List ℕ) (vs : List Val) → MayFollow piece more → Data most_levels (before ++ (piece ++ more)) vs [] → ⊥
  pub stays : (more : List ℕ) → MayFollow piece more → IsUtf8 (before ++ (piece ++ more)) → length (before ++ (piece ++ more)) ≤ most_bytes
      → read (before ++ (piece ++ more)) ≡ Err (place, kind)

-- a text that is refused for what stands in it is refused at its first fault
abbrev pub FirstFaults : Type 0
FirstFaults =
    (bytes : List ℕ) (place : ℕ) (kind : ReadKind) → read bytes ≡ Err (place, kind) → is_met_inside kind ≡ true → FirstFault bytes place kind

-- A text that ended inside something is a front of one that the grammar spells.
abbrev pub UnclosedGoesOn : Type 0
UnclosedGoesOn = (bytes : List ℕ) (place : ℕ) → read bytes ≡ Err (place, Unclosed) → Viable bytes
