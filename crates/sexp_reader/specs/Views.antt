-- What the reader's answers and its state stand for.
use Rattle.std.specs.Prelude.{◌≡◌, ℕ, Option, None, Some, Result, Ok, Err, List, [], ◌∷◌, map, reverse, Vec}
use Rattle.std.specs.Borrow.{Bor}
use Rattle.std.specs.declared.alloc.Global.{Global}
use Rattle.script_value.specs.Val.{Val}
use Rattle.script_value.specs.declared.value.Value.{Value}
use Rattle.script_value.specs.Views.{meaning}
use Rattle.sexp_reader.specs.declared.classes.Delimiter.{Delimiter}
use Rattle.sexp_reader.specs.declared.classes.Mark.{Mark}
use Rattle.sexp_reader.specs.declared.fault.ReadFault.{ReadFault}
use Rattle.sexp_reader.specs.declared.fault.ReadFault.TheVariants.{Memory, At}
use Rattle.sexp_reader.specs.declared.fault.ReadKind.TheVariants.{Unclosed}
use Rattle.sexp_reader.specs.declared.reader.Level.{Level as LevelOf}
use Rattle.sexp_reader.specs.declared.reader.Level.TheVariants.{Opened, Marked}
use Rattle.sexp_reader.specs.declared.reader.Reader.{Reader}
use Rattle.sexp_reader.specs.Read.{Fault, Level, opened, marked, State, put, close_list, finish, piece}

-- a fault that is answered is the one that is wanted; want of memory may come at any time
abbrev pub Fails : {Y : Type 0} → ReadFault → Result Y Fault → Type 0
Fails Memory wanted = Unit {0}
Fails (At error) wanted = wanted ≡ Err (error.place, error.kind)

-- an answer, seen by view, is what is wanted
abbrev pub Gives : {X Y : Type 0} → (X → Y) → Result X ReadFault → Result Y Fault → Type 0
Gives view (Ok x) wanted = wanted ≡ Ok (view x)
Gives view (Err e) wanted = Fails e wanted

-- a list or mark that is open in the reader, as the definitions have it
abbrev pub level_of : LevelOf → Level
level_of (Opened delimiter at before) = opened delimiter at (map meaning before.items)
level_of (Marked mark at) = marked mark at

-- the lists and marks that are open, the innermost first
abbrev pub stack_of : List LevelOf → List Level
stack_of levels = reverse (map level_of levels)

-- the items and the open lists that a reader has so far
abbrev pub state_of : Reader → State
state_of reader = record { items = map meaning reader.items.items; levels = stack_of reader.levels.items }

-- the data that are answered are those that are wanted
abbrev pub Reads : Result (Vec Value Global) ReadFault → Result (List Val) Fault → Type 0
Reads result wanted = Gives (λ values. map meaning values.items) result wanted

-- the reader has come to the state that is wanted
abbrev pub Becomes : {X : Type 0} → Reader → Result X ReadFault → Result State Fault → Type 0
Becomes reader result wanted = Gives (λ _. state_of reader) result wanted

-- the reader has come to the state that is wanted, and what follows in the text is answered
abbrev pub Advances : Reader → Result (Bor (List ℕ)) ReadFault → Result (State × List ℕ) Fault → Type 0
Advances reader result wanted = Gives (λ rest. (state_of reader, rest.now)) result wanted

-- a state with one more datum
abbrev pub with_datum : Val → State → State
with_datum v state = put v state.items state.levels

-- a state whose innermost list is closed
abbrev pub closed_at : Delimiter → ℕ → State → Result State Fault
closed_at delimiter place state = close_list delimiter place state.items state.levels

-- the data of a state at the end of its text
abbrev pub data_at_end : State → Result (List Val) Fault
data_at_end state = finish state.items state.levels

-- the piece that bytes begin with, at this place; where no byte is left, none
abbrev pub piece_at : ℕ → List ℕ → State → Result (State × List ℕ) Fault
piece_at place [] state = Err (place, Unclosed)
piece_at place (b ∷ bs) state = piece place b bs state

-- the mark that the innermost level is
abbrev pub innermost_mark : List Level → Option Mark
innermost_mark [] = None
innermost_mark (opened delimiter at before ∷ levels) = None
innermost_mark (marked mark at ∷ levels) = Some mark

-- the levels without the innermost where that is a mark
abbrev pub past_mark : List Level → List Level
past_mark [] = []
past_mark (opened delimiter at before ∷ levels) = opened delimiter at before ∷ levels
past_mark (marked mark at ∷ levels) = levels
