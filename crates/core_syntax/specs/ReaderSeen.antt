-- What the table says with a reader's cells and variables.
use Rattle.std.specs.Prelude.{ℕ, Bool, [], List, Result, Vec, map, ◌++◌}
use Rattle.std.specs.declared.alloc.Global.{Global}
use Rattle.script_value.specs.Val.{Vals}
use Rattle.script_value.specs.Views.{meaning, meanings}
use Rattle.script_value.specs.declared.value.Value.{Value}
use Rattle.script_nodes.specs.Core.{Core}
use Rattle.core_syntax.specs.declared.faults.SyntaxKind.{SyntaxKind}
use Rattle.core_syntax.specs.declared.faults.ReadFault.{ReadFault}
use Rattle.core_syntax.specs.declared.read.Reader.{Reader}
use Rattle.core_syntax.specs.declared.tree.Choice.{Choice}
use Rattle.core_syntax.specs.Forms.{body_of}
use Rattle.core_syntax.specs.Gives.{Gives, Reads}
use Rattle.core_syntax.specs.Names.{CellNames}
use Rattle.core_syntax.specs.RowCores.{both, names_in, turns_core}
use Rattle.core_syntax.specs.Trees.{pair_of}

-- what the table says with the cells and the variables that a reader is within
abbrev pub here : {A : Type 0} → Reader → (CellNames → List (List ℕ) → A) → A
here r f = f r.cells.now r.scope

-- what the table says with a reader's cells and variables, and these names innermost
abbrev pub here_within : {A : Type 0} → List (List ℕ) → Reader → (CellNames → List (List ℕ) → A) → A
here_within names r f = f r.cells.now (names ++ r.scope)

-- What is answered is what the table makes of bindings and their body, with a reader's cells and variables.
abbrev pub ReadsBound : {A : Type 0} → Result A ReadFault → Reader
    → (table : CellNames → List (List ℕ) → Bool → Vals → Vals → Result A SyntaxKind) → (in_page : Bool) → (bindings body : List Value) → Type 0
ReadsBound result r table in_page bindings body = Reads result (here r table in_page (meanings bindings) (meanings body))

-- What is answered is the table's body with a reader's cells and variables, and the names of bindings innermost.
abbrev pub ReadsBehind : Result Core ReadFault → Reader → (in_page : Bool) → (bindings body : List Value) → Type 0
ReadsBehind result r in_page bindings body = Reads result (here_within (names_in (meanings bindings) []) r body_of in_page (meanings body))

-- What is answered is the table's loop over a count, with a reader's cells and variables.
abbrev pub ReadsTurns : Result Core ReadFault → Reader → (in_page : Bool) → (name : List ℕ) → (count : Value) → (body : List Value) → Type 0
ReadsTurns result r in_page name count body = Reads result (here r turns_core in_page name (meaning count) (meanings body))

-- What is answered is the table's choice of a test and of what is taken then, with a reader's cells and variables.
abbrev pub ReadsChoice : Result (Vec Choice Global) ReadFault → Reader → (in_page : Bool) → (test chosen : Value) → Type 0
ReadsChoice result r in_page test chosen = Gives (λ v. map pair_of v.items) result (here r both in_page (meaning test) (meaning chosen))
