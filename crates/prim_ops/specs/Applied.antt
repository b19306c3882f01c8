-- What the program answers where the table has a value or a fault.
use Rattle.std.specs.Prelude.{◌≡◌, ℕ, List, [], ◌∷◌, Result, Ok, Err, IsOk}
use Rattle.std.specs.Borrow.{Bor}
use Rattle.script_value.specs.Val.{Val}
use Rattle.script_value.specs.Views.{meaning}
use Rattle.script_value.specs.declared.value.Value.{Value}
use Rattle.script_value.specs.declared.outcome.Fault.{Fault}
use Rattle.prim_spec.specs.Bindings as bindings
use Rattle.prim_ops.specs.declared.fault.ApplyFault.{ApplyFault}
use Rattle.prim_ops.specs.declared.fault.ApplyFault.TheVariants.{Memory, Fault as FaultOf}

-- the program's answer is that of the table, unless memory ran out for a value; a fault takes no memory
abbrev pub Applies : Result Value ApplyFault → Result Val Fault → Type 0
Applies (Ok v) row = row ≡ Ok (meaning v)
Applies (Err Memory) row = IsOk row
Applies (Err (FaultOf k)) row = row ≡ Err k

-- the program's answer, which takes no memory, is that of the table: its value or its fault
abbrev pub Answers : Result Value Fault → Result Val Fault → Type 0
Answers (Ok v) row = row ≡ Ok (meaning v)
Answers (Err k) row = row ≡ Err k

-- the program finds the one text of these, or answers the fault where there is not one
abbrev pub Finds : Result (Bor (List ℕ)) Fault → List (List ℕ) → Type 0
Finds (Ok t) ts = ts ≡ t.now ∷ []
Finds (Err k) ts = bindings.single ts ≡ Err k
