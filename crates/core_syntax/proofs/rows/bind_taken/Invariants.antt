use Rattle.std.proofs.Common.{◌≡◌, drop, map}
use Rattle.script_value.specs.Val.{vals_of}
use Rattle.script_value.specs.Views.{meaning}
use Rattle.core_syntax.specs.Rows.{bind_taken}
use Rattle.core_syntax.proofs.rows.bind_taken.Given as goal

abbrev pub invariant-loop-binding : goal.invariant-loop-binding
invariant-loop-binding l = bind_taken l.cells (vals_of (map meaning l.bindings)) ≡ bind_taken l.cells (vals_of (map meaning (drop l.binding-index l.bindings)))
