use Rattle.std.proofs.Common.{◌≡◌, drop, map, []}
use Rattle.script_value.specs.Val.{vals_of}
use Rattle.script_value.specs.Views.{meaning}
use Rattle.core_syntax.specs.RowCores.{names_in}
use Rattle.core_syntax.proofs.shapes.names_in.Given as goal

abbrev pub invariant-loop-binding : goal.invariant-loop-binding
invariant-loop-binding l = names_in (vals_of (map meaning l.bindings)) [] ≡ names_in (vals_of (map meaning (drop l.binding-index l.bindings))) l.names
