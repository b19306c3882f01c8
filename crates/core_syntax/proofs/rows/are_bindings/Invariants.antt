use Rattle.std.proofs.Common.{◌≡◌, drop, map}
use Rattle.script_value.specs.Val.{vals_of}
use Rattle.script_value.specs.Views.{meaning}
use Rattle.core_syntax.specs.Rows.{are_bindings}
use Rattle.core_syntax.proofs.rows.are_bindings.Given as goal

abbrev pub invariant-loop-binding : goal.invariant-loop-binding
invariant-loop-binding l = are_bindings (vals_of (map meaning l.bindings)) ≡ are_bindings (vals_of (map meaning (drop l.binding-index l.bindings)))
