use Rattle.std.proofs.Common.{◌≡◌, drop, map, []}
use Rattle.script_value.specs.Val.{vals_of}
use Rattle.script_value.specs.Views.{meaning}
use Rattle.core_syntax.specs.Headings.{symbols_in}
use Rattle.core_syntax.proofs.task_forms.parameter_names.Given as goal

abbrev pub invariant-loop-parameter : goal.invariant-loop-parameter
invariant-loop-parameter l = symbols_in (vals_of (map meaning l.parameters)) [] ≡ symbols_in (vals_of (map meaning (drop l.parameter-index l.parameters))) l.names
