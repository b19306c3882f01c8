use Rattle.std.proofs.Common.{◌≡◌, drop, map}
use Rattle.script_value.specs.Val.{vals_of}
use Rattle.script_value.specs.Views.{meaning}
use Rattle.core_syntax.specs.Headings.{are_symbols}
use Rattle.core_syntax.proofs.task_forms.are_symbols.Given as goal

abbrev pub invariant-loop-value : goal.invariant-loop-value
invariant-loop-value l = are_symbols (vals_of (map meaning l.values)) ≡ are_symbols (vals_of (map meaning (drop l.value-index l.values)))
