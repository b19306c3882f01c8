use Rattle.std.proofs.Common.{◌≡◌, drop, map}
use Rattle.script_value.specs.Val.{vals_of}
use Rattle.script_value.specs.Views.{meaning}
use Rattle.core_syntax.specs.Templates.{has_splice}
use Rattle.core_syntax.proofs.templates.has_splice.Given as goal

abbrev pub invariant-loop-item : goal.invariant-loop-item
invariant-loop-item l = has_splice (vals_of (map meaning l.items)) ≡ has_splice (vals_of (map meaning (drop l.item-index l.items)))
