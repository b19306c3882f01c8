use Rattle.std.proofs.Common.{◌≡◌, drop, map}
use Rattle.script_value.specs.Views.{meaning}
use Rattle.core_syntax.specs.Headings.{has_defined}
use Rattle.core_syntax.proofs.cell_names.has_defined.Given as goal

abbrev pub invariant-loop-form : goal.invariant-loop-form
invariant-loop-form l = has_defined l.name (map meaning l.forms) ≡ has_defined l.name (map meaning (drop l.form-index l.forms))
