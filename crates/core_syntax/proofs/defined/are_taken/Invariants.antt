use Rattle.std.proofs.Common.{◌≡◌, drop, map}
use Rattle.script_value.specs.Val.{vals_of}
use Rattle.script_value.specs.Views.{meaning}
use Rattle.core_syntax.specs.Headings.{names_defined}
use Rattle.core_syntax.specs.Definitions.{parameters_taken, with_later}
use Rattle.core_syntax.proofs.defined.are_taken.Given as goal

abbrev pub invariant-loop-parameter : goal.invariant-loop-parameter
invariant-loop-parameter l =
    parameters_taken (with_later (names_defined (map meaning l.later)) l.names) (vals_of (map meaning l.parameters))
    ≡ parameters_taken (with_later (names_defined (map meaning l.later)) l.names) (vals_of (map meaning (drop l.parameter-index l.parameters)))
