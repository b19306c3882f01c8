use Rattle.std.proofs.Common.{◌≡◌, map, drop}
use Rattle.script_value.specs.Views.{meaning}
use Rattle.prim_spec.specs.Texts.{are_texts}
use Rattle.prim_ops.proofs.texts.are_texts.Given as goal

abbrev pub invariant-loop-value : goal.invariant-loop-value
invariant-loop-value l = are_texts (map meaning l.values) ≡ are_texts (map meaning (drop l.value-index l.values))
