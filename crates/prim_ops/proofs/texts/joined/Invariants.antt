use Rattle.std.proofs.Common.{◌≡◌, ◌++◌, map, drop}
use Rattle.std.specs.Prelude.{string_bytes}
use Rattle.script_value.specs.Views.{meaning}
use Rattle.prim_spec.specs.Texts.{joined}
use Rattle.prim_ops.proofs.texts.joined.Given as goal

abbrev pub invariant-loop-value : goal.invariant-loop-value
invariant-loop-value l = joined (map meaning l.values) ≡ string_bytes l.all ++ joined (map meaning (drop l.value-index l.values))
