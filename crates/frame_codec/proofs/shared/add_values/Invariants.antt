use Rattle.std.proofs.Common.{◌≡◌, ◌++◌, map, take}
use Rattle.script_value.specs.Views.{meaning}
use Rattle.frame_codec.proofs.shared.add_values.Given as goal

abbrev pub invariant-loop-value : goal.invariant-loop-value
invariant-loop-value l = l.values ≡ l.fn.values ++ map meaning (take l.value-index l.more)
