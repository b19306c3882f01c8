use Rattle.std.proofs.Common.{map, drop}
use Rattle.script_value.specs.Views.{meaning}
use Rattle.frame_codec.proofs.Fronts.{SoFar}
use Rattle.frame_codec.proofs.shared.shared_values.Given as goal

abbrev pub invariant-loop-place : goal.invariant-loop-place
invariant-loop-place l = SoFar (map meaning l.parent) (map meaning l.values) (drop l.place (map meaning l.parent)) (map meaning (drop l.place l.values)) l.place
