use Rattle.std.proofs.Common.{map, drop}
use Rattle.machine_states.specs.Views.{frame_of}
use Rattle.frame_codec.proofs.Fronts.{SoFar}
use Rattle.frame_codec.proofs.shared.shared_frames.Given as goal

abbrev pub invariant-loop-place : goal.invariant-loop-place
invariant-loop-place l = SoFar (map frame_of l.parent) (map frame_of l.frames) (drop l.place (map frame_of l.parent)) (map frame_of (drop l.place l.frames)) l.place
