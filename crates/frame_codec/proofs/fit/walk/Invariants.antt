use Rattle.std.proofs.Common.{◌≡◌, map, length}
use Rattle.script_value.specs.Views.{meaning}
use Rattle.machine_states.specs.Views.{frame_of}
use Rattle.frame_codec.specs.Views.{place_of, IsAround}
use Rattle.frame_codec.specs.Walk.{walk, outermost}
use Rattle.frame_codec.proofs.fit.walk.Given as goal

abbrev pub decreases-loop-left : goal.decreases-loop-left
decreases-loop-left l = length l.left

abbrev pub invariant-loop-left : goal.invariant-loop-left
invariant-loop-left l =
    IsAround l.env l.left l.around
    × (walk l.script (map meaning l.env) outermost (map frame_of l.frames) ≡ walk l.script (map meaning l.env) (place_of l.place) (map frame_of l.left))
