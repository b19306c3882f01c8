use Rattle.std.proofs.Common.{map, drop}
use Rattle.std.specs.Prelude.{◌↔◌}
use Rattle.std.specs.List.{AllByRecursion}
use Rattle.machine_states.specs.Views.{frame_of}
use Rattle.frame_codec.specs.Spelling.{FrameHasBytes}
use Rattle.frame_codec.proofs.spelled.frames_have_bytes.Given as goal

abbrev pub invariant-loop-frame : goal.invariant-loop-frame
invariant-loop-frame l =
    AllByRecursion FrameHasBytes (map frame_of (drop l.frame-index l.frames)) ↔ AllByRecursion FrameHasBytes (map frame_of l.frames)
