use Rattle.std.proofs.Common.{◌≡◌, ◌++◌, map, drop}
use Rattle.std.specs.List.{AllByRecursion, flat_map}
use Rattle.machine_states.specs.Views.{frame_of}
use Rattle.frame_codec.specs.Spelling.{frame_bytes, FrameHasBytes}
use Rattle.frame_codec.proofs.write.write_each_frame.Given as goal

abbrev pub invariant-loop-frame : goal.invariant-loop-frame
invariant-loop-frame l = record {
  written : l.writer ++ flat_map frame_bytes (map frame_of (drop l.frame-index l.frames)) ≡ l.fn.writer ++ flat_map frame_bytes (map frame_of l.frames);
  fit : AllByRecursion FrameHasBytes (map frame_of (drop l.frame-index l.frames));
}
