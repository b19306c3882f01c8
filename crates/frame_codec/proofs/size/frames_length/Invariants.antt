use Rattle.std.proofs.Common.{◌≡◌, ◌^◌, min, length, map, take}
use Rattle.std.specs.List.{flat_map}
use Rattle.machine_states.specs.Views.{frame_of}
use Rattle.frame_codec.specs.Spelling.{frame_bytes}
use Rattle.frame_codec.proofs.size.frames_length.Given as goal

abbrev pub invariant-loop-frame : goal.invariant-loop-frame
invariant-loop-frame l = l.sum ≡ min (length (flat_map frame_bytes (map frame_of (take l.frame-index l.frames)))) (2 ^ 63)
