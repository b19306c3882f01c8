use Rattle.std.proofs.Common.{◌≡◌, take}
use Rattle.machine_states.proofs.frame.clone_frames.Given as goal

abbrev pub invariant-loop-frame : goal.invariant-loop-frame
invariant-loop-frame l = l.copies.items ≡ take l.frame-index l.frames
