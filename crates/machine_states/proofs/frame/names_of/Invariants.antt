use Rattle.std.proofs.Common.{◌≡◌, take}
use Rattle.machine_states.specs.Machine.{inside_of}
use Rattle.machine_states.specs.Views.{stack}
use Rattle.machine_states.proofs.frame.names_of.Given as goal

abbrev pub invariant-loop-frame : goal.invariant-loop-frame
invariant-loop-frame l = l.names.items ≡ inside_of (stack (take l.frame-index l.frames))
