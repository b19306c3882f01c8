use Rattle.std.proofs.Common.{◌≡◌, map, drop}
use Rattle.script_value.specs.Views.{meaning}
use Rattle.machine_states.specs.Views.{frame_of}
use Rattle.frame_codec.specs.Walk.{env_of}
use Rattle.frame_codec.proofs.fit.env_of.Given as goal

abbrev pub invariant-loop-frame : goal.invariant-loop-frame
invariant-loop-frame l = env_of (map meaning l.env) (map frame_of l.frames) ≡ env_of (map meaning l.env) (map frame_of (drop l.frame-index l.frames))
