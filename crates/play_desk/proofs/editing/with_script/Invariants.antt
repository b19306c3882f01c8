use Rattle.std.proofs.Common.{◌≡◌, take, slice_set}
use Rattle.script_nodes.specs.Views.{named_of, scripts_of}
use Rattle.play_desk.proofs.editing.with_script.Given as goal

abbrev pub invariant-loop-other : goal.invariant-loop-other
invariant-loop-other l = scripts_of l.copy ≡ take l.other (slice_set (scripts_of l.fn.setup) l.fn.place (named_of l.fn.script))
