use Rattle.std.proofs.Common.{◌≡◌, map, drop}
use Rattle.std.specs.List.{list_all}
use Rattle.machine_states.specs.Views.{frame_of}
use Rattle.book_recovery.specs.JournalSpec.Lengths.{is_shallow_frame}
use Rattle.shelf.proofs.nesting.frames_nest_shallow.Given as goal

abbrev pub invariant-loop-frame : goal.invariant-loop-frame
invariant-loop-frame l = list_all is_shallow_frame (map frame_of (drop l.frame-index l.frames)) ≡ list_all is_shallow_frame (map frame_of l.frames)
