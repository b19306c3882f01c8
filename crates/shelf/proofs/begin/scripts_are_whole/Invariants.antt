use Rattle.std.proofs.Common.{◌≡◌, ℕ, ◌<◌, Some, slice_get}
use Rattle.script_nodes.specs.Setup.{Named}
use Rattle.script_nodes.specs.Views.{scripts_of}
use Rattle.book_recovery.specs.JournalSpec.Whole.{IsWhole}
use Rattle.shelf.proofs.begin.scripts_are_whole.Given as goal

abbrev pub invariant-loop-place : goal.invariant-loop-place
invariant-loop-place l =
    (k : ℕ) (s : Named) → k < l.place → slice_get (scripts_of l.setup) k ≡ Some s → IsWhole s
