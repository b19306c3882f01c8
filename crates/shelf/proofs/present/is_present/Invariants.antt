use Rattle.std.proofs.Common.{◌≡◌, drop}
use Rattle.script_nodes.specs.Views.{scripts_of, library_of}
use Rattle.replay_spec.specs.Book.{are_same}
use Rattle.shelf.proofs.present.is_present.Given as goal

abbrev pub invariant-loop-place : goal.invariant-loop-place
invariant-loop-place l =
    are_same (scripts_of l.setup) (library_of l.library).setup ≡ are_same (drop l.place (scripts_of l.setup)) (drop l.place (library_of l.library).setup)
