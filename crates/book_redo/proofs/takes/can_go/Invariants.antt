use Rattle.std.proofs.Common.{◌≡◌, drop}
use Rattle.replay_spec.specs.Recovery.{can_go}
use Rattle.instance_book.specs.Views.{used_of}
use Rattle.book_redo.proofs.takes.can_go.Given as goal

abbrev pub invariant-loop-place : goal.invariant-loop-place
invariant-loop-place l = can_go l.pages (used_of l.shown) ≡ can_go (drop l.place l.pages) (used_of l.shown)
