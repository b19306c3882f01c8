use Rattle.std.proofs.Common.{◌≡◌, ◌++◌, map, drop}
use Rattle.replay_spec.specs.Marks.{uses_of}
use Rattle.instance_book.specs.Views.{mark_of}
use Rattle.book_visits.specs.Uses.{read_uses, used_one}
use Rattle.book_visits.proofs.goes.uses_after.Given as goal

abbrev pub invariant-loop-page : goal.invariant-loop-page
invariant-loop-page l =
    read_uses l.uses.items ++ map (used_one l.answered l.number) (uses_of (map mark_of (drop l.page-index l.page-items)))
    ≡ map (used_one l.answered l.number) (uses_of (map mark_of l.page-items))
