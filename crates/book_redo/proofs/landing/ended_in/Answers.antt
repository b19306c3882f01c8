use Rattle.std.proofs.Common.{map}
use Rattle.instance_cells.specs.Views.{effect_of}
use Rattle.instance_book.specs.Views.{page_of}
use Rattle.book_redo.proofs.Redone.{ended_on}
use Rattle.book_redo.proofs.landing.ended_in.Goals as goal

pub returns-then-are_held : goal.returns-then-are_held
returns-then-are_held c =
    ended_on c.args.book.now c.args.instance c.args.page (map effect_of c.args.effects.now) c.in_ok-kept.kept.now c.in_ok-kept.ensures.instance (page_of c.in_ok-_answered._answered.now)
    c.in_ok-_answered.ensures.page c.if-are_held.ensures
