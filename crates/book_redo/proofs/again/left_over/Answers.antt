use Rattle.std.proofs.Common.{◌∙◌}
use Rattle.book_redo.proofs.Left.{fits_behind, like_visit, leaves_not, leaves}
use Rattle.book_redo.proofs.again.left_over.Goals as goal

pub run_from-requires-clause-fits : goal.run_from-requires-clause-fits
run_from-requires-clause-fits c = fits_behind c.args.behind.now c.in_ok-from.from c.root-root.ensures.script c.in_ok-from.ensures c.requires

pub returns-then-not-shows_so : goal.returns-then-not-shows_so
returns-then-not-shows_so c v is =
    let like =
    like_visit c.args.behind.now c.args.page.now c.args.shelf c.args.instance _ c.args.cells.now c.in_ok-from.from c.new-url.result c.in_ok-segment.segment c.root-root.ensures.script
    c.in_ok-from.ensures (c.new-url.ensures ∙ c.in_ok-url_text.ensures) c.in_ok-segment.ensures.replays v is in
    leaves_not c.args.page.now c.args.cells.now v c.in_ok-segment.segment like (λ so. let yes = c.shows_so.ensures.1 so in let no : ⊥ = cc in no)

pub returns : goal.returns
returns c v is =
    let like =
    like_visit c.args.behind.now c.args.page.now c.args.shelf c.args.instance _ c.args.cells.now c.in_ok-from.from c.new-url.result c.in_ok-segment.segment c.root-root.ensures.script
    c.in_ok-from.ensures (c.new-url.ensures ∙ c.in_ok-url_text.ensures) c.in_ok-segment.ensures.replays v is in
    leaves c.args.page.now c.args.cells.now v c.in_ok-segment.segment like (c.shows_so.ensures.0 c.if-not-shows_so.false) c.state_in.result c.state_in.ensures
