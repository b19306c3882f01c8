use Rattle.std.proofs.Common.{◌≡◌, arith}
use Rattle.script_nodes.specs.Views.{library_of}
use Rattle.journal_records.specs.Views.{page_change}
use Rattle.book_redo.proofs.Quiet.{late_told, again_is, page_renewed}
use Rattle.book_redo.proofs.renew.as_newest.Goals as goal

pub returns-then-format-ge-SHARED-clause-renewed : goal.returns-then-format-ge-SHARED-clause-renewed
returns-then-format-ge-SHARED-clause-renewed c =
    late_told c.args.format (omega (arith, c.if-format-ge-SHARED.true)) (library_of c.args.library.now) c.args.book.now c.args.logged

pub returns-then-format-eq-WITHOUT-clause-renewed : goal.returns-then-format-eq-WITHOUT-clause-renewed
returns-then-format-eq-WITHOUT-clause-renewed c =
    page_renewed c.args.format (library_of c.args.library.now) c.args.book.now c.args.logged c.in-Page.page c.in-Page.state c.made_again.result c.in-Page.is 1 c.if-format-eq-WITHOUT.true
    (again_is (library_of c.args.library.now) c.args.book.now (page_change c.in-Page.page) _ c.made_again.result c.made_again.ensures.renewed)

pub returns-else-format-eq-WITHOUT-clause-renewed : goal.returns-else-format-eq-WITHOUT-clause-renewed
returns-else-format-eq-WITHOUT-clause-renewed c =
    let two : c.args.format ≡ 2 = omega (arith, c.requires.format, c.if-format-ge-SHARED.false, c.if-format-eq-WITHOUT.false) in
    page_renewed c.args.format (library_of c.args.library.now) c.args.book.now c.args.logged c.in-Page.page c.in-Page.state c.respelled.result c.in-Page.is 2 two c.respelled.ensures.renewed
