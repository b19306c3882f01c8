use Rattle.std.proofs.Common.{ap, List, [], ℕ, length, arith}
use Rattle.journal_records.specs.Views.{page_change}
use Rattle.journal_records.proofs.OtherStates.{change_with}
use Rattle.book_redo.proofs.renew.told.Goals as goal

pub returns-clause-fits : goal.returns-clause-fits
returns-clause-fits c =
    let same = ap (λ (bs : List ℕ). length bs) c.as_slice.ensures in
    change_with (page_change c.args.page) [] c.args.state c.requires.fits (omega (arith, same, c.if-as_slice-gt-MOST.false))
