use Rattle.std.proofs.Common.{◌∙◌, sym}
use Rattle.journal_records.specs.Views.{logged_of}
use Rattle.book_recovery.proofs.Noting.{told_drawn, told_kept}
use Rattle.book_recovery.proofs.reader.Reader.keep_told.Goals as goal

pub returns-in-Some-clause-anew : goal.returns-in-Some-clause-anew
returns-in-Some-clause-anew c = told_drawn c.args.self.now.format (logged_of c.args.logged.now) c.in-Some.field-0 c.args.self.now.anew (sym c.in-Some.is ∙ c.drawn_of.ensures)

pub returns-in_ok-body-in-None-clause-anew : goal.returns-in_ok-body-in-None-clause-anew
returns-in_ok-body-in-None-clause-anew c =
    told_kept c.args.self.now.format (logged_of c.args.logged.now) c.in_ok-body-in-None.body c.args.self.now.anew c.keep.new.self.anew c.keep.result
    (sym c.in-None.is ∙ c.drawn_of.ensures) c.in_ok-body-in-None.ensures c.keep.ensures.anew
