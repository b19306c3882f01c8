use Rattle.std.proofs.Common.{◌∙◌, ◌++◌, ap, sym, subst, refl, map, List, Some}
use Rattle.script_nodes.specs.Setup.{Named}
use Rattle.script_nodes.specs.Views.{library_of}
use Rattle.journal_records.specs.Views.{script_of}
use Rattle.book_redo.specs.JournalSpec.Whole.{AreWhole}
use Rattle.book_recovery.specs.Reading.{IsSetupOf}
use Rattle.book_redo.proofs.Passed.{of_some}
use Rattle.book_recovery.proofs.reader.Reader.renewed.Goals as goal

pub returns-clause-renews : goal.returns-clause-renews
returns-clause-renews c place book =
    let w = c.in-Some in
    let is = of_some _ w.setup (IsSetupOf (map script_of c.args.texts.now)) w.is c.in_ok-setup.ensures.some in (
      refl,
      record {
        read = is.read ∙ ap (λ (xs : List Named). Some xs) (sym c.in_ok-renew.ensures.setup);
        all = c.in_ok-renew.ensures.all ∙ ap (λ (xs : List Named). (library_of c.args.library.now).all ++ xs) (sym c.in_ok-renew.ensures.setup);
        whole = subst (λ (xs : List Named). AreWhole xs) (sym c.in_ok-renew.ensures.setup) is.whole;
      },
    )
