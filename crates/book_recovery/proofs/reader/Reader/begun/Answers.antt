use Rattle.std.proofs.Common.{◌≡◌, ◌+◌, ◌∙◌, ap, sym, subst, map, List, Some}
use Rattle.std.proofs.lemmas.Option.{same_Some}
use Rattle.script_nodes.specs.Views.{scripts_of}
use Rattle.replay_spec.specs.Rules.{first_file}
use Rattle.script_nodes.specs.Setup.{Named}
use Rattle.journal_records.specs.Views.{script_of}
use Rattle.book_redo.specs.JournalSpec.Whole.{AreWhole}
use Rattle.book_recovery.specs.Reading.{IsSetupOf}
use Rattle.book_redo.proofs.Passed.{of_some}
use Rattle.book_recovery.proofs.reader.Reader.begun.Goals as goal

pub returns-clause-begins : goal.returns-clause-begins
returns-clause-begins c =
    let w = c.in-Ok-Some in
    let is = of_some w.field-0 w.setup (IsSetupOf (map script_of c.args.texts.now)) w.field-0-is w.ensures.some in (
      c.if-shelf-self.false,
      record {
        empty = c.empty.ensures.book;
        placed = c.empty.ensures.placed;
        states = c.empty.ensures.states;
        told = c.empty.ensures.told;
        read = is.read ∙ ap (λ (xs : List Named). Some xs) (sym c.of.ensures.setup);
        all = c.of.ensures.all ∙ sym c.of.ensures.setup;
        whole = subst (λ (xs : List Named). AreWhole xs) (sym c.of.ensures.setup) is.whole;
      },
    )

pub returns-clause-notes : goal.returns-clause-notes
returns-clause-notes c scripts read =
    let w = c.in-Ok-Some in
    let is = of_some w.field-0 w.setup (IsSetupOf (map script_of c.args.texts.now)) w.field-0-is w.ensures.some in
    let same : scripts_of w.setup ≡ scripts = same_Some (scripts_of w.setup) scripts (sym is.read ∙ read) in
    (c.begin.ensures.file ∙ ap (first_file (14 + c.args.length)) same, c.begin.ensures.marks)
