use Rattle.std.proofs.Common.{◌∙◌, sym, refl, None}
use Rattle.journal_records.specs.Old.{read_record_in}
use Rattle.page_audit.proofs.Named.{named_for, stays_for}
use Rattle.page_audit.proofs.auditor.Auditor.begin.Goals as goal

pub returns-in_default : goal.returns-in_default
returns-in_default c =
    let old = c.args.self.now in
    record {
      format = refl;
      records = refl;
      same = (old.reader.shelf, refl);
      reader = λ knows. stays_for (read_record_in old.format c.args.body.now) old.reader.found old.reader (λ e. c.in_default.not-Nothing (c.found.ensures.found ∙ e));
      finding = λ knows. refl;
    }

pub returns-in-Ok-None : goal.returns-in-Ok-None
returns-in-Ok-None c =
    let old = c.args.self.now in
    record {
      format = refl;
      records = refl;
      same = (old.reader.shelf, refl);
      reader = λ knows.
          named_for (read_record_in old.format c.args.body.now) old.reader.found old.reader old.reader None (sym c.found.ensures.found ∙ c.in-Nothing.is)
          (sym c.in-Ok-None.field-0-is ∙ c.in-Ok-None.ensures) refl;
      finding = λ knows. refl;
    }

pub returns-in-Err : goal.returns-in-Err
returns-in-Err c =
    let old = c.args.self.now in
    record {
      format = refl;
      records = refl;
      same = (old.reader.shelf, refl);
      reader = λ knows. absurd (knows refl);
      finding = λ knows. absurd (knows refl);
    }
