use Rattle.std.proofs.Common.{◌∙◌, sym, ap}
use Rattle.instance_book.specs.Views.{instance_of, instances_of}
use Rattle.file_notes.specs.declared.note.Note.{Note}
use Rattle.file_notes.specs.Notes.{stays_note}
use Rattle.file_notes.proofs.Steps.{there_is}
use Rattle.file_notes.proofs.note.Note.stays.Goals as goal

pub returns-in-Instance : goal.returns-in-Instance
returns-in-Instance c = λ all.
    let is = instances_of all c.args.book.now.instances in
    c.is_some.ensures ∙ (there_is c.in-Instance.number is (λ x. instance_of all x.now) c.instance.result (c.instance.ensures.instance all) ∙ sym (ap (λ (n : Note). stays_note is n) c.in-Instance.is))
