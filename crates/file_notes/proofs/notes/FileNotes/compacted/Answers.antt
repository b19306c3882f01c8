use Rattle.std.proofs.Common.{◌∙◌, ap, sym, refl, List, Bool, length}
use Rattle.script_nodes.specs.Views.{library_of}
use Rattle.script_nodes.specs.declared.library.Library as kept
use Rattle.instance_book.specs.declared.book.Book.{Book}
use Rattle.instance_book.specs.Views.{instances_of}
use Rattle.file_notes.specs.declared.note.Note.{Note}
use Rattle.file_notes.specs.declared.past.FilePast.{FilePast}
use Rattle.file_notes.specs.Files.{file_of, compacted_of}
use Rattle.file_notes.specs.Notes.{picked}
use Rattle.file_notes.proofs.Plans.{plan_length}
use Rattle.file_notes.proofs.Compacts.{is_picked, is_noted}
use Rattle.file_notes.proofs.notes.FileNotes.compacted.Goals as goal

pub picked-requires : goal.picked-requires
picked-requires c =
    let all = (library_of c.args.library.now).all in
    let notes = c.args.self.now.notes.items in
    ap (λ (bs : List Bool). length bs) (c.requires.plan all)
    ∙ (plan_length (instances_of all c.args.book.now.instances) notes ∙ sym (ap (λ (ns : List Note). length ns) c.as_slice.ensures.value))

pub returns-clause-notes : goal.returns-clause-notes
returns-clause-notes c =
    let picks = c.in_ok-notes.ensures ∙ ap (λ (ns : List Note). picked c.args.plan.now ns) c.as_slice.ensures.value in
    is_picked (library_of c.args.library.now) c.args.book.now c.args.plan.now c.args.self.now _ c.requires.noted c.requires.plan picks refl refl

pub returns-clause-noted : goal.returns-clause-noted
returns-clause-noted c =
    let l = library_of c.args.library.now in
    let picks = c.in_ok-notes.ensures ∙ ap (λ (ns : List Note). picked c.args.plan.now ns) c.as_slice.ensures.value in
    is_noted l c.args.book.now c.args.plan.now c.args.self.now _ c.requires.noted c.requires.plan picks
    (ap (λ (k : kept.Library). compacted_of (library_of k) c.of-2.result.value (file_of c.of.result.value)) c.of-3.ensures
    ∙ (ap (λ (b : Book). compacted_of l b (file_of c.of.result.value)) c.of-2.ensures ∙ ap (λ (p : FilePast). compacted_of l c.args.book.now (file_of p)) c.of.ensures))
    refl refl
