use Rattle.std.proofs.Common.{◌∙◌, ◌++◌, ◌∷◌, [], true, ap, ℕ, List, length, map}
use Rattle.script_nodes.specs.Views.{scripts_of}
use Rattle.script_nodes.specs.declared.setup.Setup.{Setup}
use Rattle.replay_spec.specs.Book.{renewed}
use Rattle.replay_spec.specs.Change.{with_line}
use Rattle.book_recovery.specs.JournalSpec.Opening.{renewal_body}
use Rattle.file_copies.specs.OfFileNotes.declared.note.Note.{Note}
use Rattle.file_copies.specs.OfFileNotes.Files.{file_in}
use Rattle.file_copies.specs.OfFileNotes.Notes.{is_told}
use Rattle.shelf.proofs.Setups.{renewal_short}
use Rattle.shelf.proofs.begin.renew.Goals as goal

pub with_record-len-requires-clause-counted : goal.with_record-len-requires-clause-counted
with_record-len-requires-clause-counted g c = renewal_short (scripts_of c.args.setup.now) c.requires.read c.requires.renews

pub long-requires : goal.long-requires
long-requires g c = record { counted = renewal_short (scripts_of c.args.setup.now) c.requires.read c.requires.renews }

pub returns-in-Ok-tell-clause-notes : goal.returns-in-Ok-tell-clause-notes
returns-in-Ok-tell-clause-notes g c =
    let ss = scripts_of c.args.setup.now in
    let room = c.room.ensures.same in
    record {
      file = c.renew-in-Ok-tell.ensures.file ∙ (ap (λ (x : Setup). with_line (renewed (scripts_of x) c.long.result) (file_in c.room.new.self)) c.of.ensures ∙ ap (λ (n : ℕ). with_line (renewed ss n) (file_in c.room.new.self)) c.long.ensures ∙ ap (with_line (renewed ss (length (renewal_body ss)))) room.file);
      marks = c.renew-in-Ok-tell.ensures.marks ∙ ap (λ (ns : List Note). map is_told ns ++ true ∷ []) room.notes;
    }
