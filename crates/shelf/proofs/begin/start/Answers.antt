use Rattle.std.proofs.Common.{◌≡◌, ◌∙◌, ◌+◌, ap, ℕ, length}
use Rattle.script_nodes.specs.Views.{scripts_of}
use Rattle.replay_spec.specs.Rules.{first_file}
use Rattle.book_recovery.specs.JournalSpec.Opening.{first_body}
use Rattle.shelf.proofs.Setups.{begin_short}
use Rattle.shelf.proofs.begin.start.Goals as goal

pub with_record-len-requires-clause-counted : goal.with_record-len-requires-clause-counted
with_record-len-requires-clause-counted g c = begin_short (scripts_of c.args.setup.now) c.args.number c.requires.read c.requires.begins

pub long-requires : goal.long-requires
long-requires g c = record { counted = begin_short (scripts_of c.args.setup.now) c.args.number c.requires.read c.requires.begins }

pub returns-in-Ok-tell-clause-notes : goal.returns-in-Ok-tell-clause-notes
returns-in-Ok-tell-clause-notes g c =
    let ss = scripts_of c.args.setup.now in
    let same : scripts_of c.in-Ok.scripts ≡ ss = c.in-Ok.ensures in
    record {
      file = c.begin.ensures.file ∙ (ap (λ (n : ℕ). first_file (14 + n) (scripts_of c.in-Ok.scripts)) c.long.ensures ∙ ap (first_file (14 + length (first_body ss c.args.number))) same);
      marks = c.begin.ensures.marks;
      noted_is = c.begin.ensures.noted;
    }
