-- What is known of a compacted file is so.
use Rattle.std.proofs.Common.{◌≡◌, ◌∙◌, ap, sym, subst, Bool, true, is_some, List, map, filter}
use Rattle.std.specs.List.{AllByRecursion}
use Rattle.script_nodes.specs.Setup.{Library}
use Rattle.replay_spec.specs.Book.{File, Line}
use Rattle.replay_spec.specs.Compaction.{stays, last_sweeps}
use Rattle.instance_book.specs.declared.book.Book.{Book}
use Rattle.instance_book.specs.Views.{instances_of}
use Rattle.file_notes.specs.declared.notes.FileNotes.{FileNotes}
use Rattle.file_notes.specs.Files.{file_in, compacted_of, IsNoted, IsPlanned, IsPicked}
use Rattle.file_notes.specs.Notes.{is_told, note_of, picked}
use Rattle.file_notes.proofs.Plans.{plan_picks, all_told, told_stay}

module _ (library : Library) (b : Book) (plan : List Bool) (old new : FileNotes) (noted : IsNoted old) (planned : IsPlanned b old.notes.items plan) (picks : new.notes.items ≡ picked plan old.notes.items) where
  abbrev lines : List Line
  lines = last_sweeps (filter (stays (instances_of library.all b.instances)) (file_in old).lines)

  those : new.notes.items ≡ map note_of lines
  those =
      picks
      ∙ (ap (λ (bs : List Bool). picked bs old.notes.items) (planned library.all) ∙ plan_picks (instances_of library.all b.instances) old.notes.items (file_in old).lines noted.lines)

  told : AllByRecursion (λ n. is_told n ≡ true) new.notes.items
  told = subst (AllByRecursion (λ n. is_told n ≡ true)) (sym those) (all_told lines)

  pub is_picked : new.head ≡ old.head → new.drawn ≡ true → IsPicked plan old new
  is_picked head drawn = record { notes = picks; told = told; head = head; drawn = drawn }

  pub is_noted : file_in new ≡ compacted_of library b (file_in old) → new.head ≡ old.head → new.drawn ≡ true → IsNoted new
  is_noted file head drawn = record {
    lines = told_stay new.notes.items told ∙ (those ∙ sym (ap (λ (f : File). map note_of f.lines) file));
    head = head ∙ (noted.head ∙ sym (ap (λ (f : File). f.head) file));
    drawn = drawn ∙ sym (ap (λ (f : File). is_some f.drawn) file);
  }
