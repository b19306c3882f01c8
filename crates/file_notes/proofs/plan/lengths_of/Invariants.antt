use Rattle.std.proofs.Common.{◌≡◌, ◌≤◌, ◌*◌, ◌^◌, take}
use Rattle.file_notes.specs.Notes.{all_lengths}
use Rattle.file_notes.proofs.plan.lengths_of.Given as goal

abbrev pub invariant-loop-note : goal.invariant-loop-note
invariant-loop-note l = record {
  sum : l.total ≡ all_lengths (take l.note-index l.notes);
  low : l.total ≤ l.note-index * 2 ^ 33;
}
