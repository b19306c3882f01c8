use Rattle.std.proofs.Common.{◌≤◌, max, take}
use Rattle.file_notes.specs.Notes.{all_lengths}
use Rattle.file_notes.specs.Files.{IsLonger}
use Rattle.file_notes.proofs.plan.longest_of.Given as goal

abbrev pub invariant-loop-note : goal.invariant-loop-note
invariant-loop-note l = record {
  longer : IsLonger (take l.note-index l.notes) l.longest;
  low : l.longest ≤ max 9 (all_lengths (take l.note-index l.notes));
}
