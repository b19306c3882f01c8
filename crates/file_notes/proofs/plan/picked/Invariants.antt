use Rattle.std.proofs.Common.{◌≡◌, ◌++◌, drop}
use Rattle.file_notes.specs.Notes.{picked}
use Rattle.file_notes.proofs.plan.picked.Given as goal

abbrev pub invariant-loop-place : goal.invariant-loop-place
invariant-loop-place l = l.kept.items ++ picked (drop l.place l.plan) (drop l.place l.notes) ≡ picked l.plan l.notes
