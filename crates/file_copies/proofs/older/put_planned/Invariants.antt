use Rattle.std.proofs.Common.{◌≡◌, ℕ, List, ◌++◌, drop}
use Rattle.page_journal.specs.Records.{frames}
use Rattle.file_notes.specs.Notes.{picked}
use Rattle.file_copies.proofs.older.put_planned.Given as goal

abbrev pub invariant-loop-place : goal.invariant-loop-place
invariant-loop-place l =
    (done : List (List ℕ)) × ((done ++ picked (drop l.place l.plan) (drop l.place l.others) ≡ picked l.plan l.others) × (l.file.items ≡ l.fn.file.items ++ frames done))
