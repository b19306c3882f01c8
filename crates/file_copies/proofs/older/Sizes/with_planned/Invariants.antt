use Rattle.std.proofs.Common.{◌≡◌, ℕ, List, ◌++◌, drop}
use Rattle.file_notes.specs.Notes.{picked}
use Rattle.file_copies.specs.Sizing.{AreSizesWith}
use Rattle.file_copies.proofs.older.Sizes.with_planned.Given as goal

abbrev pub invariant-loop-place : goal.invariant-loop-place
invariant-loop-place l =
    (done : List (List ℕ)) × ((done ++ picked (drop l.place l.plan) (drop l.place l.others) ≡ picked l.plan l.others) × AreSizesWith l.fn.self done l.sizes)
