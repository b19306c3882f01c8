use Rattle.std.proofs.Common.{◌≡◌, ◌≤◌, ℕ, length, Some, slice_get}
use Rattle.std.specs.Vec.{vec_len, vec_capacity}
use Rattle.lock_row.specs.Locks.{note_spot}
use Rattle.lock_row.specs.Rows.{IsNoteAt}
use Rattle.lock_row.proofs.row.LockRow.tell.Given as goal

abbrev pub invariant-loop-place : goal.invariant-loop-place
invariant-loop-place g l =
    (l.pass ≡ l.fn.pass)
    × ((k : ℕ) (m : _) → slice_get l.notes.items k ≡ Some m → IsNoteAt k l.fn.pass (note_spot m))
    × (vec_len l.notes ≡ l.place)
    × (length l.notes.items ≡ l.place)
    × (length l.fn.self.homes ≤ vec_capacity l.notes)
