use Rattle.std.proofs.Common.{◌≡◌, ℕ, ◌≤◌, Some, length, slice_get}
use Rattle.std.specs.Prelude.{IsTrue}
use mathlib.Core.List.{IsPrefix}
use Rattle.web_disk.specs.View.{AreAmong}
use Rattle.play_steps.specs.Rules.{StaysUp}
use Rattle.disk_trio.specs.Trio.{trio_view}
use Rattle.trio_rack.specs.Trios.{shelves_of}
use Rattle.play_desk.specs.Asking.{AsksForNone}
use Rattle.play_desk.specs.Opening.{LeaveOthers}
use Rattle.play_desk.specs.Staff.{IsHome, faults_in, total}
use Rattle.play_desk.proofs.desk_disks.put_all_back.Given as goal

abbrev pub invariant-loop-shelf : goal.invariant-loop-shelf
invariant-loop-shelf g l =
    IsPrefix l.shelves.items l.fn.shelves.items
    × IsHome l.shelves.items (shelves_of (g.R.Rack.view l.rack)).out
    × (IsTrue g.R.Rack.tells → IsTrue g.F.Disk.tells → (k : ℕ) (s : _) → length l.shelves.items ≤ k → slice_get l.fn.shelves.items k ≡ Some s
    → AreAmong ((shelves_of (g.R.Rack.view l.rack)).holds s.rules.number) (trio_view s.journal.disk).images)
    × (total (g.R.Rack.view l.fn.rack).faults (faults_in trio_view l.fn.shelves.items)
    ≤ total (g.R.Rack.view l.rack).faults (faults_in trio_view l.shelves.items))
    × LeaveOthers l.fn.shelves.items (g.R.Rack.view l.fn.rack) (g.R.Rack.view l.rack)
    × StaysUp (shelves_of (g.R.Rack.view l.fn.rack)).failed (shelves_of (g.R.Rack.view l.rack)).failed
    × AsksForNone (g.R.Rack.view l.fn.rack) (g.R.Rack.view l.rack)

abbrev pub decreases-loop-shelf : goal.decreases-loop-shelf
decreases-loop-shelf g l = length l.shelves.items
