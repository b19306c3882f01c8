use Rattle.std.proofs.Common.{◌≡◌, ℕ, false}
use Rattle.web_disk.specs.Racks.{is_lent}
use Rattle.test_plays.proofs.racks.RackPlan.rack.Given as goal

abbrev pub invariant-disks : goal.invariant-disks
invariant-disks l = (n : ℕ) → is_lent l.rack n ≡ false
