use Rattle.std.proofs.Common.{slice_get, ap, ◌∙◌}
use Rattle.web_disk.specs.Racks.{is_empty}
use Rattle.test_plays.proofs.Disks.{still_home}
use Rattle.test_plays.proofs.racks.RackPlan.rack.Goals as goal

pub disks-preserved : goal.disks-preserved
disks-preserved c n =
    ap (λ disks. is_empty (slice_get disks n)) c.in_ok-add.ensures.ok ∙ still_home c.disks.rack.disks.items c.in_ok-disk.field-0 c.disks.invariant n
