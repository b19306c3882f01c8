use Rattle.std.proofs.Common.{◌≡◌, length}
use Rattle.site.specs.Beginnings.{AreNew}
use Rattle.test_sites.proofs.threads.sites.outside.Given as goal

abbrev pub invariant-loop-shelf : goal.invariant-loop-shelf
invariant-loop-shelf l = (length l.disks.items ≡ l.shelf) × (length l.sources.items ≡ l.shelf) × AreNew l.disks.items
