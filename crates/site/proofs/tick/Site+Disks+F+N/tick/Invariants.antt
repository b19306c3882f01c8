use Rattle.std.proofs.Common.{◌≡◌, ◌≤◌, length}
use Rattle.std.specs.Vec.{vec_len, vec_capacity}
use Rattle.disk_trio.specs.Trio.{trio_view}
use Rattle.disk_trio.specs.declared.trio.Disks.{Disks}
use Rattle.site.specs.Sites.{IsOwn, TicksSoFar}
use Rattle.site.proofs.tick.Site+Disks+F+N.tick.Given as goal

abbrev pub invariant-loop-shelf : goal.invariant-loop-shelf
invariant-loop-shelf g l =
    IsOwn {D = Disks g.row.F.Denot g.F.Disk} {N = g.row.N.Denot} l.fn.self l.pass
    × TicksSoFar {D = Disks g.row.F.Denot g.F.Disk} {N = g.row.N.Denot} trio_view g.F.Disk.tells g.N.Nonces.nonce l.fn.pass l.fn.tick l.answers.items l.pass
    × (vec_len l.answers ≡ l.shelf)
    × (length l.answers.items ≡ l.shelf)
    × (length l.fn.self.row.homes ≤ vec_capacity l.answers)
