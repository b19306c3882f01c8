use Rattle.std.proofs.Common.{◌≡◌, ◌≤◌, false, ◌∙◌}
use Rattle.web_disk.specs.View.{NoNewImage}
use Rattle.web_disk.specs.declared.disk.Disk.{Ghosts}
use Rattle.disk_trio.specs.Trio.{IsOnRoot, IsOnCurrent, IsOnOther, IsReadAlone}
use Rattle.disk_trio.specs.declared.trio.Disks.{Disks}
use Rattle.disk_trio.proofs.Views.{read_root_alone, read_current_alone, read_other_alone, read_then}
use Rattle.disk_trio.proofs.trio.Disks.are_empty.Goals as goal

-- a call of the root, one of the current file and one of the other, where the current one is not known
all_read : {D : Type 0} (G : Ghosts D) (d0 d1 d2 d3 : Disks D G) → d0.known ≡ false → IsOnRoot d0 d1 → IsReadAlone d0 d1
    → IsOnCurrent d1 d2 → (G.view d2.current).seen ≡ (G.view d1.current).seen → NoNewImage (G.view d1.current) (G.view d2.current) → (G.view d1.current).faults ≤ (G.view d2.current).faults
    → IsOnOther d2 d3 → (G.view d3.other).seen ≡ (G.view d2.other).seen → NoNewImage (G.view d2.other) (G.view d3.other) → (G.view d2.other).faults ≤ (G.view d3.other).faults → IsReadAlone d0 d3
all_read G d0 d1 d2 d3 unknown root first current seen images le other other_seen other_images other_le =
    let k1 = root.known ∙ unknown in
    read_then G d0 d2 d3 (read_then G d0 d1 d2 first (read_current_alone G d1 d2 current k1 seen images le)) (read_other_alone G d2 d3 other (current.known ∙ k1) other_seen other_images other_le)

pub returns-then-current-eq0-clause-read : goal.returns-then-current-eq0-clause-read
returns-then-current-eq0-clause-read g c =
    let d0 = c.args.self.now in
    let d1 = c.len_of_root.new.self in
    let root = c.len_of_root.ensures in
    let current = c.len_of_current.ensures in
    let other = c.len_of_other.ensures in
    all_read g.D.Disk d0 d1 c.len_of_current.new.self c.len_of_other.new.self c.requires.known root.alone (read_root_alone g.D.Disk d0 d1 root.alone root.seen root.images root.call.time.faults)
    current.alone current.seen current.images current.call.time.faults other.alone other.seen other.images other.call.time.faults

pub returns-else-current-eq0-clause-read : goal.returns-else-current-eq0-clause-read
returns-else-current-eq0-clause-read g c =
    let d0 = c.args.self.now in
    let d1 = c.len_of_root.new.self in
    let root = c.len_of_root.ensures in
    let current = c.len_of_current.ensures in
    let other = c.len_of_other.ensures in
    all_read g.D.Disk d0 d1 c.len_of_current.new.self c.len_of_other.new.self c.requires.known root.alone (read_root_alone g.D.Disk d0 d1 root.alone root.seen root.images root.call.time.faults)
    current.alone current.seen current.images current.call.time.faults other.alone other.seen other.images other.call.time.faults
