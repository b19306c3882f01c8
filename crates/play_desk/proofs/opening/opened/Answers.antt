use Rattle.std.proofs.Common.{◌≡◌, ap, subst, ℕ, List, Err, rules, arith}
use Rattle.play_steps.specs.declared.stage.Reopen.{Reopen}
use Rattle.play_steps.specs.declared.stage.Reopen.TheVariants.{Disk, NotEmpty}
use Rattle.script_nodes.specs.Views.{scripts_of}
use Rattle.disk_trio.specs.Trio.{trio_view}
use Rattle.trio_rack.specs.Trios.{shelves_of}
use Rattle.play_desk.specs.Opening.{AllKept}
use Rattle.play_desk.proofs.Keeping.{all_kept_in, not_opened, unread}
use Rattle.play_desk.proofs.Reopening.{empty_is_own, rose_after}
use Rattle.play_desk.proofs.opening.opened.Goals as goal

pub returns-in-Err-clause-disk : goal.returns-in-Err-clause-disk
returns-in-Err-clause-disk g c is =
    let old = g.R.Rack.view c.args.rack.now in
    let disk = trio_view c.in_ok-disks.disks in
    let why = ap (λ (w : Reopen). Err w) (let e : c.in-Err.why ≡ Disk = cc in e) in
    let taken = c.in_ok-disks.ensures.rack.leaves.failed in
    let here = c.in-Err.ensures.here why in
    record {
      all = rose_after _ _ _ _ c.in_ok-disks.ensures.later (c.in-Err.ensures.disk why);
      here = omega (arith, taken, here);
    }

-- no record is on a disk without bytes
pub returns-in-Ok-clause-own : goal.returns-in-Ok-clause-own
returns-in-Ok-clause-own g c rack_tells disk_tells =
    c.in-Ok.ensures.own disk_tells (empty_is_own c.args.rules.number _ (c.in_ok-disks.ensures.empty rack_tells disk_tells).0)

-- nothing was lost on the disk, which is given back unread, or begun as an empty one
pub returns-in_err-disks-clause-keeps : goal.returns-in_err-disks-clause-keeps
returns-in_err-disks-clause-keeps g c rack_tells tells =
    let why = c.in_err-disks.field-0.0 in
    let told : c.from_residual.result ≡ Err why = search rules in
    rw told (unread (trio_view {G = g.F.Disk}) (scripts_of c.args.setup.now) c.args.rules.number ((shelves_of (g.R.Rack.view c.args.rack.now)).holds c.args.rules.number)
    (shelves_of (g.R.Rack.view c.taken_empty.new.rack)).holds why
    (c.in_err-disks.ensures.images rack_tells tells))

pub returns-in-Ok-clause-keeps : goal.returns-in-Ok-clause-keeps
returns-in-Ok-clause-keeps g c rack_tells tells =
    let v = trio_view {G = g.F.Disk} in
    let scripts = scripts_of c.args.setup.now in
    let n = c.args.rules.number in
    let held = (shelves_of (g.R.Rack.view c.args.rack.now)).holds n in
    let disk = c.in_ok-disks.disks in
    let images = (v c.in-Ok.shelf.journal.disk).images in
    subst (λ (read : List ℕ). AllKept scripts n held read images) (c.in_ok-disks.ensures.empty rack_tells tells).0
    (all_kept_in scripts n held (v disk).images (v disk).seen images images (c.in_ok-disks.ensures.images rack_tells tells) (λ image h. h)
    (c.in-Ok.ensures.keeps rack_tells tells))

pub returns-in-Err-clause-keeps : goal.returns-in-Err-clause-keeps
returns-in-Err-clause-keeps g c rack_tells tells =
    let v = trio_view {G = g.F.Disk} in
    let scripts = scripts_of c.args.setup.now in
    let n = c.args.rules.number in
    let held = (shelves_of (g.R.Rack.view c.args.rack.now)).holds n in
    let holds = (shelves_of (g.R.Rack.view c.begun.new.rack)).holds in
    not_opened v scripts n (v c.in_ok-disks.disks) held holds c.in-Err.why (c.in_ok-disks.ensures.empty rack_tells tells).0 (c.in_ok-disks.ensures.images rack_tells tells)
    (c.in-Err.ensures.keeps rack_tells tells)

pub returns-in-Err-clause-asked_shut : goal.returns-in-Err-clause-asked_shut
returns-in-Err-clause-asked_shut g c is =
    absurd (c.in-Err.ensures.bytes (let e : c.in-Err.why ≡ NotEmpty = cc in ap (λ (w : Reopen). Err w) e))
