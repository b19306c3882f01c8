use Rattle.std.proofs.Common.{◌≡◌, ◌∙◌, ◌≤◌, ◌+◌, Err, ap, arith, rules, subst, sym}
use Rattle.web_outside.specs.Causes.{Rose}
use Rattle.play_steps.specs.declared.stage.Reopen.{Reopen}
use Rattle.play_steps.specs.declared.stage.Reopen.TheVariants.{Disk}
use Rattle.script_nodes.specs.Views.{scripts_of}
use Rattle.web_disk.specs.View.{AreAmong}
use Rattle.shelf.specs.Owning.{IsOwnImage, StandsOwn}
use Rattle.shelf.specs.Views.{book_in, rules_of}
use Rattle.shelf.proofs.Owned.{images_own}
use Rattle.shelf.specs.declared.rules.Rules.{Rules}
use Rattle.disk_trio.specs.Trio.{trio_view}
use Rattle.disk_trio.specs.Laws.{reads_left}
use Rattle.trio_rack.specs.Trios.{shelves_of}
use Rattle.play_desk.specs.Opening.{Finds, LeavesNoRoom, StandsLost, left_on}
use Rattle.play_desk.proofs.Reopening.{lost_among, none_other, now_on, own_among, reopened_ok, tells_room, undamaged}
use Rattle.play_desk.proofs.opening.reopened.Goals as goal

pub returns-clause-crashed : goal.returns-clause-crashed
returns-clause-crashed g c rack_tells disk_tells own =
    let scripts = scripts_of c.args.setup.now in
    let old = c.args.shelf in
    let images = (trio_view c.in_ok-disks.disks).images in
    let held = subst (λ (r : Rules). AreAmong images ((shelves_of (g.R.Rack.view c.put_back-nonces.new.rack)).holds r.number)) c.rules-rules.ensures.rules (c.in_ok-disks.ensures.images rack_tells) in
    reopened_ok trio_view c.a_reopened_shelf_has_crashed.ensures scripts old (own.own disk_tells).stands images
    (λ image here. c.put_back-nonces.ensures.images rack_tells disk_tells image (held image here)) c.begun.result
    (subst (λ (r : Rules). Finds trio_view scripts r.number images c.begun.result) c.rules-rules.ensures.rules (c.begun.ensures.found disk_tells (now_on (trio_view old.journal.disk) (trio_view c.in_ok-disks.disks) (c.requires.in_order.knows.images disk_tells)
    (λ image here. c.put_back-nonces.ensures.images rack_tells disk_tells image (held image here))
    (reads_left g.F.Disk g.met.F.Disk.reads_image c.in_ok-disks.disks disk_tells))))

-- where there is no room for the setup, it is told of the book
pub returns-clause-room : goal.returns-clause-room
returns-clause-room g c rack_tells disk_tells own =
    let scripts = scripts_of c.args.setup.now in
    let old = c.args.shelf in
    let images = (trio_view c.in_ok-disks.disks).images in
    let held = subst (λ (r : Rules). AreAmong images ((shelves_of (g.R.Rack.view c.put_back-nonces.new.rack)).holds r.number)) c.rules-rules.ensures.rules (c.in_ok-disks.ensures.images rack_tells) in
    let holds = (shelves_of (g.R.Rack.view c.begun.new.rack)).holds in
    tells_room trio_view c.images_make_books.ensures c.a_reopened_shelf_has_crashed.ensures scripts old (own.own disk_tells).stands images
    (λ image here. c.put_back-nonces.ensures.images rack_tells disk_tells image (held image here)) c.begun.result
    (subst (λ (r : Rules). Finds trio_view scripts r.number images c.begun.result) c.rules-rules.ensures.rules (c.begun.ensures.found disk_tells (now_on (trio_view old.journal.disk) (trio_view c.in_ok-disks.disks) (c.requires.in_order.knows.images disk_tells)
    (λ image here. c.put_back-nonces.ensures.images rack_tells disk_tells image (held image here))
    (reads_left g.F.Disk g.met.F.Disk.reads_image c.in_ok-disks.disks disk_tells))))
    (holds old.rules.number)
    (subst (λ (r : Rules). LeavesNoRoom scripts r.number (holds r.number) c.begun.result) c.rules-rules.ensures.rules
    (c.begun.ensures.full rack_tells disk_tells))

-- what is read of the disk is one of its images, which are own
pub returns-clause-own : goal.returns-clause-own
returns-clause-own g c rack_tells disk_tells own =
    let scripts = scripts_of c.args.setup.now in
    let old = c.args.shelf in
    let disk = trio_view c.in_ok-disks.disks in
    let held = subst (λ (r : Rules). AreAmong disk.images ((shelves_of (g.R.Rack.view c.put_back-nonces.new.rack)).holds r.number)) c.rules-rules.ensures.rules (c.in_ok-disks.ensures.images rack_tells) in
    let seen = c.put_back-nonces.ensures.images rack_tells disk_tells disk.seen (held disk.seen (reads_left g.F.Disk g.met.F.Disk.reads_image c.in_ok-disks.disks disk_tells)) in
    c.begun.ensures.own disk_tells
    (subst (λ (r : Rules). IsOwnImage r.number disk.seen) (sym c.rules-rules.ensures.rules)
    (images_own old.rules.number (trio_view old.journal.disk) disk.seen (own.own disk_tells).images seen))

pub returns-clause-damaged : goal.returns-clause-damaged
returns-clause-damaged g c rack_tells disk_tells =
    let scripts = scripts_of c.args.setup.now in
    let old = c.args.shelf in
    let images = (trio_view c.in_ok-disks.disks).images in
    let held = subst (λ (r : Rules). AreAmong images ((shelves_of (g.R.Rack.view c.put_back-nonces.new.rack)).holds r.number)) c.rules-rules.ensures.rules (c.in_ok-disks.ensures.images rack_tells) in
    undamaged trio_view c.images_make_books.ensures scripts old.rules.number old.journal.disk (book_in trio_view old)
    (c.requires.in_order.fit disk_tells).stands images
    (λ image here. c.put_back-nonces.ensures.images rack_tells disk_tells image (held image here)) c.begun.result
    (subst (λ (r : Rules). Finds trio_view scripts r.number images c.begun.result) c.rules-rules.ensures.rules (c.begun.ensures.found disk_tells (now_on (trio_view old.journal.disk) (trio_view c.in_ok-disks.disks) (c.requires.in_order.knows.images disk_tells)
    (λ image here. c.put_back-nonces.ensures.images rack_tells disk_tells image (held image here))
    (reads_left g.F.Disk g.met.F.Disk.reads_image c.in_ok-disks.disks disk_tells))))

pub returns-clause-other : goal.returns-clause-other
returns-clause-other g c rack_tells disk_tells =
    let scripts = scripts_of c.args.setup.now in
    let old = c.args.shelf in
    let images = (trio_view c.in_ok-disks.disks).images in
    let held = subst (λ (r : Rules). AreAmong images ((shelves_of (g.R.Rack.view c.put_back-nonces.new.rack)).holds r.number)) c.rules-rules.ensures.rules (c.in_ok-disks.ensures.images rack_tells) in
    none_other trio_view c.images_make_books.ensures scripts old.rules.number old.journal.disk (book_in trio_view old)
    (c.requires.in_order.fit disk_tells).stands images
    (λ image here. c.put_back-nonces.ensures.images rack_tells disk_tells image (held image here)) c.begun.result
    (subst (λ (r : Rules). Finds trio_view scripts r.number images c.begun.result) c.rules-rules.ensures.rules (c.begun.ensures.found disk_tells (now_on (trio_view old.journal.disk) (trio_view c.in_ok-disks.disks) (c.requires.in_order.knows.images disk_tells)
    (λ image here. c.put_back-nonces.ensures.images rack_tells disk_tells image (held image here))
    (reads_left g.F.Disk g.met.F.Disk.reads_image c.in_ok-disks.disks disk_tells))))

-- the disk was not taken again
pub returns-in_err-disks-clause-left : goal.returns-in_err-disks-clause-left
returns-in_err-disks-clause-left g c rack_tells disk_tells own =
    let old = c.args.shelf in
    let scripts = scripts_of c.args.setup.now in
    let why = c.in_err-disks.field-0.0 in
    let told : c.from_residual.result ≡ Err why = search rules in
    let mid = (shelves_of (g.R.Rack.view c.put_back-nonces.new.rack)).holds in
    let new = (shelves_of (g.R.Rack.view c.taken.new.rack)).holds in
    let left = subst (λ (l : Rules). AreAmong (new l.number) (mid l.number)) c.rules-rules.ensures.rules (c.in_err-disks.ensures.left rack_tells) in
    rw told (lost_among (rules_of old.rules) scripts old.rules.number (trio_view old.journal.disk)
    ((shelves_of (g.R.Rack.view c.taken.new.rack)).holds old.rules.number) (book_in trio_view old) (own.own disk_tells)
    (λ image h. c.put_back-nonces.ensures.images rack_tells disk_tells image (left image h)))

-- the shelf was opened on it or not
pub returns-clause-left : goal.returns-clause-left
returns-clause-left g c rack_tells disk_tells own =
    let old = c.args.shelf in
    let scripts = scripts_of c.args.setup.now in
    let r = rules_of old.rules in
    let b = book_in trio_view old in
    let disk = trio_view c.in_ok-disks.disks in
    let holds = (shelves_of (g.R.Rack.view c.begun.new.rack)).holds in
    let held = subst (λ (l : Rules). AreAmong disk.images ((shelves_of (g.R.Rack.view c.put_back-nonces.new.rack)).holds l.number)) c.rules-rules.ensures.rules (c.in_ok-disks.ensures.images rack_tells) in
    let here = own_among r old.rules.number (trio_view old.journal.disk) disk b (own.own disk_tells)
    (λ image h. c.put_back-nonces.ensures.images rack_tells disk_tells image (held image h)) in
    subst (λ (l : Rules). StandsLost r scripts l.number (left_on trio_view l.number holds c.begun.result) b) c.rules-rules.ensures.rules
    (c.begun.ensures.left rack_tells disk_tells (now_on (trio_view old.journal.disk) (trio_view c.in_ok-disks.disks) (c.requires.in_order.knows.images disk_tells)
    (λ image here. c.put_back-nonces.ensures.images rack_tells disk_tells image (held image here))
    (reads_left g.F.Disk g.met.F.Disk.reads_image c.in_ok-disks.disks disk_tells)) r b
    (subst (λ (l : Rules). StandsOwn r l.number disk b) (sym c.rules-rules.ensures.rules) here))

-- the count of its number rose over what its disk had failed
pub returns-in_err-disks-clause-here : goal.returns-in_err-disks-clause-here
returns-in_err-disks-clause-here g c is =
    let why = c.in_err-disks.field-0.0 in
    let told : c.from_residual.result ≡ Err why = search rules in
    let same = sym told ∙ is in
    let mid = (shelves_of (g.R.Rack.view c.put_back-nonces.new.rack)).failed in
    let new = (shelves_of (g.R.Rack.view c.taken.new.rack)).failed in
    let failed = c.in_err-disks.ensures.disk (let e : why ≡ Disk = cc in ap (λ (w : Reopen). Err w) e) in
    let here = subst (λ (l : Rules). Rose (mid l.number) (new l.number)) c.rules-rules.ensures.rules failed.here in
    let counted = c.put_back-nonces.ensures.counted in
    omega (arith, here, counted)

pub returns-clause-here : goal.returns-clause-here
returns-clause-here g c is =
    let mid = (shelves_of (g.R.Rack.view c.put_back-nonces.new.rack)).failed in
    let taken = (shelves_of (g.R.Rack.view c.taken.new.rack)).failed in
    let new = (shelves_of (g.R.Rack.view c.begun.new.rack)).failed in
    let faults = (trio_view c.in_ok-disks.disks).faults in
    let here = subst (λ (l : Rules). Rose (taken l.number + faults) (new l.number)) c.rules-rules.ensures.rules (c.begun.ensures.here is) in
    let up = subst (λ (l : Rules). mid l.number ≤ taken l.number) c.rules-rules.ensures.rules c.in_ok-disks.ensures.rack.leaves.failed in
    let counted = c.put_back-nonces.ensures.counted in
    omega (arith, here, up, counted)
