use Rattle.std.proofs.Common.{◌≡◌, ◌≤◌, ◌∙◌, ◌+◌, ap, sym, subst, List, length, map, option_map, slice_get, Err}
use Rattle.web_outside.specs.Causes.{Rose}
use Rattle.script_nodes.specs.Views.{library_of, scripts_of}
use Rattle.web_outside.specs.declared.nonces.Counting.{Counting}
use Rattle.shelf.specs.declared.shelf.Shelf.{Shelf}
use Rattle.std.specs.Prelude.{insert}
use Rattle.std.proofs.lemmas.List.{length-map, length-set}
use Rattle.std.proofs.lemmas.Option.{same_Some}
use Rattle.shelf.specs.Visits.{instance_of, ticket_of}
use Rattle.play_steps.specs.Rules.{Comes}
use Rattle.play_steps.specs.declared.stage.Reopen.{Reopen}
use Rattle.play_steps.specs.declared.stage.Reopen.TheVariants.{Disk}
use Rattle.disk_trio.specs.Trio.{trio_view}
use Rattle.disk_trio.specs.declared.trio.Disks.{Disks}
use Rattle.trio_rack.specs.Trios.{shelves_of}
use Rattle.play_desk.specs.Desk.{desk_crash, is_fault, without_shelf}
use Rattle.shelf.specs.Views.{book_in, rules_of}
use Rattle.play_desk.specs.Opening.{StandsLost, TellsRoom}
use Rattle.play_desk.specs.Staff.{AreFit, AreLow, AreOwn, HaveOwnNumbers, IsHome, KeepsOthers, desk_with, faults_in, total}
use Rattle.play_desk.proofs.Asking.{first_goes_on}
use Rattle.play_desk.proofs.Places.{at_index}
use Rattle.play_desk.proofs.Fitting.{fit_crash, low_numbers, own_numbers}
use Rattle.play_desk.proofs.Owning.{own_crash}
use Rattle.play_desk.proofs.Removing.{put_in, still_in, taken_out}
use Rattle.play_desk.proofs.Outage.{crash_comes, home_out, home_set, low_out, own_numbers_out, rises_out, stays_out, stays_set}
use Rattle.play_desk.proofs.crashing.reopen_at.Goals as goal

pub reopened-requires-clause-in_order : goal.reopened-requires-clause-in_order
reopened-requires-clause-in_order g c =
    c.requires.fit.in_order c.args.place c.remove-shelf.result
    (at_index c.args.staff.now.shelves.items c.args.place c.remove-shelf.result c.remove-shelf.result c.requires.place c.remove-shelf.ensures.value)

pub returns-in-Err-clause-numbers : goal.returns-in-Err-clause-numbers
returns-in-Err-clause-numbers g c =
    let xs = c.args.staff.now.shelves.items in
    let k = c.args.place in
    let left = c.remove-shelf.ensures.by_index.2 ∙ taken_out xs k c.requires.place in
    subst (λ (ys : List (Shelf (Disks g.row.F.Denot g.F.Disk) Counting)). HaveOwnNumbers ys) (sym left) (own_numbers_out xs k (own_numbers xs c.requires.fit.numbers))

pub returns-in-Err-clause-low : goal.returns-in-Err-clause-low
returns-in-Err-clause-low g c =
    let xs = c.args.staff.now.shelves.items in
    let k = c.args.place in
    let left = c.remove-shelf.ensures.by_index.2 ∙ taken_out xs k c.requires.place in
    subst (λ (ys : List (Shelf (Disks g.row.F.Denot g.F.Disk) Counting)). AreLow ys) (sym left)
    (low_out xs k (low_numbers xs c.requires.fit.numbers c.requires.fit.few))

pub returns-in-Err-clause-home : goal.returns-in-Err-clause-home
returns-in-Err-clause-home g c =
    let xs = c.args.staff.now.shelves.items in
    let k = c.args.place in
    let x = c.remove-shelf.result in
    let here = at_index xs k x x c.requires.place c.remove-shelf.ensures.value in
    let left = c.remove-shelf.ensures.by_index.2 ∙ taken_out xs k c.requires.place in
    subst (λ (ys : List (Shelf (Disks g.row.F.Denot g.F.Disk) Counting)). IsHome ys (shelves_of (g.R.Rack.view c.reopened.new.rack)).out) (sym left)
    (home_out xs k x _ _ here (own_numbers xs c.requires.fit.numbers) c.requires.home c.in-Err.ensures.rack)

pub returns-in-Err-clause-disk : goal.returns-in-Err-clause-disk
returns-in-Err-clause-disk g c is =
    let xs = c.args.staff.now.shelves.items in
    let k = c.args.place in
    let x = c.remove-shelf.result in
    let here = at_index xs k x x c.requires.place c.remove-shelf.ensures.value in
    let left = c.remove-shelf.ensures.by_index.2 ∙ taken_out xs k c.requires.place in
    subst (λ (ys : List (Shelf (Disks g.row.F.Denot g.F.Disk) Counting)). Rose (total (g.R.Rack.view c.args.rack.now).faults (faults_in trio_view xs)) (total (g.R.Rack.view c.reopened.new.rack).faults (faults_in trio_view ys))) (sym left)
    (rises_out trio_view xs k x _ _ here (c.in-Err.ensures.disk (let e : c.in-Err.why ≡ Disk = cc in ap (λ (w : Reopen). Err w) e)))

pub returns-in-Err-clause-later : goal.returns-in-Err-clause-later
returns-in-Err-clause-later g c =
    let xs = c.args.staff.now.shelves.items in
    let k = c.args.place in
    let x = c.remove-shelf.result in
    let here = at_index xs k x x c.requires.place c.remove-shelf.ensures.value in
    let left = c.remove-shelf.ensures.by_index.2 ∙ taken_out xs k c.requires.place in
    subst (λ (ys : List (Shelf (Disks g.row.F.Denot g.F.Disk) Counting)). total (g.R.Rack.view c.args.rack.now).faults (faults_in trio_view xs) ≤ total (g.R.Rack.view c.reopened.new.rack).faults (faults_in trio_view ys)) (sym left)
    (stays_out trio_view xs k x _ _ here c.in-Err.ensures.later)

pub returns-in-Ok-insert-clause-fit : goal.returns-in-Ok-insert-clause-fit
returns-in-Ok-insert-clause-fit g c =
    let s = c.args.staff.now in
    let xs = s.shelves.items in
    let k = c.args.place in
    let x = c.remove-shelf.result in
    let y = c.in-Ok.shelf in
    let scripts = scripts_of c.args.setup.now in
    let here = at_index xs k x x c.requires.place c.remove-shelf.ensures.value in
    let left = c.remove-shelf.ensures.by_index.2 ∙ taken_out xs k c.requires.place in
    let now = c.in-Ok-insert.ensures.items ∙ ap (λ (ys : List (Shelf (Disks g.row.F.Denot g.F.Disk) Counting)). insert ys k y) left ∙ put_in xs k y c.requires.place in
    let kept = subst (λ n. KeepsOthers n k s.tickets c.lose_tickets.new.tickets) (c.len-count.ensures ∙ s.shelves.ok.0) c.lose_tickets.ensures.kept in
    subst (λ (ys : List (Shelf (Disks g.row.F.Denot g.F.Disk) Counting)). AreFit trio_view g.F.Disk.tells ys c.lose_tickets.new.tickets) (sym now)
    (fit_crash trio_view g.F.Disk.tells xs s.tickets c.lose_tickets.new.tickets k x y c.requires.fit here c.in-Ok.ensures.in_order
    c.in-Ok.ensures.rules c.lose_tickets.ensures.workers kept)

pub returns-in-Ok-insert-clause-own : goal.returns-in-Ok-insert-clause-own
returns-in-Ok-insert-clause-own g c rack_tells disk_tells own =
    let s = c.args.staff.now in
    let xs = s.shelves.items in
    let k = c.args.place in
    let x = c.remove-shelf.result in
    let y = c.in-Ok.shelf in
    let scripts = scripts_of c.args.setup.now in
    let here = at_index xs k x x c.requires.place c.remove-shelf.ensures.value in
    let left = c.remove-shelf.ensures.by_index.2 ∙ taken_out xs k c.requires.place in
    let now = c.in-Ok-insert.ensures.items ∙ ap (λ (ys : List (Shelf (Disks g.row.F.Denot g.F.Disk) Counting)). insert ys k y) left ∙ put_in xs k y c.requires.place in
    let kept = subst (λ n. KeepsOthers n k s.tickets c.lose_tickets.new.tickets) (c.len-count.ensures ∙ s.shelves.ok.0) c.lose_tickets.ensures.kept in
    subst (λ (ys : List (Shelf (Disks g.row.F.Denot g.F.Disk) Counting)). AreOwn trio_view g.F.Disk.tells ys c.lose_tickets.new.tickets) (sym now)
    (own_crash trio_view g.F.Disk.tells xs s.tickets c.lose_tickets.new.tickets k x y own here
    (c.in-Ok.ensures.own rack_tells disk_tells (own.own k x here)) kept)

pub returns-in-Ok-insert-clause-home : goal.returns-in-Ok-insert-clause-home
returns-in-Ok-insert-clause-home g c =
    let xs = c.args.staff.now.shelves.items in
    let k = c.args.place in
    let x = c.remove-shelf.result in
    let y = c.in-Ok.shelf in
    let here = at_index xs k x x c.requires.place c.remove-shelf.ensures.value in
    let left = c.remove-shelf.ensures.by_index.2 ∙ taken_out xs k c.requires.place in
    let now = c.in-Ok-insert.ensures.items ∙ ap (λ (ys : List (Shelf (Disks g.row.F.Denot g.F.Disk) Counting)). insert ys k y) left ∙ put_in xs k y c.requires.place in
    subst (λ (ys : List (Shelf (Disks g.row.F.Denot g.F.Disk) Counting)). IsHome ys (shelves_of (g.R.Rack.view c.reopened.new.rack)).out) (sym now)
    (home_set xs k x y (g.R.Rack.view c.args.rack.now) (g.R.Rack.view c.reopened.new.rack) here c.in-Ok.ensures.rules c.requires.home c.in-Ok.ensures.rack)

pub returns-in-Ok-insert-clause-later : goal.returns-in-Ok-insert-clause-later
returns-in-Ok-insert-clause-later g c =
    let xs = c.args.staff.now.shelves.items in
    let k = c.args.place in
    let x = c.remove-shelf.result in
    let y = c.in-Ok.shelf in
    let here = at_index xs k x x c.requires.place c.remove-shelf.ensures.value in
    let left = c.remove-shelf.ensures.by_index.2 ∙ taken_out xs k c.requires.place in
    let now = c.in-Ok-insert.ensures.items ∙ ap (λ (ys : List (Shelf (Disks g.row.F.Denot g.F.Disk) Counting)). insert ys k y) left ∙ put_in xs k y c.requires.place in
    subst (λ (ys : List (Shelf (Disks g.row.F.Denot g.F.Disk) Counting)). total (g.R.Rack.view c.args.rack.now).faults (faults_in trio_view xs) ≤ total (g.R.Rack.view c.reopened.new.rack).faults (faults_in trio_view ys)) (sym now)
    (stays_set trio_view xs k x y _ _ here c.in-Ok.ensures.later)

pub returns-in-Ok-insert-clause-step : goal.returns-in-Ok-insert-clause-step
returns-in-Ok-insert-clause-step g c rack_tells disk_tells own =
    let s = c.args.staff.now in
    let xs = s.shelves.items in
    let k = c.args.place in
    let x = c.remove-shelf.result in
    let y = c.in-Ok.shelf in
    let scripts = scripts_of c.args.setup.now in
    let here = at_index xs k x x c.requires.place c.remove-shelf.ensures.value in
    let left = c.remove-shelf.ensures.by_index.2 ∙ taken_out xs k c.requires.place in
    let now = c.in-Ok-insert.ensures.items ∙ ap (λ (ys : List (Shelf (Disks g.row.F.Denot g.F.Disk) Counting)). insert ys k y) left ∙ put_in xs k y c.requires.place in
    let held = subst (λ n. map (option_map ticket_of) c.lose_tickets.new.tickets ≡ without_shelf n k 0 (map (option_map ticket_of) s.tickets))
    (c.len-count.ensures ∙ s.shelves.ok.0) c.lose_tickets.ensures.held in
    subst (λ (ys : List (Shelf (Disks g.row.F.Denot g.F.Disk) Counting)). Comes is_fault ⊥ (desk_crash (desk_with trio_view scripts xs s.tickets) k) (desk_with trio_view scripts xs s.tickets) c.live-live.result
    (desk_with trio_view scripts ys c.lose_tickets.new.tickets)) (sym now)
    (crash_comes trio_view scripts xs s.tickets c.lose_tickets.new.tickets k c.live-live.result x y here (c.in-Ok.ensures.crashed rack_tells disk_tells (own.own k x here))
    c.in-Ok.ensures.rules c.in-Ok.ensures.nonces (length-map y.book.instances.things.items (instance_of (library_of y.library).all) ∙ sym c.live-live.ensures) held)

pub returns-in-Ok-insert-clause-count : goal.returns-in-Ok-insert-clause-count
returns-in-Ok-insert-clause-count g c =
    let xs = c.args.staff.now.shelves.items in
    let k = c.args.place in
    let y = c.in-Ok.shelf in
    let left = c.remove-shelf.ensures.by_index.2 ∙ taken_out xs k c.requires.place in
    let now = c.in-Ok-insert.ensures.items ∙ ap (λ (ys : List (Shelf (Disks g.row.F.Denot g.F.Disk) Counting)). insert ys k y) left ∙ put_in xs k y c.requires.place in
    ap length now ∙ length-set xs k y

-- ---- a shelf that is not opened again

pub returns-in-Err-clause-here : goal.returns-in-Err-clause-here
returns-in-Err-clause-here g c is s at =
    let xs = c.args.staff.now.shelves.items in
    let k = c.args.place in
    let x = c.remove-shelf.result in
    let here = at_index xs k x x c.requires.place c.remove-shelf.ensures.value in
    let old = (shelves_of (g.R.Rack.view c.args.rack.now)).failed in
    let new = (shelves_of (g.R.Rack.view c.reopened.new.rack)).failed in
    subst (λ (z : Shelf (Disks g.row.F.Denot g.F.Disk) Counting). Rose (old z.rules.number + (trio_view z.journal.disk).faults) (new z.rules.number)) (same_Some x s (sym here ∙ at))
    (c.in-Err.ensures.here (let e : c.in-Err.why ≡ Disk = cc in ap (λ (w : Reopen). Err w) e))

pub returns-in-Err-clause-gone : goal.returns-in-Err-clause-gone
returns-in-Err-clause-gone g c s at =
    let xs = c.args.staff.now.shelves.items in
    let k = c.args.place in
    let x = c.remove-shelf.result in
    let here = at_index xs k x x c.requires.place c.remove-shelf.ensures.value in
    ap (λ (z : Shelf (Disks g.row.F.Denot g.F.Disk) Counting). (shelves_of (g.R.Rack.view c.reopened.new.rack)).out z.rules.number) (sym (same_Some x s (sym here ∙ at)))
    ∙ c.in-Err.ensures.rack.home

pub returns-in-Err-clause-others : goal.returns-in-Err-clause-others
returns-in-Err-clause-others g c i s other at =
    let xs = c.args.staff.now.shelves.items in
    let k = c.args.place in
    let left = c.remove-shelf.ensures.by_index.2 ∙ taken_out xs k c.requires.place in
    let there = still_in xs k i s other at in
    (there.0, ap (λ (ys : List (Shelf (Disks g.row.F.Denot g.F.Disk) Counting)). slice_get ys there.0) left ∙ there.1)

pub returns-in-Err-clause-left : goal.returns-in-Err-clause-left
returns-in-Err-clause-left g c rack_tells disk_tells own s at =
    let scripts = scripts_of c.args.setup.now in
    let xs = c.args.staff.now.shelves.items in
    let k = c.args.place in
    let x = c.remove-shelf.result in
    let here = at_index xs k x x c.requires.place c.remove-shelf.ensures.value in
    let holds = (shelves_of (g.R.Rack.view c.reopened.new.rack)).holds in
    subst (λ (z : Shelf (Disks g.row.F.Denot g.F.Disk) Counting). StandsLost (rules_of z.rules) scripts z.rules.number (holds z.rules.number) (book_in trio_view z))
    (same_Some x s (sym here ∙ at)) (c.in-Err.ensures.left rack_tells disk_tells (own.own k x here))

pub returns-in-Err-clause-room : goal.returns-in-Err-clause-room
returns-in-Err-clause-room g c rack_tells disk_tells own s at =
    let scripts = scripts_of c.args.setup.now in
    let xs = c.args.staff.now.shelves.items in
    let k = c.args.place in
    let x = c.remove-shelf.result in
    let here = at_index xs k x x c.requires.place c.remove-shelf.ensures.value in
    let holds = (shelves_of (g.R.Rack.view c.reopened.new.rack)).holds in
    subst (λ (z : Shelf (Disks g.row.F.Denot g.F.Disk) Counting). TellsRoom (rules_of z.rules) scripts z.rules.number (holds z.rules.number) (book_in trio_view z) c.in-Err.why)
    (same_Some x s (sym here ∙ at)) (c.in-Err.ensures.room rack_tells disk_tells (own.own k x here))

-- ---- what was asked for first

pub returns-in-Ok-insert-clause-asked : goal.returns-in-Ok-insert-clause-asked
returns-in-Ok-insert-clause-asked g c =
    first_goes_on c.remove-shelf.result.rules.number (g.R.Rack.view c.args.rack.now) (g.R.Rack.view c.reopened.new.rack) c.in-Ok.ensures.asked

pub returns-in-Err-clause-asked : goal.returns-in-Err-clause-asked
returns-in-Err-clause-asked g c =
    first_goes_on c.remove-shelf.result.rules.number (g.R.Rack.view c.args.rack.now) (g.R.Rack.view c.reopened.new.rack) c.in-Err.ensures.asked
