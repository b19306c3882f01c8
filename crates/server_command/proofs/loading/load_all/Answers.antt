use Rattle.std.proofs.Common.{◌≡◌, ◌≤◌, ◌^◌, Err, inl, inr, refl, subst, List, arith, rules}
use Rattle.std.specs.Prelude.{◌&&◌}
use Rattle.std.proofs.lemmas.List.{length-map}
use Rattle.trio_rack.specs.Trios.{shelves_of}
use Rattle.lock_row.proofs.Places.{map_get}
use Rattle.disk_trio.specs.Trio.{trio_view}
use Rattle.trio_rack.proofs.Homes.{disks_home, shelves_home}
use Rattle.script_nodes.specs.Setup.{Named}
use Rattle.replay_spec.specs.Runs.{Shelf}
use Rattle.script_nodes.specs.Views.{scripts_of}
use Rattle.play_steps.specs.declared.performing.Halt.TheVariants.{Memory, Reopen}
use Rattle.play_desk.specs.Asking.{AsksForAll, AsksUntil}
use Rattle.play_desk.specs.Opening.{AllStayKept, IsClosedBy, IsLeft}
use Rattle.play_desk.proofs.Asking.{asked_through}
use Rattle.play_desk.proofs.Closing.{left_home}
use Rattle.play_steps.specs.declared.stage.Reopen.TheVariants as again
use Rattle.play_desk.specs.Staff.{desk_of, faults_in, shelf_at, total}
use Rattle.server_command.specs.Output.{sinks_of}
use Rattle.server_command.specs.Racks.{racks_of}
use Rattle.server_command.proofs.Loads.{again_leaves, error_is, first_leaves, loaded_by, lost_if, measure_leaves, memory_leaves, short_if, untouched}
use Rattle.server_command.proofs.Openings.{both_tell}
use Rattle.server_command.proofs.Orders.{measure_asked, memory_asked, unopened_asked, until_own}
use Rattle.server_command.proofs.Playing.{Begins}
use Rattle.server_command.proofs.Runs.{begins}
use Rattle.server_command.proofs.loading.load_all.Goals as goal

pub returns-in_default-clause-leaves : goal.returns-in_default-clause-leaves
returns-in_default-clause-leaves g c = memory_leaves _ c.args.options.now _ _ _ _ _ c.no_memory.ensures.status c.no_memory.ensures.line
    (λ t. untouched _ _ c.args.options.now)

pub load-end-requires-clause-some : goal.load-end-requires-clause-some
load-end-requires-clause-some g c =
    let shelves = c.in-Ok-open_desk.desk.staff.shelves.items in
    let as_many = length-map shelves (shelf_at (trio_view {G = g.D.Disk})) in
    omega (arith, as_many, c.in-Ok-open_desk.ensures.count, c.rules_of-rules.ensures.asked.shelves, c.requires.range.options.shelves.0)

pub returns-in-Err-clause-leaves : goal.returns-in-Err-clause-leaves
returns-in-Err-clause-leaves g c =
    let rack = racks_of (g.R.Rack.tells && g.D.Disk.tells) (g.R.Rack.view c.args.rack.now) (g.R.Rack.view c.open_desk.new.rack) in
    let fault = c.in-Err.fault in
    let old = g.O.Sink.view c.args.output.now in
    let new = g.O.Sink.view c.tell_unopened.new.output in
    first_leaves rack c.args.options.now fault.shelf fault.why c.tell_unopened.result old.written new.written old.faults new.faults
    (λ t. let b = both_tell g.R.Rack.tells g.D.Disk.tells t in
    subst (λ n. IsClosedBy rack.before n fault.shelf fault.why) c.rules_of-rules.ensures.asked.shelves (c.in-Err.ensures.closed b.0 b.1))
    c.in-Err.ensures.disk
    (λ t. let b = both_tell g.R.Rack.tells g.D.Disk.tells t in
    subst (λ (ss : List Named). AllStayKept ss (shelves_of rack.before).holds (shelves_of rack.after).holds fault.shelf fault.why) c.in-Ok.ensures.scripts (c.in-Err.ensures.keeps b.0 b.1))
    (until_own _ _ _ _ c.in-Err.ensures.asked_until) c.in-Err.ensures.asked_shut c.in-Err.ensures.later
    c.tell_unopened.ensures.tells

pub returns-in-Ok-end-clause-leaves : goal.returns-in-Ok-end-clause-leaves
returns-in-Ok-end-clause-leaves g c =
    let l = c.args.options.now in
    let rack = racks_of (g.R.Rack.tells && g.D.Disk.tells) (g.R.Rack.view c.args.rack.now) (g.R.Rack.view c.close.new.rack) in
    let first = c.in-Ok-open_desk.desk in
    let last = c.load-end.new.stage in
    measure_leaves rack l c.in-Ok-end.measure c.tell_measure.result (sinks_of (g.O.Sink.view c.args.output.now) (g.O.Sink.view c.tell_measure.new.output))
    (λ t. let b = both_tell g.R.Rack.tells g.D.Disk.tells t in
    loaded_by rack l (IsLeft (g.R.Rack.view c.load-end.new.devices)) c.in-Ok-end.measure (desk_of (trio_view {G = g.D.Disk}) (scripts_of first.setup) first.staff) (desk_of (trio_view {G = g.D.Disk}) (scripts_of last.setup) last.staff)
    (total (g.R.Rack.view c.open_desk.new.rack).faults (faults_in (trio_view {G = g.D.Disk}) first.staff.shelves.items))
    (total (g.R.Rack.view c.load-end.new.devices).faults (faults_in (trio_view {G = g.D.Disk}) last.staff.shelves.items))
    (subst (λ (ss : List Named). Begins rack l.options ss (desk_of (trio_view {G = g.D.Disk}) (scripts_of first.setup) first.staff)) c.in-Ok.ensures.scripts
    (begins rack l.options (scripts_of c.in-Ok.setup) c.rules_of-rules.result (desk_of (trio_view {G = g.D.Disk}) (scripts_of first.setup) first.staff) c.rules_of-rules.ensures.asked
    (c.in-Ok-open_desk.ensures.desk b.0 b.1) (c.in-Ok-open_desk.ensures.empty b.0 b.1)
    (asked_through c.rules_of-rules.result.shelves rack.before (g.R.Rack.view c.open_desk.new.rack) (g.R.Rack.view c.load-end.new.devices) rack.after c.in-Ok-open_desk.ensures.asked c.in-Ok-end.ensures.asked c.close.ensures.asked)))
    (c.in-Ok-end.ensures.measured t (c.in-Ok-open_desk.ensures.own b.0 b.1)) (c.close.ensures.books b.0 b.1 (c.in-Ok-end.ensures.own t (c.in-Ok-open_desk.ensures.own b.0 b.1)))
    c.in-Ok-open_desk.ensures.later_open c.close.ensures.later)
    c.tell_measure.ensures.outputs

pub returns-in-Err-Memory-clause-leaves : goal.returns-in-Err-Memory-clause-leaves
returns-in-Err-Memory-clause-leaves g c =
    let l = c.args.options.now in
    let rack = racks_of (g.R.Rack.tells && g.D.Disk.tells) (g.R.Rack.view c.args.rack.now) (g.R.Rack.view c.close.new.rack) in
    let first = c.in-Ok-open_desk.desk in
    let last = c.load-end.new.stage in
    let is : c.load-end.result ≡ Err Memory = search rules in
    memory_leaves rack l _ _ _ _ _ c.no_memory-in-Err-Memory.ensures.status c.no_memory-in-Err-Memory.ensures.line
    (λ t. let b = both_tell g.R.Rack.tells g.D.Disk.tells t in
    short_if rack l (IsLeft (g.R.Rack.view c.load-end.new.devices))
    (λ d k w. left_home last.staff.shelves.items (g.R.Rack.view c.load-end.new.devices) rack.after d k w c.load-end.ensures.home c.close.ensures.others c.close.ensures.home)
    c.load-end.result (desk_of (trio_view {G = g.D.Disk}) (scripts_of first.setup) first.staff) (desk_of (trio_view {G = g.D.Disk}) (scripts_of last.setup) last.staff)
    (total (g.R.Rack.view c.open_desk.new.rack).faults (faults_in (trio_view {G = g.D.Disk}) first.staff.shelves.items))
    (total (g.R.Rack.view c.load-end.new.devices).faults (faults_in (trio_view {G = g.D.Disk}) last.staff.shelves.items)) is
    (subst (λ (ss : List Named). Begins rack l.options ss (desk_of (trio_view {G = g.D.Disk}) (scripts_of first.setup) first.staff)) c.in-Ok.ensures.scripts
    (begins rack l.options (scripts_of c.in-Ok.setup) c.rules_of-rules.result (desk_of (trio_view {G = g.D.Disk}) (scripts_of first.setup) first.staff) c.rules_of-rules.ensures.asked
    (c.in-Ok-open_desk.ensures.desk b.0 b.1) (c.in-Ok-open_desk.ensures.empty b.0 b.1)
    (asked_through c.rules_of-rules.result.shelves rack.before (g.R.Rack.view c.open_desk.new.rack) (g.R.Rack.view c.load-end.new.devices) rack.after c.in-Ok-open_desk.ensures.asked c.load-end.ensures.asked c.close.ensures.asked)))
    (λ k s e. let x = map_get (shelf_at (trio_view {G = g.D.Disk})) first.staff.shelves.items k s e in
    subst (λ (z : Shelf). z.book.length ≤ 2 ^ 30) x.2 (c.in-Ok-open_desk.ensures.sound.fit.in_order k x.0 x.1).sound)
    c.requires.range.options.shelves.0
    (c.load-end.ensures.measured t (c.in-Ok-open_desk.ensures.own b.0 b.1))
    (c.close.ensures.books b.0 b.1 (c.load-end.ensures.own t (c.in-Ok-open_desk.ensures.own b.0 b.1)))
    c.in-Ok-open_desk.ensures.later_open c.close.ensures.later)

pub returns-in-Err-Reopen-clause-leaves : goal.returns-in-Err-Reopen-clause-leaves
returns-in-Err-Reopen-clause-leaves g c =
    let l = c.args.options.now in
    let rack = racks_of (g.R.Rack.tells && g.D.Disk.tells) (g.R.Rack.view c.args.rack.now) (g.R.Rack.view c.close.new.rack) in
    let first = c.in-Ok-open_desk.desk in
    let last = c.load-end.new.stage in
    let old = g.O.Sink.view c.args.output.now in
    let new = g.O.Sink.view c.tell_unopened-in-Err-Reopen.new.output in
    let shelf = c.in-Err-Reopen.shelf in
    let why = c.in-Err-Reopen.why in
    let is : c.load-end.result ≡ Err (Reopen c.in-Err-Reopen.shelf c.in-Err-Reopen.why) = search rules in
    again_leaves rack l shelf why c.tell_unopened-in-Err-Reopen.result old.written new.written old.faults new.faults
    (λ t. let b = both_tell g.R.Rack.tells g.D.Disk.tells t in
    lost_if rack l (IsLeft (g.R.Rack.view c.load-end.new.devices))
    (λ d k w. left_home last.staff.shelves.items (g.R.Rack.view c.load-end.new.devices) rack.after d k w c.load-end.ensures.home c.close.ensures.others c.close.ensures.home)
    shelf why c.load-end.result (desk_of (trio_view {G = g.D.Disk}) (scripts_of first.setup) first.staff) (desk_of (trio_view {G = g.D.Disk}) (scripts_of last.setup) last.staff)
    (total (g.R.Rack.view c.open_desk.new.rack).faults (faults_in (trio_view {G = g.D.Disk}) first.staff.shelves.items))
    (total (g.R.Rack.view c.load-end.new.devices).faults (faults_in (trio_view {G = g.D.Disk}) last.staff.shelves.items)) is
    (subst (λ (ss : List Named). Begins rack l.options ss (desk_of (trio_view {G = g.D.Disk}) (scripts_of first.setup) first.staff)) c.in-Ok.ensures.scripts
    (begins rack l.options (scripts_of c.in-Ok.setup) c.rules_of-rules.result (desk_of (trio_view {G = g.D.Disk}) (scripts_of first.setup) first.staff) c.rules_of-rules.ensures.asked
    (c.in-Ok-open_desk.ensures.desk b.0 b.1) (c.in-Ok-open_desk.ensures.empty b.0 b.1)
    (asked_through c.rules_of-rules.result.shelves rack.before (g.R.Rack.view c.open_desk.new.rack) (g.R.Rack.view c.load-end.new.devices) rack.after c.in-Ok-open_desk.ensures.asked c.load-end.ensures.asked c.close.ensures.asked)))
    (λ k s e. let x = map_get (shelf_at (trio_view {G = g.D.Disk})) first.staff.shelves.items k s e in
    subst (λ (z : Shelf). z.book.length ≤ 2 ^ 30) x.2 (c.in-Ok-open_desk.ensures.sound.fit.in_order k x.0 x.1).sound)
    c.requires.range.options.shelves.0
    (c.load-end.ensures.measured t (c.in-Ok-open_desk.ensures.own b.0 b.1)) c.in-Ok-open_desk.ensures.later_open c.close.ensures.later)
    (λ e. let rose = c.load-end.ensures.disk shelf (error_is c.load-end.result shelf why again.Disk is e) in
    let here = c.load-end.ensures.failed shelf (error_is c.load-end.result shelf why again.Disk is e) in
    let first = c.in-Ok-open_desk.ensures.failed_later shelf in
    let last = c.close.ensures.failed_later shelf in
    record { all = omega (arith, rose, c.in-Ok-open_desk.ensures.later_open, c.close.ensures.later); here = omega (arith, here, first, last) })
    (λ e. c.load-end.ensures.bytes shelf (error_is c.load-end.result shelf why again.NotEmpty is e))
    (λ t place e. c.load-end.ensures.damaged t shelf place (error_is c.load-end.result shelf why (again.Damaged place) is e))
    (λ t place e. c.load-end.ensures.other t shelf place (error_is c.load-end.result shelf why (again.Other place) is e))
    c.tell_unopened-in-Err-Reopen.ensures.tells

-- ---- the rack after it

pub returns-in-Ok-end-clause-back : goal.returns-in-Ok-end-clause-back
returns-in-Ok-end-clause-back g c =
    record { home = disks_home (g.R.Rack.view c.close.new.rack) c.close.ensures.home; later = omega (arith, c.in-Ok-open_desk.ensures.later_open, c.in-Ok-end.ensures.later, c.close.ensures.later) }

pub returns-in-Err-Memory-clause-back : goal.returns-in-Err-Memory-clause-back
returns-in-Err-Memory-clause-back g c =
    record { home = disks_home (g.R.Rack.view c.close.new.rack) c.close.ensures.home; later = omega (arith, c.in-Ok-open_desk.ensures.later_open, c.load-end.ensures.later, c.close.ensures.later) }

pub returns-in-Err-Reopen-clause-back : goal.returns-in-Err-Reopen-clause-back
returns-in-Err-Reopen-clause-back g c =
    record { home = disks_home (g.R.Rack.view c.close.new.rack) c.close.ensures.home; later = omega (arith, c.in-Ok-open_desk.ensures.later_open, c.load-end.ensures.later, c.close.ensures.later) }

-- ---- what was asked of the rack

pub returns-in_default-clause-asked : goal.returns-in_default-clause-asked
returns-in_default-clause-asked g c = memory_asked _ c.args.options.now.options.shelves c.no_memory.result c.no_memory.ensures.status (inl refl)

pub returns-in-Err-clause-asked : goal.returns-in-Err-clause-asked
returns-in-Err-clause-asked g c =
    let rack = racks_of (g.R.Rack.tells && g.D.Disk.tells) (g.R.Rack.view c.args.rack.now) (g.R.Rack.view c.open_desk.new.rack) in
    let until = subst (λ n. AsksUntil n c.in-Err.fault.shelf rack.before rack.after) c.rules_of-rules.ensures.asked.shelves c.in-Err.ensures.asked_until in
    unopened_asked rack c.args.options.now.options.shelves c.in-Err.fault.shelf c.in-Err.fault.why c.tell_unopened.result _ c.tell_unopened.ensures.tells
    (inl (c.in-Err.fault.shelf, until))

pub returns-in-Ok-end-clause-asked : goal.returns-in-Ok-end-clause-asked
returns-in-Ok-end-clause-asked g c =
    let rack = racks_of (g.R.Rack.tells && g.D.Disk.tells) (g.R.Rack.view c.args.rack.now) (g.R.Rack.view c.close.new.rack) in
    let all = subst (λ n. AsksForAll n rack.before rack.after) c.rules_of-rules.ensures.asked.shelves
    (asked_through c.rules_of-rules.result.shelves rack.before (g.R.Rack.view c.open_desk.new.rack) (g.R.Rack.view c.load-end.new.devices) rack.after c.in-Ok-open_desk.ensures.asked c.in-Ok-end.ensures.asked c.close.ensures.asked) in
    measure_asked rack c.args.options.now.options.shelves c.in-Ok-end.measure c.tell_measure.result _ c.tell_measure.ensures.outputs all

pub returns-in-Err-Memory-clause-asked : goal.returns-in-Err-Memory-clause-asked
returns-in-Err-Memory-clause-asked g c =
    let rack = racks_of (g.R.Rack.tells && g.D.Disk.tells) (g.R.Rack.view c.args.rack.now) (g.R.Rack.view c.close.new.rack) in
    let all = subst (λ n. AsksForAll n rack.before rack.after) c.rules_of-rules.ensures.asked.shelves
    (asked_through c.rules_of-rules.result.shelves rack.before (g.R.Rack.view c.open_desk.new.rack) (g.R.Rack.view c.load-end.new.devices) rack.after c.in-Ok-open_desk.ensures.asked c.load-end.ensures.asked c.close.ensures.asked) in
    memory_asked rack c.args.options.now.options.shelves c.no_memory-in-Err-Memory.result c.no_memory-in-Err-Memory.ensures.status (inr (inr all))

pub returns-in-Err-Reopen-clause-asked : goal.returns-in-Err-Reopen-clause-asked
returns-in-Err-Reopen-clause-asked g c =
    let rack = racks_of (g.R.Rack.tells && g.D.Disk.tells) (g.R.Rack.view c.args.rack.now) (g.R.Rack.view c.close.new.rack) in
    let all = subst (λ n. AsksForAll n rack.before rack.after) c.rules_of-rules.ensures.asked.shelves
    (asked_through c.rules_of-rules.result.shelves rack.before (g.R.Rack.view c.open_desk.new.rack) (g.R.Rack.view c.load-end.new.devices) rack.after c.in-Ok-open_desk.ensures.asked c.load-end.ensures.asked c.close.ensures.asked) in
    unopened_asked rack c.args.options.now.options.shelves c.in-Err-Reopen.shelf _ c.tell_unopened-in-Err-Reopen.result _ c.tell_unopened-in-Err-Reopen.ensures.tells (inr all)

pub returns-in-Err-clause-back : goal.returns-in-Err-clause-back
returns-in-Err-clause-back g c =
    record { home = disks_home (g.R.Rack.view c.open_desk.new.rack) c.in-Err.ensures.all_home; later = c.in-Err.ensures.later }

pub open_desk-requires-clause-home : goal.open_desk-requires-clause-home
open_desk-requires-clause-home g c = shelves_home (g.R.Rack.view c.args.rack.now) c.requires.home
