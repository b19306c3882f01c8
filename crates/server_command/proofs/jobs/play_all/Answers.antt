use Rattle.std.proofs.Common.{ap, inl, inr, refl, subst, arith}
use Rattle.std.specs.Prelude.{◌&&◌}
use Rattle.trio_rack.proofs.Homes.{disks_home, shelves_home}
use Rattle.script_nodes.specs.Views.{scripts_of}
use Rattle.play_steps.specs.Step.{steps_of}
use Rattle.play_steps.specs.Transcript.{bad_line, done}
use Rattle.play_steps.specs.declared.run.PlayEnd.TheVariants.{Reopen}
use Rattle.play_desk.specs.Asking.{AsksForAll, AsksUntil}
use Rattle.play_desk.specs.Opening.{IsClosedBy, IsLeft}
use Rattle.play_desk.proofs.Asking.{asked_through}
use Rattle.play_desk.proofs.Closing.{left_home}
use Rattle.server_command.specs.Racks.{racks_of}
use Rattle.measured_run.proofs.Going.{told_by}
use Rattle.server_command.proofs.Opened.{again_outputs, first_outputs}
use Rattle.server_command.proofs.Openings.{both_tell}
use Rattle.server_command.proofs.Orders.{done_asked, line_asked, memory_asked, unopened_asked, until_own}
use Rattle.server_command.proofs.Playing.{done_outputs, line_outputs, memory_outputs, write_outputs}
use Rattle.server_command.proofs.Runs.{begins, halted, lost, loses, paused, ran}
use Rattle.server_command.proofs.jobs.play_all.Goals as goal

pub returns-in-Err-clause-outputs : goal.returns-in-Err-clause-outputs
returns-in-Err-clause-outputs g c = λ bytes h.
    let o = c.args.options.now in
    let tells = g.R.Rack.tells && g.D.Disk.tells in
    let rack = racks_of tells (g.R.Rack.view c.args.rack.now) (g.R.Rack.view c.open_desk.new.rack) in
    let fault = c.in-Err.fault in
    let old = g.O.Sink.view c.args.output.now in
    let new = g.O.Sink.view c.tell_unopened.new.output in
    first_outputs rack o bytes (record { scripts = scripts_of c.args.setup; steps = c.args.steps.now }) fault.shelf fault.why c.tell_unopened.result
    old.written new.written old.faults new.faults h
    (λ t. let b = both_tell g.R.Rack.tells g.D.Disk.tells t in
    subst (λ n. IsClosedBy rack.before n fault.shelf fault.why) c.rules_of-rules.ensures.asked.shelves (c.in-Err.ensures.closed b.0 b.1))
    c.in-Err.ensures.disk
    (λ t. let b = both_tell g.R.Rack.tells g.D.Disk.tells t in c.in-Err.ensures.keeps b.0 b.1) (until_own _ _ _ _ c.in-Err.ensures.asked_until) c.in-Err.ensures.asked_shut c.in-Err.ensures.later
    c.tell_unopened.ensures.tells

pub returns-in-Done-clause-outputs : goal.returns-in-Done-clause-outputs
returns-in-Done-clause-outputs g c = λ bytes h.
    let o = c.args.options.now in
    let scripts = scripts_of c.args.setup in
    let tells = g.R.Rack.tells && g.D.Disk.tells in
    let rack = racks_of tells (g.R.Rack.view c.args.rack.now) (g.R.Rack.view c.close.new.rack) in
    let old = g.O.Sink.view c.args.output.now in
    let mid = g.O.Sink.view c.play-end.new.sink in
    let new = g.O.Sink.view c.hand_on.new.output in
    done_outputs rack o bytes (record { scripts = scripts; steps = c.args.steps.now }) c.hand_on.result old.written mid.written new.written old.faults mid.faults new.faults h
    (λ t. let b = both_tell g.R.Rack.tells g.D.Disk.tells t in
    ran rack o scripts c.args.steps.now done old.written mid.written _ _ _ _
    (begins rack o scripts c.rules_of-rules.result _ c.rules_of-rules.ensures.asked (c.in-Ok.ensures.desk b.0 b.1) (c.in-Ok.ensures.empty b.0 b.1)
    (asked_through c.rules_of-rules.result.shelves rack.before (g.R.Rack.view c.open_desk.new.rack) (g.R.Rack.view c.play-end.new.devices) rack.after c.in-Ok.ensures.asked c.in-Done.ensures.asked c.close.ensures.asked))
    (c.in-Done.ensures.ended (told_by tells (steps_of c.args.steps.now) t) (c.in-Ok.ensures.own b.0 b.1))
    (c.close.ensures.books b.0 b.1 (c.in-Done.ensures.own (told_by tells (steps_of c.args.steps.now) t) (c.in-Ok.ensures.own b.0 b.1)))
    c.in-Ok.ensures.later_open c.close.ensures.later)
    c.hand_on.ensures.same c.play-end.ensures.later c.hand_on.ensures.status

pub returns-in-Line-clause-outputs : goal.returns-in-Line-clause-outputs
returns-in-Line-clause-outputs g c = λ bytes h.
    let o = c.args.options.now in
    let scripts = scripts_of c.args.setup in
    let tells = g.R.Rack.tells && g.D.Disk.tells in
    let rack = racks_of tells (g.R.Rack.view c.args.rack.now) (g.R.Rack.view c.close.new.rack) in
    let old = g.O.Sink.view c.args.output.now in
    let mid = g.O.Sink.view c.play-end.new.sink in
    let new = g.O.Sink.view c.tell_line.new.output in
    line_outputs rack o bytes (record { scripts = scripts; steps = c.args.steps.now }) c.in-Line.number c.tell_line.result old.written mid.written new.written old.faults mid.faults new.faults h
    (λ t. let b = both_tell g.R.Rack.tells g.D.Disk.tells t in
    ran rack o scripts c.args.steps.now (bad_line c.in-Line.number) old.written mid.written _ _ _ _
    (begins rack o scripts c.rules_of-rules.result _ c.rules_of-rules.ensures.asked (c.in-Ok.ensures.desk b.0 b.1) (c.in-Ok.ensures.empty b.0 b.1)
    (asked_through c.rules_of-rules.result.shelves rack.before (g.R.Rack.view c.open_desk.new.rack) (g.R.Rack.view c.play-end.new.devices) rack.after c.in-Ok.ensures.asked c.in-Line.ensures.asked c.close.ensures.asked))
    (c.in-Line.ensures.ended (told_by tells (steps_of c.args.steps.now) t) (c.in-Ok.ensures.own b.0 b.1))
    (c.close.ensures.books b.0 b.1 (c.in-Line.ensures.own (told_by tells (steps_of c.args.steps.now) t) (c.in-Ok.ensures.own b.0 b.1)))
    c.in-Ok.ensures.later_open c.close.ensures.later)
    c.play-end.ensures.later c.tell_line.ensures.tells

pub returns-in-Write-clause-outputs : goal.returns-in-Write-clause-outputs
returns-in-Write-clause-outputs g c = λ bytes h.
    let o = c.args.options.now in
    let scripts = scripts_of c.args.setup in
    let tells = g.R.Rack.tells && g.D.Disk.tells in
    let rack = racks_of tells (g.R.Rack.view c.args.rack.now) (g.R.Rack.view c.close.new.rack) in
    let old = g.O.Sink.view c.args.output.now in
    let mid = g.O.Sink.view c.play-end.new.sink in
    write_outputs rack o bytes (record { scripts = scripts; steps = c.args.steps.now }) old.written mid.written old.faults mid.faults h
    (λ t. let b = both_tell g.R.Rack.tells g.D.Disk.tells t in
    halted rack o scripts c.args.steps.now old.written mid.written _ _ _ _
    (begins rack o scripts c.rules_of-rules.result _ c.rules_of-rules.ensures.asked (c.in-Ok.ensures.desk b.0 b.1) (c.in-Ok.ensures.empty b.0 b.1)
    (asked_through c.rules_of-rules.result.shelves rack.before (g.R.Rack.view c.open_desk.new.rack) (g.R.Rack.view c.play-end.new.devices) rack.after c.in-Ok.ensures.asked c.in-Write.ensures.asked c.close.ensures.asked))
    (c.in-Write.ensures.ended (told_by tells (steps_of c.args.steps.now) t) (c.in-Ok.ensures.own b.0 b.1))
    (c.close.ensures.books b.0 b.1 (c.in-Write.ensures.own (told_by tells (steps_of c.args.steps.now) t) (c.in-Ok.ensures.own b.0 b.1)))
    c.in-Ok.ensures.later_open c.close.ensures.later)
    (c.in-Write.ensures.write refl)

pub returns-in-Memory-clause-outputs : goal.returns-in-Memory-clause-outputs
returns-in-Memory-clause-outputs g c = λ bytes h.
    let o = c.args.options.now in
    let scripts = scripts_of c.args.setup in
    let tells = g.R.Rack.tells && g.D.Disk.tells in
    let rack = racks_of tells (g.R.Rack.view c.args.rack.now) (g.R.Rack.view c.close.new.rack) in
    let old = g.O.Sink.view c.args.output.now in
    let mid = g.O.Sink.view c.play-end.new.sink in
    let new = g.O.Sink.view c.no_memory.new.output in
    memory_outputs rack o bytes (record { scripts = scripts; steps = c.args.steps.now }) c.no_memory.result old.written mid.written new.written old.faults mid.faults new.faults h
    (λ t. let b = both_tell g.R.Rack.tells g.D.Disk.tells t in
    paused rack o scripts c.args.steps.now old.written mid.written _ _ _ _
    (begins rack o scripts c.rules_of-rules.result _ c.rules_of-rules.ensures.asked (c.in-Ok.ensures.desk b.0 b.1) (c.in-Ok.ensures.empty b.0 b.1)
    (asked_through c.rules_of-rules.result.shelves rack.before (g.R.Rack.view c.open_desk.new.rack) (g.R.Rack.view c.play-end.new.devices) rack.after c.in-Ok.ensures.asked c.in-Memory.ensures.asked c.close.ensures.asked))
    (IsLeft (g.R.Rack.view c.play-end.new.devices))
    (λ d k w. left_home c.play-end.new.stage.staff.shelves.items (g.R.Rack.view c.play-end.new.devices) rack.after d k w c.play-end.ensures.home
    c.close.ensures.others c.close.ensures.home)
    (c.in-Memory.ensures.ended (told_by tells (steps_of c.args.steps.now) t) (c.in-Ok.ensures.own b.0 b.1))
    (c.close.ensures.books b.0 b.1 (c.in-Memory.ensures.own (told_by tells (steps_of c.args.steps.now) t) (c.in-Ok.ensures.own b.0 b.1)))
    c.in-Ok.ensures.later_open c.close.ensures.later)
    c.play-end.ensures.later c.no_memory.ensures.status c.no_memory.ensures.line

pub returns-in-Reopen-clause-outputs : goal.returns-in-Reopen-clause-outputs
returns-in-Reopen-clause-outputs g c = λ bytes h.
    let o = c.args.options.now in
    let scripts = scripts_of c.args.setup in
    let tells = g.R.Rack.tells && g.D.Disk.tells in
    let rack = racks_of tells (g.R.Rack.view c.args.rack.now) (g.R.Rack.view c.close.new.rack) in
    let old = g.O.Sink.view c.args.output.now in
    let mid = g.O.Sink.view c.play-end.new.sink in
    let new = g.O.Sink.view c.tell_unopened-in-Reopen.new.output in
    let shelf = c.in-Reopen.shelf in
    let why = c.in-Reopen.why in
    again_outputs rack o bytes (record { scripts = scripts; steps = c.args.steps.now }) shelf why c.tell_unopened-in-Reopen.result
    old.written mid.written new.written old.faults mid.faults new.faults h
    (λ t. let b = both_tell g.R.Rack.tells g.D.Disk.tells t in
    lost rack o scripts c.args.steps.now shelf why old.written mid.written _ _ _ _
    (begins rack o scripts c.rules_of-rules.result _ c.rules_of-rules.ensures.asked (c.in-Ok.ensures.desk b.0 b.1) (c.in-Ok.ensures.empty b.0 b.1)
    (asked_through c.rules_of-rules.result.shelves rack.before (g.R.Rack.view c.open_desk.new.rack) (g.R.Rack.view c.play-end.new.devices) rack.after c.in-Ok.ensures.asked c.in-Reopen.ensures.asked c.close.ensures.asked))
    (IsLeft (g.R.Rack.view c.play-end.new.devices))
    (λ d k w. left_home c.play-end.new.stage.staff.shelves.items (g.R.Rack.view c.play-end.new.devices) rack.after d k w c.play-end.ensures.home
    c.close.ensures.others c.close.ensures.home)
    (loses (IsLeft (g.R.Rack.view c.play-end.new.devices)) _ shelf why _ _ (c.in-Reopen.ensures.ended (told_by tells (steps_of c.args.steps.now) t) (c.in-Ok.ensures.own b.0 b.1)))
    c.in-Ok.ensures.later_open c.close.ensures.later)
    (λ e. let rose = c.in-Reopen.ensures.disk shelf (ap (λ w. Reopen shelf w) e) in
    let here = c.in-Reopen.ensures.failed shelf (ap (λ w. Reopen shelf w) e) in
    let first = c.in-Ok.ensures.failed_later shelf in
    let last = c.close.ensures.failed_later shelf in
    record { all = omega (arith, rose, c.in-Ok.ensures.later_open, c.close.ensures.later); here = omega (arith, here, first, last) })
    (λ e. c.in-Reopen.ensures.bytes shelf (ap (λ w. Reopen shelf w) e))
    (λ t place e. c.in-Reopen.ensures.damaged t shelf place (ap (λ w. Reopen shelf w) e))
    (λ t place e. c.in-Reopen.ensures.other t shelf place (ap (λ w. Reopen shelf w) e))
    c.play-end.ensures.later
    c.tell_unopened-in-Reopen.ensures.tells

-- ---- what was asked of the rack

pub returns-in-Err-clause-asked : goal.returns-in-Err-clause-asked
returns-in-Err-clause-asked g c =
    let rack = racks_of (g.R.Rack.tells && g.D.Disk.tells) (g.R.Rack.view c.args.rack.now) (g.R.Rack.view c.open_desk.new.rack) in
    let until = subst (λ n. AsksUntil n c.in-Err.fault.shelf rack.before rack.after) c.rules_of-rules.ensures.asked.shelves c.in-Err.ensures.asked_until in
    unopened_asked rack c.args.options.now.shelves c.in-Err.fault.shelf c.in-Err.fault.why c.tell_unopened.result _ c.tell_unopened.ensures.tells
    (inl (c.in-Err.fault.shelf, until))

pub returns-in-Done-clause-asked : goal.returns-in-Done-clause-asked
returns-in-Done-clause-asked g c =
    let rack = racks_of (g.R.Rack.tells && g.D.Disk.tells) (g.R.Rack.view c.args.rack.now) (g.R.Rack.view c.close.new.rack) in
    let all = subst (λ n. AsksForAll n rack.before rack.after) c.rules_of-rules.ensures.asked.shelves
    (asked_through c.rules_of-rules.result.shelves rack.before (g.R.Rack.view c.open_desk.new.rack) (g.R.Rack.view c.play-end.new.devices) rack.after c.in-Ok.ensures.asked c.in-Done.ensures.asked c.close.ensures.asked) in
    done_asked rack c.args.options.now.shelves c.hand_on.result _ _ c.hand_on.ensures.status all

pub returns-in-Line-clause-asked : goal.returns-in-Line-clause-asked
returns-in-Line-clause-asked g c =
    let rack = racks_of (g.R.Rack.tells && g.D.Disk.tells) (g.R.Rack.view c.args.rack.now) (g.R.Rack.view c.close.new.rack) in
    let all = subst (λ n. AsksForAll n rack.before rack.after) c.rules_of-rules.ensures.asked.shelves
    (asked_through c.rules_of-rules.result.shelves rack.before (g.R.Rack.view c.open_desk.new.rack) (g.R.Rack.view c.play-end.new.devices) rack.after c.in-Ok.ensures.asked c.in-Line.ensures.asked c.close.ensures.asked) in
    line_asked rack c.args.options.now.shelves c.in-Line.number c.tell_line.result _ c.tell_line.ensures.tells all

pub returns-in-Write-clause-asked : goal.returns-in-Write-clause-asked
returns-in-Write-clause-asked g c =
    let rack = racks_of (g.R.Rack.tells && g.D.Disk.tells) (g.R.Rack.view c.args.rack.now) (g.R.Rack.view c.close.new.rack) in
    let all = subst (λ n. AsksForAll n rack.before rack.after) c.rules_of-rules.ensures.asked.shelves
    (asked_through c.rules_of-rules.result.shelves rack.before (g.R.Rack.view c.open_desk.new.rack) (g.R.Rack.view c.play-end.new.devices) rack.after c.in-Ok.ensures.asked c.in-Write.ensures.asked c.close.ensures.asked) in
    all

pub returns-in-Memory-clause-asked : goal.returns-in-Memory-clause-asked
returns-in-Memory-clause-asked g c =
    let rack = racks_of (g.R.Rack.tells && g.D.Disk.tells) (g.R.Rack.view c.args.rack.now) (g.R.Rack.view c.close.new.rack) in
    let all = subst (λ n. AsksForAll n rack.before rack.after) c.rules_of-rules.ensures.asked.shelves
    (asked_through c.rules_of-rules.result.shelves rack.before (g.R.Rack.view c.open_desk.new.rack) (g.R.Rack.view c.play-end.new.devices) rack.after c.in-Ok.ensures.asked c.in-Memory.ensures.asked c.close.ensures.asked) in
    memory_asked rack c.args.options.now.shelves c.no_memory.result c.no_memory.ensures.status (inr (inr all))

pub returns-in-Reopen-clause-asked : goal.returns-in-Reopen-clause-asked
returns-in-Reopen-clause-asked g c =
    let rack = racks_of (g.R.Rack.tells && g.D.Disk.tells) (g.R.Rack.view c.args.rack.now) (g.R.Rack.view c.close.new.rack) in
    let all = subst (λ n. AsksForAll n rack.before rack.after) c.rules_of-rules.ensures.asked.shelves
    (asked_through c.rules_of-rules.result.shelves rack.before (g.R.Rack.view c.open_desk.new.rack) (g.R.Rack.view c.play-end.new.devices) rack.after c.in-Ok.ensures.asked c.in-Reopen.ensures.asked c.close.ensures.asked) in
    unopened_asked rack c.args.options.now.shelves c.in-Reopen.shelf _ c.tell_unopened-in-Reopen.result _ c.tell_unopened-in-Reopen.ensures.tells (inr all)

-- ---- the rack after it

pub returns-in-Done-clause-back : goal.returns-in-Done-clause-back
returns-in-Done-clause-back g c =
    record { home = disks_home (g.R.Rack.view c.close.new.rack) c.close.ensures.home; later = omega (arith, c.in-Ok.ensures.later_open, c.in-Done.ensures.devices_later, c.close.ensures.later) }

pub returns-in-Line-clause-back : goal.returns-in-Line-clause-back
returns-in-Line-clause-back g c =
    record { home = disks_home (g.R.Rack.view c.close.new.rack) c.close.ensures.home; later = omega (arith, c.in-Ok.ensures.later_open, c.in-Line.ensures.devices_later, c.close.ensures.later) }

pub returns-in-Write-clause-back : goal.returns-in-Write-clause-back
returns-in-Write-clause-back g c =
    record { home = disks_home (g.R.Rack.view c.close.new.rack) c.close.ensures.home; later = omega (arith, c.in-Ok.ensures.later_open, c.in-Write.ensures.devices_later, c.close.ensures.later) }

pub returns-in-Memory-clause-back : goal.returns-in-Memory-clause-back
returns-in-Memory-clause-back g c =
    record { home = disks_home (g.R.Rack.view c.close.new.rack) c.close.ensures.home; later = omega (arith, c.in-Ok.ensures.later_open, c.in-Memory.ensures.devices_later, c.close.ensures.later) }

pub returns-in-Reopen-clause-back : goal.returns-in-Reopen-clause-back
returns-in-Reopen-clause-back g c =
    record { home = disks_home (g.R.Rack.view c.close.new.rack) c.close.ensures.home; later = omega (arith, c.in-Ok.ensures.later_open, c.in-Reopen.ensures.devices_later, c.close.ensures.later) }

pub returns-in-Err-clause-back : goal.returns-in-Err-clause-back
returns-in-Err-clause-back g c =
    record { home = disks_home (g.R.Rack.view c.open_desk.new.rack) c.in-Err.ensures.all_home; later = c.in-Err.ensures.later }

pub open_desk-requires-clause-home : goal.open_desk-requires-clause-home
open_desk-requires-clause-home g c = shelves_home (g.R.Rack.view c.args.rack.now) c.requires.home
