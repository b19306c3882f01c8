use Rattle.std.proofs.Common.{◌≡◌, Ok, Err, subst, arith, rules}
use Rattle.std.specs.Prelude.{◌&&◌}
use Rattle.server_command.specs.Auditing.{ComesOne, ok_text}
use Rattle.server_command.specs.Output.{sinks_of}
use Rattle.server_command.specs.Racks.{racks_of}
use Rattle.server_command.proofs.Audits.{HasTold, back_of, leaves_more, leaves_none, stopped_audit, stopped_leaves, stops_by, told_more, told_none, untold_leaves, whole_leaves}
use Rattle.server_command.proofs.auditing.audit_all.Goals as goal

pub auditing-init : goal.auditing-init
auditing-init g c = record { told = told_none _ _ _; leaves = leaves_none _ _; later = omega arith }

pub auditing-preserved : goal.auditing-preserved
auditing-preserved g c =
    let tells = g.R.Rack.tells && g.D.Disk.tells in
    let before = g.R.Rack.view c.args.rack.now in
    let now = g.R.Rack.view c.auditing.rack in
    let after = g.R.Rack.view c.audit_shelf.new.rack in
    let old = g.O.Sink.view c.args.output.now in
    let mid = g.O.Sink.view c.auditing.output in
    let new = g.O.Sink.view c.tell_audited.new.output in
    let is : c.audit_shelf.result ≡ Ok c.in-Ok.records = search rules in
    record {
      told = told_more tells before now after c.auditing.shelf c.in-Ok.records old.written mid.written new.written c.auditing.invariant.told
          (subst (ComesOne (racks_of tells now after) c.auditing.shelf) is c.audit_shelf.ensures.comes) c.audit_shelf.ensures.leaves
          c.in-Ok-tell_audited.ensures.tells;
      leaves = leaves_more tells before now after c.auditing.invariant.leaves c.audit_shelf.ensures.leaves;
      later = omega (arith, c.auditing.invariant.later, c.tell_audited.ensures.later);
    }

pub returns-in-Err-tell_audited-clause-leaves : goal.returns-in-Err-tell_audited-clause-leaves
returns-in-Err-tell_audited-clause-leaves g c =
    let tells = g.R.Rack.tells && g.D.Disk.tells in
    let before = g.R.Rack.view c.args.rack.now in
    let now = g.R.Rack.view c.auditing.rack in
    let after = g.R.Rack.view c.audit_shelf.new.rack in
    let old = g.O.Sink.view c.args.output.now in
    let mid = g.O.Sink.view c.auditing.output in
    let new = g.O.Sink.view c.tell_audited.new.output in
    let is : c.audit_shelf.result ≡ Ok c.in-Ok.records = search rules in
    untold_leaves tells before now after c.args.options.now.shelves c.auditing.shelf c.in-Ok.records c.in-Err-tell_audited.status old.written mid.written new.written
    old.faults mid.faults new.faults (omega arith) c.auditing.invariant.later c.auditing.invariant.told
    (subst (ComesOne (racks_of tells now after) c.auditing.shelf) is c.audit_shelf.ensures.comes) c.audit_shelf.ensures.leaves c.in-Err-tell_audited.ensures.tells

pub returns-in-Err-clause-leaves : goal.returns-in-Err-clause-leaves
returns-in-Err-clause-leaves g c =
    let tells = g.R.Rack.tells && g.D.Disk.tells in
    let before = g.R.Rack.view c.args.rack.now in
    let now = g.R.Rack.view c.auditing.rack in
    let after = g.R.Rack.view c.audit_shelf.new.rack in
    let old = g.O.Sink.view c.args.output.now in
    let mid = g.O.Sink.view c.auditing.output in
    let new = g.O.Sink.view c.tell_end.new.output in
    let is : c.audit_shelf.result ≡ Err c.in-Err.why = search rules in
    let p = c.auditing.invariant.told in
    let stops = stops_by tells before now after c.args.options.now.shelves c.auditing.shelf p.images c.in-Err.why (omega arith) p.passed p.many
    c.auditing.invariant.leaves (subst (ComesOne (racks_of tells now after) c.auditing.shelf) is c.audit_shelf.ensures.comes) c.audit_shelf.ensures.leaves in
    stopped_audit (racks_of tells before after) c.args.options.now.shelves c.tell_end.result (sinks_of old new)
    (stopped_leaves (ok_text 0) (racks_of tells before after) c.args.options.now.shelves c.auditing.shelf c.in-Err.why c.tell_end.result p.images
    old.written mid.written new.written old.faults mid.faults new.faults c.auditing.invariant.later p.text stops c.tell_end.ensures.tells)

pub returns-clause-leaves : goal.returns-clause-leaves
returns-clause-leaves g c =
    let rack = racks_of (g.R.Rack.tells && g.D.Disk.tells) (g.R.Rack.view c.args.rack.now) (g.R.Rack.view c.auditing.rack) in
    let old = g.O.Sink.view c.args.output.now in
    let mid = g.O.Sink.view c.auditing.output in
    let new = g.O.Sink.view c.hand_on.new.output in
    let all : c.auditing.shelf ≡ c.args.options.now.shelves = search (rules, arith) in
    whole_leaves rack c.args.options.now.shelves c.hand_on.result old.written mid.written new.written old.faults mid.faults new.faults
    (subst (λ n. HasTold rack n old.written mid.written) all c.auditing.invariant.told) c.hand_on.ensures.same c.auditing.invariant.later
    c.hand_on.ensures.status

pub returns-in-Err-tell_audited-clause-back : goal.returns-in-Err-tell_audited-clause-back
returns-in-Err-tell_audited-clause-back g c =
    let leaves = leaves_more (g.R.Rack.tells && g.D.Disk.tells) (g.R.Rack.view c.args.rack.now) (g.R.Rack.view c.auditing.rack) (g.R.Rack.view c.audit_shelf.new.rack)
    c.auditing.invariant.leaves c.audit_shelf.ensures.leaves in
    back_of (g.R.Rack.tells && g.D.Disk.tells) _ _ c.requires.home leaves

pub returns-in-Err-clause-back : goal.returns-in-Err-clause-back
returns-in-Err-clause-back g c =
    let leaves = leaves_more (g.R.Rack.tells && g.D.Disk.tells) (g.R.Rack.view c.args.rack.now) (g.R.Rack.view c.auditing.rack) (g.R.Rack.view c.audit_shelf.new.rack)
    c.auditing.invariant.leaves c.audit_shelf.ensures.leaves in
    back_of (g.R.Rack.tells && g.D.Disk.tells) _ _ c.requires.home leaves

pub returns-clause-back : goal.returns-clause-back
returns-clause-back g c = back_of (g.R.Rack.tells && g.D.Disk.tells) _ _ c.requires.home c.auditing.invariant.leaves
