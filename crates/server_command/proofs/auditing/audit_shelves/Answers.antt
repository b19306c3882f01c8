use Rattle.std.proofs.Common.{◌≡◌, Ok, Err, subst, arith, rules}
use Rattle.std.specs.Prelude.{◌&&◌}
use Rattle.server_command.specs.Auditing.{ComesOne, HaveAllPassed}
use Rattle.server_command.specs.Racks.{racks_of}
use Rattle.server_command.proofs.Audits.{leaves_more, leaves_none, passed_all, passed_none, stops_at}
use Rattle.server_command.proofs.auditing.audit_shelves.Goals as goal

pub auditing-init : goal.auditing-init
auditing-init g c = record { passed = passed_none _ _; leaves = leaves_none _ _ }

pub auditing-preserved : goal.auditing-preserved
auditing-preserved g c =
    let tells = g.R.Rack.tells && g.D.Disk.tells in
    let before = g.R.Rack.view c.args.rack.now in
    let now = g.R.Rack.view c.auditing.rack in
    let after = g.R.Rack.view c.audit_shelf.new.rack in
    let is : c.audit_shelf.result ≡ Ok c.in-Ok._records = search rules in
    record {
      passed = passed_all tells before now after c.auditing.shelf c.in-Ok._records c.auditing.invariant.passed
          (subst (ComesOne (racks_of tells now after) c.auditing.shelf) is c.audit_shelf.ensures.comes) c.audit_shelf.ensures.leaves;
      leaves = leaves_more tells before now after c.auditing.invariant.leaves c.audit_shelf.ensures.leaves;
    }

pub returns-in-Err-clause-comes : goal.returns-in-Err-clause-comes
returns-in-Err-clause-comes g c =
    let tells = g.R.Rack.tells && g.D.Disk.tells in
    let before = g.R.Rack.view c.args.rack.now in
    let now = g.R.Rack.view c.auditing.rack in
    let after = g.R.Rack.view c.audit_shelf.new.rack in
    let is : c.audit_shelf.result ≡ Err c.in-Err.why = search rules in
    stops_at tells before now after c.args.count c.auditing.shelf c.in-Err.why (omega arith) c.auditing.invariant.passed c.auditing.invariant.leaves
    (subst (ComesOne (racks_of tells now after) c.auditing.shelf) is c.audit_shelf.ensures.comes) c.audit_shelf.ensures.leaves

pub returns-in-Err-clause-leaves : goal.returns-in-Err-clause-leaves
returns-in-Err-clause-leaves g c =
    leaves_more (g.R.Rack.tells && g.D.Disk.tells) (g.R.Rack.view c.args.rack.now) (g.R.Rack.view c.auditing.rack) (g.R.Rack.view c.audit_shelf.new.rack)
    c.auditing.invariant.leaves c.audit_shelf.ensures.leaves

pub returns-clause-comes : goal.returns-clause-comes
returns-clause-comes g c =
    let all : c.auditing.shelf ≡ c.args.count = search (rules, arith) in
    subst (HaveAllPassed (racks_of (g.R.Rack.tells && g.D.Disk.tells) (g.R.Rack.view c.args.rack.now) (g.R.Rack.view c.auditing.rack))) all
    c.auditing.invariant.passed
