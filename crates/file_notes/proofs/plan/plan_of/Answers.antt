use Rattle.std.proofs.Common.{◌-◌, ◌∙◌, arith}
use Rattle.std.proofs.lemmas.List.{length-set}
use Rattle.instance_book.specs.Views.{instances_of}
use Rattle.file_notes.proofs.Steps.{plan_step, time_step}
use Rattle.file_notes.proofs.plan.plan_of.Goals as goal

pub records-preserved : goal.records-preserved
records-preserved c =
    let r = c.records in
    record {
      low = omega (arith, r.invariant.low);
      long = length-set r.plan.items (r.place - 1) c.is_left.result ∙ r.invariant.long;
      plan = λ all.
          plan_step (instances_of all c.args.book.now.instances) c.args.notes.now r.plan.items (r.place - 1) r.place _ c.stays-stays.result r.time c.is_left.result (omega (arith, c.records-test.true)) r.invariant.low r.invariant.long (c.stays-stays.ensures all)
          c.is_left.ensures (r.invariant.time all) (r.invariant.plan all);
      time = λ all.
          time_step (instances_of all c.args.book.now.instances) c.args.notes.now (r.place - 1) r.place _ c.stays-stays.result r.time c.tells_time-time.result (omega (arith, c.records-test.true)) r.invariant.low (c.stays-stays.ensures all) c.tells_time-time.ensures
          (r.invariant.time all);
    }
