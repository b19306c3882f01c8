use Rattle.std.proofs.Common.{refl}
use Rattle.request_workers.proofs.Chains.{goes_more, more_come}
use Rattle.request_workers.proofs.link.serve_link.Goals as goal

pub loop-end-preserved : goal.loop-end-preserved
loop-end-preserved g c =
    let turn = c.in-None.ensures.turn in
    record {
      goes = goes_more _ _ _ _ _ _ _ _ _ _ _ _ _ _ _ c.loop-end.invariant.goes turn c.in-None.ensures.own c.in-None.ensures.later refl
          (more_come _ turn.exchange.visit turn.stays);
      ticked = c.in-None.ensures.ticked;
    }
