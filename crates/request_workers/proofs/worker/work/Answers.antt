use Rattle.std.proofs.Common.{◌≡◌, ◌+◌, ◌*◌, ◌∙◌, sym, subst, refl, arith}
use Rattle.request_workers.specs.Tallies.{IsBelow, count_of}
use Rattle.request_workers.specs.Working.{Worked}
use Rattle.request_workers.proofs.Rounds.{begin, then_one, turn_small, below_both, below_more, none_below}
use Rattle.request_workers.proofs.worker.work.Goals as goal

pub loop-tally-init : goal.loop-tally-init
loop-tally-init g c =
    let zero = c.nothing-tally.ensures.count in
    record {
      own = c.requires.own;
      worked = begin _ _ _ _ _ _ _ zero;
      counted = none_below _ (1000 * (g.P.Porch.view c.args.porch.now).given) zero;
      small = none_below _ 1000000000 zero;
      same = refl;
      later = omega arith;
    }

pub loop-tally-preserved : goal.loop-tally-preserved
loop-tally-preserved g c =
    let before = c.loop-tally.invariant in
    let turn = c.in-Served.ensures in
    let (link, back, one, loses, gains, turns, is) = turn.turn in
    let small = turn_small _ _ _ _ _ _ _ _ _ turns in
    let given : (g.P.Porch.view c.take_turn.new.porch).given ≡ (g.P.Porch.view c.loop-tally.porch).given + 1 = turn.given in
    let counted : IsBelow (count_of c.take_turn.new.tally) (1000 * (g.P.Porch.view c.take_turn.new.porch).given + 1) =
    subst (λ w. IsBelow w (1000 * (g.P.Porch.view c.take_turn.new.porch).given + 1)) (sym is)
    (below_more _ _ _ (omega (arith, given)) (below_both _ _ _ before.counted small)) in
    record {
      own = turn.own;
      worked = subst (Worked _ _ _ _ _ _ _ _) (sym is)
          (then_one _ _ _ _ _ _ _ _ _ _ _ _ _ _ before.worked loses gains given turns);
      counted = counted;
      small = below_more _ _ _ (let b = turn.bound refl in let l = turn.limit in omega arith) counted;
      same = turn.most ∙ before.same;
      later = let l = turn.later in let b = before.later in omega arith;
    }
