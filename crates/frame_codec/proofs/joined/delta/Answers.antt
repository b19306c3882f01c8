use Rattle.machine_states.specs.Views.{suspended_of}
use Rattle.frame_codec.specs.DeltaViews.{delta_of}
use Rattle.frame_codec.proofs.Differences.{joins}
use Rattle.frame_codec.proofs.Computed.{are_computed}
use Rattle.frame_codec.proofs.joined.delta.Goals as goal

pub returns-clause-back : goal.returns-clause-back
returns-clause-back c =
    λ on. joins (suspended_of c.args.parent.now) (suspended_of c.args.state.now) (delta_of c.in_ok-difference.field-0) on.rises on.rise on.all
    c.in_ok-difference.ensures

pub returns-clause-computed : goal.returns-clause-computed
returns-clause-computed c =
    (are_computed.one (suspended_of c.args.parent.now) (suspended_of c.args.state.now) (delta_of c.in_ok-difference.field-0)).0 c.in_ok-difference.ensures
