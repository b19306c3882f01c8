use Rattle.std.proofs.Common.{◌≡◌, ℕ, map, drop, length, subst, arith, refl}
use Rattle.std.proofs.lemmas.Bool.{false≢true}
use Rattle.script_value.specs.Views.{meaning}
use Rattle.frame_codec.specs.Deltas.{Shares}
use Rattle.frame_codec.proofs.Fronts.{goes_on, parts_here, ends_last}
use Rattle.frame_codec.proofs.shared.shared_values.Goals as goal

pub loop-place-preserved : goal.loop-place-preserved
loop-place-preserved c =
    goes_on meaning (map meaning c.args.parent.now) c.args.values.now c.index-values-place.result c.loop-place.place c.loop-place-test.true c.index-values-place.is
    (c.if-not-is_value_at.ensures.0 refl) c.loop-place.invariant

pub returns-then-not-is_value_at-clause-shares : goal.returns-then-not-is_value_at-clause-shares
returns-then-not-is_value_at-clause-shares c =
    parts_here meaning (map meaning c.args.parent.now) c.args.values.now c.index-values-place.result c.loop-place.place c.loop-place-test.true c.index-values-place.is
    (λ e. false≢true (c.if-not-is_value_at.ensures.1 e)) c.loop-place.invariant

pub returns-clause-shares : goal.returns-clause-shares
returns-clause-shares c =
    let last : c.loop-place.place ≡ length c.args.values.now = omega arith in
    subst (λ (n : ℕ). Shares (map meaning c.args.parent.now) (map meaning c.args.values.now) n (map meaning (drop n c.args.values.now))) last
    (ends_last meaning (map meaning c.args.parent.now) c.args.values.now c.loop-place.place c.loop-place-test.false c.loop-place.invariant)
