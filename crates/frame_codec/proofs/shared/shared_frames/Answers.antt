use Rattle.std.proofs.Common.{◌≡◌, ℕ, map, drop, length, subst, arith, refl}
use Rattle.std.proofs.lemmas.Bool.{false≢true}
use Rattle.machine_states.specs.Views.{frame_of}
use Rattle.frame_codec.specs.Deltas.{Shares}
use Rattle.frame_codec.proofs.Fronts.{goes_on, parts_here, ends_last}
use Rattle.frame_codec.proofs.shared.shared_frames.Goals as goal

pub loop-place-preserved : goal.loop-place-preserved
loop-place-preserved c =
    goes_on frame_of (map frame_of c.args.parent.now) c.args.frames.now c.index-frames-place.result c.loop-place.place c.loop-place-test.true c.index-frames-place.is
    (c.if-not-is_frame_at.ensures.0 refl) c.loop-place.invariant

pub returns-then-not-is_frame_at-clause-shares : goal.returns-then-not-is_frame_at-clause-shares
returns-then-not-is_frame_at-clause-shares c =
    parts_here frame_of (map frame_of c.args.parent.now) c.args.frames.now c.index-frames-place.result c.loop-place.place c.loop-place-test.true c.index-frames-place.is
    (λ e. false≢true (c.if-not-is_frame_at.ensures.1 e)) c.loop-place.invariant

pub returns-clause-shares : goal.returns-clause-shares
returns-clause-shares c =
    let last : c.loop-place.place ≡ length c.args.frames.now = omega arith in
    subst (λ (n : ℕ). Shares (map frame_of c.args.parent.now) (map frame_of c.args.frames.now) n (map frame_of (drop n c.args.frames.now))) last
    (ends_last frame_of (map frame_of c.args.parent.now) c.args.frames.now c.loop-place.place c.loop-place-test.false c.loop-place.invariant)
