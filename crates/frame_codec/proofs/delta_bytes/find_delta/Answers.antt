use Rattle.std.proofs.Common.{sym, ap, ◌∙◌, option_map, refl}
use Rattle.std.proofs.lemmas.Bool.{false≢true}
use Rattle.machine_states.specs.Views.{suspended_of}
use Rattle.frame_codec.specs.DeltaViews.{delta_of}
use Rattle.frame_codec.proofs.Differences.{nothing_said, not_stored, another_spelling, spelled_so}
use Rattle.frame_codec.proofs.delta_bytes.find_delta.Goals as goal

pub returns-in_default : goal.returns-in_default
returns-in_default c =
    let read = sym c.in_ok-said.ensures ∙ ap (λ o. option_map delta_of o) c.in_default.is in
    (tt, λ e. nothing_said c.args.script.now (suspended_of c.args.parent.now) c.args.bytes.now read)

pub returns-then-not-is_stored : goal.returns-then-not-is_stored
returns-then-not-is_stored c =
    let read = sym c.in_ok-said.ensures ∙ ap (λ o. option_map delta_of o) c.in-Some.is in (
      tt,
      λ e. not_stored c.args.script.now (suspended_of c.args.parent.now) (suspended_of c.in_ok-state.state) c.args.bytes.now (delta_of c.in-Some.said)
          c.requires read c.in_ok-state.ensures (λ s. false≢true (c.if-not-is_stored.ensures.1 s)),
    )

pub returns-then-branch : goal.returns-then-branch
returns-then-branch c = (
  spelled_so c.args.script.now (suspended_of c.args.parent.now) (suspended_of c.in_ok-state.state) c.args.bytes.now (delta_of c.in-Some.said)
      (delta_of c.in_ok-delta.delta) c.requires c.in_ok-state.ensures (c.if-not-is_stored.ensures.0 refl) c.in_ok-delta.ensures.delta c.in_ok-delta.ensures.back
      (c.in_ok-has_these_bytes.ensures.0 c.if-branch.true),
  λ e. absurd (cc),
)

pub returns : goal.returns
returns c =
    let read = sym c.in_ok-said.ensures ∙ ap (λ o. option_map delta_of o) c.in-Some.is in (
      tt,
      λ e. another_spelling c.args.script.now (suspended_of c.args.parent.now) (suspended_of c.in_ok-state.state) c.args.bytes.now (delta_of c.in-Some.said)
          (delta_of c.in_ok-delta.delta) c.requires read c.in_ok-state.ensures c.in_ok-delta.ensures.delta
          (λ h. false≢true (sym c.if-branch.false ∙ c.in_ok-has_these_bytes.ensures.1 h)),
    )
