use Rattle.std.proofs.Common.{sym, subst, Option, Some, None}
use Rattle.frame_codec.specs.MachineStates.Views.{suspended_of}
use Rattle.std.proofs.Common.{Bor}
use Rattle.frame_codec.specs.MachineStates.declared.frame.Suspended.{Suspended}
use Rattle.frame_codec.specs.FormViews.{before_of}
use Rattle.kept_states.specs.Told.{KeepsForm, IsTold}
use Rattle.kept_states.proofs.Told.{kept_told}
use Rattle.kept_states.proofs.state.KeptState.told.Goals as goal
use Rattle.kept_states.proofs.state.KeptState.told.Goals.{in-None+in_ok-told-in-None, in-Some+in_ok-told-in-Some}

pub returns-clause-kept : goal.returns-clause-kept
returns-clause-kept c =
    let a = c.args.script.now in
    let bytes = c.args.bytes in
    let x = c.in-Some-told.field-0 in
    elim c.match-before.branch [
      | in-None+in_ok-told-in-None w ↦
          subst (λ (b : Option (Bor Suspended)). IsTold a (before_of b) c.args.links bytes (record { state = x.state; kept = record { links = c.args.links; form = x.form } })) (sym w.in-None.is)
          (kept_told a None c.args.links bytes c.match-before.told x c.in-Some-told.is (subst (KeepsForm a None bytes) (sym w.told-is) w.in_ok-told-in-None.ensures.kept))
      | in-Some+in_ok-told-in-Some w ↦
          subst (λ (b : Option (Bor Suspended)). IsTold a (before_of b) c.args.links bytes (record { state = x.state; kept = record { links = c.args.links; form = x.form } })) (sym w.in-Some.is)
          (kept_told a (Some (suspended_of w.in-Some.parent.now)) c.args.links bytes c.match-before.told x c.in-Some-told.is
          (subst (KeepsForm a (Some (suspended_of w.in-Some.parent.now)) bytes) (sym w.told-is) w.in_ok-told-in-Some.ensures.kept))
    ]
