use Rattle.std.proofs.Common.{◌≡◌, [], ◌∷◌, MatchResult, inl, inr, ⊎_elim, ap, subst, rules}
use Rattle.play_steps.specs.Step.{Step, take, publish, get, compact}
use Rattle.play_steps.specs.Views.{meaning}
use Rattle.play_steps.specs.Played.{Performs, spot}
use Rattle.play_steps.specs.declared.report.Report.{Report}
use Rattle.play_steps.specs.declared.performing.Halt.{Halt}
use Rattle.play_steps.specs.declared.performing.Halt.TheVariants as halt
use Rattle.play_steps.proofs.Performed.{comes_called, took, published, compacted, got_number, got_refusal, tells, IsCrashOf, told_either, either_performs}
use Rattle.play_steps.proofs.performing.perform.Goals as goal

pub returns-in-Take-clause-came : goal.returns-in-Take-clause-came
returns-in-Take-clause-came g c known own =
    let step : take c.in-Take.worker c.in-Take.target.now ≡ meaning c.args.step.now = search rules in
    let r = g.T.Stage.rules in
    let devices = c.args.devices.now in
    let new = c.take-taken.new.self in
    let call = c.take-taken.ensures in
    let told = subst (λ (x : Report). MatchResult c.one.result (λ reports. reports.items ≡ x ∷ []) (λ (why : Halt). why ≡ halt.Memory)) c.of_take.ensures c.one.ensures in
    subst (λ (s : Step). Performs r (g.T.Stage.left devices) s c.one.result (spot r (g.T.Stage.state c.args.stage.now) (g.T.Stage.faults c.args.stage.now devices))
    (spot r (g.T.Stage.state new) (g.T.Stage.faults new devices))) step
    (tells r (g.T.Stage.left devices) _ _ _ _ c.one.result told (took r _ _ _ _ _ (comes_called r _ _ _ _ _ (call.step own) (call.later devices) (λ rose. rose devices))))

pub returns-in-Publish-clause-came : goal.returns-in-Publish-clause-came
returns-in-Publish-clause-came g c known own =
    let r = g.T.Stage.rules in
    let devices = c.args.devices.now in
    let new = c.publish-reply.new.self in
    let step : publish c.in-Publish.worker ≡ meaning c.args.step.now = search rules in
    let call = c.publish-reply.ensures in
    subst (λ (s : Step). Performs r (g.T.Stage.left devices) s c.one-in-Publish.result (spot r (g.T.Stage.state c.args.stage.now) (g.T.Stage.faults c.args.stage.now devices))
    (spot r (g.T.Stage.state new) (g.T.Stage.faults new devices))) step
    (tells r (g.T.Stage.left devices) _ _ _ _ c.one-in-Publish.result c.one-in-Publish.ensures
    (published r _ _ _ _ (comes_called r _ _ _ _ _ (call.step own) (call.later devices) (λ rose. rose devices))))

pub returns-in-Ok-clause-came : goal.returns-in-Ok-clause-came
returns-in-Ok-clause-came g c known own =
    let r = g.T.Stage.rules in
    let devices = c.args.devices.now in
    let new = c.publish-shown.new.self in
    let step : get c.in-Get.worker c.in-Get.target.now ≡ meaning c.args.step.now = search rules in
    let first = c.in-Ok.ensures in
    let second = c.publish-shown.ensures in
    subst (λ (s : Step). Performs r (g.T.Stage.left devices) s c.one-in-Ok.result (spot r (g.T.Stage.state c.args.stage.now) (g.T.Stage.faults c.args.stage.now devices))
    (spot r (g.T.Stage.state new) (g.T.Stage.faults new devices))) step
    (tells r (g.T.Stage.left devices) _ _ _ _ c.one-in-Ok.result c.one-in-Ok.ensures
    (got_number r _ (spot r (g.T.Stage.state c.take.new.self) (g.T.Stage.faults c.take.new.self devices)) _ _ _ _ _
    (comes_called r _ _ _ _ _ (first.step own) (first.later devices) (λ rose. rose devices))
    (comes_called r _ _ _ _ _ (second.step (first.own own)) (second.later devices) (λ rose. rose devices))))

pub returns-in-Err-clause-came : goal.returns-in-Err-clause-came
returns-in-Err-clause-came g c known own =
    let r = g.T.Stage.rules in
    let devices = c.args.devices.now in
    let new = c.take.new.self in
    let step : get c.in-Get.worker c.in-Get.target.now ≡ meaning c.args.step.now = search rules in
    let call = c.in-Err.ensures in
    subst (λ (s : Step). Performs r (g.T.Stage.left devices) s c.one-in-Err.result (spot r (g.T.Stage.state c.args.stage.now) (g.T.Stage.faults c.args.stage.now devices))
    (spot r (g.T.Stage.state new) (g.T.Stage.faults new devices))) step
    (tells r (g.T.Stage.left devices) _ _ _ _ c.one-in-Err.result c.one-in-Err.ensures
    (got_refusal r _ _ _ _ _ (comes_called r _ _ _ _ _ (call.step own) (call.later devices) (λ rose. rose devices))))

pub returns-in-Compact-clause-came : goal.returns-in-Compact-clause-came
returns-in-Compact-clause-came g c known own =
    let step : compact c.in-Compact.shelf ≡ meaning c.args.step.now = search rules in
    let r = g.T.Stage.rules in
    let devices = c.args.devices.now in
    let new = c.compact-compacted.new.self in
    let call = c.compact-compacted.ensures in
    let told = subst (λ (x : Report). MatchResult c.one-in-Compact.result (λ reports. reports.items ≡ x ∷ []) (λ (why : Halt). why ≡ halt.Memory)) c.of_compaction.ensures c.one-in-Compact.ensures in
    subst (λ (s : Step). Performs r (g.T.Stage.left devices) s c.one-in-Compact.result (spot r (g.T.Stage.state c.args.stage.now) (g.T.Stage.faults c.args.stage.now devices))
    (spot r (g.T.Stage.state new) (g.T.Stage.faults new devices))) step
    (tells r (g.T.Stage.left devices) _ _ _ _ c.one-in-Compact.result told (compacted r _ _ _ _ (comes_called r _ _ _ _ _ (call.step own) (call.later devices) (λ rose. rose devices))))

pub returns-in-Crash-clause-came : goal.returns-in-Crash-clause-came
returns-in-Crash-clause-came g c known own =
    let r = g.T.Stage.rules in
    let step : IsCrashOf (meaning c.args.step.now) c.in-Crash.shelf = ⊎_elim (λ e. inl (ap meaning e)) (λ e. inr (ap meaning e)) c.in-Crash.is in
    let tells = told_either g.T.Stage.tells _ _ step known in
    let call = c.crash-opened.ensures in
    either_performs r (g.T.Stage.left c.crash-opened.new.devices) _ _ _ _ _ _ step c.crash_report.ensures (call.step tells own) call.disk call.later (call.left tells own)

pub returns-in-Crash-clause-own : goal.returns-in-Crash-clause-own
returns-in-Crash-clause-own g c known own =
    let step : IsCrashOf (meaning c.args.step.now) c.in-Crash.shelf = ⊎_elim (λ e. inl (ap meaning e)) (λ e. inr (ap meaning e)) c.in-Crash.is in
    c.crash-opened.ensures.own (told_either g.T.Stage.tells _ _ step known) own
