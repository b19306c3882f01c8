use Rattle.std.proofs.Common.{refl, Result, Err, ◌≡◌, ◌++◌, ◌∷◌, [], ◌∙◌, pos, arith, sym, subst}
use Rattle.std.proofs.lemmas.Grind.{common_steps}
use Rattle.script_value.specs.Val.{Val, number}
use Rattle.script_value.specs.Views.{meaning}
use Rattle.replay_spec.specs.Tape.{End}
use Rattle.segment_progress.specs.States.{Gives, inside_of, state_of}
use Rattle.script_nodes.specs.Core.{Core}
use Rattle.script_value.specs.declared.value.Value.{Value}
use Rattle.segment_progress.specs.declared.halt.Halt.{Halt}
use Rattle.replay_spec.specs.Eval.{calls_in, eval}
use Rattle.plain_rerun.specs.Parts.{tree, trees, call_at, let_at}
use Rattle.plain_rerun.specs.Runs.{Runs}
use Rattle.plain_rerun.proofs.Goes.{let_err, let_goes, call_err, call_goes}
use Rattle.plain_rerun.proofs.Turns.{repeat_goes, turn_kept}
use Rattle.plain_rerun.proofs.engine.Engine.+visit.Goals as goal

pub visit_for-returns-clause-gives : goal.visit_for-returns-clause-gives
visit_for-returns-clause-gives t c =
    subst (λ (x : End Val). Gives meaning c.visit_body.result c.visit_body.new.self.progress x)
    (sym (repeat_goes c.args.script.now (tree c.args.script.now c.args.count) (tree c.args.script.now c.args.body) c.args.self.now.env c.visit.new.self.env
    (inside_of c.args.self.now.progress) (inside_of c.charge.new.self) (inside_of c.visit.new.self.progress)
    (state_of c.args.self.now.progress) (state_of c.charge.new.self) (state_of c.visit.new.self.progress) (meaning c.in_ok-count.count)
    c.in_ok-charge.ensures.gives c.in_ok-charge.ensures.inside c.in_ok-count.ensures.gives c.in_ok-count.ensures.env c.in_ok-count.ensures.inside))
    c.visit_body.ensures.gives

pub visit_turns-loop-turn-preserved : goal.visit_turns-loop-turn-preserved
visit_turns-loop-turn-preserved t c =
    let inv = c.loop-turn.invariant in
    let same : c.truncate.new.self ≡ c.loop-turn.self.env = grind (arith, common_steps) in
    let pushed : c.push.new.self ≡ c.loop-turn.self.env ++ number (pos c.loop-turn.turn) ∷ [] = grind (arith, common_steps) in
    let pushed1 = rw inv.0 at pushed in
    let next = turn_kept c.args.script.now c.args.count c.loop-turn.turn (tree c.args.script.now c.args.body) c.args.self.now.env c.push.new.self
    (inside_of c.args.self.now.progress) (inside_of c.loop-turn.self.progress) c.loop-turn.values (state_of c.args.self.now.progress)
    (state_of c.loop-turn.self.progress) (state_of c.visit.new.self.progress) (meaning c.in_ok-value.value) c.loop-turn-test.true pushed1 inv.1
    c.in_ok-value.ensures.gives inv.3 in
    (same ∙ inv.0, c.in_ok-value.ensures.inside ∙ inv.1, rw same inv.2, rw c.in_ok-push-2.ensures.ok next)

pub visit-returns-in-Call-clause-gives : goal.visit-returns-in-Call-clause-gives
visit-returns-in-Call-clause-gives t c =
    let is = rw c.in-Call.is at c.node_of.ensures.tree in
    subst (λ (x : Core). Runs meaning c.visit_call.result c.args.self.now c.visit_call.new.self (eval (calls_in c.args.script.now) x)) (sym is) c.visit_call.ensures.gives

pub visit_call-returns-in_err-values-clause-gives : goal.visit_call-returns-in_err-values-clause-gives
visit_call-returns-in_err-values-clause-gives t c =
    let told = rw c.as_slice.ensures at c.in_err-values.ensures.gives in
    let z = call_err c.args.script.now c.args.task (trees c.args.script.now c.args.operands.now) c.args.self.now.env
    (inside_of c.args.self.now.progress) (inside_of c.charge.new.self) (state_of c.args.self.now.progress) (state_of c.charge.new.self)
    c.in_err-values.field-0.0 c.visit_all.new.self.progress c.in_ok-charge.ensures.gives c.in_ok-charge.ensures.inside told in
    let same : c.from_residual-in_err-values.result ≡ Err c.in_err-values.field-0.0 = grind (arith, common_steps) in
    subst (λ (r : Result Value Halt). Gives meaning r c.visit_all.new.self.progress (call_at c.args.script.now c.args.task c.args.operands.now c.args.self.now.env (inside_of c.args.self.now.progress) (state_of c.args.self.now.progress))) (sym same) z

pub visit_let-returns-in_err-values-clause-gives : goal.visit_let-returns-in_err-values-clause-gives
visit_let-returns-in_err-values-clause-gives t c =
    let told = rw c.as_slice.ensures at c.in_err-values.ensures.gives in
    let z = let_err c.args.script.now (trees c.args.script.now c.args.bindings.now) (tree c.args.script.now c.args.body) c.args.self.now.env
    (inside_of c.args.self.now.progress) (inside_of c.charge.new.self) (state_of c.args.self.now.progress) (state_of c.charge.new.self)
    c.in_err-values.field-0.0 c.visit_all.new.self.progress c.in_ok-charge.ensures.gives c.in_ok-charge.ensures.inside told in
    let same : c.from_residual-in_err-values.result ≡ Err c.in_err-values.field-0.0 = grind (arith, common_steps) in
    subst (λ (r : Result Value Halt). Gives meaning r c.visit_all.new.self.progress (let_at c.args.script.now c.args.bindings.now c.args.body c.args.self.now.env (inside_of c.args.self.now.progress) (state_of c.args.self.now.progress))) (sym same) z

pub visit_call-returns-clause-gives : goal.visit_call-returns-clause-gives
visit_call-returns-clause-gives t c =
    let values = rw c.as_slice.ensures at c.in_ok-values.ensures.gives in
    let same : c.replace-outer.new.dest ≡ c.in_ok-values.values = grind (arith, common_steps) in
    call_goes c.args.script.now c.args.task (trees c.args.script.now c.args.operands.now) c.args.self.now.env c.replace-outer.new.dest
    (inside_of c.args.self.now.progress) (inside_of c.charge.new.self) (inside_of c.visit_all.new.self.progress)
    (state_of c.args.self.now.progress) (state_of c.charge.new.self) (state_of c.visit_all.new.self.progress) c.in_ok-values.values _
    c.in_ok-charge.ensures.gives c.in_ok-charge.ensures.inside values c.in_ok-values.ensures.inside same c.in_ok-value.ensures.gives

pub visit_call-returns-in_err-value-clause-gives : goal.visit_call-returns-in_err-value-clause-gives
visit_call-returns-in_err-value-clause-gives t c =
    let values = rw c.as_slice.ensures at c.in_ok-values.ensures.gives in
    let same : c.replace-outer.new.dest ≡ c.in_ok-values.values = grind (arith, common_steps) in
    let told : c.from_residual-in_err-value.result ≡ c.visit_task.result = grind (arith, common_steps) in
    let e = call_goes c.args.script.now c.args.task (trees c.args.script.now c.args.operands.now) c.args.self.now.env c.replace-outer.new.dest
    (inside_of c.args.self.now.progress) (inside_of c.charge.new.self) (inside_of c.visit_all.new.self.progress)
    (state_of c.args.self.now.progress) (state_of c.charge.new.self) (state_of c.visit_all.new.self.progress) c.in_ok-values.values _
    c.in_ok-charge.ensures.gives c.in_ok-charge.ensures.inside values c.in_ok-values.ensures.inside same refl in
    let z = subst (λ (x : End Val). Gives meaning c.visit_task.result c.visit_task.new.self.progress x) (sym e) c.visit_task.ensures.gives in
    subst (λ (r : Result Value Halt). Gives meaning r c.visit_task.new.self.progress (call_at c.args.script.now c.args.task c.args.operands.now c.args.self.now.env (inside_of c.args.self.now.progress) (state_of c.args.self.now.progress))) (sym told) z

pub visit_let-returns-clause-gives : goal.visit_let-returns-clause-gives
visit_let-returns-clause-gives t c =
    let values = rw c.as_slice.ensures at c.in_ok-values.ensures.gives in
    let same : c.append.new.self ≡ c.args.self.now.env ++ c.in_ok-values.values = grind (arith, common_steps) in
    let_goes c.args.script.now (trees c.args.script.now c.args.bindings.now) (tree c.args.script.now c.args.body) c.args.self.now.env c.append.new.self
    (inside_of c.args.self.now.progress) (inside_of c.charge.new.self) (inside_of c.visit_all.new.self.progress)
    (state_of c.args.self.now.progress) (state_of c.charge.new.self) (state_of c.visit_all.new.self.progress) c.in_ok-values.values _
    c.in_ok-charge.ensures.gives c.in_ok-charge.ensures.inside values c.in_ok-values.ensures.inside same c.in_ok-value.ensures.gives

pub visit_let-returns-in_err-value-clause-gives : goal.visit_let-returns-in_err-value-clause-gives
visit_let-returns-in_err-value-clause-gives t c =
    let values = rw c.as_slice.ensures at c.in_ok-values.ensures.gives in
    let same : c.append.new.self ≡ c.args.self.now.env ++ c.in_ok-values.values = grind (arith, common_steps) in
    let told : c.from_residual-in_err-value.result ≡ c.visit.result = grind (arith, common_steps) in
    let e = let_goes c.args.script.now (trees c.args.script.now c.args.bindings.now) (tree c.args.script.now c.args.body) c.args.self.now.env c.append.new.self
    (inside_of c.args.self.now.progress) (inside_of c.charge.new.self) (inside_of c.visit_all.new.self.progress)
    (state_of c.args.self.now.progress) (state_of c.charge.new.self) (state_of c.visit_all.new.self.progress) c.in_ok-values.values _
    c.in_ok-charge.ensures.gives c.in_ok-charge.ensures.inside values c.in_ok-values.ensures.inside same refl in
    let z = subst (λ (x : End Val). Gives meaning c.visit.result c.visit.new.self.progress x) (sym e) c.visit.ensures.gives in
    subst (λ (r : Result Value Halt). Gives meaning r c.visit.new.self.progress (let_at c.args.script.now c.args.bindings.now c.args.body c.args.self.now.env (inside_of c.args.self.now.progress) (state_of c.args.self.now.progress))) (sym told) z
