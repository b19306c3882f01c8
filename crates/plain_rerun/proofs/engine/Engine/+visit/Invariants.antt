use Rattle.std.proofs.Common.{◌≡◌, ◌+◌, ◌-◌, ◌*◌, drop, length, []}
use Rattle.script_value.specs.Views.{meaning}
use Rattle.replay_spec.specs.Eval.{calls_in, eval, eval_into, eval_while, turns}
use Rattle.plain_rerun.specs.Parts.{tree, trees, passes, AreBehind}
use Rattle.plain_rerun.proofs.Rounds.{rounds}
use Rattle.segment_progress.specs.States.{state_of, inside_of}
use Rattle.plain_rerun.proofs.engine.Engine.+visit.Given as goal

abbrev pub decreases-visit : goal.decreases-visit
decreases-visit l = rounds l.below (length l.script.now.nodes) + 4 * (length l.script.now.nodes - l.number) + 2

abbrev pub decreases-visit_let : goal.decreases-visit_let
decreases-visit_let l = rounds l.below (length l.script.now.nodes) + 4 * (length l.script.now.nodes - l.number) + 1

abbrev pub decreases-visit_while : goal.decreases-visit_while
decreases-visit_while l = rounds l.below (length l.script.now.nodes) + 4 * (length l.script.now.nodes - l.number) + 1

abbrev pub decreases-visit_if : goal.decreases-visit_if
decreases-visit_if l = rounds l.below (length l.script.now.nodes) + 4 * (length l.script.now.nodes - l.number) + 1

abbrev pub decreases-visit_for : goal.decreases-visit_for
decreases-visit_for l = rounds l.below (length l.script.now.nodes) + 4 * (length l.script.now.nodes - l.number) + 1

abbrev pub decreases-visit_prim : goal.decreases-visit_prim
decreases-visit_prim l = rounds l.below (length l.script.now.nodes) + 4 * (length l.script.now.nodes - l.number) + 1

abbrev pub decreases-visit_send : goal.decreases-visit_send
decreases-visit_send l = rounds l.below (length l.script.now.nodes) + 4 * (length l.script.now.nodes - l.number) + 1

abbrev pub decreases-visit_last : goal.decreases-visit_last
decreases-visit_last l = rounds l.below (length l.script.now.nodes) + 4 * (length l.script.now.nodes - l.number) + 1

abbrev pub decreases-visit_isolate : goal.decreases-visit_isolate
decreases-visit_isolate l = rounds l.below (length l.script.now.nodes) + 4 * (length l.script.now.nodes - l.number) + 1

abbrev pub decreases-visit_shadow : goal.decreases-visit_shadow
decreases-visit_shadow l = rounds l.below (length l.script.now.nodes) + 4 * (length l.script.now.nodes - l.number) + 1

abbrev pub decreases-visit_set : goal.decreases-visit_set
decreases-visit_set l = rounds l.below (length l.script.now.nodes) + 4 * (length l.script.now.nodes - l.number) + 1

abbrev pub decreases-visit_add : goal.decreases-visit_add
decreases-visit_add l = rounds l.below (length l.script.now.nodes) + 4 * (length l.script.now.nodes - l.number) + 1

abbrev pub decreases-visit_all : goal.decreases-visit_all
decreases-visit_all l = rounds l.below (length l.script.now.nodes) + 4 * (length l.script.now.nodes - l.number)

abbrev pub decreases-visit_body : goal.decreases-visit_body
decreases-visit_body l = rounds l.below (length l.script.now.nodes) + 4 * (length l.script.now.nodes - l.body) + 4

abbrev pub decreases-visit_turns : goal.decreases-visit_turns
decreases-visit_turns l = rounds l.below (length l.script.now.nodes) + 4 * (length l.script.now.nodes - l.body) + 3

abbrev pub decreases-visit_call : goal.decreases-visit_call
decreases-visit_call l = rounds l.below (length l.script.now.nodes) + 4 * (length l.script.now.nodes - l.number) + 1

abbrev pub decreases-visit_task : goal.decreases-visit_task
decreases-visit_task l = rounds l.task (length l.script.now.nodes) + 4 * length l.script.now.nodes + 3

abbrev pub invariant-visit_all-loop-part : goal.invariant-visit_all-loop-part
invariant-visit_all-loop-part l = (l.self.env ≡ l.fn.self.env)
    × (inside_of l.self.progress ≡ inside_of l.fn.self.progress)
    × (length l.values ≡ l.part-index)
    × AreBehind l.script l.below l.number (drop l.part-index l.parts)
    × (eval_into (calls_in l.script) [] (trees l.script l.parts) l.fn.self.env (inside_of l.fn.self.progress) (state_of l.fn.self.progress)
    ≡ eval_into (calls_in l.script) l.values (trees l.script (drop l.part-index l.parts)) l.self.env (inside_of l.self.progress) (state_of l.self.progress))

abbrev pub invariant-visit_turns-loop-turn : goal.invariant-visit_turns-loop-turn
invariant-visit_turns-loop-turn l = (l.self.env ≡ l.fn.self.env)
    × (inside_of l.self.progress ≡ inside_of l.fn.self.progress)
    × (l.depth ≡ length l.self.env)
    × (turns l.count 0 [] (λ e. eval (calls_in l.script) (tree l.script l.body) e (inside_of l.fn.self.progress)) l.fn.self.env (state_of l.fn.self.progress)
    ≡ turns (l.count - l.turn) l.turn l.values (λ e. eval (calls_in l.script) (tree l.script l.body) e (inside_of l.fn.self.progress)) l.fn.self.env (state_of l.self.progress))

abbrev pub invariant-visit_while-loop-part : goal.invariant-visit_while-loop-part
invariant-visit_while-loop-part l = (l.self.env ≡ l.fn.self.env)
    × (inside_of l.self.progress ≡ inside_of l.fn.self.progress)
    × AreBehind l.script l.below l.number (drop l.part-index l.part-items)
    × (eval_while (calls_in l.script) (passes l.goes_on) (meaning l.initial.last) (trees l.script l.part-items) l.fn.self.env (inside_of l.fn.self.progress) (state_of l.initial.self.progress)
    ≡ eval_while (calls_in l.script) (passes l.goes_on) (meaning l.last) (trees l.script (drop l.part-index l.part-items)) l.self.env (inside_of l.self.progress) (state_of l.self.progress))
