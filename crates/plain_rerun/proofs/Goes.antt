-- Operands, and then a body.
use Rattle.std.proofs.Common.{◌≡◌, ℕ, List, [], ◌∷◌, ◌++◌, Err, refl}
use Rattle.script_value.specs.Val.{Val}
use Rattle.script_value.specs.declared.outcome.TxName.{TxName}
use Rattle.script_nodes.specs.Core.{Core, Cores, bind, call}
use Rattle.script_nodes.specs.Arena.{Arena}
use Rattle.replay_spec.specs.Tape.{State, Outcome, End, got, stop, charge}
use Rattle.replay_spec.specs.Eval.{calls_in, eval, eval_into}
use Rattle.script_value.specs.Views.{meaning}
use Rattle.segments.specs.Views.{outcome_of}
use Rattle.segment_progress.specs.declared.halt.Halt.{Halt}
use Rattle.segment_progress.specs.declared.halt.Halt.TheVariants.{Memory, Stopped}
use Rattle.segment_progress.specs.declared.progress.Progress.{Progress}
use Rattle.segment_progress.specs.States.{Gives, inside_of, state_of}
use Rattle.plain_rerun.specs.Parts.{AreBehind, IsUnder}

pub last_is_under : (a : Arena) (j n : ℕ) (ps : List ℕ) (p : ℕ) → AreBehind a j n (ps ++ p ∷ []) → IsUnder a j n p
last_is_under a j n [] p h = h.0
last_is_under a j n (q ∷ ps) p h = last_is_under a j n ps p h.1

pub let_stops : (a : Arena) (es : Cores) (b : Core) (env : List Val) (inside inside1 : List TxName) (s s1 t : State) (o : Outcome) (entered : List TxName)
    → charge inside 1 s ≡ got tt s1 → inside1 ≡ inside → eval_into (calls_in a) [] es env inside1 s1 ≡ stop o entered t
    → eval (calls_in a) (bind es b) env inside s ≡ stop o entered t
let_stops a es b env inside inside1 s s1 t o entered e i f =
    let g = rw i at f in
    rw (e, g) refl

pub let_goes : (a : Arena) (es : Cores) (b : Core) (env env2 : List Val) (inside inside1 inside2 : List TxName) (s s1 s2 : State) (vs : List Val) (r : End Val)
    → charge inside 1 s ≡ got tt s1 → inside1 ≡ inside → eval_into (calls_in a) [] es env inside1 s1 ≡ got vs s2
    → inside2 ≡ inside1 → env2 ≡ env ++ vs → eval (calls_in a) b env2 inside2 s2 ≡ r
    → eval (calls_in a) (bind es b) env inside s ≡ r
let_goes a es b env env2 inside inside1 inside2 s s1 s2 vs r e i f j n h =
    let g = rw i at f in
    let k = rw (n, j, i) at h in
    rw (e, g) k

pub call_stops : (a : Arena) (k : ℕ) (es : Cores) (env : List Val) (inside inside1 : List TxName) (s s1 t : State) (o : Outcome) (entered : List TxName)
    → charge inside 1 s ≡ got tt s1 → inside1 ≡ inside → eval_into (calls_in a) [] es env inside1 s1 ≡ stop o entered t
    → eval (calls_in a) (call k es) env inside s ≡ stop o entered t
call_stops a k es env inside inside1 s s1 t o entered e i f =
    let g = rw i at f in
    rw (e, g) refl

pub call_goes : (a : Arena) (k : ℕ) (es : Cores) (env env2 : List Val) (inside inside1 inside2 : List TxName) (s s1 s2 : State) (vs : List Val) (r : End Val)
    → charge inside 1 s ≡ got tt s1 → inside1 ≡ inside → eval_into (calls_in a) [] es env inside1 s1 ≡ got vs s2
    → inside2 ≡ inside1 → env2 ≡ vs → calls_in a k env2 inside2 s2 ≡ r
    → eval (calls_in a) (call k es) env inside s ≡ r
call_goes a k es env env2 inside inside1 inside2 s s1 s2 vs r e i f j n h =
    let g = rw i at f in
    let z = rw (n, j, i) at h in
    rw (e, g) z

-- memory ran out, or a stop
pub let_err : (a : Arena) (es : Cores) (b : Core) (env : List Val) (inside inside1 : List TxName) (s s1 : State) (h : Halt) (p : Progress)
    → charge inside 1 s ≡ got tt s1 → inside1 ≡ inside → Gives {X = List Val} {Y = List Val} (λ vs. vs) (Err h) p (eval_into (calls_in a) [] es env inside1 s1)
    → Gives meaning (Err h) p (eval (calls_in a) (bind es b) env inside s)
let_err a es b env inside inside1 s s1 Memory p e i g = tt
let_err a es b env inside inside1 s s1 (Stopped o) p e i g = let_stops a es b env inside inside1 s s1 (state_of p) (outcome_of o) (inside_of p) e i g

pub call_err : (a : Arena) (k : ℕ) (es : Cores) (env : List Val) (inside inside1 : List TxName) (s s1 : State) (h : Halt) (p : Progress)
    → charge inside 1 s ≡ got tt s1 → inside1 ≡ inside → Gives {X = List Val} {Y = List Val} (λ vs. vs) (Err h) p (eval_into (calls_in a) [] es env inside1 s1)
    → Gives meaning (Err h) p (eval (calls_in a) (call k es) env inside s)
call_err a k es env inside inside1 s s1 Memory p e i g = tt
call_err a k es env inside inside1 s s1 (Stopped o) p e i g = call_stops a k es env inside inside1 s s1 (state_of p) (outcome_of o) (inside_of p) e i g
