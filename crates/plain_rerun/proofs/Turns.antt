-- The turns of a body.
use Rattle.std.proofs.Common.{◌≡◌, ◌∙◌, ℕ, suc, ◌+◌, ◌-◌, ◌<◌, ℤ, pos, List, [], ◌∷◌, ◌++◌, Result, Ok, Err, refl, arith}
use Rattle.std.specs.Prelude.{negsuc}
use Rattle.script_value.specs.Val.{Val, number}
use Rattle.script_value.specs.declared.outcome.TxName.{TxName}
use Rattle.script_value.specs.declared.outcome.Fault.{Fault}
use Rattle.prim_spec.specs.Lists.{list_of}
use Rattle.script_nodes.specs.Core.{Core, repeat}
use Rattle.script_nodes.specs.Arena.{Arena}
use Rattle.replay_spec.specs.Tape.{Run, State, Outcome, faulted, got, stop, answer, charge}
use Rattle.replay_spec.specs.Eval.{calls_in, eval, turns, for_each}
use Rattle.plain_rerun.specs.Parts.{turns_at}
use Rattle.segment_progress.specs.Counts.{count_of}

one_more : (n i : ℕ) (done : List Val) (body : List Val → Run Val) (env : List Val) (s t : State) (v : Val)
    → body (env ++ number (pos i) ∷ []) s ≡ got v t
    → turns (suc n) i done body env s ≡ turns n (suc i) (done ++ v ∷ []) body env t
one_more n i done body env s t v e = rw e refl

one_stop : (n i : ℕ) (done : List Val) (body : List Val → Run Val) (env : List Val) (s t : State) (o : Outcome) (entered : List TxName)
    → body (env ++ number (pos i) ∷ []) s ≡ stop o entered t
    → turns (suc n) i done body env s ≡ stop o entered t
one_stop n i done body env s t o entered e = rw e refl

-- a turn that gave a value
pub turns_next : (count i : ℕ) (done : List Val) (body : List Val → Run Val) (env : List Val) (s t : State) (v : Val)
    → i < count → body (env ++ number (pos i) ∷ []) s ≡ got v t
    → turns (count - i) i done body env s ≡ turns (count - (i + 1)) (i + 1) (done ++ v ∷ []) body env t
turns_next count i done body env s t v h e =
    let left : count - i ≡ suc (count - (i + 1)) = omega arith in
    let next : i + 1 ≡ suc i = omega arith in
    rw (left, next) (one_more (count - suc i) i done body env s t v e)

-- a turn that stopped
pub turns_stop : (count i : ℕ) (done : List Val) (body : List Val → Run Val) (env : List Val) (s t : State) (o : Outcome) (entered : List TxName)
    → i < count → body (env ++ number (pos i) ∷ []) s ≡ stop o entered t
    → turns (count - i) i done body env s ≡ stop o entered t
turns_stop count i done body env s t o entered h e =
    let left : count - i ≡ suc (count - (i + 1)) = omega arith in
    rw left (one_stop (count - (i + 1)) i done body env s t o entered e)

-- what stands before and after one turn of a loop
pub turn_kept : (a : Arena) (count i : ℕ) (b : Core) (env env1 : List Val) (inside inside1 : List TxName) (done : List Val) (first s t : State) (v : Val)
    → i < count → env1 ≡ env ++ number (pos i) ∷ [] → inside1 ≡ inside → eval (calls_in a) b env1 inside1 s ≡ got v t
    → turns count 0 [] (λ e. eval (calls_in a) b e inside) env first ≡ turns (count - i) i done (λ e. eval (calls_in a) b e inside) env s
    → turns count 0 [] (λ e. eval (calls_in a) b e inside) env first ≡ turns (count - (i + 1)) (i + 1) (done ++ v ∷ []) (λ e. eval (calls_in a) b e inside) env t
turn_kept a count i b env env1 inside inside1 done first s t v h n o e before =
    let here = rw (n, o) at e in
    before ∙ turns_next count i done (λ e. eval (calls_in a) b e inside) env s t v h here

-- the count of a loop, and then its turns
pub repeat_goes : (a : Arena) (n b : Core) (env env1 : List Val) (inside inside1 inside2 : List TxName) (s s1 s2 : State) (v : Val)
    → charge inside 1 s ≡ got tt s1 → inside1 ≡ inside → eval (calls_in a) n env inside1 s1 ≡ got v s2 → env1 ≡ env → inside2 ≡ inside1
    → eval (calls_in a) (repeat n b) env inside s ≡ turns_at a v b env1 inside2 s2
repeat_goes a n b env env1 inside inside1 inside2 s s1 s2 v e i f k j =
    let g = rw i at f in
    rw (j, i, k, e, g) refl

-- the list of the values of the turns
pub turns_listed : (r : Result ℤ Fault) (n : ℕ) (inside : List TxName) (body : List Val → Run Val) (env : List Val) (s t : State) (vs : List Val)
    → count_of r ≡ Ok n → turns n 0 [] body env s ≡ got vs t
    → for_each inside r body env s ≡ answer inside (list_of vs) t
turns_listed (Ok (pos m)) n inside body env s t vs h e =
    let same : m ≡ n = cc in
    rw (same, e) refl
turns_listed (Ok (negsuc m)) n inside body env s t vs h e = absurd (cc)
turns_listed (Err k) n inside body env s t vs h e = absurd (cc)

-- the turns stopped
pub turns_cut : (r : Result ℤ Fault) (n : ℕ) (inside entered : List TxName) (body : List Val → Run Val) (env : List Val) (s t : State) (o : Outcome)
    → count_of r ≡ Ok n → turns n 0 [] body env s ≡ stop o entered t
    → for_each inside r body env s ≡ stop o entered t
turns_cut (Ok (pos m)) n inside entered body env s t o h e =
    let same : m ≡ n = cc in
    rw (same, e) refl
turns_cut (Ok (negsuc m)) n inside entered body env s t o h e = absurd (cc)
turns_cut (Err k) n inside entered body env s t o h e = absurd (cc)

-- a value that is no number of turns
pub no_turns : (r : Result ℤ Fault) (k : Fault) (inside : List TxName) (body : List Val → Run Val) (env : List Val) (s : State)
    → count_of r ≡ Err k → for_each inside r body env s ≡ stop (faulted k) inside s
no_turns (Ok (pos n)) k inside body env s h = absurd (cc)
no_turns (Ok (negsuc n)) k inside body env s h = cc
no_turns (Err j) k inside body env s h = cc
