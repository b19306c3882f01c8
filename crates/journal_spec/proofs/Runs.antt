-- A run over shallow values reads and writes shallow values.
use Rattle.std.proofs.Common.{ℕ, zero, suc, ◌+◌, ◌==◌, ◌^◌, min, ℤ, pos, negsuc, List, [], ◌∷◌, ◌++◌, Bool, true, false, if◌then◌else◌, Some, Result, Ok, Err, slice_get, arith}
use Rattle.std.specs.Prelude.{◌+ℤ◌, nat_lt, unwrap_or, slice_set, ⊤}
use Rattle.std.specs.List.{AllByRecursion}
use Rattle.script_value.specs.Val.{Val, number, truth, size_of}
use Rattle.script_value.specs.Numbers.{is_in_range}
use Rattle.script_value.specs.declared.outcome.Fault.{Fault}
use Rattle.script_value.specs.declared.outcome.Fault.TheVariants.{Overflow}
use Rattle.script_value.specs.declared.outcome.TxName.{TxName}
use Rattle.prim_spec.specs.Table.{value_of, is_false}
use Rattle.prim_spec.specs.Lists.{list_of}
use Rattle.web_cells.specs.Shadows.{bound_to, binding}
use Rattle.instance_cells.specs.Cells.{Effect, read, set, add, cell_of, cell_at, sum, value_or, left_by, landed, commit}
use Rattle.script_nodes.specs.declared.script.SendKind.{SendKind}
use Rattle.script_nodes.specs.Core.{Core, Cores, lit, var, bind, seq, branch, and_all, or_any, repeat, prim, call, send, finish, back, isolate, cell_ref, cell_shadow, inst_ref, inst_set, inst_add, no_cores, core}
use Rattle.replay_spec.specs.Tape.{Reads, recorded, present, bound, is_over, Answer, State, begin, finishes, ends, End, got, stop, Run, after, ◌>>=◌, give, answer, choose, charged, charge, url, halt, sent, send_page, named, enter, leave, lookup, shadow, note, read_from, read_cell, set_in, set_cell, as_number, added, add_to, add_in, add_cell}
use Rattle.replay_spec.specs.Eval.{Calls, with_task, calls_from, no_calls, calls_of, evaluated, eval, eval_into, eval_while, turns, for_each, copied, value_at, is_not_false, is_any, segment_at_end}
use Rattle.journal_spec.specs.Depths.{IsShallow, AreShallow, HasShallow, HaveShallow, AreShallowReads, AreShallowAnswers, IsShallowEffect, RunsStayShallow}
use Rattle.journal_spec.proofs.Shallow.{GivesShallow, listed, operation}
use Rattle.kept_states.proofs.FrameCodec.Reread.{all_append}

one_more : {A : Type 0} (P : A → Type 0) (xs : List A) (x : A) → AllByRecursion P xs → P x → AllByRecursion P (xs ++ x ∷ [])
one_more P xs x h g = all_append P xs (x ∷ []) h (g, tt)

value_there : (vs : List Val) (k : ℕ) → AreShallow vs → IsShallow (unwrap_or (slice_get vs k) (truth false))
value_there [] k h = omega arith
value_there (v ∷ vs) zero h = h.0
value_there (v ∷ vs) (suc k) h = value_there vs k h.1

set_there : (vs : List Val) (k : ℕ) (v : Val) → AreShallow vs → IsShallow v → AreShallow (slice_set vs k v)
set_there [] k v h g = tt
set_there (w ∷ vs) zero v h g = (g, h.1)
set_there (w ∷ vs) (suc k) v h g = (h.0, set_there vs k v h.1 g)

summed : (w : Val) (n : ℤ) → IsShallow w → IsShallow (value_or w (sum w n))
summed (number m) n h = by_test (is_in_range (m +ℤ n))
  where
    by_test : (t : Bool) → IsShallow (value_or (number m) (if t then Ok (number (m +ℤ n)) else Err Overflow))
    by_test true = omega arith
    by_test false = h
summed _ n h = h

left : (e : Effect) (w : Val) → IsShallowEffect e → IsShallow w → IsShallow (left_by e w)
left (read c v) w h g = g
left (set c v) w h g = h
left (add c n) w h g = summed w n g

committed : (es : List Effect) (cells : List Val) → AllByRecursion IsShallowEffect es → AreShallow cells → AreShallow (commit es cells)
committed [] cells h g = g
committed (e ∷ es) cells h g =
    committed es (landed e cells) h.1 (set_there cells (cell_of e) (left_by e (cell_at cells (cell_of e))) g (left e (cell_at cells (cell_of e)) h.0 (value_there cells (cell_of e) g)))

-- the bindings of web cells
abbrev AreShallowBindings : List (ℕ × Val) → Type 0
AreShallowBindings [] = ⊤
AreShallowBindings (s ∷ ss) = IsShallow s.1 × AreShallowBindings ss

bound_there : (c : ℕ) (v : Val) (ss : List (ℕ × Val)) → IsShallow v → AreShallowBindings ss → AreShallowBindings (bound_to c v ss)
bound_there c v [] h g = (h, tt)
bound_there c v (s ∷ ss) h g = by_test (bound_there c v ss h g.1) (nat_lt c s.0) (c == s.0)
  where
    by_test : AreShallowBindings (bound_to c v ss) → (t u : Bool) → AreShallowBindings (if t then (c, v) ∷ s ∷ ss else (if u then (c, v) ∷ ss else s ∷ bound_to c v ss))
    by_test rest true u = (h, g)
    by_test rest false true = (h, g.1)
    by_test rest false false = (g.0, rest)

looked_up : (c : ℕ) (ss : List (ℕ × Val)) (w : Val) → AreShallowBindings ss → IsShallow w → IsShallow (unwrap_or (binding c ss) w)
looked_up c [] w h g = g
looked_up c (s ∷ ss) w h g = by_test (looked_up c ss w h.1 g) (s.0 == c)
  where
    by_test : IsShallow (unwrap_or (binding c ss) w) → (t : Bool) → IsShallow (unwrap_or (if t then Some s.1 else binding c ss) w)
    by_test rest true = h.0
    by_test rest false = rest

-- what a run works on is shallow
record Fine (s : State) : Type 0 where
  reads : AreShallowReads s.segment.reads
  later : AreShallowAnswers s.later
  effects : AllByRecursion IsShallowEffect s.effects
  shadows : AreShallowBindings s.shadows
  defaults : AreShallow s.defaults

abbrev EndsFine : {A : Type 0} → (A → Type 0) → End A → Type 0
EndsFine G (got x t) = G x × Fine t
EndsFine G (stop o names t) = Fine t

abbrev StaysFine : {A : Type 0} → (A → Type 0) → Run A → Type 0
StaysFine G r = (s : State) → Fine s → EndsFine G (r s)

goes : {A B : Type 0} (G : A → Type 0) (H : B → Type 0) (e : End A) (f : A → Run B) → EndsFine G e → ((x : A) → G x → StaysFine H (f x)) → EndsFine H (after e f)
goes G H (got x t) f h g = g x h.0 t h.1
goes G H (stop o names t) f h g = h

goes_on : {A B : Type 0} (G : A → Type 0) (H : B → Type 0) (r : Run A) (f : A → Run B) → StaysFine G r → ((x : A) → G x → StaysFine H (f x)) → StaysFine H (r >>= f)
goes_on G H r f h g s fine = goes G H (r s) f (h s fine) g

abbrev Any : {A : Type 0} → A → Type 0
Any x = ⊤

with_cost : (s : State) (cost : ℕ) → Fine s → Fine (record s { cost = cost })
with_cost s cost h = record { reads = h.reads; later = h.later; effects = h.effects; shadows = h.shadows; defaults = h.defaults }

charged_by : (inside : List TxName) (over : Bool) (cost : ℕ) (s : State) → Fine s → EndsFine Any (charged inside over cost s)
charged_by inside true cost s h = with_cost s cost h
charged_by inside false cost s h = (tt, with_cost s cost h)

charges : (inside : List TxName) (n : ℕ) → StaysFine Any (charge inside n)
charges inside n s h = let cost = min (s.cost + n) (2 ^ 63) in charged_by inside (is_over (bound s.segment.reads) cost) cost s h

paid : (inside : List TxName) (r : Run Val) → StaysFine IsShallow r → StaysFine IsShallow (charge inside 1 >>= (λ _. r))
paid inside r h = goes_on Any IsShallow (charge inside 1) (λ _. r) (charges inside 1) (λ _ _. h)

copies : (inside : List TxName) (v : Val) → IsShallow v → StaysFine IsShallow (copied inside v)
copies inside v h = goes_on Any IsShallow (charge inside (1 + size_of v)) (λ _. give v) (charges inside (1 + size_of v)) (λ _ _ s fine. (h, fine))

answers : (inside : List TxName) (r : Result Val Fault) → GivesShallow r → StaysFine IsShallow (answer inside r)
answers inside (Ok v) h s fine = (h, fine)
answers inside (Err k) h s fine = fine

chooses : {A : Type 0} (G : A → Type 0) (b : Bool) (r s : Run A) → StaysFine G r → StaysFine G s → StaysFine G (choose b r s)
chooses G true r s h g = h
chooses G false r s h g = g

sends : (inside : List TxName) (kind : SendKind) (page : Val) (later : List Answer) (s : State) → AreShallowAnswers later → Fine s → EndsFine IsShallow (sent inside kind page later s)
sends inside kind page [] s h fine = fine
sends inside kind page (a ∷ later) s h fine = (h.0, record { reads = h.1; later = h.2; effects = tt; shadows = fine.shadows; defaults = fine.defaults })

noted : (e : Effect) (s : State) → IsShallowEffect e → Fine s → Fine (note e s)
noted e s h fine = record {
  reads = fine.reads;
  later = fine.later;
  effects = one_more IsShallowEffect s.effects e fine.effects h;
  shadows = fine.shadows;
  defaults = fine.defaults;
}

reads_from : (source : Reads) (c : ℕ) (s : State) → AreShallowReads source → Fine s → EndsFine IsShallow (read_from source c s)
reads_from (recorded []) c s h fine = (omega arith, fine)
reads_from (recorded (v ∷ vs)) c s h fine =
    (h.0, record { reads = h.1; later = fine.later; effects = fine.effects; shadows = fine.shadows; defaults = fine.defaults })
reads_from (present cells fuel) c s h fine =
    let there = value_there (commit s.effects cells) c (committed s.effects cells fine.effects h) in (there, noted (read c (cell_at (commit s.effects cells) c)) s there fine)

sets_in : (source : Reads) (c : ℕ) (v : Val) (s : State) → IsShallow v → Fine s → EndsFine IsShallow (set_in source c v s)
sets_in (recorded vs) c v s h fine = (omega arith, fine)
sets_in (present cells fuel) c v s h fine = (omega arith, noted (set c v) s h fine)

adds_by : (inside : List TxName) (c : ℕ) (w : Val) (n : ℤ) (r : Result Val Fault) (s : State) → IsShallow w → Fine s → EndsFine IsShallow (added inside c w n r s)
adds_by inside c w n (Ok v) s h fine = (omega arith, noted (add c n) s tt fine)
adds_by inside c w n (Err k) s h fine = noted (read c w) s h fine

adds_to : (inside : List TxName) (c : ℕ) (w : Val) (r : Result ℤ Fault) (s : State) → IsShallow w → Fine s → EndsFine IsShallow (add_to inside c w r s)
adds_to inside c w (Ok n) s h fine = adds_by inside c w n (sum w n) s h fine
adds_to inside c w (Err k) s h fine = noted (read c w) s h fine

adds_in : (inside : List TxName) (source : Reads) (c : ℕ) (v : Val) (s : State) → AreShallowReads source → Fine s → EndsFine IsShallow (add_in inside source c v s)
adds_in inside (recorded vs) c v s h fine = (omega arith, fine)
adds_in inside (present cells fuel) c v s h fine =
    adds_to inside c (cell_at (commit s.effects cells) c) (as_number v) s (value_there (commit s.effects cells) c (committed s.effects cells fine.effects h)) fine

turned : (n i : ℕ) (done : List Val) (body : List Val → Run Val) (env : List Val) → AreShallow done → AreShallow env → ((e : List Val) → AreShallow e → StaysFine IsShallow (body e))
    → StaysFine AreShallow (turns n i done body env)
turned zero i done body env h g p = λ s fine. (h, fine)
turned (suc n) i done body env h g p =
    goes_on IsShallow AreShallow (body (env ++ number (pos i) ∷ [])) (λ v. turns n (suc i) (done ++ v ∷ []) body env)
    (p (env ++ number (pos i) ∷ []) (one_more IsShallow env (number (pos i)) g (omega arith)))
    (λ v v_low. turned n (suc i) (done ++ v ∷ []) body env (one_more IsShallow done v h v_low) g p)

each : (inside : List TxName) (n : Result ℤ Fault) (body : List Val → Run Val) (env : List Val) → AreShallow env → ((e : List Val) → AreShallow e → StaysFine IsShallow (body e))
    → StaysFine IsShallow (for_each inside n body env)
each inside (Ok (pos n)) body env g p =
    goes_on AreShallow IsShallow (turns n 0 [] body env) (λ vs. answer inside (list_of vs)) (turned n 0 [] body env tt g p) (λ vs _. answers inside (list_of vs) (listed vs))
each inside (Ok (negsuc n)) body env g p = λ s fine. fine
each inside (Err k) body env g p = λ s fine. fine

-- a call with shallow operands gives a shallow value
abbrev AreFine : Calls → Type 0
AreFine calls = (k : ℕ) (vs : List Val) (inside : List TxName) → AreShallow vs → StaysFine IsShallow (calls k vs inside)

mutual
  every : (calls : Calls) → AreFine calls → (c : Core) (env : List Val) (inside : List TxName) → HasShallow c → AreShallow env → StaysFine IsShallow (eval calls c env inside)
  every calls runs (lit v) env inside h g = copies inside v h
  every calls runs (var k) env inside h g = copies inside (value_at env k) (value_there env k g)
  every calls runs (bind es b) env inside h g =
      paid inside _ (goes_on AreShallow IsShallow (eval_into calls [] es env inside) (λ vs. eval calls b (env ++ vs) inside) (every_into calls runs [] es env inside h.0 tt g)
      (λ vs low. every calls runs b (env ++ vs) inside h.1 (all_append IsShallow env vs g low)))
  every calls runs (branch t a b) env inside h g =
      paid inside _ (goes_on IsShallow IsShallow (eval calls t env inside) (λ v. choose (is_false v) (eval calls b env inside) (eval calls a env inside)) (every calls runs t env inside h.0 g)
      (λ v _. chooses IsShallow (is_false v) (eval calls b env inside) (eval calls a env inside) (every calls runs b env inside h.2 g) (every calls runs a env inside h.1 g)))
  every calls runs (repeat n b) env inside h g =
      paid inside _ (goes_on IsShallow IsShallow (eval calls n env inside) (λ v. for_each inside (as_number v) (λ e. eval calls b e inside) env) (every calls runs n env inside h.0 g)
      (λ v _. each inside (as_number v) (λ e. eval calls b e inside) env g (λ e low. every calls runs b e inside h.1 low)))
  every calls runs (prim o es) env inside h g =
      paid inside _ (goes_on AreShallow IsShallow (eval_into calls [] es env inside) (λ vs. answer inside (value_of o vs)) (every_into calls runs [] es env inside h tt g)
      (λ vs _. answers inside (value_of o vs) (operation o vs)))
  every calls runs (call k es) env inside h g =
      paid inside _ (goes_on AreShallow IsShallow (eval_into calls [] es env inside) (λ vs. calls k vs inside) (every_into calls runs [] es env inside h tt g)
      (λ vs low. runs k vs inside low))
  every calls runs (seq es) env inside h g = paid inside _ (every_while calls runs is_any (truth false) es env inside h (omega arith) g)
  every calls runs (and_all es) env inside h g = paid inside _ (every_while calls runs is_not_false (truth true) es env inside h (omega arith) g)
  every calls runs (or_any es) env inside h g = paid inside _ (every_while calls runs is_false (truth false) es env inside h (omega arith) g)
  every calls runs (send kind b) env inside h g =
      paid inside _ (goes_on IsShallow IsShallow url (λ u. eval calls b (env ++ u ∷ []) inside >>= send_page inside kind) (λ s fine. (omega arith, fine)) (λ u low.
      goes_on IsShallow IsShallow (eval calls b (env ++ u ∷ []) inside) (send_page inside kind) (every calls runs b (env ++ u ∷ []) inside h (one_more IsShallow env u g low))
      (λ page _ s fine. sends inside kind page s.later s fine.later fine)))
  every calls runs (finish b) env inside h g = paid inside _ (goes_on IsShallow IsShallow (eval calls b env inside) (halt inside finishes) (every calls runs b env inside h g) (λ page _ s fine. fine))
  every calls runs (back b) env inside h g = paid inside _ (goes_on IsShallow IsShallow (eval calls b env inside) (halt inside ends) (every calls runs b env inside h g) (λ page _ s fine. fine))
  every calls runs (isolate b) env inside h g =
      goes_on Any IsShallow (enter inside) (λ name. eval calls b env (inside ++ name ∷ []) >>= leave name)
      (goes_on Any Any (charge inside 1) (λ _. named) (charges inside 1) (λ _ _ s fine. (tt, record { reads = fine.reads; later = fine.later; effects = fine.effects; shadows = fine.shadows; defaults = fine.defaults })))
      (λ name _. goes_on IsShallow IsShallow (eval calls b env (inside ++ name ∷ [])) (leave name) (every calls runs b env (inside ++ name ∷ []) h g)
      (λ v low s fine. (low, record { reads = fine.reads; later = fine.later; effects = fine.effects; shadows = fine.shadows; defaults = fine.defaults })))
  every calls runs (cell_ref c) env inside h g =
      goes_on IsShallow IsShallow (lookup c) (copied inside) (λ s fine. (looked_up c s.shadows (cell_at s.defaults c) fine.shadows (value_there s.defaults c fine.defaults), fine)) (λ v low. copies inside v low)
  every calls runs (cell_shadow c e) env inside h g =
      paid inside _ (goes_on IsShallow IsShallow (eval calls e env inside) (shadow c) (every calls runs e env inside h g)
      (λ v low s fine. (omega arith, record { reads = fine.reads; later = fine.later; effects = fine.effects; shadows = bound_there c v s.shadows low fine.shadows; defaults = fine.defaults })))
  every calls runs (inst_ref c) env inside h g =
      goes_on IsShallow IsShallow (read_cell c) (copied inside) (λ s fine. reads_from s.segment.reads c s fine.reads fine) (λ v low. copies inside v low)
  every calls runs (inst_set c e) env inside h g =
      paid inside _ (goes_on IsShallow IsShallow (eval calls e env inside) (set_cell c) (every calls runs e env inside h g) (λ v low s fine. sets_in s.segment.reads c v s low fine))
  every calls runs (inst_add c e) env inside h g =
      paid inside _ (goes_on IsShallow IsShallow (eval calls e env inside) (add_cell inside c) (every calls runs e env inside h g) (λ v low s fine. adds_in inside s.segment.reads c v s fine.reads fine))

  every_into : (calls : Calls) → AreFine calls → (done : List Val) (es : Cores) (env : List Val) (inside : List TxName) → HaveShallow es → AreShallow done → AreShallow env → StaysFine AreShallow (eval_into calls done es env inside)
  every_into calls runs done no_cores env inside h d g = λ s fine. (d, fine)
  every_into calls runs done (core c cs) env inside h d g =
      goes_on IsShallow AreShallow (eval calls c env inside) (λ v. eval_into calls (done ++ v ∷ []) cs env inside) (every calls runs c env inside h.0 g)
      (λ v low. every_into calls runs (done ++ v ∷ []) cs env inside h.1 (one_more IsShallow done v d low) g)

  every_while : (calls : Calls) → AreFine calls → (goes_on : Val → Bool) (v : Val) (es : Cores) (env : List Val) (inside : List TxName) → HaveShallow es → IsShallow v → AreShallow env → StaysFine IsShallow (eval_while calls goes_on v es env inside)
  every_while calls runs test v no_cores env inside h low g = λ s fine. (low, fine)
  every_while calls runs test v (core c cs) env inside h low g =
      goes_on IsShallow IsShallow (eval calls c env inside) (λ w. choose (test w) (eval_while calls test w cs env inside) (give w)) (every calls runs c env inside h.0 g)
      (λ w w_low. chooses IsShallow (test w) (eval_while calls test w cs env inside) (give w) (every_while calls runs test w cs env inside h.1 w_low g) (λ s fine. (w_low, fine)))

bodies : (calls : Calls) → AreFine calls → (n : ℕ) (cs : Cores) → HaveShallow cs → AreFine (calls_from calls n cs)
bodies calls runs n no_cores h = runs
bodies calls runs n (core c cs) h =
    bodies (with_task n (eval calls c) calls) (λ k vs inside low. chooses IsShallow (k == n) (eval calls c vs inside) (calls k vs inside) (every calls runs c vs inside h.0 low) (runs k vs inside low)) (suc n) cs h.1

at_end : (e : End Val) → EndsFine IsShallow e → AllByRecursion IsShallowEffect (segment_at_end e).effects
at_end (got v t) h = h.1.effects
at_end (stop o names t) h = h.effects

pub stay_shallow : RunsStayShallow
stay_shallow s t script reads later =
    let start = begin s.web t in
    let runs = bodies no_calls (λ k vs inside low state fine. (omega arith, fine)) 0 s.tasks script.trees.1 in
    at_end (evaluated s start) (every (calls_of s.tasks) runs s.body [] [] script.trees.0 tt start (record { reads = reads; later = later; effects = tt; shadows = tt; defaults = script.web }))
