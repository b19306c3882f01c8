-- No web cell that a page binds is unbound after it.
use Rattle.std.proofs.Common.{◌≡◌, ℕ, zero, suc, ◌+◌, ◌==◌, ◌^◌, min, Bool, true, false, List, [], ◌∷◌, Some, None, sym, ap, subst, ◌∙◌, arith, cond}
use Rattle.script_value.specs.Val.{Val}
use Rattle.script_value.specs.declared.outcome.TxName.{TxName}
use Rattle.web_cells.specs.Shadows.{bound_to, binding}
use Rattle.web_cells.specs.Own.{BindsAllOf}
use Rattle.web_cells.proofs.Shadowed.{shadowed}
use Rattle.script_nodes.specs.declared.script.SendKind.{SendKind}
use Rattle.script_nodes.specs.Arena.{Arena}
use Rattle.replay_spec.specs.Tape.{ends, halt, Reads, recorded, present, bound, Answer, State, Outcome, End, got, stop, Run, after, charged, is_over, sent, read_from, set_in, add_in}
use Rattle.replay_spec.specs.Laws.{longer}
use Rattle.machine_states.specs.Machine.{Frame, Control, visit, value, Point, node_at, cut, next, outer_env, outer_frames, Machine, Suspended, Step, goes, stopped, stepped, step, then, steps}
use Rattle.machine_states.specs.Laws.{started, resumed, NoCellIsUnbound}
use Rattle.machine_states.proofs.Acts.{IsActLaw, visited_paid, taken_all, any_given}
use Rattle.machine_states.proofs.Replay.{joins}

module _ (before : List (ℕ × Val)) where
  -- these cells are bound there
  abbrev EndBinds : {A : Type 0} → End A → Type 0
  EndBinds (got v s) = BindsAllOf before s.shadows
  EndBinds (stop o names s) = BindsAllOf before s.shadows

  abbrev Keeps : List TxName → (A : Type 0) → Run A → Type 0
  Keeps inside A r = (s : State) → BindsAllOf before s.shadows → EndBinds (r s)

  goes_on : {A B : Type 0} (inside : List TxName) (e : End A) (f : A → Run B) → EndBinds e → ((x : A) → Keeps inside B (f x)) → EndBinds (after e f)
  goes_on inside (got x s) f h g = g x s h
  goes_on inside (stop o names s) f h g = h

  charges : (inside : List TxName) (over : Bool) (cost : ℕ) (s : State) → BindsAllOf before s.shadows → EndBinds (charged inside over cost s)
  charges inside true cost s h = h
  charges inside false cost s h = h

  sends : (inside : List TxName) (kind : SendKind) (page : Val) (later : List Answer) (s : State) → BindsAllOf before s.shadows → EndBinds (sent inside kind page later s)
  sends inside kind page [] s h = h
  sends inside kind page (a ∷ later) s h = h

  reads : (c : ℕ) (source : Reads) (s : State) → BindsAllOf before s.shadows → EndBinds (read_from source c s)
  reads c (recorded []) s h = h
  reads c (recorded (v ∷ vs)) s h = h
  reads c (present cells fuel) s h = h

  sets : (c : ℕ) (v : Val) (source : Reads) (s : State) → BindsAllOf before s.shadows → EndBinds (set_in source c v s)
  sets c v (recorded vs) s h = h
  sets c v (present cells fuel) s h = h

  adds : (inside : List TxName) (c : ℕ) (v : Val) (source : Reads) (s : State) → BindsAllOf before s.shadows → EndBinds (add_in inside source c v s)
  adds inside c v source s h = grind arith

  -- one more binding unbinds none
  binds : (c : ℕ) (v : Val) (ss : List (ℕ × Val)) → BindsAllOf before ss → BindsAllOf before (bound_to c v ss)
  binds c v ss h d none = by_cell (c == d) (sym (shadowed c d v ss) ∙ none)
    where
      by_cell : (t : Bool) → cond t (Some v) (binding d ss) ≡ None → binding d before ≡ None
      by_cell true e = absurd (cc)
      by_cell false e = h d e

  law : IsActLaw Keeps Keeps
  law = record {
    gives = λ inside A x s h. h;
    goes_on = λ inside A B r f h g s on. goes_on inside (r s) f (h s on) g;
    paid_first = λ inside A B r f h g s on. goes_on inside (r s) f (h s on) g;
    paid_then = λ inside A B r f h g s on. goes_on inside (r s) f (h s on) g;
    charges = λ inside n pos s h. charges inside (is_over (bound s.segment.reads) (min (s.cost + n) (2 ^ 63))) (min (s.cost + n) (2 ^ 63)) s h;
    fails = λ inside k s h. h;
    urls = λ inside s h. h;
    finishes = λ inside page s h. h;
    ends = λ inside page s h. h;
    names = λ inside s h. h;
    leaves = λ inside name v s h. h;
    looks_up = λ inside c s h. h;
    shadows = λ inside c v s h. binds c v s.shadows h;
    reads = λ inside c s h. reads c s.segment.reads s h;
    sets = λ inside c v s h. sets c v s.segment.reads s h;
    adds = λ inside c v s h. adds inside c v s.segment.reads s h;
  }

  next_keeps : (a : Arena) (c : Control) (env : List Val) (fs : List Frame) (s : State) → BindsAllOf before s.shadows → EndBinds (next a c env fs s)
  next_keeps a (visit n) env fs s h = visited_paid Keeps Keeps law a n (node_at a n) env fs s h
  next_keeps a (value v) env [] s h = any_given Keeps Keeps law [] (halt [] ends v) env [] (law.ends [] v) s h
  next_keeps a (value v) env (f ∷ fs) s h =
      taken_all Keeps Keeps law (λ inside kind page s. sends inside kind page s.later s) a f v (cut f env) fs s h

  abbrev StepBinds : Step → Type 0
  StepBinds (goes m) = BindsAllOf before m.state.shadows
  StepBinds (stopped o names d s) = BindsAllOf before d.shadows

  by_end : (env : List Val) (fs : List Frame) (e : End Point) → EndBinds e → StepBinds (stepped env fs e)
  by_end env fs (got p s) h = h
  by_end env fs (stop o names s) h = h

  step_binds : (a : Arena) (m : Machine) → BindsAllOf before m.state.shadows → StepBinds (step a m)
  step_binds a m h =
      let c = m.point.control in let env = m.point.env in let fs = m.point.frames in
      by_end (outer_env c env fs) (outer_frames c fs) (next a c env fs m.state) (next_keeps a c env fs m.state h)

  on_binds : (f : Machine → Step) (x : Step) → ((m : Machine) → BindsAllOf before m.state.shadows → StepBinds (f m)) → StepBinds x → StepBinds (then f x)
  on_binds f (goes m) h i = h m i
  on_binds f (stopped o names d s) h i = i

  steps_bind : (a : Arena) (k : ℕ) (m : Machine) → BindsAllOf before m.state.shadows → StepBinds (steps a k m)
  steps_bind a zero m h = h
  steps_bind a (suc k) m h = on_binds (steps a k) (step a m) (steps_bind a k) (step_binds a m h)

  by_step : (x : Step) (o : Outcome) (names : List TxName) (d : Suspended) (s : State) → StepBinds x → x ≡ stopped o names d s → BindsAllOf before d.shadows
  by_step x o names d s h e = subst (λ (y : Step). StepBinds y) e h

  pub stop_binds : (a : Arena) (k : ℕ) (m : Machine) (o : Outcome) (names : List TxName) (d : Suspended) (s : State)
      → BindsAllOf before m.state.shadows → steps a k m ≡ stopped o names d s → BindsAllOf before d.shadows
  stop_binds a k m o names d s h e = by_step (steps a k m) o names d s (steps_bind a k m h) e

itself : (ss : List (ℕ × Val)) → BindsAllOf ss ss
itself ss c none = none

-- where the machine goes on it has yet to stop
rest : (a : Arena) (j k : ℕ) (m n : Machine) (o : Outcome) (names : List TxName) (d : Suspended) (s : State)
    → steps a j m ≡ goes n → steps a k m ≡ stopped o names d s → (i : ℕ) × (steps a i n ≡ stopped o names d s)
rest a zero k m n o names d s p q = (k, ap (steps a k) (sym same) ∙ q)
  where
    same : m ≡ n
    same = cc
rest a (suc j) zero m n o names d s p q = absurd (cc)
rest a (suc j) (suc k) m n o names d s p q = by_first (λ m1. rest a j k m1 n o names d s) (step a m) p q
  where
    by_first : ((m1 : Machine) → steps a j m1 ≡ goes n → steps a k m1 ≡ stopped o names d s → (i : ℕ) × (steps a i n ≡ stopped o names d s))
        → (x : Step) → then (steps a j) x ≡ goes n → then (steps a k) x ≡ stopped o names d s → (i : ℕ) × (steps a i n ≡ stopped o names d s)
    by_first more (goes m1) e f = more m1 e f
    by_first more (stopped p ns b t) e f = absurd (cc)

pub none_is_unbound : NoCellIsUnbound
none_is_unbound = record {
  resumed = λ a d x s. stop_binds d.shadows a s.count (resumed a d x) s.outcome s.entered s.kept s.state (itself d.shadows) s.are;
  replayed = λ a t d e x is later.
      let j = joins a t d x is in
      let s = later.stops in
      let r = rest a j.count s.count (started a (longer x t)) (resumed a d x) s.outcome s.entered s.kept s.state j.are s.are in
      subst (λ (k : Suspended). BindsAllOf d.shadows k.shadows) later.is
      (stop_binds d.shadows a r.0 (resumed a d x) s.outcome s.entered s.kept s.state (itself d.shadows) r.1);
}
