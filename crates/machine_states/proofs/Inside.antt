-- A machine stops inside the transactions of its frames.
use Rattle.std.proofs.Common.{◌≡◌, ℕ, zero, suc, ◌+◌, ◌^◌, min, Bool, true, false, List, [], ◌∷◌, refl, subst, arith}
use Rattle.script_value.specs.Val.{Val}
use Rattle.script_value.specs.declared.outcome.TxName.{TxName}
use Rattle.script_nodes.specs.declared.script.SendKind.{SendKind}
use Rattle.script_nodes.specs.Arena.{Arena}
use Rattle.replay_spec.specs.Tape.{ends, halt, Reads, recorded, present, bound, Answer, State, Outcome, End, got, stop, Run, after, charged, is_over, sent, read_from, set_in, add_in}
use Rattle.machine_states.specs.Machine.{Frame, Control, visit, value, Point, inside_of, node_at, cut, next, outer_env, outer_frames, Machine, Suspended, Step, goes, stopped, stepped, step, then, steps}
use Rattle.machine_states.proofs.Acts.{IsActLaw, visited_paid, taken_all, any_given}

-- these transactions, and what the script gives web cells, which stays
abbrev StopsIn : List TxName → List Val → {A : Type 0} → End A → Type 0
StopsIn inside web (got v s) = s.defaults ≡ web
StopsIn inside web (stop o names s) = (names ≡ inside) × (s.defaults ≡ web)

abbrev Within : List TxName → (A : Type 0) → Run A → Type 0
Within inside A r = (s : State) → StopsIn inside s.defaults (r s)

goes_on : (inside : List TxName) (web : List Val) {A B : Type 0} (e : End A) (f : A → Run B) → StopsIn inside web e → ((x : A) → Within inside B (f x)) → StopsIn inside web (after e f)
goes_on inside web (got x s) f h g = subst (λ (ds : List Val). StopsIn inside ds (f x s)) h (g x s)
goes_on inside web (stop o names s) f h g = h

charges : (inside : List TxName) (over : Bool) (cost : ℕ) (s : State) → StopsIn inside s.defaults (charged inside over cost s)
charges inside true cost s = (refl, refl)
charges inside false cost s = refl

sends : (inside : List TxName) (kind : SendKind) (page : Val) (later : List Answer) (s : State) → StopsIn inside s.defaults (sent inside kind page later s)
sends inside kind page [] s = (refl, refl)
sends inside kind page (a ∷ later) s = refl

reads : (inside : List TxName) (c : ℕ) (source : Reads) (s : State) → StopsIn inside s.defaults (read_from source c s)
reads inside c (recorded []) s = refl
reads inside c (recorded (v ∷ vs)) s = refl
reads inside c (present cells fuel) s = refl

sets : (inside : List TxName) (c : ℕ) (v : Val) (source : Reads) (s : State) → StopsIn inside s.defaults (set_in source c v s)
sets inside c v (recorded vs) s = refl
sets inside c v (present cells fuel) s = refl

adds : (inside : List TxName) (c : ℕ) (v : Val) (source : Reads) (s : State) → StopsIn inside s.defaults (add_in inside source c v s)
adds inside c v source s = grind arith

law : IsActLaw (λ inside A r. Within inside A r) (λ inside A r. Within inside A r)
law = record {
  gives = λ inside A x s. refl;
  goes_on = λ inside A B r f h g s. goes_on inside s.defaults (r s) f (h s) g;
  paid_first = λ inside A B r f h g s. goes_on inside s.defaults (r s) f (h s) g;
  paid_then = λ inside A B r f h g s. goes_on inside s.defaults (r s) f (h s) g;
  charges = λ inside n pos s. charges inside (is_over (bound s.segment.reads) (min (s.cost + n) (2 ^ 63))) (min (s.cost + n) (2 ^ 63)) s;
  fails = λ inside k s. (refl, refl);
  urls = λ inside s. refl;
  finishes = λ inside page s. (refl, refl);
  ends = λ inside page s. (refl, refl);
  names = λ inside s. refl;
  leaves = λ inside name v s. refl;
  looks_up = λ inside c s. refl;
  shadows = λ inside c v s. refl;
  reads = λ inside c s. reads inside c s.segment.reads s;
  sets = λ inside c v s. sets inside c v s.segment.reads s;
  adds = λ inside c v s. adds inside c v s.segment.reads s;
}

next_within : (a : Arena) (c : Control) (env : List Val) (fs : List Frame) (s : State) → StopsIn (inside_of (outer_frames c fs)) s.defaults (next a c env fs s)
next_within a (visit n) env fs s = visited_paid (λ inside A r. Within inside A r) (λ inside A r. Within inside A r) law a n (node_at a n) env fs s
next_within a (value v) env [] s = any_given (λ inside A r. Within inside A r) (λ inside A r. Within inside A r) law [] (halt [] ends v) env [] (law.ends [] v) s
next_within a (value v) env (f ∷ fs) s =
    taken_all (λ inside A r. Within inside A r) (λ inside A r. Within inside A r) law (λ inside kind page s. sends inside kind page s.later s) a f v (cut f env) fs s

abbrev InFrames : List Val → Step → Type 0
InFrames web (goes m) = m.state.defaults ≡ web
InFrames web (stopped o names d s) = (names ≡ inside_of d.frames) × (s.defaults ≡ web)

stepped_within : (web env : List Val) (fs : List Frame) (e : End Point) → StopsIn (inside_of fs) web e → InFrames web (stepped env fs e)
stepped_within web env fs (got p s) h = h
stepped_within web env fs (stop o names s) h = h

step_within : (a : Arena) (m : Machine) → InFrames m.state.defaults (step a m)
step_within a m =
    let c = m.point.control in let env = m.point.env in let fs = m.point.frames in
    stepped_within m.state.defaults (outer_env c env fs) (outer_frames c fs) (next a c env fs m.state) (next_within a c env fs m.state)

on_within : (web : List Val) (f : Machine → Step) (x : Step) → ((m : Machine) → InFrames m.state.defaults (f m)) → InFrames web x → InFrames web (then f x)
on_within web f (goes m) h i = subst (λ (ds : List Val). InFrames ds (f m)) i (h m)
on_within web f (stopped o names d s) h i = i

steps_within : (a : Arena) (k : ℕ) (m : Machine) → InFrames m.state.defaults (steps a k m)
steps_within a zero m = refl
steps_within a (suc k) m = on_within m.state.defaults (steps a k) (step a m) (steps_within a k) (step_within a m)

by_step : (web : List Val) (x : Step) (o : Outcome) (names : List TxName) (d : Suspended) (s : State) → InFrames web x → x ≡ stopped o names d s → (names ≡ inside_of d.frames) × (s.defaults ≡ web)
by_step web (goes n) o names d s h e = absurd (cc)
by_step web (stopped p ms b t) o names d s h e = let i = h.0 in let j = h.1 in (cc, cc)

-- the names of a stop are those of its frames, and the script's web cells begin with the same
pub stop_within : (a : Arena) (k : ℕ) (m : Machine) (o : Outcome) (names : List TxName) (d : Suspended) (s : State) → steps a k m ≡ stopped o names d s
    → (names ≡ inside_of d.frames) × (s.defaults ≡ m.state.defaults)
stop_within a k m o names d s e = by_step m.state.defaults (steps a k m) o names d s (steps_within a k m) e
