-- What goes on with an answer comes to what the script comes to over the longer tape.
use Rattle.std.proofs.Common.{◌≡◌, ◌⊎◌, inl, inr, ◌<◌, ℕ, zero, suc, ◌+◌, ◌≤◌, List, refl, sym, ap, ◌∙◌, arith}
use Rattle.script_value.specs.Val.{Val}
use Rattle.script_value.specs.declared.outcome.TxName.{TxName}
use Rattle.script_nodes.specs.Arena.{Arena, IsScript, script_of}
use Rattle.replay_spec.specs.Tape.{Answer, Tape, State, Outcome, End, got, stop}
use Rattle.replay_spec.specs.Eval.{segment_at_end, end_of, run}
use Rattle.replay_spec.specs.Laws.{Waits, longer}
use Rattle.machine_states.specs.Machine.{Machine, Suspended, Step, goes, stopped, step, then, steps}
use Rattle.machine_states.specs.Laws.{started, resumed, Stops, segment_of, IsStateOf, TheFirstStopIsTheStop}
use Rattle.machine_states.proofs.Meaning.{closed, meant_step, steps_mean}
use Rattle.machine_states.proofs.Inside.{stop_within}
use Rattle.machine_states.proofs.Grow.{steps_grow, restarted}

one_more : (a : Arena) (m : Machine) (y z : Step) (k : ℕ) → step a m ≡ y → then (steps a k) y ≡ z → steps a (suc k) m ≡ z
one_more a m y z k p q = ap (then (steps a k)) p ∙ q

on_on : (a : Arena) (j k : ℕ) (m n : Machine) (y z : Step) → step a m ≡ y → then (steps a j) y ≡ goes n → steps a k n ≡ z
    → ((m1 : Machine) → steps a j m1 ≡ goes n → (i : ℕ) × (steps a i m1 ≡ z)) → (i : ℕ) × (steps a i m ≡ z)
on_on a j k m n (goes m1) z p e q ih = let r = ih m1 e in (suc r.0, one_more a m (goes m1) z r.0 p r.1)
on_on a j k m n (stopped o names d s) z p e q ih = absurd (cc)

pub same_machine : (m n : Machine) → goes m ≡ goes n → m ≡ n
same_machine m n e = cc

-- so many steps, and then some more
pub steps_on : (a : Arena) (j k : ℕ) (m n : Machine) (z : Step) → steps a j m ≡ goes n → steps a k n ≡ z → (i : ℕ) × (steps a i m ≡ z)
steps_on a zero k m n z p q = (k, ap (steps a k) (same_machine m n p) ∙ q)
steps_on a (suc j) k m n z p q = on_on a j k m n (step a m) z refl p q (λ m1 h. steps_on a j k m1 n z h q)

then_none : (a : Arena) (y : Step) → then (steps a zero) y ≡ y
then_none a (goes m) = refl
then_none a (stopped o names d s) = refl

-- so many steps, and then one more
pub steps_then : (a : Arena) (i : ℕ) (m n : Machine) (y : Step) → steps a i m ≡ goes n → step a n ≡ y → steps a (suc i) m ≡ y
steps_then a zero m n y p q = then_none a (step a m) ∙ (ap (step a) (same_machine m n p) ∙ q)
steps_then a (suc i) m n y p q = by_first (λ m1 h. steps_then a i m1 n y h q) (step a m) refl p
  where
    by_first : ((m1 : Machine) → steps a i m1 ≡ goes n → steps a (suc i) m1 ≡ y) → (x : Step) → step a m ≡ x → then (steps a i) x ≡ goes n → steps a (suc (suc i)) m ≡ y
    by_first ih (goes m1) e h = ap (then (steps a (suc i))) e ∙ ih m1 h
    by_first ih (stopped o names d s) e h = absurd (cc)

segment_closed : (e : End Val) → segment_at_end (closed e) ≡ segment_at_end e
segment_closed (got v s) = refl
segment_closed (stop o names s) = refl

-- where a machine that began over a tape stops is where the script does
pub stops_as_run : (a : Arena) → IsScript a → (t : Tape) (s : Stops a (started a t)) → segment_of s ≡ run (script_of a) t
stops_as_run a i t s =
    ap segment_at_end (sym (ap (meant_step a) s.are) ∙ steps_mean a i s.count (started a t)) ∙ segment_closed (end_of (script_of a) t)

-- the machine over the longer tape comes to where the kept one goes on
pub record Joins (a : Arena) (t : Tape) (d : Suspended) (x : Answer) : Type 0 where
  pub count : ℕ
  pub are : steps a count (started a (longer x t)) ≡ goes (resumed a d x)

pub joins : (a : Arena) (t : Tape) (d : Suspended) (x : Answer) → IsStateOf a t d → Joins a t d x
joins a t d x is =
    let s = is.stops in
    let r = steps_grow x a s.count (started a t) s.outcome s.entered s.kept s.state is.waits s.are in
    let web = (stop_within a s.count (started a t) s.outcome s.entered s.kept s.state s.are).1 in
    let there : restarted x s.kept s.state ≡ resumed a d x = rw (web, is.is) refl in
    record { count = r.count; are = r.are ∙ ap goes there }

pub stops_longer : (a : Arena) (t : Tape) (d : Suspended) (x : Answer) → IsStateOf a t d → (s : Stops a (resumed a d x)) → Stops a (started a (longer x t))
stops_longer a t d x is s =
    let j = joins a t d x is in
    let r = steps_on a j.count s.count (started a (longer x t)) (resumed a d x) (stopped s.outcome s.entered s.kept s.state) j.are s.are in
    record { count = r.0; outcome = s.outcome; entered = s.entered; kept = s.kept; state = s.state; are = r.1 }

pub replays : (a : Arena) → IsScript a → (t : Tape) (d : Suspended) (x : Answer) → IsStateOf a t d → (s : Stops a (resumed a d x)) → segment_of s ≡ run (script_of a) (longer x t)
unfolding stops_longer
replays a i t d x is s = stops_as_run a i (longer x t) (stops_longer a t d x is s)

pub shows : (a : Arena) (t : Tape) (d : Suspended) (x : Answer) → IsStateOf a t d → (s : Stops a (resumed a d x)) → Waits s.outcome → IsStateOf a (longer x t) s.kept
unfolding stops_longer
shows a t d x is s w = record { stops = stops_longer a t d x is s; waits = w; is = refl }

-- ## One state

longer_on : (a : Arena) (k j : ℕ) (o : Outcome) (names : List TxName) (d : Suspended) (s : State) (y : Step)
    → ((m : Machine) → steps a k m ≡ stopped o names d s → steps a j m ≡ stopped o names d s) → then (steps a k) y ≡ stopped o names d s → then (steps a j) y ≡ stopped o names d s
longer_on a k j o names d s (goes m) h e = h m e
longer_on a k j o names d s (stopped p ms b t) h e = e

steps_longer : (a : Arena) (k j : ℕ) (m : Machine) (o : Outcome) (names : List TxName) (d : Suspended) (s : State) → steps a k m ≡ stopped o names d s → k ≤ j → steps a j m ≡ stopped o names d s
steps_longer a zero j m o names d s e h = absurd (cc)
steps_longer a (suc k) zero m o names d s e h = absurd (omega arith)
steps_longer a (suc k) (suc j) m o names d s e h = longer_on a k j o names d s (step a m) (λ n f. steps_longer a k j n o names d s f (omega arith)) e

same_kept : (o p : Outcome) (ns ms : List TxName) (d e : Suspended) (s t : State) (y : Step) → y ≡ stopped o ns d s → y ≡ stopped p ms e t → d ≡ e
same_kept o p ns ms d e s t y f g = cc

pub one_state : (a : Arena) (t : Tape) (d e : Suspended) → IsStateOf a t d → IsStateOf a t e → d ≡ e
one_state a t d e x y =
    let p = x.stops in let q = y.stops in
    let f = steps_longer a p.count (p.count + q.count) (started a t) p.outcome p.entered p.kept p.state p.are (omega arith) in
    let g = steps_longer a q.count (p.count + q.count) (started a t) q.outcome q.entered q.kept q.state q.are (omega arith) in
    sym x.is ∙ (same_kept p.outcome q.outcome p.entered q.entered p.kept q.kept p.state q.state (steps a (p.count + q.count) (started a t)) f g ∙ y.is)

-- ## The first stop

not_both : (n : Machine) (o : Outcome) (names : List TxName) (d : Suspended) (s : State) (y : Step) → y ≡ goes n → y ≡ stopped o names d s → ⊥
not_both n o names d s y e f = absurd (cc)

least : (a : Arena) (m mid : Machine) (s : Stops a m) (k : ℕ) → steps a k m ≡ goes mid → k + 1 ≤ s.count
least a m mid s k e = by_order (or_above (k + 1) s.count)
  where
    or_above : (i j : ℕ) → (i ≤ j) ⊎ (j < i)
    or_above i j = grind arith

    by_order : (k + 1 ≤ s.count) ⊎ (s.count < k + 1) → k + 1 ≤ s.count
    by_order (inl h) = h
    by_order (inr h) =
        absurd (not_both mid s.outcome s.entered s.kept s.state (steps a k m) e (steps_longer a s.count k m s.outcome s.entered s.kept s.state s.are (omega arith)))

pub first_stop : TheFirstStopIsTheStop
first_stop a m mid s k o names d t p q =
    let few = least a m mid s k p in
    let e = steps_longer a (suc k) s.count m o names d t (steps_then a k m mid (stopped o names d t) p q) (omega arith) in
    (few, sym e ∙ s.are)
