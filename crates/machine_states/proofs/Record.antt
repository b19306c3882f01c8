-- What was kept of a machine over present cells is kept over what it read.
use Rattle.std.proofs.Common.{◌≡◌, ℕ, zero, suc, List, [], ◌∷◌, refl, sym, ap, ◌∙◌, append-nil, subst}
use Rattle.script_value.specs.Val.{Val}
use Rattle.script_value.specs.declared.outcome.TxName.{TxName}
use Rattle.instance_cells.specs.Cells.{reads_of}
use Rattle.script_nodes.specs.Arena.{Arena}
use Rattle.replay_spec.specs.Tape.{recorded, present, Now, Answer, Tape, State, Outcome, End, got, stop, Run, halt, ends}
use Rattle.replay_spec.specs.Laws.{Waits, reading, longer}
use Rattle.replay_spec.proofs.Every.{IsLaw}
use Rattle.replay_spec.proofs.Mirror.{Mirrors, Mirrored, Ready, KeptIn, image, kept_by, law as mirror_law}
use Rattle.replay_spec.proofs.Recorded.{over, steps as recorded_steps, Heard, heard_all, waits_pages}
use Rattle.machine_states.specs.Machine.{Frame, Control, visit, value, Point, node_at, cut, next, outer_env, outer_frames, Machine, Suspended, Step, goes, stopped, stepped, step, then, steps}
use Rattle.machine_states.specs.Laws.{started, alone, resumed, Stops, IsStateOf}
use Rattle.machine_states.proofs.Acts.{IsActLaw, visited_paid, taken_all, any_given}
use Rattle.machine_states.proofs.Replay.{shows}

module _ (vs : List Val) where
  abbrev Beside : List TxName → (A : Type 0) → Run A → Type 0
  Beside inside A r = Mirrored (over vs) A r

  base : IsLaw (λ c. Unit {0}) Beside
  base = mirror_law (over vs) (recorded_steps vs)

  law : IsActLaw Beside Beside
  law = record {
    gives = base.gives;
    goes_on = base.goes_on;
    paid_first = base.goes_on;
    paid_then = base.goes_on;
    charges = λ inside n h. base.charges inside n;
    fails = base.fails;
    urls = base.urls;
    finishes = base.finishes;
    ends = base.ends;
    names = λ inside s ready. (ready, λ k. (k, refl));
    leaves = λ inside name v s ready. (ready, λ k. (k, refl));
    looks_up = base.looks_up;
    shadows = base.shadows;
    reads = λ inside c. base.reads inside c tt;
    sets = λ inside c v. base.sets inside c tt v;
    adds = λ inside c v. base.adds inside c tt v;
  }

  next_mirrored : (a : Arena) (c : Control) (env : List Val) (fs : List Frame) → Mirrored (over vs) Point (next a c env fs)
  next_mirrored a (visit n) env fs = visited_paid Beside Beside law a n (node_at a n) env fs
  next_mirrored a (value v) env [] = any_given Beside Beside law [] (halt [] ends v) env [] (base.ends [] v)
  next_mirrored a (value v) env (f ∷ fs) = taken_all Beside Beside law base.sends a f v (cut f env) fs

  abbrev imaged : Machine → Machine
  imaged m = record m { state = image (over vs) m.state }

  abbrev StepMirrors : State → Step → Step → Type 0
  StepMirrors s (goes n) y = Ready n.state.segment.reads n.state.later × (KeptIn (over vs) n.state → KeptIn (over vs) s × (y ≡ goes (imaged n)))
  StepMirrors s (stopped o names d t) y = Waits o → KeptIn (over vs) t → KeptIn (over vs) s × (y ≡ stopped o names d (image (over vs) t))

  by_end : (s : State) (env : List Val) (fs : List Frame) (e d : End Point) → Mirrors (over vs) s e d → StepMirrors s (stepped env fs e) (stepped env fs d)
  by_end s env fs (got p t) d h = (h.0, λ k. let i = h.1 k in (i.0, ap (stepped env fs) i.1))
  by_end s env fs (stop o names t) d h = λ w k. let i = h.1 (waits_pages o w) k in (i.0, ap (stepped env fs) i.1)

  step_mirrors : (a : Arena) (m : Machine) → Ready m.state.segment.reads m.state.later → StepMirrors m.state (step a m) (step a (imaged m))
  step_mirrors a m ready =
      let c = m.point.control in let env = m.point.env in let fs = m.point.frames in
      by_end m.state (outer_env c env fs) (outer_frames c fs) (next a c env fs m.state) (next a c env fs (image (over vs) m.state)) (next_mirrored a c env fs m.state ready)

  abbrev Again : Arena → ℕ → Machine → Outcome → List TxName → Suspended → State → Type 0
  Again a k m o names d t = KeptIn (over vs) m.state × (steps a k (imaged m) ≡ stopped o names d (image (over vs) t))

  on_mirrors : (a : Arena) (k : ℕ) (o : Outcome) (names : List TxName) (d : Suspended) (t : State) → Waits o → KeptIn (over vs) t
      → ((n : Machine) → Ready n.state.segment.reads n.state.later → steps a k n ≡ stopped o names d t → Again a k n o names d t)
      → (m : Machine) (x : Step) → StepMirrors m.state x (step a (imaged m)) → then (steps a k) x ≡ stopped o names d t → Again a (suc k) m o names d t
  on_mirrors a k o names d t w kept ih m (goes n) h e =
      let i = ih n h.0 e in
      let j = h.1 i.0 in
      (j.0, ap (then (steps a k)) j.1 ∙ i.1)
  on_mirrors a k o names d t w kept ih m (stopped p ms b u) h e =
      let same : p ≡ o = cc in
      let there : u ≡ t = cc in
      let all : stopped p ms b (image (over vs) u) ≡ stopped o names d (image (over vs) t) = cc in
      let j = h (rw same w) (subst (λ (z : State). KeptIn (over vs) z) (sym there) kept) in
      (j.0, ap (then (steps a k)) j.1 ∙ all)

  steps_mirror : (a : Arena) (k : ℕ) (o : Outcome) (names : List TxName) (d : Suspended) (t : State) → Waits o → KeptIn (over vs) t
      → (m : Machine) → Ready m.state.segment.reads m.state.later → steps a k m ≡ stopped o names d t → Again a k m o names d t
  steps_mirror a zero o names d t w kept m ready e = absurd (cc)
  steps_mirror a (suc k) o names d t w kept m ready e = on_mirrors a k o names d t w kept (steps_mirror a k o names d t w kept) m (step a m) (step_mirrors a m ready) e

  -- the stop over these values, of a machine over present cells
  pub again : (a : Arena) (m : Machine) → Ready m.state.segment.reads m.state.later → (s : Stops a m) → Waits s.outcome → Heard s.state.effects vs → Stops a (imaged m)
  again a m ready s w h =
      let i = steps_mirror a s.count s.outcome s.entered s.kept s.state w (kept_by (over vs) s.state.segment.reads s.state.effects h) m ready s.are in
      record { count = s.count; outcome = s.outcome; entered = s.entered; kept = s.kept; state = image (over vs) s.state; are = i.1 }

heard : (s : State) → Heard s.effects (reads_of s.effects)
heard s = subst (λ (ws : List Val). Heard s.effects ws) (append-nil (reads_of s.effects)) (heard_all s.effects [])

pub resumed_again : (a : Arena) (t : Tape) (d : Suspended) → IsStateOf a t d → (x : Answer) (cells : List Val) (fuel : ℕ) (s : Stops a (resumed a d (reading (present cells fuel) x)))
    → Waits s.outcome → IsStateOf a (longer (reading (recorded (reads_of s.state.effects)) x) t) s.kept
unfolding again
resumed_again a t d is x cells fuel s w =
    let vs = reads_of s.state.effects in
    shows a t d (reading (recorded vs) x) is (again vs a (resumed a d (reading (present cells fuel) x)) tt s w (heard s.state)) w

pub started_again : (a : Arena) (now : Now) (cells : List Val) (fuel : ℕ) (s : Stops a (started a (alone now (present cells fuel))))
    → Waits s.outcome → IsStateOf a (alone now (recorded (reads_of s.state.effects))) s.kept
unfolding again
started_again a now cells fuel s w =
    let vs = reads_of s.state.effects in
    record { stops = again vs a (started a (alone now (present cells fuel))) tt s w (heard s.state); waits = w; is = refl }
