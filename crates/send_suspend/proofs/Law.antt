-- What a machine came to is what its script comes to.
use Rattle.std.proofs.Common.{◌≡◌, ◌∙◌, ℕ, zero, suc, ◌+◌, ◌*◌, ◌^◌, ◌<◌, ◌≤◌, List, length, map, refl, sym, ap, subst, arith}
use Rattle.std.proofs.lemmas.List.{length-reverse, length-map}
use Rattle.script_value.specs.Val.{Val}
use Rattle.script_value.specs.declared.outcome.TxName.{TxName}
use Rattle.instance_cells.specs.Cells.{Effect, reads_of, AreOn, Holds}
use Rattle.instance_cells.specs.Views.{effect_of}
use Rattle.web_cells.specs.Shadows.{bound_to}
use Rattle.web_cells.specs.Own.{BindsAllOf}
use Rattle.web_cells.proofs.Shadowed.{rise, bound_named}
use Rattle.script_nodes.specs.Arena.{Arena, IsScript, script_of}
use Rattle.segments.specs.ReplaySpec.Tape.{Answer, Reads, recorded, present, State, Tape}
use Rattle.segments.specs.ReplaySpec.Tape as spec
use Rattle.segments.specs.ReplaySpec.Eval as eval
use Rattle.segments.specs.ReplaySpec.Eval.{segment_at}
use Rattle.segments.specs.ReplaySpec.Laws.{Waits, reading, longer}
use Rattle.machine_states.specs.Machine.{Machine, Suspended, Step, goes, stopped, step, then, steps, inside_of}
use Rattle.machine_states.specs.Fits.{FitsAt, Fits}
use Rattle.machine_states.specs.Dues.{InSegment, owed}
use Rattle.machine_states.specs.Laws.{started, resumed, alone, Stops, ComesTo, IsStateOf}
use Rattle.machine_states.proofs.Law.{resume_is, start_is}
use Rattle.machine_states.proofs.Replay.{first_stop, same_machine}
use Rattle.machine_states.proofs.Bound.{halts}
use Rattle.machine_states.proofs.Inside.{stop_within}
use Rattle.machine_states.proofs.Unbound.{stop_binds}
use Rattle.machine_states.proofs.Stepping.{fits_on, fits_kept}
use Rattle.segments.specs.declared.ends.RunEnd.{RunEnd}
use Rattle.segments.specs.Views as plain
use Rattle.machine_states.specs.declared.frame.Suspended as kept
use Rattle.machine_states.specs.Views.{suspended_of, frame_of, outcome_of, Keeps, segment_of}
use Rattle.machine_states.specs.declared.segment.Origin.{Origin}
use Rattle.machine_states.specs.declared.segment.Origin.TheVariants.{Start, Page}
use Rattle.machine_states.specs.declared.segment.Outcome.{Outcome}
use Rattle.machine_states.specs.declared.segment.Outcome.TheVariants.{Shown, Finished, Ended, Faulted, Fuel}
use Rattle.machine_states.specs.declared.segment.Segment.{Segment}
use Rattle.send_suspend.specs.Segments.{Ends, newest, frames_in, bindings_in, begun, AreBindings, IsConsistent, IsLastOver, Replays}
use Rattle.send_suspend.proofs.Held.{IsWell, stop_well}

-- the segment of a machine over present cells is within its fuel
pub within_begun : (from : Origin) (a : Arena) (value : Val) (number : ℕ) (url : List ℕ) (cells : List Val) (fuel : ℕ) → InSegment fuel (begun from a (newest value number url cells fuel)).state
within_begun Start a value number url cells fuel = record { cells = cells; reads = refl; later = refl; cost = omega arith }
within_begun (Page d) a value number url cells fuel = record { cells = cells; reads = refl; later = refl; cost = omega arith }

-- what is kept, where it waits for an answer
keeps : (o : Outcome) (d : Suspended) (P : Suspended → Type 0) → Keeps o (λ e. e ≡ d) → (Waits (outcome_of o) → P d) → Keeps o P
keeps (Shown page kind state) d P e h = subst P (sym e) (h tt)
keeps (Finished page) d P e h = tt
keeps (Ended page) d P e h = tt
keeps (Faulted k) d P e h = tt
keeps (Fuel cost) d P e h = tt

-- the stop of a machine is this segment
pub record IsStop (r : Segment) (o : spec.Outcome) (names : List TxName) (d : Suspended) (s : State) : Type 0 where
  pub outcome : outcome_of r.outcome ≡ o
  pub entered : r.entered.items ≡ names
  pub kept : Keeps r.outcome (λ e. e ≡ d)
  pub effects : map effect_of r.effects.items ≡ s.effects
  pub left : r.left.items ≡ s.left
  pub cost : r.cost ≡ s.cost

same_outcome : (o p : spec.Outcome) (ns ms : List TxName) (d e : Suspended) (s t : State) → stopped o ns d s ≡ stopped p ms e t → o ≡ p
same_outcome o p ns ms d e s t h = cc

same_names : (o p : spec.Outcome) (ns ms : List TxName) (d e : Suspended) (s t : State) → stopped o ns d s ≡ stopped p ms e t → ns ≡ ms
same_names o p ns ms d e s t h = cc

same_kept : (o p : spec.Outcome) (ns ms : List TxName) (d e : Suspended) (s t : State) → stopped o ns d s ≡ stopped p ms e t → d ≡ e
same_kept o p ns ms d e s t h = cc

same_state : (o p : spec.Outcome) (ns ms : List TxName) (d e : Suspended) (s t : State) → stopped o ns d s ≡ stopped p ms e t → s ≡ t
same_state o p ns ms d e s t h = cc

-- the stop that was reached is the one that there is
reached : (a : Arena) (m mid : Machine) (s : Stops a m) (k : ℕ) (o : spec.Outcome) (names : List TxName) (d : Suspended) (t : State) (r : Segment)
    → steps a k m ≡ goes mid → step a mid ≡ stopped o names d t → IsStop r o names d t → IsStop r s.outcome s.entered s.kept s.state
reached a m mid s k o names d t r p q is =
    let same = (first_stop a m mid s k o names d t p q).1 in
    let kept = same_kept o s.outcome names s.entered d s.kept t s.state same in
    let state = same_state o s.outcome names s.entered d s.kept t s.state same in
    record {
      outcome = is.outcome ∙ same_outcome o s.outcome names s.entered d s.kept t s.state same;
      entered = is.entered ∙ same_names o s.outcome names s.entered d s.kept t s.state same;
      kept = subst (λ (x : Suspended). Keeps r.outcome (λ e. e ≡ x)) kept is.kept;
      effects = is.effects ∙ ap (λ (x : State). x.effects) state;
      left = is.left ∙ ap (λ (x : State). x.left) state;
      cost = is.cost ∙ ap (λ (x : State). x.cost) state;
    }

-- what is told of a stop is its segment
same_segment : (r : Segment) (o : spec.Outcome) (names : List TxName) (d : Suspended) (s : State) → IsStop r o names d s → segment_of r ≡ segment_at o names s
same_segment r o names d s is =
    let a = is.outcome in
    let b = is.entered in
    let c = is.effects in
    let e = is.left in
    let f = is.cost in
    cc

last_over : (a : Arena) (fuel : ℕ) (m : Machine) (tape : Reads → Tape) (now : Reads) (c : ComesTo a fuel m (tape now) (λ vs. tape (recorded vs))) (r : Segment)
    → IsStop r c.stops.outcome c.stops.entered c.stops.kept c.stops.state → IsLastOver a r tape now
last_over a fuel m tape now c r is =
    let waits = λ (w : Waits (outcome_of r.outcome)). subst Waits is.outcome w in
    let run = eval.run (script_of a) (tape now) in
    let entered : c.stops.entered ≡ run.entered = ap (λ (x : eval.Segment). x.entered) c.runs in (
      (
        same_segment r c.stops.outcome c.stops.entered c.stops.kept c.stops.state is ∙ c.runs,
        keeps r.outcome c.stops.kept (λ d. inside_of d.frames ≡ run.entered) is.kept (λ w. sym c.inside ∙ entered),
      ),
      (
        keeps r.outcome c.stops.kept (λ d. IsStateOf a (tape now) d) is.kept (λ w. c.shows (waits w)),
        keeps r.outcome c.stops.kept (λ d. IsStateOf a (tape (recorded (reads_of (map effect_of r.effects.items)))) d) is.kept
            (λ w. subst (λ (es : List Effect). IsStateOf a (tape (recorded (reads_of es))) c.stops.kept) (sym is.effects) (c.recorded (waits w))),
      ),
    )

-- ---- one binding more

bound_more : (a : Arena) (c : ℕ) (v : Val) (ss : List (ℕ × Val)) → c < length a.web → AreBindings a ss → AreBindings a (bound_to c v ss)
bound_more a c v ss k h = record { rise = rise c v ss h.rise; named = bound_named (length a.web) c v ss k h.named }

-- ---- the law

-- the law of a segment
replays : (from : Origin) (a : Arena) → IsScript a → (value : Val) (number : ℕ) (url : List ℕ) (cells : List Val) (fuel : ℕ) → fuel < 2 ^ 63
    → (m mid : Machine) → m ≡ begun from a (newest value number url cells fuel) → (k : ℕ) (o : spec.Outcome) (names : List TxName) (d : Suspended) (t : State) (r : Segment)
    → steps a k m ≡ goes mid → step a mid ≡ stopped o names d t → IsStop r o names d t → Replays from a (newest value number url cells fuel) r
replays Start a i value number url cells fuel h m mid e k o names d t r p q is =
    let x = newest value number url cells fuel in
    let c = start_is a i x.segment cells fuel h in
    let n = started a (alone x.segment (present cells fuel)) in
    last_over a fuel n (λ reads. alone x.segment reads) (present cells fuel) c r
    (reached a n mid c.stops k o names d t r (subst (λ (y : Machine). steps a k y ≡ goes mid) e p) q is)
replays (Page g) a i value number url cells fuel h m mid e k o names d t r p q is = λ tape for.
    let x = newest value number url cells fuel in
    let c = resume_is a i tape (suspended_of g) for x cells fuel h in
    let n = resumed a (suspended_of g) x in
    last_over a fuel n (λ reads. longer (reading reads x) tape) (present cells fuel) c r
    (reached a n mid c.stops k o names d t r (subst (λ (y : Machine). steps a k y ≡ goes mid) e p) q is)

-- a machine that fits goes on as one that fits
steps_fit : (a : Arena) (k : ℕ) (m n : Machine) → FitsAt a m.point.control m.point.env m.point.frames → steps a k m ≡ goes n → FitsAt a n.point.control n.point.env n.point.frames
steps_fit a zero m n w e = subst (λ (x : Machine). FitsAt a x.point.control x.point.env x.point.frames) (same_machine m n e) w
steps_fit a (suc k) m n w e = by_first (λ m1 v h. steps_fit a k m1 n v h) (step a m) refl e
  where
    by_first : ((m1 : Machine) → FitsAt a m1.point.control m1.point.env m1.point.frames → steps a k m1 ≡ goes n → FitsAt a n.point.control n.point.env n.point.frames)
        → (y : Step) → step a m ≡ y → then (steps a k) y ≡ goes n → FitsAt a n.point.control n.point.env n.point.frames
    by_first ih (goes m1) p h = ih m1 (fits_on a m m1 w p) h
    by_first ih (stopped o names d s) p h = absurd (cc)

-- what is owed at the beginning
owed_begun : (from : Origin) (a : Arena) (x : Answer) → owed (begun from a x).point ≤ frames_in from + 1
owed_begun Start a x = omega arith
owed_begun (Page d) a x = omega (arith, length-reverse (map frame_of d.frames.items), length-map d.frames.items frame_of)

-- this stop was reached by so many steps
abbrev pub Ran : Arena → Machine → spec.Outcome → List TxName → Suspended → State → (before count : ℕ) → Type 0
Ran a m o names d s before count =
    (k : ℕ) × ((count ≡ before + k + 1) × ((mid : Machine) × ((steps a k m ≡ goes mid) × (step a mid ≡ stopped o names d s))))

-- the bindings that a segment begins with are those of the state that it goes on from
well_begun : (from : Origin) (a : Arena) (i : IsScript a) (value : Val) (number : ℕ) (url : List ℕ) (cells : List Val) (fuel : ℕ) (B : List (ℕ × Val) → Type 0)
    (binds : (c : ℕ) (v : Val) (ss : List (ℕ × Val)) → c < length a.web → B ss → B (bound_to c v ss))
    → B (bindings_in from) → IsWell a i cells fuel B binds (begun from a (newest value number url cells fuel)).state
well_begun Start a i value number url cells fuel B binds h = (refl, (refl, ((tt, tt), h)))
well_begun (Page d) a i value number url cells fuel B binds h = (refl, (refl, ((tt, tt), h)))

bound_begun : (from : Origin) (a : Arena) (x : Answer) → BindsAllOf (bindings_in from) (begun from a x).state.shadows
bound_begun Start a x c none = none
bound_begun (Page d) a x c none = none

-- whatever state a machine goes on from, its segment is consistent
consistent : (from : Origin) (a : Arena) → IsScript a → (value : Val) (number : ℕ) (url : List ℕ) (cells : List Val) (fuel k : ℕ) (o : spec.Outcome) (names : List TxName) (d : Suspended) (s : State)
    (r : Segment) → steps a k (begun from a (newest value number url cells fuel)) ≡ stopped o names d s → IsStop r o names d s → IsConsistent from a cells r
consistent from a i value number url cells fuel k o names d s r e is =
    let m = begun from a (newest value number url cells fuel) in
    let any = λ (ss : List (ℕ × Val)). Unit {0} in
    let well = stop_well a i cells fuel any (λ c v ss there h. tt) k m o names d s (well_begun from a i value number url cells fuel any (λ c v ss there h. tt) tt) e in
    let held = well.0.1.1.0 in
    record {
      on = subst (AreOn (length a.cells)) (sym is.effects) held.1;
      hold = subst (λ (es : List Effect). Holds es cells) (sym is.effects) held.0;
      inside = keeps r.outcome d (λ x. inside_of x.frames ≡ r.entered.items) is.kept (λ w. sym (is.entered ∙ (stop_within a k m o names d s e).0));
      binds = keeps r.outcome d (λ x. BindsAllOf (bindings_in from) x.shadows) is.kept (λ w. stop_binds (bindings_in from) a k m o names d s (bound_begun from a (newest value number url cells fuel)) e);
      names_cells = λ fits.
          let kept = stop_well a i cells fuel (AreBindings a) (λ c v ss there h. bound_more a c v ss there h) k m o names d s
          (well_begun from a i value number url cells fuel (AreBindings a) (λ c v ss there h. bound_more a c v ss there h) fits) e in
          keeps r.outcome d (λ x. AreBindings a x.shadows) is.kept (λ w. kept.1);
    }

-- what a call of a segment promises
pub record Came (from : Origin) (a : Arena) (value : Val) (number : ℕ) (url : List ℕ) (cells : List Val) (fuel : ℕ) (r : Segment) (before count : ℕ) : Type 0 where
  pub replays : Replays from a (newest value number url cells fuel) r
  pub consistent : IsConsistent from a cells r
  pub fits : Keeps r.outcome (λ d. Fits a d)
  pub few : count ≤ before + (2 * r.cost + frames_in from + 2)

came_there : (from : Origin) (a : Arena) → IsScript a → (value : Val) (number : ℕ) (url : List ℕ) (cells : List Val) (fuel : ℕ) → fuel < 2 ^ 63
    → (m : Machine) → FitsAt a m.point.control m.point.env m.point.frames → m ≡ begun from a (newest value number url cells fuel)
    → (o : spec.Outcome) (names : List TxName) (d : Suspended) (s : State) (r : Segment) (before count : ℕ) → Ran a m o names d s before count → IsStop r o names d s
    → Came from a value number url cells fuel r before count
came_there from a i value number url cells fuel h m w e o names d s r before count ran is =
    let x = newest value number url cells fuel in
    let n = begun from a x in
    let k = ran.0 in
    let counted = ran.1.0 in
    let mid = ran.1.1.0 in
    let p = ran.1.1.1.0 in
    let q = ran.1.1.1.1 in
    let due = owed_begun from a x in
    let stop = halts fuel h a (owed n.point + 2 * fuel) n (within_begun from a value number url cells fuel) (omega arith) in
    let first = first_stop a n mid stop.stops k o names d s (subst (λ (y : Machine). steps a k y ≡ goes mid) e p) q in
    let least = first.0 in
    let state = same_state o stop.stops.outcome names stop.stops.entered d stop.stops.kept s stop.stops.state first.1 in
    let cost = is.cost ∙ ap (λ (y : State). y.cost) state in
    let few = stop.few in
    record {
      replays = replays from a i value number url cells fuel h m mid e k o names d s r p q is;
      consistent = consistent from a i value number url cells fuel stop.stops.count o names d s r (stop.stops.are ∙ sym first.1) is;
      fits = keeps r.outcome d (λ y. Fits a y) is.kept (λ y. fits_kept a mid o names d s (steps_fit a k m mid w p) q (subst Waits is.outcome y));
      few = omega arith;
    }

pub came : (from : Origin) (a b : Arena) → b ≡ a → IsScript b → (value : Val) (number : ℕ) (url : List ℕ) (cells : List Val) (fuel : ℕ) → fuel < 2 ^ 63
    → (m : Machine) → FitsAt b m.point.control m.point.env m.point.frames → m ≡ begun from a (newest value number url cells fuel)
    → (o : spec.Outcome) (names : List TxName) (d : Suspended) (s : State) (r : Segment) (before count : ℕ) → Ran b m o names d s before count → IsStop r o names d s
    → Came from a value number url cells fuel r before count
came from a b same i value number url cells fuel h m w e o names d s r before count ran is =
    let x = newest value number url cells fuel in
    subst (λ (y : Arena). m ≡ begun from y x → Came from y value number url cells fuel r before count) same
    (λ f. came_there from b i value number url cells fuel h m w f o names d s r before count ran is) e

-- the parts of a machine at its stop
pub is_stop : (r : Segment) (end last : RunEnd) (state : kept.Suspended) (names : List TxName) (d : Suspended) (s : State) → Ends r.outcome last state → plain.outcome_of last ≡ plain.outcome_of end
    → suspended_of state ≡ d → r.entered.items ≡ names → map effect_of r.effects.items ≡ s.effects → r.left.items ≡ s.left → r.cost ≡ s.cost → IsStop r (plain.outcome_of end) names d s
is_stop r end last state names d s ends e f n g h c =
    record { outcome = ends.0 ∙ e; entered = n; kept = subst (λ (x : Suspended). Keeps r.outcome (λ y. y ≡ x)) f ends.1; effects = g; left = h; cost = c }
