-- The laws.
use Rattle.std.proofs.Common.{◌≡◌, suc, ◌+◌, ◌*◌, length, refl, sym, ap, ◌∙◌, subst, arith}
use Rattle.script_nodes.specs.Arena.{Arena, IsScript, script_of}
use Rattle.replay_spec.specs.Tape.{present, Tape}
use Rattle.replay_spec.specs.Eval.{Segment, run}
use Rattle.replay_spec.specs.Laws.{Waits, reading}
use Rattle.machine_states.specs.Machine.{inside_of, Machine, Suspended}
use Rattle.machine_states.specs.Laws.{started, resumed, Stops, IsStateOf, alone, ResumeEqualsReplay, AStartIsARun, EachPageHasOneState, APageIsInsideItsFrames}
use Rattle.machine_states.proofs.Inside.{stop_within}
use Rattle.machine_states.proofs.Replay.{stops_as_run, replays, shows, one_state}
use Rattle.machine_states.proofs.Bound.{halts}
use Rattle.machine_states.proofs.Ends.{script_stops}
use Rattle.machine_states.proofs.Record.{resumed_again, started_again}

inside : (a : Arena) (m : Machine) (s : Stops a m) → s.entered ≡ inside_of s.kept.frames
inside a m s = (stop_within a s.count m s.outcome s.entered s.kept s.state s.are).0

pub resume_is : ResumeEqualsReplay
resume_is a i t d is x cells fuel h =
    let y = reading (present cells fuel) x in
    let r = halts fuel h a (suc (length d.frames) + 2 * fuel) (resumed a d y) (record { cells = cells; reads = refl; later = refl; cost = omega arith }) (omega arith) in
    record {
      stops = r.stops;
      runs = replays a i t d y is r.stops;
      shows = shows a t d y is r.stops;
      recorded = resumed_again a t d is x cells fuel r.stops;
      inside = inside a (resumed a d y) r.stops;
      few = let f = r.few in omega arith;
      soon = let f = r.soon in omega arith;
    }

pub start_is : AStartIsARun
start_is a i now cells fuel h =
    let t = alone now (present cells fuel) in
    let r = halts fuel h a (2 * fuel) (started a t) (record { cells = cells; reads = refl; later = refl; cost = omega arith }) (omega arith) in
    record {
      stops = r.stops;
      runs = stops_as_run a i t r.stops;
      shows = λ w. record { stops = r.stops; waits = w; is = refl };
      recorded = started_again a now cells fuel r.stops;
      inside = inside a (started a t) r.stops;
      few = let f = r.few in omega arith;
      soon = let f = r.soon in omega arith;
    }

state_of : (a : Arena) → IsScript a → (t : Tape) (s : Stops a (started a t)) → Waits (run (script_of a) t).outcome → (d : Suspended) × IsStateOf a t d
state_of a i t s w =
    (s.kept, record { stops = s; waits = subst (λ (r : Segment). Waits r.outcome) (sym (stops_as_run a i t s)) w; is = refl })

pub each_has_one : EachPageHasOneState
each_has_one a i t = (state_of a i t (script_stops a i t), one_state a t)

pub page_is_inside : APageIsInsideItsFrames
page_is_inside a i t d is =
    let e = stops_as_run a i t is.stops in (
      subst (λ (r : Segment). Waits r.outcome) e is.waits,
      sym (ap (λ (r : Segment). r.entered) e) ∙ (inside a (started a t) is.stops ∙ ap (λ (k : Suspended). inside_of k.frames) is.is),
    )
