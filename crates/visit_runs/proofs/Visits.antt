-- A segment from what a visit goes on from is that of the visit.
use Rattle.std.proofs.Common.{◌≡◌, ◌∙◌, ap, sym, subst, ℕ, List, [], map}
use Rattle.script_value.specs.Val.{Val}
use Rattle.script_nodes.specs.Arena.{Arena, script_of}
use Rattle.script_nodes.specs.Setup.{Script}
use Rattle.instance_cells.specs.Cells.{reads_of}
use Rattle.instance_cells.specs.Views.{effect_of}
use Rattle.send_suspend.specs.ReplaySpec.Tape.{Reads, recorded, present, Tape}
use Rattle.send_suspend.specs.ReplaySpec.Eval as eval
use Rattle.send_suspend.specs.ReplaySpec.Eval.{run}
use Rattle.send_suspend.specs.ReplaySpec.Book.{Page}
use Rattle.send_suspend.specs.ReplaySpec.Next.{Visit, newest, home_of, tape_of, tape_for, page_tape}
use Rattle.send_suspend.specs.ReplaySpec.Laws.{longer}
use Rattle.send_suspend.proofs.ReplaySpec.Decided.{tape_longer}
use Rattle.send_suspend.specs.MachineStates.Machine.{inside_of}
use Rattle.send_suspend.specs.MachineStates.Laws.{IsStateOf}
use Rattle.send_suspend.specs.MachineStates.Views.{suspended_of, origin_of, Keeps}
use Rattle.send_suspend.specs.MachineStates.declared.segment.Origin.{Origin}
use Rattle.send_suspend.specs.MachineStates.declared.segment.Origin.TheVariants as origin
use Rattle.send_suspend.specs.MachineStates.declared.segment.Segment.{Segment}
use Rattle.send_suspend.specs.Segments.{IsLastOver, Replays}
use Rattle.instance_book.specs.Places.{arena_of}
use Rattle.instance_book.specs.Visits.{GoesOnFrom}
use Rattle.visit_runs.specs.Likes.{IsLike}

over_tape : (v : Visit) (a : Arena) (cells : List Val) (fuel : ℕ) (r : Segment) (tape : Reads → Tape) → v.script.script ≡ script_of a
    → a ≡ arena_of v.script.script → ((reads : Reads) → tape reads ≡ tape_for v reads) → IsLastOver a r tape (present cells fuel)
    → IsLike v cells fuel r
over_tape v a cells fuel r tape e same is last =
    let read : Reads = recorded (reads_of (map effect_of r.effects.items)) in
    record {
      comes = last.0.0 ∙ (ap (λ (t : Tape). run (script_of a) t) (is (present cells fuel)) ∙ ap (λ (s : Script). run s (tape_for v (present cells fuel))) (sym e));
      state = subst (λ (t : Tape). Keeps r.outcome (λ d. IsStateOf (arena_of v.script.script) t d)) (is read)
          (subst (λ (b : Arena). Keeps r.outcome (λ d. IsStateOf b (tape read) d)) same last.1.1);
      inside = subst (λ (s : eval.Segment). Keeps r.outcome (λ d. inside_of d.frames ≡ s.entered)) (sym last.0.0) last.0.1;
    }

-- the run of a visit, from what the visit goes on from
pub runs_from : (v : Visit) (a : Arena) (cells : List Val) (fuel : ℕ) (r : Segment) → v.script.script ≡ script_of a → a ≡ arena_of v.script.script
    → (o : Origin) → GoesOnFrom v (origin_of o) → Replays o a (newest v (present cells fuel)) r → IsLike v cells fuel r
runs_from v a cells fuel r e same origin.Start goes replays =
    over_tape v a cells fuel r (λ reads. tape_of (home_of v) [] (newest v reads)) e same
    (λ reads. ap (λ (ps : List Page). tape_of (home_of v) ps (newest v reads)) (sym goes)) replays
runs_from v a cells fuel r e same (origin.Page d) goes replays =
    let t = page_tape (home_of v) goes.ancestors goes.page in
    over_tape v a cells fuel r (λ reads. longer (newest v reads) t) e same
    (λ reads. sym (ap (λ (ps : List Page). tape_of (home_of v) ps (newest v reads)) goes.chain ∙ tape_longer (home_of v) goes.ancestors goes.page (newest v reads)))
    (replays t (subst (λ (b : Arena). IsStateOf b t (suspended_of d)) (sym same) goes.state))
