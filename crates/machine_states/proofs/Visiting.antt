-- A visit that goes on from the state of the page that it answers.
use Rattle.std.proofs.Common.{◌≡◌, List, refl, sym, ap, ◌∙◌, subst}
use Rattle.script_value.specs.Val.{Val}
use Rattle.instance_cells.specs.Cells.{reads_of}
use Rattle.script_nodes.specs.Setup.{Script}
use Rattle.script_nodes.specs.Arena.{script_of}
use Rattle.replay_spec.specs.Tape.{recorded, present, Answer, Tape}
use Rattle.replay_spec.specs.Eval.{run}
use Rattle.replay_spec.specs.Book.{Page}
use Rattle.replay_spec.specs.Next.{Visit, home_of, newest, answered, tape_of, tape_for, page_tape}
use Rattle.replay_spec.specs.Laws.{longer}
use Rattle.machine_states.specs.Laws.{IsStateOf}
use Rattle.machine_states.specs.Visits.{IsShownBy, AVisitGoesOn}
use Rattle.machine_states.proofs.Law.{resume_is}
use Rattle.replay_spec.proofs.Decided.{tape_longer}

shown_answer : (v : Visit) (read : List Val) (p : Page) → IsShownBy v read p → answered (home_of v) p ≡ newest v (recorded read)
shown_answer v read p is = rw (is.number, is.nonce, is.answer, is.reads) refl

pub visit_goes_on : AVisitGoesOn
visit_goes_on a i v same ps p chain d is cells fuel h =
    let x = newest v (present cells fuel) in
    let r = resume_is a i (page_tape (home_of v) ps p) d is x cells fuel h in
    let tape = λ (y : Answer). ap (λ (qs : List Page). tape_of (home_of v) qs y) chain ∙ tape_longer (home_of v) ps p y in
    record {
      stops = r.stops;
      comes = r.runs ∙ sym (ap (λ (s : Script). run s (tape_for v (present cells fuel))) same ∙ ap (run (script_of a)) (tape x));
      shows = λ w q shown.
          let y = newest v (recorded (reads_of r.stops.state.effects)) in
          let e : page_tape (home_of v) v.pages q ≡ longer y (page_tape (home_of v) ps p) = ap (tape_of (home_of v) v.pages) (shown_answer v (reads_of r.stops.state.effects) q shown) ∙ tape y in
          subst (λ (t : Tape). IsStateOf a t r.stops.kept) (sym e) (r.recorded w);
      few = r.few;
    }
