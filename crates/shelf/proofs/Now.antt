-- The segment of a ticket over the cells of now.
use Rattle.std.proofs.Common.{◌≡◌, ◌∙◌, ap, sym, subst, ℕ, List, [], map, Option, Some, None, IfSome, Result, Ok, Err, IfOk, option_map, slice_get, refl}
use Rattle.script_value.specs.Val.{Val}
use Rattle.script_nodes.specs.Arena.{Arena, IsScript, script_of}
use Rattle.script_nodes.specs.Setup.{Named}
use Rattle.page_names.specs.Names.{page}
use Rattle.page_names.specs.declared.names.PageName.{PageName}
use Rattle.instance_cells.specs.Cells.{Holds}
use Rattle.replay_spec.specs.Tape.{recorded, present}
use Rattle.replay_spec.specs.Eval as eval
use Rattle.replay_spec.specs.Eval.{run}
use Rattle.replay_spec.specs.Book.{Instance, Book}
use Rattle.replay_spec.specs.Admission.{Place, Admission, begins, resumes, refused, refusal_of, admit}
use Rattle.replay_spec.specs.Next.{Visit, home_of, answered, comes_to, start_visit, page_visit}
use Rattle.replay_spec.specs.Next as next
use Rattle.replay_spec.specs.Laws.{EffectsHoldRunSame}
use Rattle.replay_spec.proofs.Admitted.{page_stands, page_is_no_start}
use Rattle.replay_spec.proofs.Second.{pages_past}
use Rattle.machine_states.specs.Views.{segment_of}
use Rattle.machine_states.specs.declared.segment.Segment.{Segment}
use Rattle.book_visits.specs.declared.ticket.Ticket.{Ticket}
use Rattle.book_visits.specs.Views.{ticket_of}
use Rattle.book_recovery.specs.InstanceBook.Swept.{cells_in}
use Rattle.book_visits.specs.Fits.{IsFor, FitsAs}
use Rattle.book_visits.specs.Laws.{KeepsStateAs}
use Rattle.shelf.specs.Runs.{IsRunOver}
use Rattle.book_recovery.specs.VisitRuns.Likes.{IsLike}
use Rattle.shelf.proofs.Replayed.{run_like}
use Rattle.shelf.specs.Views.{IsSegmentOf}

-- what holds of a value, if there is one, holds of this one
pub of_some : {X : Type 0} (o : Option X) (x : X) (P : X → Type 0) → o ≡ Some x → IfSome o P → P x
of_some o x P e h = subst (λ z. IfSome z P) e h

-- a first run whose effects hold over the cells of now
same_run : EffectsHoldRunSame → (v : Visit) (fuel : ℕ) (before now : List Val) → Holds (comes_to v (present before fuel)).effects now
    → comes_to v (present now fuel) ≡ comes_to v (present before fuel)
same_run law v fuel before now holds =
    law v.script.script (map (answered (home_of v)) v.pages) (next.newest v (recorded [])) (pages_past (home_of v) v.pages) fuel before now holds

module _ (all : List Named) (b : Book) (t : Ticket) (name : List ℕ) (a : Arena) (i : IsScript a) (named : Named) (its : named.script ≡ script_of a) (found : slice_get all t.script ≡ Some named) (fuel : ℕ) (over : List Val) (r : Segment)
    (is : IsRunOver all fuel t over r) where
  -- the run of the visit that the ticket is for
  run_as : (v : Visit) → v.ticket ≡ ticket_of t → IsFor all t v → IsLike v over fuel r
  run_as v e fits = run_like all t a i named its found fuel over r is v e fits

  -- its state, where the target is admitted
  pub keeps_state : (adm : Admission) → FitsAs all b t adm → KeepsStateAs b t adm r
  keeps_state (begins k x) fits = (run_as (start_visit b (ticket_of t) k x) refl fits.run).state
  keeps_state (resumes at) fits = (run_as (page_visit b (ticket_of t) at) refl fits).state
  keeps_state (refused why) fits = tt

  module _ (n : PageName) (cells : List Val) (here : cells_in n.instance b ≡ Some cells) where
    its_cells : (at : Place) → admit b (page name n) ≡ resumes at → cells ≡ at.instance.cells
    its_cells at e = cc (here, ap (option_map (λ (j : Instance). j.cells)) (page_stands b name n at e).here)

    -- the segment of an answer to a page that is admitted: the run over the cells of now, or the first run where its effects hold
    pub rerun_segment : (adm : Admission) → admit b (page name n) ≡ adm → FitsAs all b t adm → over ≡ cells → IsSegmentOf fuel b t adm (segment_of r)
    rerun_segment (begins k x) e fits own = absurd (page_is_no_start b name n k x e)
    rerun_segment (resumes at) e fits own =
        let v = page_visit b (ticket_of t) at in
        (run_as v refl fits).comes ∙ ap (λ (vs : List Val). comes_to v (present vs fuel)) (own ∙ its_cells at e)
    rerun_segment (refused why) e fits own = tt

    pub held_segment : EffectsHoldRunSame → (adm : Admission) → admit b (page name n) ≡ adm → FitsAs all b t adm → Holds (segment_of r).effects cells → IsSegmentOf fuel b t adm (segment_of r)
    held_segment law (begins k x) e fits holds = absurd (page_is_no_start b name n k x e)
    held_segment law (resumes at) e fits holds =
        let v = page_visit b (ticket_of t) at in
        let first = (run_as v refl fits).comes in
        let again = same_run law v fuel over cells (subst (λ (s : eval.Segment). Holds s.effects cells) first holds) in
        first ∙ (sym again ∙ ap (λ (vs : List Val). comes_to v (present vs fuel)) (its_cells at e))
    held_segment law (refused why) e fits holds = tt

-- where the instance is gone, nothing is admitted
pub gone_refused : (b : Book) (name : List ℕ) (n : PageName) (a : Admission) → cells_in n.instance b ≡ None → admit b (page name n) ≡ a → refusal_of a ≡ None → ⊥
gone_refused b name n (begins k x) gone adm ok = page_is_no_start b name n k x adm
gone_refused b name n (resumes at) gone adm ok =
    let there = ap (option_map (λ (i : Instance). i.cells)) (page_stands b name n at adm).here in
    cc (gone, there)
gone_refused b name n (refused r) gone adm ok = cc ok

pub if_some : {X : Type 0} (o : Option X) (x : X) (P : X → Type 0) → o ≡ Some x → P x → IfSome o P
if_some o x P e p = subst (λ z. IfSome z P) (sym e) p

pub if_none : {X : Type 0} (o : Option X) (P : X → Type 0) → o ≡ None → IfSome o P
if_none o P e = subst (λ z. IfSome z P) (sym e) tt

-- two facts of what was made
pub both_ok : {X E : Type 0} {P Q R : X → Type 0} (r : Result X E) → IfOk r P → IfOk r Q → ((x : X) → P x → Q x → R x) → IfOk r R
both_ok (Ok x) p q f = f x p q
both_ok (Err e) p q f = tt
