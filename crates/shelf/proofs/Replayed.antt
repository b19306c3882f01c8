-- The segment of a ticket is that of its visit.
use Rattle.std.proofs.Common.{◌≡◌, ◌∙◌, ap, sym, subst, ℕ, List, length, map, Option, Some, None, IfSome, Result, Ok, Err, IfOk, slice_get, refl}
use Rattle.std.proofs.lemmas.Option.{same_Some}
use Rattle.std.specs.declared.alloc.AllocError.{AllocError}
use Rattle.script_value.specs.Val.{Val}
use Rattle.script_value.specs.Views.{meaning}
use Rattle.web_cells.specs.Own.{BindsAllOf}
use Rattle.script_nodes.specs.Core.{AllOnCells}
use Rattle.script_nodes.specs.Arena.{Arena, IsScript, script_of}
use Rattle.script_nodes.specs.Setup.{Named, Library, Script, trees_of}
use Rattle.script_value.specs.declared.outcome.TxName.{TxName}
use Rattle.page_names.specs.Names.{Destination, start, page}
use Rattle.page_names.specs.declared.names.PageName.{PageName}
use Rattle.instance_cells.specs.Cells.{Effect, AreOn}
use Rattle.instance_cells.specs.Views.{effect_of}
use Rattle.replay_spec.specs.Tape.{present, Answer}
use Rattle.replay_spec.specs.Eval as eval
use Rattle.replay_spec.specs.Next.{Visit, tape_for}
use Rattle.replay_spec.specs.Next as next
use Rattle.replay_spec.specs.Laws.{EffectsAreOnCells}
use Rattle.machine_states.specs.Machine.{Suspended, inside_of}
use Rattle.machine_states.specs.Fits.{Fits}
use Rattle.machine_states.specs.Laws.{IsStateOf}
use Rattle.machine_states.specs.Views.{suspended_of, origin_of, Keeps}
use Rattle.machine_states.specs.declared.segment.Origin.{Origin}
use Rattle.machine_states.specs.declared.segment.Origin.TheVariants as origin
use Rattle.machine_states.specs.declared.segment.Outcome.{Outcome}
use Rattle.machine_states.specs.declared.segment.Outcome.TheVariants.{Shown, Finished, Ended, Faulted, Fuel}
use Rattle.machine_states.specs.declared.segment.Segment.{Segment}
use Rattle.book_recovery.specs.VisitRuns.SendSuspend.Segments.{newest, FitsFrom, Replays, bindings_in, AreBindings, IsConsistent}
use Rattle.book_visits.specs.declared.ticket.Ticket.{Ticket}
use Rattle.book_visits.specs.Views.{ticket_of}
use Rattle.script_nodes.proofs.Scripts.{arena_again}
use Rattle.book_recovery.specs.InstanceBook.Places.{arena_of}
use Rattle.book_recovery.specs.InstanceBook.declared.book.Book as kept
use Rattle.book_recovery.specs.InstanceBook.Swept.{cells_at}
use Rattle.book_visits.specs.Prepares.{HasItsScript, AreOnBy}
use Rattle.book_visits.specs.Fits.{IsFor, IsRunnable}
use Rattle.book_recovery.specs.InstanceBook.Fits.{FitsScript, IsStoredScript}
use Rattle.book_recovery.specs.VisitRuns.Likes.{IsLike}
use Rattle.book_recovery.proofs.VisitRuns.Visits.{runs_from}
use Rattle.shelf.specs.Runs.{IsRunFrom, IsRunOver, IsRunAs}
use Rattle.shelf.specs.Holding.{AreHeld, AreHeldBy, IsWhole, ShowsWholeFrom}

-- what fits the script can be gone on from
pub fits_from : (a : Arena) (o : Origin) → FitsScript a (origin_of o) → FitsFrom a o
fits_from a origin.Start fits = tt
fits_from a (origin.Page d) fits = fits

-- an origin that is the same is gone on from the same
pub replays_alike : (o p : Origin) (a : Arena) (x : Answer) (r : Segment) → origin_of o ≡ origin_of p → Replays o a x r → Replays p a x r
replays_alike origin.Start origin.Start a x r e h = h
replays_alike origin.Start (origin.Page d) a x r e h = absurd (cc)
replays_alike (origin.Page d) origin.Start a x r e h = absurd (cc)
replays_alike (origin.Page d) (origin.Page c) a x r e h =
    λ t is. h t (subst (λ (s : Suspended). IsStateOf a t s) (sym (same_Some (suspended_of d) (suspended_of c) e)) is)

bindings_alike : (o p : Origin) → origin_of o ≡ origin_of p → bindings_in o ≡ bindings_in p
bindings_alike origin.Start origin.Start e = refl
bindings_alike origin.Start (origin.Page d) e = absurd (cc)
bindings_alike (origin.Page d) origin.Start e = absurd (cc)
bindings_alike (origin.Page d) (origin.Page c) e = ap (λ (s : Suspended). s.shadows) (same_Some (suspended_of d) (suspended_of c) e)

consistent_alike : (o p : Origin) (a : Arena) (cells : List Val) (r : Segment) → origin_of o ≡ origin_of p → IsConsistent o a cells r → IsConsistent p a cells r
consistent_alike o p a cells r e h =
    let same = bindings_alike o p e in
    record {
      on = h.on;
      hold = h.hold;
      inside = h.inside;
      binds = subst (λ (ss : List (ℕ × Val)). Keeps r.outcome (λ d. BindsAllOf ss d.shadows)) same h.binds;
      names_cells = subst (λ (ss : List (ℕ × Val)). AreBindings a ss → Keeps r.outcome (λ d. AreBindings a d.shadows)) same h.names_cells;
    }

-- the run of a ticket, from what is the same as the ticket goes on from
pub run_alike : (t : Ticket) (o : Origin) (a b : Arena) (fuel : ℕ) (cells : List Val) (result : Result Segment AllocError) → origin_of o ≡ origin_of t.from → a ≡ b
    → IfOk result (λ r. Replays o a (newest (meaning t.answer) t.number t.url cells fuel) r) → IfOk result (IsConsistent o a cells) → IfOk result (λ r. Keeps r.outcome (λ d. Fits a d))
    → IfOk result (IsRunFrom b fuel t cells)
run_alike t o a b fuel cells (Err e) from same replays consistent fits = tt
run_alike t o a b fuel cells (Ok r) from same replays consistent fits =
    subst (λ (c : Arena). IsRunFrom c fuel t cells r) same (record {
      replays = replays_alike o t.from a (newest (meaning t.answer) t.number t.url cells fuel) r from replays;
      consistent = consistent_alike o t.from a cells r from consistent;
      fits = fits;
    })

-- the answer of a ticket that is for a visit is the visit's
answer_is : (scripts : List Named) (t : Ticket) (v : Visit) (cells : List Val) (fuel : ℕ) → v.ticket ≡ ticket_of t → IsFor scripts t v
    → newest (meaning t.answer) t.number t.url cells fuel ≡ next.newest v (present cells fuel)
answer_is scripts t v cells fuel e fits = rw (fits.url, e) refl

-- the run of a visit that the ticket is for
pub run_like : (scripts : List Named) (t : Ticket) (a : Arena) → IsScript a → (named : Named) → named.script ≡ script_of a
    → slice_get scripts t.script ≡ Some named
    → (fuel : ℕ) (over : List Val) (r : Segment) → IsRunOver scripts fuel t over r
    → (v : Visit) → v.ticket ≡ ticket_of t → IsFor scripts t v → IsLike v over fuel r
run_like scripts t a i named its found fuel over r is v e fits =
    let script : v.script.script ≡ script_of a = ap (λ (s : Named). s.script) (same_Some v.script named (sym fits.script ∙ found)) ∙ its in
    let same : a ≡ arena_of v.script.script = arena_again a i ∙ ap arena_of (sym script) in
    let mine : arena_of named.script ≡ a = ap arena_of its ∙ sym (arena_again a i) in
    runs_from v a over fuel r script same t.from fits.from
    (subst (λ (x : Answer). Replays t.from a x r) (answer_is scripts t v over fuel e fits)
    (subst (λ (c : Arena). Replays t.from c (newest (meaning t.answer) t.number t.url over fuel) r) mine (is named found).replays))

-- and its effects are on the cells of its script
pub run_as : (scripts : List Named) (t : Ticket) (a : Arena) → IsScript a → (named : Named) → named.script ≡ script_of a
    → slice_get scripts t.script ≡ Some named → EffectsAreOnCells
    → AllOnCells (length a.web) (length a.cells) (trees_of (script_of a))
    → (fuel : ℕ) (over : List Val) (r : Segment) → IsRunOver scripts fuel t over r
    → (v : Visit) → v.ticket ≡ ticket_of t → IsFor scripts t v → IsRunAs v over fuel r
run_as scripts t a i named its found law whole fuel over r is v e fits =
    let script : v.script.script ≡ script_of a = ap (λ (s : Named). s.script) (same_Some v.script named (sym fits.script ∙ found)) ∙ its in
    let like = run_like scripts t a i named its found fuel over r is v e fits in
    let here : AllOnCells (length v.script.script.web) (length v.script.script.cells) (trees_of v.script.script) =
    subst (λ (s : Script). AllOnCells (length s.web) (length s.cells) (trees_of s)) (sym script) whole in
    let on = law v.script.script (tape_for v (present over fuel)) (length v.script.script.web) (length v.script.script.cells) here in
    record {
      comes = like.comes;
      state = like.state;
      inside = like.inside;
      on = subst (λ (s : eval.Segment). AreOn (length v.script.script.cells) s.effects) (sym like.comes) on;
    }

pub if_ok : {X E : Type 0} {P Q : X → Type 0} (r : Result X E) → IfOk r P → ((x : X) → P x → Q x) → IfOk r Q
if_ok (Ok x) h f = f x h
if_ok (Err e) h f = tt

-- what holds of what was made for each of these, holds of it for all of them
pub for_all : {X E I : Type 0} (Q : I → Type 0) (P : I → X → Type 0) (r : Result X E) → ((i : I) → Q i → IfOk r (P i)) → IfOk r (λ x. (i : I) → Q i → P i x)
for_all Q P (Ok x) h = h
for_all Q P (Err e) h = tt

-- ---- whatever the ticket is for

bindings_stored : (a : Arena) (o : Origin) → IsStoredScript a (origin_of o) → AreBindings a (bindings_in o)
bindings_stored a origin.Start h = record { rise = tt; named = tt }
bindings_stored a (origin.Page d) h = record { rise = h.shadows.rise; named = h.shadows.named }

whole_outcome : (a : Arena) (inside : List TxName) (o : Outcome) → Keeps o (λ d. inside_of d.frames ≡ inside) → Keeps o (λ d. Fits a d) → Keeps o (λ d. AreBindings a d.shadows) → Keeps o (λ d. IsWhole a d inside)
whole_outcome a inside (Shown bytes kind state) names fits bindings = record {
  inside_is = names;
  stored = λ has. record { fits = fits; shadows = record { rise = bindings.rise; named = bindings.named }; bytes = has };
}
whole_outcome a inside (Finished bytes) names fits bindings = tt
whole_outcome a inside (Ended bytes) names fits bindings = tt
whole_outcome a inside (Faulted k) names fits bindings = tt
whole_outcome a inside (Fuel cost) names fits bindings = tt

-- a page that the run of a ticket shows is whole under the ticket's script
pub shows_whole : (all : List Named) (t : Ticket) (fuel : ℕ) (over : List Val) (r : Segment) → IsRunnable all t → IsRunOver all fuel t over r → ShowsWholeFrom all t r
shows_whole all t fuel over r runs is named found =
    let run = is named found in
    let mine : runs.named ≡ named = same_Some runs.named named (sym runs.script ∙ found) in
    let stored : IsStoredScript (arena_of named.script) (origin_of t.from) = subst (λ (n : Named). IsStoredScript (arena_of n.script) (origin_of t.from)) mine runs.stored in
    whole_outcome (arena_of named.script) r.entered.items r.outcome run.consistent.inside run.fits (run.consistent.names_cells (bindings_stored (arena_of named.script) t.from stored))

-- the effects of a start's run over its own cells are on them and hold
pub start_held : (l : Library) (b : kept.Book) (t : Ticket) (d : Destination) (name : List ℕ) (fuel : ℕ) (r : Segment) → d ≡ start name → HasItsScript l t d → IsRunOver l.all fuel t t.cells r
    → AreHeldBy b t d (map effect_of r.effects.items)
start_held l b t d name fuel r e has is =
    let es = map effect_of r.effects.items in
    let there : HasItsScript l t (start name) → AreHeldBy b t (start name) es = λ h.
    let run = is h.named h.told in record {
      on = subst (λ (vs : List Val). AreOn (length vs) es) (sym h.cells) run.consistent.on;
      hold = run.consistent.hold;
    } in
    subst (λ (x : Destination). HasItsScript l t x → AreHeldBy b t x es) (sym e) there has

-- the effects of a run are on cells that are as many as the script has
pub on_cells_of : (all : List Named) (t : Ticket) (named : Named) (fuel : ℕ) (over : List Val) (r : Segment) (cells : List Val) → slice_get all t.script ≡ Some named → length named.script.cells ≡ length cells
    → IsRunOver all fuel t over r → AreOn (length cells) (map effect_of r.effects.items)
on_cells_of all t named fuel over r cells found many is = subst (λ (k : ℕ). AreOn k (map effect_of r.effects.items)) many (is named found).consistent.on

-- those of an answer's are held by the cells of its instance, if these are as many as the script has and the effects hold over them
pub page_held : (b : kept.Book) (t : Ticket) (d : Destination) (name : List ℕ) (n : PageName) (es : List Effect) → d ≡ page name n → IfSome (cells_at n.instance b) (AreHeld es) → AreHeldBy b t d es
page_held b t d name n es e held = subst (λ (x : Destination). AreHeldBy b t x es) (sym e) held

-- so they are on the cells
pub held_on : (b : kept.Book) (t : Ticket) (d : Destination) (es : List Effect) → AreHeldBy b t d es → AreOnBy b t d es
held_on b t (start name) es h = h.on
held_on b t (page name n) es h = by_cells (cells_at n.instance b) h
  where
    by_cells : (o : Option (List Val)) → IfSome o (AreHeld es) → IfSome o (λ cells. AreOn (length cells) es)
    by_cells None h = tt
    by_cells (Some cells) h = h.on
