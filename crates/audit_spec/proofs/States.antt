-- The state that a script leaves, found by steps of its machine.
use Rattle.std.proofs.Common.{◌≡◌, ℕ, Option, Some, None, refl, sym, ap, subst, ◌∙◌}
use Rattle.script_nodes.specs.Arena.{IsScript, arena_of}
use Rattle.script_nodes.specs.Setup.{Script}
use Rattle.replay_spec.specs.Tape.{Tape, shows, finishes, ends, Outcome, paged, faulted, out_of_fuel}
use Rattle.replay_spec.specs.Admission.{◌>>=◌}
use Rattle.replay_spec.specs.Eval.{Segment}
use Rattle.replay_spec.specs.Laws.{Waits}
use Rattle.machine_states.specs.Machine.{Suspended, Step, goes, stopped, steps}
use Rattle.machine_states.specs.Laws.{started, Stops, IsStateOf}
use Rattle.machine_states.proofs.Halting.{script_stop}
use Rattle.machine_states.proofs.Replay.{stops_as_run, one_state}
use Rattle.journal_spec.specs.Lengths.{kept_at, kept_by, state_over}

-- what is kept where a machine stopped with a page that waits
abbrev pub shown_in : Step → Option Suspended
shown_in (stopped (paged (shows kind) bytes) names d s) = Some d
shown_in _ = None

module _ (s : Script) (w : IsScript (arena_of s)) (t : Tape) where
  kept_here : (x : Stops (arena_of s) (started (arena_of s) t)) → Waits x.outcome → ((y : Suspended) → kept_at x.outcome y ≡ Some y) → state_over s t ≡ Some x.kept
  unfolding state_over
  kept_here x waits keeps =
      let a = arena_of s in
      let stop = script_stop a w t in
      let same : stop.0.outcome ≡ x.outcome =
      ap (λ (m : Segment). m.outcome) (stops_as_run a w t stop.0 ∙ sym (stops_as_run a w t x)) in
      let own : IsStateOf a t stop.0.kept = record { stops = stop.0; waits = subst Waits (sym same) waits; is = refl } in
      let given : IsStateOf a t x.kept = record { stops = x; waits = waits; is = refl } in
      let kept = one_state a t stop.0.kept x.kept own given in
      ap (λ (o : Option (Stops a (started a t))). o >>= kept_by) stop.1
      ∙ (ap (λ (o : Outcome). kept_at o stop.0.kept) same ∙ (keeps stop.0.kept ∙ ap (λ (y : Suspended). Some y) kept))

  by_step : (k : ℕ) (d : Suspended) (y : Step) → steps (arena_of s) k (started (arena_of s) t) ≡ y → shown_in y ≡ Some d → state_over s t ≡ Some d
  by_step k d (goes m) is h = absurd (let no : ⊥ = cc in no)
  by_step k d (stopped (paged finishes bytes) names e z) is h = absurd (let no : ⊥ = cc in no)
  by_step k d (stopped (paged ends bytes) names e z) is h = absurd (let no : ⊥ = cc in no)
  by_step k d (stopped (faulted f) names e z) is h = absurd (let no : ⊥ = cc in no)
  by_step k d (stopped (out_of_fuel cost) names e z) is h = absurd (let no : ⊥ = cc in no)
  by_step k d (stopped (paged (shows kind) bytes) names e z) is h =
      kept_here (record { count = k; outcome = paged (shows kind) bytes; entered = names; kept = e; state = z; are = is }) tt (λ y. refl) ∙ h

  -- where so many steps show a page, its state is what is kept there
  pub state_is : (k : ℕ) (d : Suspended) → shown_in (steps (arena_of s) k (started (arena_of s) t)) ≡ Some d → state_over s t ≡ Some d
  state_is k d h = by_step k d (steps (arena_of s) k (started (arena_of s) t)) refl h
