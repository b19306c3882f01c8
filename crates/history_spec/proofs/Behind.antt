-- What holds of the books after a history.
use Rattle.std.proofs.Common.{◌≡◌, ◌≤◌, ℕ, Bool, true, false, List, [], ◌∷◌, ◌++◌, Contains, refl, sym, ◌∙◌, ap, subst, inl, inr, arith, append_assoc, nat_le, if◌then◌else◌}
use Rattle.std.proofs.lemmas.Bool.Decides.{nat_tests}
use Rattle.std.proofs.lemmas.List.Elements.{Contains-push_cases}
use Rattle.replay_spec.specs.Book.{Book}
use Rattle.replay_spec.specs.Rules.{Rules}
use Rattle.replay_spec.specs.Step.{Event, sweep, Fate, swept, fate_of, settle, sweep_comes, step}
use Rattle.replay_spec.specs.Runs.{Shelf}
use Rattle.replay_spec.specs.Invariant.{IsSound}
use Rattle.replay_spec.specs.Laws.{Moment, then_book, Leads, IsOn, IsRefusal}
use Rattle.replay_spec.proofs.Steps.{led}
use Rattle.replay_spec.proofs.Stays.{never_falls}
use Rattle.replay_spec.proofs.Closing as closing
use Rattle.history_spec.specs.Histories.{Entry, fate_by, shelf_behind, book_behind, IsNext, IsLegal, IsOpened}
use Rattle.history_spec.specs.Laws.{moment_of, BooksBehindAreSound, TheClockNeverFalls, ClosedIsClosed}
use Rattle.history_spec.proofs.Members.{contains_none}
use Rattle.history_spec.proofs.Going.{along, push, front, last, is_step}
use Rattle.history_spec.proofs.Numbers.{well, are_runs, lawful_next}

module _ (source : ℕ → ℕ) (opened now : ℕ) (s : Shelf) where
  pub leads : (es more : List Entry) → IsOpened s.book → IsLegal source opened now s (es ++ more) → Leads (book_behind source s es) (book_behind source s (es ++ more))
  leads es more opening legal = (are_runs source opened now s (es ++ more) opening legal).2 es more refl

  pub sound : (es : List Entry) → IsOpened s.book → IsSound s.book → IsLegal source opened now s es → IsSound (book_behind source s es)
  sound es opening good legal = (led s.book (book_behind source s es) good (leads [] es opening legal)).sound

pub are_sound : BooksBehindAreSound
are_sound source opened now s es opening good legal =
    let l = led s.book (book_behind source s es) good (leads source opened now s [] es opening legal) in (l.sound, l.later.shelf)

-- after a sweep that was answered
settled_clock : (rules : Rules) (b : Book) (tick freed : ℕ) (fate : Fate) → (settle rules b fate (sweep_comes rules b tick)).0 ≡ swept freed → (settle rules b fate (sweep_comes rules b tick)).1.clock ≡ tick
settled_clock rules b tick freed fate h = grind arith

swept_clock : (rules : Rules) (b : Book) (tick freed : ℕ) (fate : Fate) (is_late : Bool) → nat_le tick b.clock ≡ is_late
    → (if is_late then (swept 0, b) else settle rules b fate (sweep_comes rules b tick)).0 ≡ swept freed
    → tick ≤ (if is_late then (swept 0, b) else settle rules b fate (sweep_comes rules b tick)).1.clock
swept_clock rules b tick freed fate true is h = grind (arith, nat_tests)
swept_clock rules b tick freed fate false is h = let there = settled_clock rules b tick freed fate h in omega (arith, there)

sweep_clock : (rules : Rules) (b : Book) (nonce tick freed : ℕ) (fate : Fate) → (step rules b nonce (sweep tick) fate).0 ≡ swept freed → tick ≤ (step rules b nonce (sweep tick) fate).1.clock
unfolding step
sweep_clock rules b nonce tick freed fate h = swept_clock rules b tick freed (fate_of rules.journal fate) (nat_le tick b.clock) refl h

module _ (source : ℕ → ℕ) (opened now : ℕ) (s : Shelf) where
  rises : (front more : List Entry) → IsOpened s.book → IsLegal source opened now s (front ++ more) → (book_behind source s front).clock ≤ (book_behind source s (front ++ more)).clock
  rises es more opening legal =
      (never_falls (book_behind source s es) (book_behind source s (es ++ more)) (well source opened now s es opening (front source opened now s [] es more legal)).orderly
      (leads source opened now s es more opening legal)).0

  sweep_next : (es : List Entry) (e : Entry) (tick freed : ℕ) → IsNext source opened now s es e → e.event ≡ sweep tick → e.reply ≡ swept freed → tick ≤ (book_behind source s (es ++ e ∷ [])).clock
  sweep_next es e tick freed next is told =
      let at : Shelf = shelf_behind source s es in
      let there : (step at.rules at.book (source at.nonces) (sweep tick) (fate_by e.reply)).0 ≡ swept freed =
      ap (λ (x : Event). (step at.rules at.book (source at.nonces) x (fate_by e.reply)).0) (sym is) ∙ (next.answered ∙ told) in
      subst (λ (x : Shelf). tick ≤ x.book.clock) (sym (is_step source s es e))
      (subst (λ (x : Event). tick ≤ (step at.rules at.book (source at.nonces) x (fate_by e.reply)).1.clock) (sym is) (sweep_clock at.rules at.book (source at.nonces) tick freed (fate_by e.reply) there))

  -- the clock is at each tick that was swept
  abbrev ReachesTicks : List Entry → Type 0
  ReachesTicks es =
      IsLegal source opened now s es
      × ((caller tick freed : ℕ) → Contains es (record { caller = caller; event = sweep tick; reply = swept freed }) → tick ≤ (book_behind source s es).clock)

  reaches_next : IsOpened s.book → (es : List Entry) (e : Entry) → IsNext source opened now s es e → ReachesTicks es → ReachesTicks (es ++ e ∷ [])
  reaches_next opening es e next h =
      let legal = push source opened now s [] es e h.0 next in (
        legal,
        λ caller tick freed there. elim (Contains-push_cases es e (record { caller = caller; event = sweep tick; reply = swept freed }) there) [
          | inl old ↦ let low = h.1 caller tick freed old in let more = rises es (e ∷ []) opening legal in omega (arith, low, more)
          | inr is ↦ sweep_next es e tick freed next (ap (λ (x : Entry). x.event) is) (ap (λ (x : Entry). x.reply) is)
        ],
      )

  reaches : (es : List Entry) → IsOpened s.book → IsLegal source opened now s es → ReachesTicks es
  reaches es opening legal = along source opened now s ReachesTicks (reaches_next opening) [] es legal (tt, λ caller tick freed there. absurd (contains_none (record { caller = caller; event = sweep tick; reply = swept freed }) there))

pub never_back : TheClockNeverFalls
never_back source opened now s es more opening legal =
    let up = rises source opened now s es more opening legal in (
      up,
      λ (caller tick freed : ℕ) (there : Contains es (record { caller = caller; event = sweep tick; reply = swept freed })).
          let low = (reaches source opened now s es opening (front source opened now s [] es more legal)).1 caller tick freed there in omega (arith, low, up),
    )

pub closed : ClosedIsClosed
closed source opened now s before between leaving next name opening good legal leaves =
    let until : List Entry = before ++ leaving ∷ between in
    let to = front source opened now s [] until (next ∷ []) legal in
    let split : (before ++ leaving ∷ []) ++ between ≡ until = append_assoc before (leaving ∷ []) between in
    let one = front source opened now s [] (before ++ leaving ∷ []) between (subst (IsLegal source opened now s) (sym split) to) in
    let first = front source opened now s [] before (leaving ∷ []) one in
    let its = last source opened now s [] before leaving one in
    let b : Book = book_behind source s before in
    let m : Moment = moment_of source s before leaving in
    let n : Moment = moment_of source s until next in
    let lawful = lawful_next source opened now s before leaving.event leaving.caller (well source opened now s before opening first) its.comes in
    let on : Leads (then_book m b) (book_behind source s until) =
    subst (λ (x : Shelf). Leads x.book (book_behind source s until)) (is_step source s before leaving)
    (subst (λ (l : List Entry). Leads (book_behind source s (before ++ leaving ∷ [])) (book_behind source s l)) split
    (leads source opened now s (before ++ leaving ∷ []) between opening (subst (IsLegal source opened now s) (sym split) to))) in
    let all = closing.closed b (book_behind source s until) m n name (sound source opened now s before opening good first) lawful leaves on in (
      all.0,
      λ (early more : List Entry) (is : until ≡ early ++ more) (inside : IsOn name (book_behind source s early) next.event).
          let part = subst (IsLegal source opened now s) is to in
          let known = sound source opened now s early opening good (front source opened now s [] early more part) in
          let toward : Leads (book_behind source s early) (book_behind source s until) =
          subst (λ (l : List Entry). Leads (book_behind source s early) (book_behind source s l)) (sym is) (leads source opened now s early more opening part) in
          let done = all.1 (book_behind source s early) known toward inside in (
            subst IsRefusal (last source opened now s [] until next legal).answered done.0,
            ap (λ (x : Shelf). x.book) (is_step source s until next) ∙ done.1,
          ),
    )
