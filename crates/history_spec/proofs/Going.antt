-- Histories go on, and are runs.
use Rattle.std.proofs.Common.{◌≡◌, ◌≤◌, ℕ, List, [], ◌∷◌, ◌++◌, refl, sym, ap, subst, arith, append_assoc}
use Rattle.std.proofs.lemmas.List.{append-nil}
use Rattle.replay_spec.specs.Step.{Reply, disk_failed}
use Rattle.replay_spec.specs.Runs.{Shelf, shelf_step, answers_to}
use Rattle.replay_spec.specs.Laws.{IsLawful, IsLawfulRun, Leads}
use Rattle.replay_spec.proofs.Goes.{run_leads}
use Rattle.history_spec.specs.Histories.{Entry, fate_by, events_of, shelf_behind, book_behind, IsCounted, IsNext, GoesOn, IsLegal}
use Rattle.history_spec.specs.Laws.{HistoriesGoOn, OneEntryIsAStep}

module _ (source : ℕ → ℕ) (opened now : ℕ) (s : Shelf) where
  -- what holds of no entries, and of one more wherever it holds, holds of each history
  pub along : (P : List Entry → Type 0) → ((before : List Entry) (e : Entry) → IsNext source opened now s before e → P before → P (before ++ e ∷ []))
      → (before later : List Entry) → GoesOn source opened now s before later → P before → P (before ++ later)
  along P more before [] goes p = subst P (sym (append-nil before)) p
  along P more before (e ∷ later) goes p = subst P (append_assoc before (e ∷ []) later) (along P more (before ++ e ∷ []) later goes.1 (more before e goes.0 p))

  pub push : (before later : List Entry) (e : Entry) → GoesOn source opened now s before later → IsNext source opened now s (before ++ later) e
      → GoesOn source opened now s before (later ++ e ∷ [])
  push before [] e goes next = (subst (λ l. IsNext source opened now s l e) (append-nil before) next, tt)
  push before (x ∷ later) e goes next =
      (goes.0, push (before ++ x ∷ []) later e goes.1 (subst (λ l. IsNext source opened now s l e) (sym (append_assoc before (x ∷ []) later)) next))

  pub last : (before later : List Entry) (e : Entry) → GoesOn source opened now s before (later ++ e ∷ []) → IsNext source opened now s (before ++ later) e
  last before [] e goes = subst (λ l. IsNext source opened now s l e) (sym (append-nil before)) goes.0
  last before (x ∷ later) e goes = subst (λ l. IsNext source opened now s l e) (append_assoc before (x ∷ []) later) (last (before ++ x ∷ []) later e goes.1)

  pub front : (before later more : List Entry) → GoesOn source opened now s before (later ++ more) → GoesOn source opened now s before later
  front before [] more goes = tt
  front before (x ∷ later) more goes = (goes.0, front (before ++ x ∷ []) later more goes.1)

counted_later : (opened now later : ℕ) (r : Reply) → now ≤ later → IsCounted opened now r → IsCounted opened later r
counted_later opened now later (disk_failed count) more h = (h.0, omega (arith, h.1, more))
counted_later opened now later r more h = h

next_later : (source : ℕ → ℕ) (opened now later : ℕ) (s : Shelf) (before : List Entry) (e : Entry) → now ≤ later → IsNext source opened now s before e → IsNext source opened later s before e
next_later source opened now later s before e more h = record { comes = h.comes; answered = h.answered; counted = counted_later opened now later e.reply more h.counted }

pub legal_later : (source : ℕ → ℕ) (opened now later : ℕ) (s : Shelf) (before es : List Entry) → now ≤ later → GoesOn source opened now s before es → GoesOn source opened later s before es
legal_later source opened now later s before [] more h = tt
legal_later source opened now later s before (e ∷ es) more h =
    (next_later source opened now later s before e more h.0, legal_later source opened now later s (before ++ e ∷ []) es more h.1)

pub go_on : HistoriesGoOn
go_on source opened now s es = (
  λ (e : Entry) (legal : IsLegal source opened now s es) (next : IsNext source opened now s es e). push source opened now s [] es e legal next,
  λ (e : Entry) (legal : IsLegal source opened now s (es ++ e ∷ [])). last source opened now s [] es e legal,
  λ (more : List Entry) (legal : IsLegal source opened now s (es ++ more)). front source opened now s [] es more legal,
  λ (later : ℕ) (more : now ≤ later) (legal : IsLegal source opened now s es). legal_later source opened now later s [] es more legal,
)

-- one entry more, and further entries
pub is_step : OneEntryIsAStep
is_step source s [] e = refl
is_step source s (x ∷ es) e = is_step source (shelf_step source s x.event (fate_by x.reply)).1 es e

pub behind_more : (source : ℕ → ℕ) (s : Shelf) (es more : List Entry) → shelf_behind source s (es ++ more) ≡ shelf_behind source (shelf_behind source s es) more
behind_more source s [] more = refl
behind_more source s (x ∷ es) more = behind_more source (shelf_step source s x.event (fate_by x.reply)).1 es more

-- what a run is answered, with one entry more
pub answers_push : (source : ℕ → ℕ) (s : Shelf) (es : List Entry) (e : Entry)
    → answers_to source (events_of (es ++ e ∷ [])) s ≡ answers_to source (events_of es) s ++ (shelf_step source (shelf_behind source s es) e.event (fate_by e.reply)).0 ∷ []
answers_push source s [] e = refl
answers_push source s (x ∷ es) e =
    ap (λ (rs : List Reply). (shelf_step source s x.event (fate_by x.reply)).0 ∷ rs) (answers_push source (shelf_step source s x.event (fate_by x.reply)).1 es e)

pub lawful_push : (source : ℕ → ℕ) (s : Shelf) (es : List Entry) (e : Entry) → IsLawfulRun source (events_of es) s → IsLawful e.event (book_behind source s es)
    → IsLawfulRun source (events_of (es ++ e ∷ [])) s
lawful_push source s [] e h one = (one, tt)
lawful_push source s (x ∷ es) e h one = (h.0, lawful_push source (shelf_step source s x.event (fate_by x.reply)).1 es e h.1 one)

lawful_rest : (source : ℕ → ℕ) (s : Shelf) (es more : List Entry) → IsLawfulRun source (events_of (es ++ more)) s → IsLawfulRun source (events_of more) (shelf_behind source s es)
lawful_rest source s [] more h = h
lawful_rest source s (x ∷ es) more h = lawful_rest source (shelf_step source s x.event (fate_by x.reply)).1 es more h.1

pub leads_more : (source : ℕ → ℕ) (s : Shelf) (es more : List Entry) → IsLawfulRun source (events_of (es ++ more)) s → Leads (book_behind source s es) (book_behind source s (es ++ more))
leads_more source s es more h =
    subst (λ (x : Shelf). Leads (book_behind source s es) x.book) (sym (behind_more source s es more))
    (run_leads source (events_of more) (shelf_behind source s es) (lawful_rest source s es more h))
