-- Each publish has its take, and no two have one.
use Rattle.std.proofs.Common.{◌≡◌, ◌≢◌, ◌≤◌, ◌<◌, ◌==◌, ℕ, List, [], ◌∷◌, ◌++◌, Contains, sym, ◌∙◌, ap, subst, inl, inr, arith, append_assoc}
use Rattle.std.proofs.lemmas.List.{append-nil}
use Rattle.replay_spec.specs.Next.{Ticket}
use Rattle.replay_spec.specs.Step.{Event, publish}
use Rattle.replay_spec.specs.Runs.{Shelf}
use Rattle.replay_spec.specs.Laws.{tickets_by}
use Rattle.replay_spec.proofs.Stand.{among_of}
use Rattle.history_spec.specs.Histories.{Entry, fate_by, shelf_behind, book_behind, own_of, tickets_left, Owes, MayCome, IsNext, GoesOn}
use Rattle.history_spec.specs.Laws.{take_of, EachPublishHasItsTake}
use Rattle.history_spec.proofs.Members.{contains_cases, contains_passed, contains_mapped, contains_none}
use Rattle.history_spec.proofs.Going.{front, is_step}
use Rattle.history_spec.proofs.Owing.{left_by, left_push}
use Rattle.history_spec.proofs.Numbers.{Well, given_next, well, well_next}
use Rattle.history_spec.proofs.Twice.{stepped_drawn, left_from, same_caller}

-- what a caller owes it took
pub took_it : (es : List Entry) (caller : ℕ) (t : Ticket) → Owes caller t es → Contains es (take_of caller t)
took_it es caller t owes = elim (left_from (own_of caller es) [] t owes) [
  | inl none ↦ absurd (contains_none t none)
  | inr (e, there, came) ↦
      let passed = contains_passed (λ (x : Entry). x.caller == caller) es e there in
      subst (λ (x : Entry). Contains es x) (came ∙ ap (λ (c : ℕ). take_of c t) (same_caller e.caller caller passed.1)) passed.0
]

module _ (source : ℕ → ℕ) (opened now : ℕ) (s : Shelf) where
  -- a number that was drawn, and that no ticket has which is left
  abbrev IsSpent : ℕ → List Entry → Type 0
  IsSpent n es = (n < (book_behind source s es).drawn) × ((t : Ticket) → Contains (tickets_left es []) t → t.number ≢ n)

  drawn_next : (es : List Entry) (e : Entry) → IsNext source opened now s es e → (book_behind source s es).drawn ≤ (book_behind source s (es ++ e ∷ [])).drawn
  drawn_next es e next =
      let at : Shelf = shelf_behind source s es in
      subst (λ (x : Shelf). at.book.drawn ≤ x.book.drawn) (sym (is_step source s es e))
      (stepped_drawn at.rules at.book (source at.nonces) e.event (fate_by e.reply) e.caller es next.comes)

  spent_next : (n : ℕ) (es : List Entry) (e : Entry) → IsNext source opened now s es e → IsSpent n es → IsSpent n (es ++ e ∷ [])
  spent_next n es e next spent =
      let at : Shelf = shelf_behind source s es in
      let more = drawn_next es e next in
      let low = spent.0 in (
        omega (arith, low, more),
        λ t there. elim (left_by e.event e.reply (tickets_left es []) t (subst (λ (ts : List Ticket). Contains ts t) (left_push es e []) there)) [
          | inl old ↦ spent.1 t old.0
          | inr given ↦
              let drawn = (given_next at.rules at.book (source at.nonces) e.event (fate_by e.reply) e.reply t next.answered given).0 in
              λ same. omega (arith, low, drawn, same)
        ],
      )

  spent_now : (es : List Entry) (e : Entry) (p : Ticket) → Well source s es → IsNext source opened now s es e → e.event ≡ publish p → Owes e.caller p es → IsSpent p.number (es ++ e ∷ [])
  spent_now es e p w next is owes =
      let b = book_behind source s es in
      let out : Contains b.out p.number =
      subst (λ (ns : List ℕ). Contains ns p.number) w.out (contains_mapped (λ (u : Ticket). u.number) (tickets_left es []) p (w.held.owned e.caller p owes)) in
      let low = w.orderly.below p.number (among_of b.out p.number out) in
      let more = drawn_next es e next in (
        omega (arith, low, more),
        λ t there.
            let left = subst (λ (x : Event). Contains (tickets_by x e.reply (tickets_left es [])) t) is (subst (λ (ts : List Ticket). Contains ts t) (left_push es e []) there) in
            elim (left_by (publish p) e.reply (tickets_left es []) t left) [ inl old ↦ old.1 | inr given ↦ absurd given ],
      )

  never_again : (n : ℕ) (es later : List Entry) → GoesOn source opened now s es later → Well source s es → IsSpent n es
      → (f : Entry) (u : Ticket) → Contains later f → f.event ≡ publish u → u.number ≡ n → ⊥
  never_again n es [] goes w spent f u there is same = contains_none f there
  never_again n es (x ∷ later) goes w spent f u there is same = elim (contains_cases x f later there) [
    | inl first ↦
        let owes : Owes x.caller u es = subst (λ (y : Event). MayCome x.caller y es) (ap (λ (y : Entry). y.event) first ∙ is) goes.0.comes in
        spent.1 u (w.held.owned x.caller u owes) same
    | inr rest ↦ never_again n (es ++ x ∷ []) later goes.1 (well_next source opened now s es x goes.0 w) (spent_next n es x goes.0 spent) f u rest is same
  ]

  rest_goes : (before es later : List Entry) → GoesOn source opened now s before (es ++ later) → GoesOn source opened now s (before ++ es) later
  rest_goes before [] later goes = subst (λ (l : List Entry). GoesOn source opened now s l later) (sym (append-nil before)) goes
  rest_goes before (x ∷ es) later goes =
      subst (λ (l : List Entry). GoesOn source opened now s l later) (append_assoc before (x ∷ []) es) (rest_goes (before ++ x ∷ []) es later goes.1)

pub has_take : EachPublishHasItsTake
has_take source opened now s before later e t opening is legal =
    let first = front source opened now s [] before (e ∷ later) legal in
    let goes = rest_goes source opened now s [] before (e ∷ later) legal in
    let w = well source opened now s before opening first in
    let owes : Owes e.caller t before = subst (λ (x : Event). MayCome e.caller x before) is goes.0.comes in (
      took_it before e.caller t owes,
      never_again source opened now s t.number (before ++ e ∷ []) later goes.1 (well_next source opened now s before e goes.0 w) (spent_now source opened now s before e t w goes.0 is owes),
    )
