-- Histories are runs, in which no number is taken twice and what is owed is out.
use Rattle.std.proofs.Common.{◌≡◌, ◌+◌, ℕ, List, [], ◌∷◌, ◌++◌, map, Contains, refl, sym, ◌∙◌, ap, subst, arith}
use Rattle.std.proofs.lemmas.List.{map_push}
use Rattle.replay_spec.specs.Book.{Book}
use Rattle.replay_spec.specs.Rules.{Rules}
use Rattle.replay_spec.specs.Next.{Ticket}
use Rattle.replay_spec.specs.Step.{Event, take, publish, sweep, compact, crash, Fate, Reply, taken, step}
use Rattle.replay_spec.specs.Runs.{Shelf, shelf_step, answers_to}
use Rattle.replay_spec.specs.Invariant.{IsOrderly}
use Rattle.replay_spec.specs.Laws.{IsLawful, IsLawfulRun, Moment, Takes, Leads, tickets_by}
use Rattle.replay_spec.proofs.Stand.{among_of}
use Rattle.replay_spec.proofs.Orderly as orderly
use Rattle.replay_spec.proofs.Refused.{unchanged}
use Rattle.replay_spec.proofs.Numbers.{numbers, tickets_out}
use Rattle.history_spec.specs.Histories.{Entry, fate_by, events_of, shelf_behind, book_behind, tickets_left, MayCome, IsNext, IsLegal, IsOpened}
use Rattle.history_spec.specs.Laws.{HistoriesAreRuns}
use Rattle.history_spec.proofs.Members.{contains_mapped}
use Rattle.history_spec.proofs.Going.{along, is_step, answers_push, lawful_push, leads_more}
use Rattle.history_spec.proofs.Owing.{IsGiven, left_push, Held, held_none, held_then, IsFresh}

-- What stands after a history.
pub record Well (source : ℕ → ℕ) (s : Shelf) (es : List Entry) : Type 0 where
  pub orderly : IsOrderly (book_behind source s es)
  pub lawful : IsLawfulRun source (events_of es) s
  pub answered : answers_to source (events_of es) s ≡ map (λ e. e.reply) es
  pub out : numbers (tickets_left es []) ≡ (book_behind source s es).out
  pub held : Held es (tickets_left es [])

-- a take that is answered so drew this number
pub given_next : (rules : Rules) (b : Book) (nonce : ℕ) (x : Event) (fate : Fate) (r : Reply) (t : Ticket) → (step rules b nonce x fate).0 ≡ r → IsGiven x r t
    → (t.number ≡ b.drawn) × (t.nonce ≡ nonce) × ((step rules b nonce x fate).1.drawn ≡ b.drawn + 1)
given_next rules b nonce (take target answer) fate (taken n m) t is given =
    let takes : Takes b nonce (taken n m) (step rules b nonce (take target answer) fate).1 =
    subst (λ (r : Reply). Takes b nonce r (step rules b nonce (take target answer) fate).1) is ((unchanged rules b nonce fate).0 target answer) in (
      sym (ap (λ (t : Ticket). t.number) given) ∙ takes.0,
      sym (ap (λ (t : Ticket). t.nonce) given) ∙ takes.1,
      ap (λ (c : Book). c.drawn) takes.2,
    )
given_next rules b nonce (take target answer) fate r t is given = absurd given
given_next rules b nonce (publish p) fate r t is given = absurd given
given_next rules b nonce (sweep tick) fate r t is given = absurd given
given_next rules b nonce compact fate r t is given = absurd given
given_next rules b nonce (crash scripts) fate r t is given = absurd given

module _ (source : ℕ → ℕ) (opened now : ℕ) (s : Shelf) where
  pub lawful_next : (es : List Entry) (x : Event) (caller : ℕ) → Well source s es → MayCome caller x es → IsLawful x (book_behind source s es)
  lawful_next es (take target answer) caller w comes = tt
  lawful_next es (publish p) caller w comes =
      subst (λ (ns : List ℕ). Contains ns p.number) w.out (contains_mapped (λ (t : Ticket). t.number) (tickets_left es []) p (w.held.owned caller p comes))
  lawful_next es (sweep tick) caller w comes = tt
  lawful_next es compact caller w comes = tt
  lawful_next es (crash scripts) caller w comes = tt

  fresh_next : (es : List Entry) (e : Entry) → Well source s es → IsNext source opened now s es e → IsFresh e (tickets_left es [])
  fresh_next es e w next t u given there same =
      let now : Shelf = shelf_behind source s es in
      let drawn = (given_next now.rules now.book (source now.nonces) e.event (fate_by e.reply) e.reply t next.answered given).0 in
      let out = subst (λ (ns : List ℕ). Contains ns u.number) w.out (contains_mapped (λ (t : Ticket). t.number) (tickets_left es []) u there) in
      let below = w.orderly.below u.number (among_of now.book.out u.number out) in
      omega (arith, below, same, drawn)

  pub well_next : (es : List Entry) (e : Entry) → IsNext source opened now s es e → Well source s es → Well source s (es ++ e ∷ [])
  well_next es e next w =
      let at : Shelf = shelf_behind source s es in
      let m : Moment = record { rules = at.rules; nonce = source at.nonces; event = e.event; fate = fate_by e.reply } in
      let one = lawful_next es e.event e.caller w next.comes in
      let lawful = lawful_push source s es e w.lawful one in
      let leads = leads_more source s es (e ∷ []) lawful in
      let all = tickets_left es [] in
      let out = (tickets_out (m ∷ []) at.book all w.orderly (one, tt) w.out).0 in
      record {
        orderly = (orderly.led at.book (book_behind source s (es ++ e ∷ [])) w.orderly leads).orderly;
        lawful = lawful;
        answered =
            answers_push source s es e
            ∙ (ap (λ (rs : List Reply). rs ++ (shelf_step source at e.event (fate_by e.reply)).0 ∷ []) w.answered
            ∙ (ap (λ (r : Reply). map (λ (x : Entry). x.reply) es ++ r ∷ []) next.answered ∙ sym (map_push (λ (x : Entry). x.reply) es e)));
        out =
            ap numbers (left_push es e [])
            ∙ (ap (λ (r : Reply). numbers (tickets_by e.event r all)) (sym next.answered) ∙ (out ∙ sym (ap (λ (x : Shelf). x.book.out) (is_step source s es e))));
        held = subst (λ (ts : List Ticket). Held (es ++ e ∷ []) ts) (sym (left_push es e [])) (held_then es all e w.held next.comes (fresh_next es e w next));
      }

  pub well : (es : List Entry) → IsOpened s.book → IsLegal source opened now s es → Well source s es
  well es opening legal = along source opened now s (Well source s) well_next [] es legal (record {
    orderly = opening.orderly;
    lawful = tt;
    answered = refl;
    out = sym opening.idle;
    held = held_none;
  })

pub are_runs : HistoriesAreRuns
are_runs source opened now s es opening legal =
    let w = well source opened now s es opening legal in (
      w.lawful,
      w.answered,
      λ (front more : List Entry) (is : es ≡ front ++ more).
          subst (λ (l : List Entry). Leads (book_behind source s front) (book_behind source s l)) (sym is)
          (leads_more source s front more (subst (λ (l : List Entry). IsLawfulRun source (events_of l) s) is w.lawful)),
    )
