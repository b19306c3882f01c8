-- Takes are given the nonces of the source in turn.
use Rattle.std.proofs.Common.{◌≡◌, ◌+◌, ℕ, Bool, true, false, List, [], ◌∷◌, ◌++◌, length, refl, sym, ◌∙◌, ap, subst, arith, nat_le, if◌then◌else◌, length-append}
use Rattle.std.specs.Prelude.{⊤}
use Rattle.std.proofs.lemmas.List.{append-nil}
use Rattle.replay_spec.specs.Book.{Book, spend}
use Rattle.replay_spec.specs.Rules.{Rules}
use Rattle.replay_spec.specs.Next.{Ticket}
use Rattle.replay_spec.specs.Step.{Event, take, publish, sweep, compact, crash, Fate, Reply, taken, swept, Decision, publish_comes, sweep_comes, compact_comes, fate_of, settle, step}
use Rattle.replay_spec.specs.Runs.{Shelf, drawn_by}
use Rattle.history_spec.specs.Histories.{Entry, fate_by, shelf_behind, MayCome, IsNext, IsLegal}
use Rattle.history_spec.specs.Laws.{given_by, tickets_taken, AreInTurn, NoncesComeInTurn}
use Rattle.history_spec.proofs.Going.{along, is_step}
use Rattle.history_spec.proofs.Owing.{IsGiven}
use Rattle.history_spec.proofs.Numbers.{given_next}
use Rattle.history_spec.proofs.Twice.{taken_push}
use Rattle.history_spec.proofs.Fates.{DecidesPlain, publish_plain, sweep_plain, compact_plain}

-- what is settled is no take
abbrev IsNoTake : Reply → Type 0
IsNoTake (taken number nonce) = ⊥
IsNoTake r = ⊤

settled_no_take : (rules : Rules) (b : Book) (fate : Fate) (d : Decision) → DecidesPlain d → IsNoTake (settle rules b fate d).0
settled_no_take rules b fate d h = grind arith

swept_no_take : (rules : Rules) (b : Book) (tick : ℕ) (fate : Fate) (is_late : Bool) → IsNoTake (if is_late then (swept 0, b) else settle rules b fate (sweep_comes rules b tick)).0
swept_no_take rules b tick fate true = tt
swept_no_take rules b tick fate false = settled_no_take rules b fate (sweep_comes rules b tick) (sweep_plain rules b tick)

abbrev IsTake : Event → Type 0
IsTake (take target answer) = ⊤
IsTake _ = ⊥

others_take_none : (rules : Rules) (b : Book) (nonce : ℕ) (x : Event) (fate : Fate) (caller : ℕ) (es : List Entry) → MayCome caller x es → (IsTake x → ⊥) → IsNoTake (step rules b nonce x fate).0
unfolding step
others_take_none rules b nonce (take target answer) fate caller es h other = absurd (other tt)
others_take_none rules b nonce (publish t) fate caller es h other = settled_no_take rules (spend t.number b) (fate_of rules.journal fate) (publish_comes rules b t) (publish_plain rules b t)
others_take_none rules b nonce (sweep tick) fate caller es h other = swept_no_take rules b tick (fate_of rules.journal fate) (nat_le tick b.clock)
others_take_none rules b nonce compact fate caller es h other = settled_no_take rules b (fate_of rules.journal fate) (compact_comes rules b) (compact_plain rules b)
others_take_none rules b nonce (crash scripts) fate caller es h other = absurd h

drawn_none : (r : Reply) (k : ℕ) → IsNoTake r → drawn_by r k ≡ k + 0
drawn_none (taken number nonce) k h = absurd h
drawn_none r k h = omega arith

-- a nonce is drawn for each ticket that is given
drawn_for : (x : Event) (r : Reply) (k : ℕ) → ((IsTake x → ⊥) → IsNoTake r) → drawn_by r k ≡ k + length (given_by x r [])
drawn_for (take target answer) (taken number nonce) k h = omega arith
drawn_for (take target answer) r k h = omega arith
drawn_for (publish t) r k h = drawn_none r k (h (λ x. x))
drawn_for (sweep tick) r k h = drawn_none r k (h (λ x. x))
drawn_for compact r k h = drawn_none r k (h (λ x. x))
drawn_for (crash scripts) r k h = drawn_none r k (h (λ x. x))

in_turn_push : (source : ℕ → ℕ) (k : ℕ) (ts : List Ticket) (t : Ticket) → AreInTurn source k ts → t.nonce ≡ source (k + length ts) → AreInTurn source k (ts ++ t ∷ [])
in_turn_push source k [] t h is = let at : k + 0 ≡ k = omega arith in (is ∙ ap source at, tt)
in_turn_push source k (u ∷ ts) t h is =
    let at : k + length (u ∷ ts) ≡ (k + 1) + length ts = omega arith in (h.0, in_turn_push source (k + 1) ts t h.1 (is ∙ ap source at))

in_turn_then : (source : ℕ → ℕ) (k : ℕ) (ts : List Ticket) (x : Event) (r : Reply) → AreInTurn source k ts → ((t : Ticket) → IsGiven x r t → t.nonce ≡ source (k + length ts))
    → AreInTurn source k (ts ++ given_by x r [])
in_turn_then source k ts (take target answer) (taken number nonce) h gives =
    let t : Ticket = record { target = target; answer = answer; number = number; nonce = nonce } in in_turn_push source k ts t h (gives t refl)
in_turn_then source k ts (take target answer) r h gives = subst (AreInTurn source k) (sym (append-nil ts)) h
in_turn_then source k ts (publish p) r h gives = subst (AreInTurn source k) (sym (append-nil ts)) h
in_turn_then source k ts (sweep tick) r h gives = subst (AreInTurn source k) (sym (append-nil ts)) h
in_turn_then source k ts compact r h gives = subst (AreInTurn source k) (sym (append-nil ts)) h
in_turn_then source k ts (crash scripts) r h gives = subst (AreInTurn source k) (sym (append-nil ts)) h

module _ (source : ℕ → ℕ) (opened now : ℕ) (s : Shelf) where
  abbrev InTurn : List Entry → Type 0
  InTurn es = AreInTurn source s.nonces (tickets_taken es) × ((shelf_behind source s es).nonces ≡ s.nonces + length (tickets_taken es))

  turn_next : (es : List Entry) (e : Entry) → IsNext source opened now s es e → InTurn es → InTurn (es ++ e ∷ [])
  turn_next es e next h =
      let at : Shelf = shelf_behind source s es in
      let more = given_by e.event e.reply [] in
      let all = tickets_taken es in
      let none : (IsTake e.event → ⊥) → IsNoTake e.reply =
      λ other. subst IsNoTake next.answered (others_take_none at.rules at.book (source at.nonces) e.event (fate_by e.reply) e.caller es next.comes other) in
      let drawn : drawn_by e.reply at.nonces ≡ at.nonces + length more = drawn_for e.event e.reply at.nonces none in
      let behind : (shelf_behind source s (es ++ e ∷ [])).nonces ≡ drawn_by e.reply at.nonces =
      ap (λ (x : Shelf). x.nonces) (is_step source s es e) ∙ ap (λ (r : Reply). drawn_by r at.nonces) next.answered in
      let before = h.1 in
      let long = length-append all more in
      let count : (shelf_behind source s (es ++ e ∷ [])).nonces ≡ s.nonces + length (all ++ more) = omega (arith, behind, drawn, before, long) in
      let turn = in_turn_then source s.nonces all e.event e.reply h.0
      (λ t given. (given_next at.rules at.book (source at.nonces) e.event (fate_by e.reply) e.reply t next.answered given).1 ∙ ap source before) in (
        subst (AreInTurn source s.nonces) (sym (taken_push es e)) turn,
        count ∙ ap (λ (ts : List Ticket). s.nonces + length ts) (sym (taken_push es e)),
      )

  pub in_turn : (es : List Entry) → IsLegal source opened now s es → InTurn es
  in_turn es legal = let at : s.nonces ≡ s.nonces + 0 = omega arith in along source opened now s InTurn turn_next [] es legal (tt, at)

pub nonces_in_turn : NoncesComeInTurn
nonces_in_turn source opened now s es legal = in_turn source opened now s es legal
