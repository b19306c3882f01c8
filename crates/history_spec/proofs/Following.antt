-- A shelf that follows another one's journal stays as it is.
use Rattle.std.proofs.Common.{◌≡◌, ◌≤◌, ◌<◌, ◌⊎◌, ⊎_elim, ℕ, Bool, true, false, List, [], ◌∷◌, ◌++◌, Option, Some, None, Contains, refl, sym, ◌∙◌, ap, subst, inl, inr, arith, nat_le}
use Rattle.std.proofs.lemmas.Bool.Decides.{nat_tests}
use Rattle.std.proofs.lemmas.List.Elements.{Contains-push_cases}
use Rattle.replay_spec.specs.Book.{Doubt, Book}
use Rattle.replay_spec.specs.Rules.{Rules}
use Rattle.replay_spec.specs.Next.{Ticket}
use Rattle.replay_spec.specs.Step.{Event, take, publish, sweep, compact, crash, Fate, Reply, taken, memory, down, following, swept, step}
use Rattle.replay_spec.specs.Runs.{Shelf}
use Rattle.replay_spec.specs.Promises.{follower_reply, IsPutOff}
use Rattle.replay_spec.proofs.Following.{answers_no_visit}
use Rattle.replay_spec.proofs.Refused.{unchanged}
use Rattle.history_spec.specs.Histories.{Entry, fate_by, shelf_behind, book_behind, MayCome, IsNext, IsLegal}
use Rattle.history_spec.specs.Laws.{take_of}
use Rattle.history_spec.specs.Following.{IsFollowers, IsAnsweredSo, AFollowerStays}
use Rattle.history_spec.proofs.Members.{contains_none}
use Rattle.history_spec.proofs.Going.{along, is_step}
use Rattle.history_spec.proofs.Spending.{took_it}

-- what came of an event on a shelf that follows
abbrev Came : Book → Event → Reply × Book → Type 0
Came b x came = IsAnsweredSo b x came.0 × (came.1 ≡ b)

followers : (b : Book) (fate : Fate) (came : Reply × Book) → IsPutOff b fate came b → IsFollowers b came.0 × (came.1 ≡ b)
followers b fate came h = (⊎_elim (λ e. inl e) (λ want. inr want.0) h.0, h.1)

sweeps_by : (rules : Rules) (b : Book) (nonce tick : ℕ) (fate : Fate) (is_late : Bool) → b.follows ≡ true → nat_le tick b.clock ≡ is_late
    → Came b (sweep tick) (step rules b nonce (sweep tick) fate)
sweeps_by rules b nonce tick fate true f is =
    let late : tick ≤ b.clock = grind (arith, nat_tests, is) in
    let same = (unchanged rules b nonce fate).3 tick late in
    (inl (late, ap (λ (x : Reply × Book). x.0) same), ap (λ (x : Reply × Book). x.1) same)
sweeps_by rules b nonce tick fate false f is =
    let early : b.clock < tick = grind (arith, nat_tests, is) in
    let all = followers b fate (step rules b nonce (sweep tick) fate) ((answers_no_visit rules b nonce fate f).2 tick early) in (inr all.0, all.1)

-- nothing is published where no take gave a ticket
comes : (rules : Rules) (b : Book) (nonce caller : ℕ) (x : Event) (fate : Fate) (es : List Entry) → b.follows ≡ true → MayCome caller x es
    → ((t : Ticket) → Contains es (take_of caller t) → ⊥) → Came b x (step rules b nonce x fate)
comes rules b nonce caller (take target answer) fate es f may none =
    followers b fate (step rules b nonce (take target answer) fate) ((answers_no_visit rules b nonce fate f).0 target answer)
comes rules b nonce caller (publish t) fate es f may none = absurd (none t (took_it es caller t may))
comes rules b nonce caller (sweep tick) fate es f may none = sweeps_by rules b nonce tick fate (nat_le tick b.clock) f refl
comes rules b nonce caller compact fate es f may none =
    followers b fate (step rules b nonce compact fate) (answers_no_visit rules b nonce fate f).3
comes rules b nonce caller (crash scripts) fate es f may none = absurd may

no_ticket_by : (o : Option Doubt) (number nonce : ℕ) → taken number nonce ≡ follower_reply o → ⊥
no_ticket_by None number nonce e = let no : ⊥ = cc in no
no_ticket_by (Some doubt) number nonce e = let no : ⊥ = cc in no

no_ticket : (b : Book) (number nonce : ℕ) → IsFollowers b (taken number nonce) → ⊥
no_ticket b number nonce (inl e) = no_ticket_by b.down number nonce e
no_ticket b number nonce (inr e) = let no : ⊥ = cc in no

module _ (source : ℕ → ℕ) (opened now : ℕ) (s : Shelf) (f : s.book.follows ≡ true) where
  abbrev Stays : List Entry → Type 0
  Stays es = (book_behind source s es ≡ s.book) × ((e : Entry) → Contains es e → IsAnsweredSo s.book e.event e.reply)

  next : (es : List Entry) (e : Entry) → IsNext source opened now s es e → Stays es → Stays (es ++ e ∷ [])
  next es e n h =
      let at : Shelf = shelf_behind source s es in
      let none : (t : Ticket) → Contains es (take_of e.caller t) → ⊥ = λ t there. no_ticket s.book t.number t.nonce (h.1 (take_of e.caller t) there) in
      let came : Came s.book e.event (step at.rules at.book (source at.nonces) e.event (fate_by e.reply)) =
      subst (λ (b : Book). Came s.book e.event (step at.rules b (source at.nonces) e.event (fate_by e.reply))) (sym h.0)
      (comes at.rules s.book (source at.nonces) e.caller e.event (fate_by e.reply) es f n.comes none) in (
        ap (λ (x : Shelf). x.book) (is_step source s es e) ∙ came.1,
        λ d there. elim (Contains-push_cases es e d there) [
          | inl old ↦ h.1 d old
          | inr is ↦ subst (λ (x : Entry). IsAnsweredSo s.book x.event x.reply) is (subst (IsAnsweredSo s.book e.event) n.answered came.0)
        ],
      )

pub follower_stays : AFollowerStays
follower_stays source opened now s es legal f =
    along source opened now s (Stays source opened now s f) (next source opened now s f) [] es legal (refl, λ e there. absurd (contains_none e there))
