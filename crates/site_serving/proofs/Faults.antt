-- A shelf whose disk failed is down from then on, so a legal history of one opening has one fault of the disk at most.
use Rattle.std.proofs.Common.{◌≡◌, ◌⊎◌, inl, inr, ◌+◌, ◌-◌, ◌^◌, ◌≤◌, ◌==◌, ℕ, Bool, true, false, List, [], ◌∷◌, ◌++◌, min, Option, Some, None, nat_le, if◌then◌else◌, refl, ap, sym, subst, arith}
use Rattle.web_outside.specs.Causes.{Rose}
use Rattle.script_value.specs.declared.outcome.Refusal.{Refusal}
use Rattle.page_names.specs.Names.{Destination}
use Rattle.replay_spec.specs.Book.{Book, Doubt, spend}
use Rattle.replay_spec.specs.Rules.{Rules}
use Rattle.replay_spec.specs.Step.{Event, take, publish, sweep, compact, crash, Fate, plain, no_memory, disk_fault, lost, kept, Reply, taken, disk_failed, swept, Decision, replies, records, compacts, compact_comes, barred, unless, decide, decide_compact, decide_sweep, fate_of, publish_comes, refused_by, settle, step, sweep_comes, take_by, take_unless, worn}
use Rattle.replay_spec.specs.Admission.{admit, or_else, refusal_of, when}
use Rattle.replay_spec.specs.Runs.{Shelf}
use Rattle.replay_spec.proofs.Barred.{barred_by, down_barred}
use Rattle.history_spec.specs.Histories.{Entry, IsCounted, IsLegal, IsNext, MayCome, book_behind, fate_by, shelf_behind}
use Rattle.history_spec.proofs.Fates.{DecidesPlain, IsPlain, compact_plain, publish_plain, sweep_plain}
use Rattle.history_spec.proofs.Going.{along, is_step}
use Rattle.site_serving.specs.Pages.{fault_count, faults_in}

faults_push : (es : List Entry) (e : Entry) → faults_in (es ++ e ∷ []) ≡ faults_in es + fault_count e.reply
faults_push [] e = omega arith
faults_push (x ∷ es) e = let more = faults_push es e in omega arith

-- something is in doubt on the shelf
abbrev IsDown : Book → Type 0
IsDown b = (d : Doubt) × (b.down ≡ Some d)

plain_none : (r : Reply) → IsPlain r → fault_count r ≡ 0
plain_none (disk_failed count) h = absurd h
plain_none r h = refl

-- what an event makes of a book: no fault, and what was down stays so; or a fault, where it was not down, and then it is
abbrev Fails : Book → Reply × Book → Type 0
Fails b next = ((fault_count next.0 ≡ 0) × (IsDown b → IsDown next.1)) ⊎ ((fault_count next.0 ≡ 1) × (IsDown b → ⊥) × IsDown next.1)

abbrev Refuses : Decision → Type 0
Refuses d = (r : Reply) × (d ≡ replies r)

no_records : {P : Type 0} (r : Reply) (c : _) (inside : _) → Refuses (records r c inside) → P
no_records r c inside (x, is) = absurd (let no : ⊥ = cc is in no)

no_compacts : {P : Type 0} (r : Reply) → Refuses (compacts r) → P
no_compacts r (x, is) = absurd (let no : ⊥ = cc is in no)

settled : (rules : Rules) (b : Book) (fate : Fate) (d : Decision) → DecidesPlain d → (IsDown b → Refuses d) → Fails b (settle rules b fate d)
settled rules b no_memory d h refuses = inl (refl, λ x. x)
settled rules b (disk_fault count) (replies r) h refuses = inl (plain_none r h, λ x. x)
settled rules b (disk_fault count) (records r c inside) h refuses = inr (refl, λ x. no_records r c inside (refuses x), (_, refl))
settled rules b (disk_fault count) (compacts r) h refuses = inr (refl, λ x. no_compacts r (refuses x), (_, refl))
settled rules b plain (replies r) h refuses = inl (plain_none r h, λ x. x)
settled rules b plain (records r c inside) h refuses = inl (plain_none r h, λ x. no_records r c inside (refuses x))
settled rules b plain (compacts r) h refuses = inl (plain_none r h, λ x. no_compacts r (refuses x))
settled rules b lost (replies r) h refuses = inl (plain_none r h, λ x. x)
settled rules b lost (records r c inside) h refuses = inl (plain_none r h, λ x. no_records r c inside (refuses x))
settled rules b lost (compacts r) h refuses = inl (plain_none r h, λ x. no_compacts r (refuses x))
settled rules b kept (replies r) h refuses = inl (plain_none r h, λ x. x)
settled rules b kept (records r c inside) h refuses = inl (plain_none r h, λ x. no_records r c inside (refuses x))
settled rules b kept (compacts r) h refuses = inl (plain_none r h, λ x. no_compacts r (refuses x))

down_refuses : (b : Book) (d : Doubt) (x : Decision) → b.down ≡ Some d → Refuses (unless (barred b) x)
down_refuses b d x is = subst (λ (o : Option Reply). Refuses (unless o x)) (sym (down_barred b d is)) (_, refl)

untold : (b : Book) (nonce : ℕ) (o : Option Doubt) (follows is_worn : Bool) (a : Option Refusal)
    → Fails b (take_unless (or_else (barred_by o follows) (or_else (when is_worn worn) (refused_by a))) b nonce)
untold b nonce (Some d) follows is_worn a = inl (refl, λ x. x)
untold b nonce None true is_worn a = inl (refl, λ x. x)
untold b nonce None false true a = inl (refl, λ x. x)
untold b nonce None false false (Some r) = inl (refl, λ x. x)
untold b nonce None false false None = inl (refl, λ x. x)

took : (b : Book) (target : Destination) (nonce : ℕ) (fate : Fate) → Fails b (take_by b target nonce fate)
took b target nonce no_memory = inl (refl, λ x. x)
took b target nonce plain = untold b nonce b.down b.follows (b.drawn == 2 ^ 62) (refusal_of (admit b target))
took b target nonce (disk_fault count) = untold b nonce b.down b.follows (b.drawn == 2 ^ 62) (refusal_of (admit b target))
took b target nonce lost = untold b nonce b.down b.follows (b.drawn == 2 ^ 62) (refusal_of (admit b target))
took b target nonce kept = untold b nonce b.down b.follows (b.drawn == 2 ^ 62) (refusal_of (admit b target))

swept_late : (rules : Rules) (b : Book) (tick : ℕ) (fate : Fate) (is_late : Bool)
    → Fails b (if is_late then (swept 0, b) else settle rules b (fate_of rules.journal fate) (sweep_comes rules b tick))
swept_late rules b tick fate true = inl (refl, λ x. x)
swept_late rules b tick fate false =
    settled rules b (fate_of rules.journal fate) (sweep_comes rules b tick) (sweep_plain rules b tick)
    (λ x. down_refuses b x.0 (decide_sweep rules tick b) x.1)

stepped : (rules : Rules) (b : Book) (nonce : ℕ) (x : Event) (fate : Fate) (caller : ℕ) (es : List Entry) → MayCome caller x es → Fails b (step rules b nonce x fate)
unfolding step
stepped rules b nonce (take target answer) fate caller es may = took b target nonce fate
stepped rules b nonce (publish t) fate caller es may =
    settled rules (spend t.number b) (fate_of rules.journal fate) (publish_comes rules b t) (publish_plain rules b t)
    (λ x. down_refuses b x.0 (decide rules b t (admit b t.target)) x.1)
stepped rules b nonce (sweep tick) fate caller es may = swept_late rules b tick fate (nat_le tick b.clock)
stepped rules b nonce compact fate caller es may =
    settled rules b (fate_of rules.journal fate) (compact_comes rules b) (compact_plain rules b)
    (λ x. down_refuses b x.0 (decide_compact rules b) x.1)
stepped rules b nonce (crash scripts) fate caller es may = absurd may

module _ (source : ℕ → ℕ) (opened now : ℕ) (s : Shelf) where
  -- no fault; or one, and the count of the disk rose, and the shelf is down
  abbrev AtMostOne : List Entry → Type 0
  AtMostOne es = (faults_in es ≡ 0) ⊎ ((faults_in es ≡ 1) × Rose opened now × IsDown (book_behind source s es))

  rose : (r : Reply) → IsCounted opened now r → fault_count r ≡ 1 → Rose opened now
  rose (disk_failed count) (inl more, low) one = omega (arith, more, low)
  rose (disk_failed count) (inr last, low) one = omega (arith, last, low)
  rose (taken number nonce) h one = absurd (omega (arith, one))
  rose r h one = absurd (omega (arith, one))

  next_one : (es : List Entry) (e : Entry) → IsNext source opened now s es e → AtMostOne es → AtMostOne (es ++ e ∷ [])
  next_one es e next before =
      let at : Shelf = shelf_behind source s es in
      let made : Reply × Book = step at.rules at.book (source at.nonces) e.event (fate_by e.reply) in
      let told : fault_count made.0 ≡ fault_count e.reply = ap fault_count next.answered in
      let book : book_behind source s (es ++ e ∷ []) ≡ made.1 = ap (λ (x : Shelf). x.book) (is_step source s es e) in
      let sum = faults_push es e in
      elim (stepped at.rules at.book (source at.nonces) e.event (fate_by e.reply) e.caller es next.comes) [
        | inl none ↦ let zero = none.0 in elim before [
          | inl without ↦ inl (omega (arith, without, zero, told, sum))
          | inr one ↦ let count = one.0 in inr (omega (arith, count, zero, told, sum), one.1, subst IsDown (sym book) (none.1 one.2))
        ]
        | inr fails ↦ let one = fails.0 in elim before [
          | inl without ↦
              inr (omega (arith, without, one, told, sum), rose e.reply next.counted (omega (arith, one, told)), subst IsDown (sym book) fails.2)
          | inr was ↦ absurd (fails.1 was.2)
        ]
      ]

  -- the disk's count rose by one at least for each fault that a legal history tells
  pub risen : (es : List Entry) → opened ≤ now → IsLegal source opened now s es → min (opened + faults_in es) (2 ^ 64 - 1) ≤ now
  risen es later legal = elim (along source opened now s AtMostOne next_one [] es legal (inl refl)) [
    | inl none ↦ omega (arith, none, later)
    | inr one ↦ let count = one.0 in let up = one.1 in omega (arith, count, up)
  ]
