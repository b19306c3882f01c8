-- No number is taken twice, and what is owed is out.
use Rattle.std.proofs.Common.{◌≡◌, ◌≤◌, ◌<◌, ◌+◌, ◌⊎◌, ◌==◌, ℕ, Bool, true, List, [], ◌∷◌, ◌++◌, Contains, refl, sym, ◌∙◌, ap, subst, inl, inr, arith, nat_le, if◌then◌else◌}
use Rattle.std.proofs.lemmas.Bool.Decides.{nat_tests}
use Rattle.std.proofs.lemmas.List.{append-nil}
use Rattle.replay_spec.specs.Book.{Book, spend}
use Rattle.replay_spec.specs.Rules.{Rules}
use Rattle.replay_spec.specs.Next.{Ticket}
use Rattle.page_names.specs.Names.{Destination}
use Rattle.replay_spec.specs.Step.{Event, take, publish, sweep, compact, crash, Fate, Reply, taken, swept, fate_of, settle, publish_comes, sweep_comes, compact_comes, take_by, step}
use Rattle.replay_spec.specs.Runs.{Shelf, shelf_step}
use Rattle.replay_spec.specs.Invariant.{Among, AreDifferent}
use Rattle.replay_spec.specs.Laws.{tickets_by}
use Rattle.replay_spec.proofs.Numbers.{numbers, numbers_more, settled_drawn}
use Rattle.replay_spec.proofs.Orderly.{different_more}
use Rattle.replay_spec.proofs.Stand.{among_drawn}
use Rattle.history_spec.specs.Histories.{Entry, fate_by, shelf_behind, book_behind, tickets_left, owed_by, Owes, MayCome, IsNext, IsLegal}
use Rattle.history_spec.specs.Laws.{take_of, given_by, tickets_taken, NoNumberTakenTwice, WhatIsOwedIsOut}
use Rattle.history_spec.proofs.Members.{contains_first, contains_more, contains_cases, contains_passed, contains_mapped, contains_none}
use Rattle.history_spec.proofs.Going.{along, is_step}
use Rattle.history_spec.proofs.Owing.{IsGiven, left_by}
use Rattle.history_spec.proofs.Numbers.{given_next, well}

-- the numbers that are drawn rise
took_drawn : (b : Book) (target : Destination) (nonce : ℕ) (fate : Fate) → b.drawn ≤ (take_by b target nonce fate).1.drawn
took_drawn b target nonce fate = grind arith

swept_drawn : (rules : Rules) (b : Book) (tick : ℕ) (fate : Fate) (is_late : Bool) → b.drawn ≤ (if is_late then (swept 0, b) else settle rules b fate (sweep_comes rules b tick)).1.drawn
swept_drawn rules b tick fate is_late = grind (arith, settled_drawn rules b fate (sweep_comes rules b tick))

pub stepped_drawn : (rules : Rules) (b : Book) (nonce : ℕ) (x : Event) (fate : Fate) (caller : ℕ) (es : List Entry) → MayCome caller x es → b.drawn ≤ (step rules b nonce x fate).1.drawn
unfolding step
stepped_drawn rules b nonce (take target answer) fate caller es h = took_drawn b target nonce fate
stepped_drawn rules b nonce (publish p) fate caller es h =
    let same = settled_drawn rules (spend p.number b) (fate_of rules.journal fate) (publish_comes rules b p) in omega (arith, same)
stepped_drawn rules b nonce (sweep tick) fate caller es h = swept_drawn rules b tick (fate_of rules.journal fate) (nat_le tick b.clock)
stepped_drawn rules b nonce compact fate caller es h = let same = settled_drawn rules b (fate_of rules.journal fate) (compact_comes rules b) in omega (arith, same)
stepped_drawn rules b nonce (crash scripts) fate caller es h = absurd h

-- what is given is one more ticket at most
given_more : (x : Event) (r : Reply) (ts us : List Ticket) → given_by x r (ts ++ us) ≡ given_by x r ts ++ us
given_more (take target answer) (taken number nonce) ts us = refl
given_more (take target answer) r ts us = refl
given_more (publish p) r ts us = refl
given_more (sweep tick) r ts us = refl
given_more compact r ts us = refl
given_more (crash scripts) r ts us = refl

pub taken_push : (es : List Entry) (e : Entry) → tickets_taken (es ++ e ∷ []) ≡ tickets_taken es ++ given_by e.event e.reply []
taken_push [] e = refl
taken_push (x ∷ es) e = ap (given_by x.event x.reply) (taken_push es e) ∙ given_more x.event x.reply (tickets_taken es) (given_by e.event e.reply [])

-- All numbers that were taken are different, and below the next.
abbrev AreTaken : List Ticket → (drawn : ℕ) → Type 0
AreTaken ts drawn = AreDifferent (numbers ts) × ((n : ℕ) → Among n (numbers ts) → n < drawn)

taken_more : (ts : List Ticket) (t : Ticket) (drawn : ℕ) → AreTaken ts drawn → t.number ≡ drawn → AreTaken (ts ++ t ∷ []) (drawn + 1)
taken_more ts t drawn h is = (
  subst AreDifferent (sym (numbers_more ts t)) (different_more (numbers ts) t.number h.0 (λ there. let low = h.1 t.number there in omega (arith, low, is))),
  λ n there. elim (among_drawn n t.number (numbers ts) (subst (Among n) (numbers_more ts t) there)) [
    | inl old ↦ let low = h.1 n old in omega (arith, low)
    | inr same ↦ omega (arith, same, is)
  ],
)

still : (ts : List Ticket) (old new : ℕ) → AreTaken ts old → old ≤ new → AreTaken (ts ++ []) new
still ts old new h later = subst (λ (l : List Ticket). AreTaken l new) (sym (append-nil ts)) (h.0, λ n there. let low = h.1 n there in omega (arith, low, later))

-- after one event, which may give a ticket
taken_by : (x : Event) (r : Reply) (ts : List Ticket) (old new : ℕ) → AreTaken ts old → old ≤ new
    → ((t : Ticket) → IsGiven x r t → (t.number ≡ old) × (new ≡ old + 1)) → AreTaken (ts ++ given_by x r []) new
taken_by (take target answer) (taken number nonce) ts old new h later gives =
    let t : Ticket = record { target = target; answer = answer; number = number; nonce = nonce } in
    let given = gives t refl in
    subst (AreTaken (ts ++ t ∷ [])) (sym given.1) (taken_more ts t old h given.0)
taken_by (take target answer) r ts old new h later gives = still ts old new h later
taken_by (publish p) r ts old new h later gives = still ts old new h later
taken_by (sweep tick) r ts old new h later gives = still ts old new h later
taken_by compact r ts old new h later gives = still ts old new h later
taken_by (crash scripts) r ts old new h later gives = still ts old new h later

module _ (source : ℕ → ℕ) (opened now : ℕ) (s : Shelf) where
  taken_next : (es : List Entry) (e : Entry) → IsNext source opened now s es e → AreTaken (tickets_taken es) (book_behind source s es).drawn
      → AreTaken (tickets_taken (es ++ e ∷ [])) (book_behind source s (es ++ e ∷ [])).drawn
  taken_next es e next h =
      let at : Shelf = shelf_behind source s es in
      let behind = (shelf_step source at e.event (fate_by e.reply)).1.book.drawn in
      let all = taken_by e.event e.reply (tickets_taken es) at.book.drawn behind h (stepped_drawn at.rules at.book (source at.nonces) e.event (fate_by e.reply) e.caller es next.comes)
      (λ t given. let is = given_next at.rules at.book (source at.nonces) e.event (fate_by e.reply) e.reply t next.answered given in (is.0, is.2)) in
      subst (λ (ts : List Ticket). AreTaken ts (book_behind source s (es ++ e ∷ [])).drawn) (sym (taken_push es e))
      (subst (λ (x : Shelf). AreTaken (tickets_taken es ++ given_by e.event e.reply []) x.book.drawn) (sym (is_step source s es e)) all)

  pub are_taken : (es : List Entry) → IsLegal source opened now s es → AreTaken (tickets_taken es) (book_behind source s es).drawn
  are_taken es legal =
      along source opened now s (λ l. AreTaken (tickets_taken l) (book_behind source s l).drawn) taken_next [] es legal (tt, λ n there. absurd there)

pub not_twice : NoNumberTakenTwice
not_twice source opened now s es legal = (are_taken source opened now s es legal).0

-- the entry of a ticket that is given
is_take : (caller : ℕ) (x : Event) (r : Reply) (t : Ticket) → IsGiven x r t → record { caller = caller; event = x; reply = r } ≡ take_of caller t
is_take caller (take target answer) (taken number nonce) t given = ap (take_of caller) given
is_take caller (take target answer) r t given = absurd given
is_take caller (publish p) r t given = absurd given
is_take caller (sweep tick) r t given = absurd given
is_take caller compact r t given = absurd given
is_take caller (crash scripts) r t given = absurd given

-- a ticket that is left was there, or is of a take
pub left_from : (es : List Entry) (ts : List Ticket) (t : Ticket) → Contains (tickets_left es ts) t → Contains ts t ⊎ ((e : Entry) × Contains es e × (e ≡ take_of e.caller t))
left_from [] ts t h = inl h
left_from (x ∷ es) ts t h = elim (left_from es (tickets_by x.event x.reply ts) t h) [
  | inl before ↦ elim (left_by x.event x.reply ts t before) [
    | inl old ↦ inl old.0
    | inr given ↦ inr (x, contains_first x es, is_take x.caller x.event x.reply t given)
  ]
  | inr later ↦ inr (later.0, contains_more x later.0 es later.1, later.2)
]

-- a take's ticket was taken
among_given : (x : Event) (r : Reply) (ts : List Ticket) (n : ℕ) → Among n (numbers ts) → Among n (numbers (given_by x r ts))
among_given (take target answer) (taken number nonce) ts n h = inr h
among_given (take target answer) r ts n h = h
among_given (publish p) r ts n h = h
among_given (sweep tick) r ts n h = h
among_given compact r ts n h = h
among_given (crash scripts) r ts n h = h

among_taken : (es : List Entry) (e : Entry) (t : Ticket) → Contains es e → e ≡ take_of e.caller t → Among t.number (numbers (tickets_taken es))
among_taken [] e t h is = absurd (contains_none e h)
among_taken (x ∷ es) e t h is = elim (contains_cases x e es h) [
  | inl same ↦ subst (λ (y : Entry). Among t.number (numbers (given_by y.event y.reply (tickets_taken es)))) (sym (same ∙ is)) (inl refl)
  | inr later ↦ among_given x.event x.reply (tickets_taken es) t.number (among_taken es e t later is)
]

different_rest : (x : Event) (r : Reply) (ts : List Ticket) → AreDifferent (numbers (given_by x r ts)) → AreDifferent (numbers ts)
different_rest (take target answer) (taken number nonce) ts h = h.1
different_rest (take target answer) r ts h = h
different_rest (publish p) r ts h = h
different_rest (sweep tick) r ts h = h
different_rest compact r ts h = h
different_rest (crash scripts) r ts h = h

-- so two takes of one number are one
first_alone : (es : List Entry) (x f : Entry) (t u : Ticket) → AreDifferent (numbers (given_by x.event x.reply (tickets_taken es))) → x ≡ take_of x.caller t
    → Contains es f → f ≡ take_of f.caller u → u.number ≡ t.number → ⊥
first_alone es x f t u h is there too same =
    let apart : AreDifferent (t.number ∷ numbers (tickets_taken es)) = subst (λ (y : Entry). AreDifferent (numbers (given_by y.event y.reply (tickets_taken es)))) is h in
    apart.0 (subst (λ (n : ℕ). Among n (numbers (tickets_taken es))) same (among_taken es f u there too))

alone : (es : List Entry) (e f : Entry) (t u : Ticket) → AreDifferent (numbers (tickets_taken es)) → Contains es e → Contains es f → e ≡ take_of e.caller t → f ≡ take_of f.caller u
    → u.number ≡ t.number → e ≡ f
alone [] e f t u h one two is too same = absurd (contains_none e one)
alone (x ∷ es) e f t u h one two is too same = elim (contains_cases x e es one) [
  | inl first ↦ elim (contains_cases x f es two) [
    | inl second ↦ sym first ∙ second
    | inr later ↦ absurd (first_alone es x f t u h (subst (λ (y : Entry). y ≡ take_of y.caller t) (sym first) is) later too same)
  ]
  | inr early ↦ elim (contains_cases x f es two) [
    | inl second ↦ absurd (first_alone es x e u t h (subst (λ (y : Entry). y ≡ take_of y.caller u) (sym second) too) early is (sym same))
    | inr later ↦ alone es e f t u (different_rest x.event x.reply (tickets_taken es) h) early later is too same
  ]
]

pub same_caller : (n m : ℕ) → (n == m) ≡ true → n ≡ m
same_caller n m h = grind (arith, nat_tests)

pub owed_out : WhatIsOwedIsOut
owed_out source opened now s es own caller t opening legal is owes =
    let w = well source opened now s es opening legal in
    let mine : Owes caller t es = subst (λ (l : List Entry). Contains (owed_by l) t) (sym is) owes in
    elim (left_from own [] t owes) [
      | inl none ↦ absurd (contains_none t none)
      | inr (e, there, came) ↦
          let passed = contains_passed (λ (x : Entry). x.caller == caller) es e (subst (λ (l : List Entry). Contains l e) (sym is) there) in
          let its : e ≡ take_of caller t = came ∙ ap (λ (c : ℕ). take_of c t) (same_caller e.caller caller passed.1) in (
            subst (λ (ns : List ℕ). Contains ns t.number) w.out (contains_mapped (λ (u : Ticket). u.number) (tickets_left es []) t (w.held.owned caller t mine)),
            subst (λ (x : Entry). Contains own x) its there,
            λ (f : Entry) (u : Ticket) (two : Contains es f) (too : f ≡ take_of f.caller u) (same : u.number ≡ t.number).
                sym (alone es e f t u (are_taken source opened now s es legal).0 passed.0 two came too same) ∙ its,
          )
    ]
