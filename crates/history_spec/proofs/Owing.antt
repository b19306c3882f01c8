-- What callers owe is out.
use Rattle.std.proofs.Common.{◌≡◌, ◌≢◌, ◌⊎◌, ◌==◌, ℕ, Bool, true, false, cond, List, [], ◌∷◌, ◌++◌, not, Contains, refl, sym, ◌∙◌, ap, subst, inl, inr, arith}
use Rattle.std.specs.Prelude.{⊤}
use Rattle.std.proofs.lemmas.Bool.Decides.{nat_tests}
use Rattle.std.proofs.lemmas.List.{append-nil}
use Rattle.std.proofs.lemmas.List.Elements.{Contains-append_left, Contains-push, Contains-push_cases, filter-append}
use Rattle.replay_spec.specs.Next.{Ticket}
use Rattle.replay_spec.specs.Step.{Event, take, publish, sweep, compact, crash, Reply, taken}
use Rattle.replay_spec.specs.Laws.{tickets_by}
use Rattle.history_spec.specs.Histories.{Entry, own_of, tickets_left, owed_by, Owes, MayCome}
use Rattle.history_spec.proofs.Members.{contains_kept, contains_passed, contains_none}

-- the ticket is what this event gives, answered so
abbrev pub IsGiven : Event → Reply → Ticket → Type 0
IsGiven (take target answer) (taken number nonce) t = record { target = target; answer = answer; number = number; nonce = nonce } ≡ t
IsGiven _ _ t = ⊥

-- the event leaves the ticket
abbrev pub Spares : Event → Ticket → Type 0
Spares (publish p) t = t.number ≢ p.number
Spares (crash scripts) t = ⊥
Spares _ t = ⊤

is_other : (n m : ℕ) → not (n == m) ≡ true → n ≢ m
is_other n m h = grind (arith, nat_tests)

other_is : (n m : ℕ) → n ≢ m → not (n == m) ≡ true
other_is n m h = grind (arith, nat_tests)

-- what is left of tickets after an event
pub left_by : (x : Event) (r : Reply) (ts : List Ticket) (t : Ticket) → Contains (tickets_by x r ts) t → (Contains ts t × Spares x t) ⊎ IsGiven x r t
left_by (take target answer) (taken number nonce) ts t h =
    elim (Contains-push_cases ts (record { target = target; answer = answer; number = number; nonce = nonce }) t h) [ inl old ↦ inl (old, tt) | inr new ↦ inr new ]
left_by (take target answer) r ts t h = inl (h, tt)
left_by (publish p) r ts t h = let kept = contains_passed (λ u. not (u.number == p.number)) ts t h in inl (kept.0, is_other t.number p.number kept.1)
left_by (sweep tick) r ts t h = inl (h, tt)
left_by compact r ts t h = inl (h, tt)
left_by (crash scripts) r ts t h = absurd (contains_none t h)

pub spared_by : (x : Event) (r : Reply) (ts : List Ticket) (t : Ticket) → Contains ts t → Spares x t → Contains (tickets_by x r ts) t
spared_by (take target answer) (taken number nonce) ts t h spares =
    Contains-append_left ts (record { target = target; answer = answer; number = number; nonce = nonce } ∷ []) t h
spared_by (take target answer) r ts t h spares = h
spared_by (publish p) r ts t h spares = contains_kept (λ u. not (u.number == p.number)) ts t h (other_is t.number p.number spares)
spared_by (sweep tick) r ts t h spares = h
spared_by compact r ts t h spares = h
spared_by (crash scripts) r ts t h spares = absurd spares

pub given_in : (x : Event) (r : Reply) (ts : List Ticket) (t : Ticket) → IsGiven x r t → Contains (tickets_by x r ts) t
given_in (take target answer) (taken number nonce) ts t h = subst (λ (u : Ticket). Contains (ts ++ record { target = target; answer = answer; number = number; nonce = nonce } ∷ []) u) h (Contains-push ts (record { target = target; answer = answer; number = number; nonce = nonce }))
given_in (take target answer) r ts t h = absurd h
given_in (publish p) r ts t h = absurd h
given_in (sweep tick) r ts t h = absurd h
given_in compact r ts t h = absurd h
given_in (crash scripts) r ts t h = absurd h

-- what entries leave, with one more
pub left_push : (es : List Entry) (e : Entry) (ts : List Ticket) → tickets_left (es ++ e ∷ []) ts ≡ tickets_by e.event e.reply (tickets_left es ts)
left_push [] e ts = refl
left_push (x ∷ es) e ts = left_push es e (tickets_by x.event x.reply ts)

owed_push : (b : Bool) (own : List Entry) (e : Entry) → owed_by (own ++ cond b (e ∷ []) []) ≡ cond b (tickets_by e.event e.reply (owed_by own)) (owed_by own)
owed_push true own e = left_push own e []
owed_push false own e = ap owed_by (append-nil own)

own_push : (c : ℕ) (es : List Entry) (e : Entry) → owed_by (own_of c (es ++ e ∷ [])) ≡ cond (e.caller == c) (tickets_by e.event e.reply (owed_by (own_of c es))) (owed_by (own_of c es))
own_push c es e = ap owed_by (filter-append (λ (x : Entry). x.caller == c) es (e ∷ [])) ∙ owed_push (e.caller == c) (own_of c es) e

by_caller : (b : Bool) (n m : ℕ) (xs ys : List Ticket) (t : Ticket) → (n == m) ≡ b → Contains (cond b xs ys) t → ((n ≡ m) × Contains xs t) ⊎ ((n ≢ m) × Contains ys t)
by_caller true n m xs ys t is h = inl (grind (arith, nat_tests), h)
by_caller false n m xs ys t is h = inr (grind (arith, nat_tests), h)

-- what a caller owes after one entry more
pub owes_then : (c : ℕ) (t : Ticket) (es : List Entry) (e : Entry) → Owes c t (es ++ e ∷ [])
    → ((e.caller ≡ c) × Contains (tickets_by e.event e.reply (owed_by (own_of c es))) t) ⊎ ((e.caller ≢ c) × Owes c t es)
owes_then c t es e h =
    by_caller (e.caller == c) e.caller c (tickets_by e.event e.reply (owed_by (own_of c es))) (owed_by (own_of c es)) t refl
    (subst (λ (ts : List Ticket). Contains ts t) (own_push c es e) h)

pub owed_before : (c : ℕ) (t : Ticket) (es : List Entry) (e : Entry) → Owes c t (es ++ e ∷ []) → Owes c t es ⊎ ((e.caller ≡ c) × IsGiven e.event e.reply t)
owed_before c t es e h = elim (owes_then c t es e h) [
  | inl own ↦ elim (left_by e.event e.reply (owed_by (own_of c es)) t own.1) [ inl old ↦ inl old.0 | inr given ↦ inr (own.0, given) ]
  | inr other ↦ inl other.1
]

-- All that callers owe is among these tickets, and no number is owed by two.
pub record Held (es : List Entry) (all : List Ticket) : Type 0 where
  pub owned : (c : ℕ) (t : Ticket) → Owes c t es → Contains all t
  pub apart : (c d : ℕ) (t u : Ticket) → Owes c t es → Owes d u es → t.number ≡ u.number → c ≡ d

pub held_none : Held [] []
held_none = record { owned = λ c t h. h; apart = λ c d t u h. absurd (contains_none t h) }

-- what comes from a caller spares what others owe
spares_others : (es : List Entry) (all : List Ticket) (caller c : ℕ) (x : Event) (t : Ticket) → Held es all → MayCome caller x es → caller ≢ c → Owes c t es → Spares x t
spares_others es all caller c (take target answer) t held comes other h = tt
spares_others es all caller c (publish p) t held comes other h = λ same. other (sym (held.apart c caller t p h comes same))
spares_others es all caller c (sweep tick) t held comes other h = tt
spares_others es all caller c compact t held comes other h = tt
spares_others es all caller c (crash scripts) t held comes other h = comes

-- a number that is given is new
abbrev pub IsFresh : Entry → List Ticket → Type 0
IsFresh e all = (t u : Ticket) → IsGiven e.event e.reply t → Contains all u → u.number ≢ t.number

pub held_then : (es : List Entry) (all : List Ticket) (e : Entry) → Held es all → MayCome e.caller e.event es → IsFresh e all → Held (es ++ e ∷ []) (tickets_by e.event e.reply all)
held_then es all e held comes fresh = record {
  owned = λ c t h. elim (owes_then c t es e h) [
    | inl own ↦ elim (left_by e.event e.reply (owed_by (own_of c es)) t own.1) [
      | inl old ↦ spared_by e.event e.reply all t (held.owned c t old.0) old.1
      | inr given ↦ given_in e.event e.reply all t given
    ]
    | inr other ↦ spared_by e.event e.reply all t (held.owned c t other.1) (spares_others es all e.caller c e.event t held comes other.0 other.1)
  ];
  apart = λ c d t u h k same. elim (owed_before c t es e h) [
    | inl old ↦ elim (owed_before d u es e k) [
      | inl too ↦ held.apart c d t u old too same
      | inr new ↦ absurd (fresh u t new.1 (held.owned c t old) same)
    ]
    | inr new ↦ elim (owed_before d u es e k) [
      | inl old ↦ absurd (fresh t u new.1 (held.owned d u old) (sym same))
      | inr too ↦ sym new.0 ∙ too.0
    ]
  ];
}
