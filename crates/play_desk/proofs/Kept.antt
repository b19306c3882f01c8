-- What the events of a shelf keep: its number, and which numbers are out.
use Rattle.std.proofs.Common.{◌≡◌, ◌≢◌, inl, inr, refl, ℕ, ◌==◌, not, true, false, Bool, List, [], ◌∷◌, filter, Contains, arith, if◌then◌else◌}
use Rattle.std.proofs.lemmas.Bool.Decides.{nat_tests}
use Rattle.std.specs.Prelude.{nat_le}
use Rattle.std.proofs.lemmas.List.Elements.{Contains-append_left, Contains-append_right}
use Rattle.replay_spec.specs.Book.{Book, spend}
use Rattle.replay_spec.specs.Rules.{Rules}
use Rattle.replay_spec.specs.Next as next
use Rattle.replay_spec.specs.Step.{publish, sweep, compact, Fate, Decision, settle, fate_of, publish_comes, sweep_comes, compact_comes, step}
use Rattle.replay_spec.specs.Step as spec
use Rattle.replay_spec.specs.Invariant.{Among}
use Rattle.replay_spec.proofs.Numbers.{settled_drawn, settled_out}

-- what a settled decision keeps
settled_shelf : (rules : Rules) (b : Book) (fate : Fate) (d : Decision) → (settle rules b fate d).1.shelf ≡ b.shelf
settled_shelf rules b fate d = grind arith

-- the same shelf, as many numbers drawn, and these out
pub record Keeps (b c : Book) (numbers : List ℕ) : Type 0 where
  pub shelf : c.shelf ≡ b.shelf
  pub drawn : c.drawn ≡ b.drawn
  pub out : c.out ≡ numbers

settled : (rules : Rules) (b : Book) (fate : Fate) (d : Decision) → Keeps b (settle rules b fate d).1 b.out
settled rules b fate d = record { shelf = settled_shelf rules b fate d; drawn = settled_drawn rules b fate d; out = settled_out rules b fate d }

pub published : (rules : Rules) (b : Book) (nonce : ℕ) (t : next.Ticket) (fate : Fate) → Keeps b (step rules b nonce (publish t) fate).1 (filter (λ m. not (m == t.number)) b.out)
unfolding step
published rules b nonce t fate =
    let s = settled rules (spend t.number b) (fate_of rules.journal fate) (publish_comes rules b t) in
    record { shelf = s.shelf; drawn = s.drawn; out = s.out }

late_or : (rules : Rules) (b : Book) (tick : ℕ) (fate : Fate) (late : Bool) → Keeps b (if late then (spec.swept 0, b) else settle rules b fate (sweep_comes rules b tick)).1 b.out
late_or rules b tick fate true = record { shelf = refl; drawn = refl; out = refl }
late_or rules b tick fate false = settled rules b fate (sweep_comes rules b tick)

pub swept : (rules : Rules) (b : Book) (nonce tick : ℕ) (fate : Fate) → Keeps b (step rules b nonce (sweep tick) fate).1 b.out
unfolding step
swept rules b nonce tick fate = late_or rules b tick (fate_of rules.journal fate) (nat_le tick b.clock)

pub compacted : (rules : Rules) (b : Book) (nonce : ℕ) (fate : Fate) → Keeps b (step rules b nonce compact fate).1 b.out
unfolding step
compacted rules b nonce fate = settled rules b (fate_of rules.journal fate) (compact_comes rules b)

-- numbers that are out stay so but for one that is spent
pub of_among : (ms : List ℕ) (n : ℕ) → Among n ms → Contains ms n
of_among [] n h = absurd h
of_among (m ∷ ms) n (inl e) = Contains-append_left (m ∷ []) ms n (0, omega arith, e)
of_among (m ∷ ms) n (inr h) = Contains-append_right (m ∷ []) ms n (of_among ms n h)

pub among_other : (n m : ℕ) (ms : List ℕ) → n ≢ m → Among n ms → Among n (filter (λ k. not (k == m)) ms)
among_other n m [] other h = absurd h
among_other n m (k ∷ ms) other h = grind (arith, nat_tests, other, h, among_other n m ms)
