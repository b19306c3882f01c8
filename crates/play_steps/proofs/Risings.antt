-- The count of faults over the events of steps.
use Rattle.std.proofs.Common.{◌≡◌, ◌≤◌, ◌+◌, ℕ, List, [], ◌∷◌, ◌++◌, Bool, true, false, cond, refl, arith}
use Rattle.std.specs.Prelude.{count_by}
use Rattle.std.proofs.lemmas.List.Sums.{sum_by-append, sum_by-cons}
use Rattle.web_outside.specs.Causes.{Rose}
use Rattle.play_steps.specs.Rules.{StageRules}
use Rattle.play_steps.specs.Played.{HasRisen, RoseBy}

-- how many there are in two lists
count_both : {A : Type 0} (p : A → Bool) (xs ys : List A) → count_by p (xs ++ ys) ≡ count_by p xs + count_by p ys
count_both p xs ys = sum_by-append (λ x. cond (p x) 1 0) xs ys

count_one : {A : Type 0} (p : A → Bool) (x : A) → count_by p (x ∷ []) ≡ cond (p x) 1 0
count_one p x = (let one = sum_by-cons (λ y. cond (p y) 1 0) x [] in omega (arith, one))

-- no event
pub stays_risen : (r : StageRules) (faults : ℕ) → HasRisen r [] faults faults
stays_risen r faults = record { later = omega arith; fails = omega arith }

-- one event, which failed only where the count rose
pub rises_once : (r : StageRules) (fate : r.Fate) (before now : ℕ) → before ≤ now → (r.fails fate ≡ true → Rose before now)
    → HasRisen r (fate ∷ []) before now
rises_once r fate before now le rose = record { later = le; fails = by_fate (r.fails fate) (count_one r.fails fate) rose }
  where
    by_fate : (b : Bool) → count_by r.fails (fate ∷ []) ≡ cond b 1 0 → (b ≡ true → Rose before now) → RoseBy (count_by r.fails (fate ∷ [])) before now
    by_fate true is up = (let once = up refl in omega (arith, is, once))
    by_fate false is up = omega (arith, is, le)

-- events, and then others
pub rises_then : (r : StageRules) (one two : List r.Fate) (a b c : ℕ) → HasRisen r one a b → HasRisen r two b c → HasRisen r (one ++ two) a c
rises_then r one two a b c h k = record {
  later = omega (arith, h.later, k.later);
  fails = (let both = count_both r.fails one two in omega (arith, both, h.fails, k.fails));
}
