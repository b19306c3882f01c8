-- Instances of which those that live on are left.
use Rattle.std.proofs.Common.{◌≡◌, ◌≤◌, ◌==◌, ℕ, List, [], ◌∷◌, Option, Some, None, Bool, true, false, not, filter, refl, sym, subst, arith}
use Rattle.std.specs.List.{list_all}
use Rattle.std.proofs.lemmas.Bool.Decides.{nat_tests}
use Rattle.script_value.specs.declared.outcome.TxName.{TxName}
use Rattle.script_nodes.specs.Setup.{Named}
use Rattle.replay_spec.specs.Book.{Page, Eviction, Instance, Opening, instance_at, is_over, is_live, root_by}
use Rattle.replay_spec.specs.Change.{mend, without, opened_by, shown_by, fresh}
use Rattle.replay_spec.specs.Compaction.{is_there}
use Rattle.replay_spec.specs.Invariant.{IsRising}
use Rattle.replay_spec.proofs.Found.{KeepsNumber}
use Rattle.replay_spec.proofs.Rising.{kept_put, left_put}

abbrev pub lives : List Instance → Instance → Bool
lives ls i = is_there i.number ls

pub at_there : (n : ℕ) (is : List Instance) → (instance_at n is ≡ None → ⊥) → is_there n is ≡ true
at_there n [] h = absurd (h refl)
at_there n (i ∷ is) h = grind (arith, h, at_there n is)

pub none_there : (n : ℕ) (is : List Instance) → instance_at n is ≡ None → is_there n is ≡ false
none_there n [] h = refl
none_there n (i ∷ is) h = grind (arith, none_there n is)

pub there_some : (n : ℕ) (is : List Instance) → is_there n is ≡ true → instance_at n is ≡ None → ⊥
there_some n is h none = let no = none_there n is none in let never : ⊥ = cc in never

pub kept_at : (ls : List Instance) (n : ℕ) (is : List Instance) → is_there n ls ≡ true → instance_at n (filter (lives ls) is) ≡ instance_at n is
kept_at ls n [] h = refl
kept_at ls n (i ∷ is) h = by_test (i.number == n) refl (is_there i.number ls) refl (kept_at ls n is h)
  where
    by_test : (b : Bool) → (i.number == n) ≡ b → (c : Bool) → is_there i.number ls ≡ c → instance_at n (filter (lives ls) is) ≡ instance_at n is
        → instance_at n (filter (lives ls) (i ∷ is)) ≡ instance_at n (i ∷ is)
    by_test b e true f rest = grind (arith, e, f, rest)
    by_test false e false f rest = grind (arith, e, f, rest)
    by_test true e false f rest =
        let same : i.number ≡ n = grind (arith, nat_tests, e) in
        let yes : is_there i.number ls ≡ true = subst (λ (m : ℕ). is_there m ls ≡ true) (sym same) h in
        absurd (let no : ⊥ = cc in no)

-- an instance that lives is changed alike among those that are left; one that does not is left out, however it is changed
pub mend_lives : (n : ℕ) (f : Instance → Instance) (ls is : List Instance) → KeepsNumber f → is_there n ls ≡ true
    → filter (lives ls) (mend n f is) ≡ mend n f (filter (lives ls) is)
mend_lives n f ls [] same h = refl
mend_lives n f ls (i ∷ is) same h = by_test (i.number == n) refl (is_there i.number ls) refl (mend_lives n f ls is same h)
  where
    by_test : (b : Bool) → (i.number == n) ≡ b → (c : Bool) → is_there i.number ls ≡ c → filter (lives ls) (mend n f is) ≡ mend n f (filter (lives ls) is)
        → filter (lives ls) (mend n f (i ∷ is)) ≡ mend n f (filter (lives ls) (i ∷ is))
    by_test false e true g rest = grind (arith, e, g, rest)
    by_test false e false g rest = grind (arith, e, g, rest)
    by_test true e c g rest =
        let here : i.number ≡ n = grind (arith, nat_tests, e) in
        let yes : is_there i.number ls ≡ true = subst (λ (m : ℕ). is_there m ls ≡ true) (sym here) h in
        let too : is_there (f i).number ls ≡ true = subst (λ (m : ℕ). is_there m ls ≡ true) (sym (same i)) yes in
        grind (arith, e, yes, too)

pub mend_dead : (n : ℕ) (f : Instance → Instance) (ls is : List Instance) → KeepsNumber f → is_there n ls ≡ false
    → filter (lives ls) (mend n f is) ≡ filter (lives ls) is
mend_dead n f ls [] same h = refl
mend_dead n f ls (i ∷ is) same h = by_test (i.number == n) refl (is_there i.number ls) refl (mend_dead n f ls is same h)
  where
    by_test : (b : Bool) → (i.number == n) ≡ b → (c : Bool) → is_there i.number ls ≡ c → filter (lives ls) (mend n f is) ≡ filter (lives ls) is
        → filter (lives ls) (mend n f (i ∷ is)) ≡ filter (lives ls) (i ∷ is)
    by_test false e true g rest = grind (arith, e, g, rest)
    by_test false e false g rest = grind (arith, e, g, rest)
    by_test true e c g rest =
        let here : i.number ≡ n = grind (arith, nat_tests, e) in
        let no : is_there i.number ls ≡ false = subst (λ (m : ℕ). is_there m ls ≡ false) (sym here) h in
        let too : is_there (f i).number ls ≡ false = subst (λ (m : ℕ). is_there m ls ≡ false) (sym (same i)) no in
        grind (arith, e, no, too)

pub keeps_commute : (f g : Instance → Bool) (is : List Instance) → filter f (filter g is) ≡ filter g (filter f is)
keeps_commute f g [] = refl
keeps_commute f g (i ∷ is) = grind (arith, keeps_commute f g is)

pub without_dead : (n : ℕ) (ls is : List Instance) → is_there n ls ≡ false → filter (lives ls) (without n is) ≡ filter (lives ls) is
without_dead n ls [] h = refl
without_dead n ls (i ∷ is) h = by_test (i.number == n) refl (without_dead n ls is h)
  where
    by_test : (b : Bool) → (i.number == n) ≡ b → filter (lives ls) (without n is) ≡ filter (lives ls) is → filter (lives ls) (without n (i ∷ is)) ≡ filter (lives ls) (i ∷ is)
    by_test false e rest = grind (arith, e, rest)
    by_test true e rest =
        let here : i.number ≡ n = grind (arith, nat_tests, e) in
        let no : is_there i.number ls ≡ false = subst (λ (m : ℕ). is_there m ls ≡ false) (sym here) h in
        grind (arith, e, no, rest)

pub all_live : (ls is : List Instance) → ((n : ℕ) → is_there n is ≡ true → is_there n ls ≡ true) → filter (lives ls) is ≡ is
all_live ls [] h = refl
all_live ls (i ∷ is) h =
    let here : is_there i.number ls ≡ true = h i.number (grind (arith, nat_tests)) in
    let rest = all_live ls is (λ n e. h n (grind (arith, nat_tests, e))) in
    grind (arith, here, rest)

-- a start puts its instance among those that are left, if that lives on
pub opened_lives : (a : Option Named) (o : Opening) (inside : List TxName) (ls is : List Instance) → IsRising (λ (i : Instance). i.number) is → instance_at o.number is ≡ None → is_there o.number ls ≡ true
    → opened_by a o inside (filter (lives ls) is) ≡ filter (lives ls) (opened_by a o inside is)
opened_lives None o inside ls is rising none h = refl
opened_lives (Some s) o inside ls is rising none h =
    sym (kept_put (λ (i : Instance). i.number) (lives ls) (shown_by o.effects o.left o.kind [] (root_by o inside) (fresh s o.number)) is rising none h)

pub opened_dead : (a : Option Named) (o : Opening) (inside : List TxName) (ls is : List Instance) → instance_at o.number is ≡ None → is_there o.number ls ≡ false
    → filter (lives ls) is ≡ filter (lives ls) (opened_by a o inside is)
opened_dead None o inside ls is none h = refl
opened_dead (Some s) o inside ls is none h =
    sym (left_put (λ (i : Instance). i.number) (lives ls) (shown_by o.effects o.left o.kind [] (root_by o inside) (fresh s o.number)) is none h)

-- what is over at a clock is over later
over_later : (s t : ℕ) (es : List Eviction) (ps : List Page) → s ≤ t → list_all (is_over s es) ps ≡ true → list_all (is_over t es) ps ≡ true
over_later s t es [] less h = refl
over_later s t es (p ∷ ps) less h = grind (arith, nat_tests, over_later s t es ps less)

live_before : (s t : ℕ) (i : Instance) → s ≤ t → is_live t i ≡ true → is_live s i ≡ true
live_before s t i less h = by_all (list_all (is_over s i.evicted) i.pages) refl
  where
    by_all : (b : Bool) → list_all (is_over s i.evicted) i.pages ≡ b → not b ≡ true
    by_all false e = refl
    by_all true e = absurd (let later = over_later s t i.evicted i.pages less e in let no : ⊥ = cc in no)

-- a sweep before another frees no instance that the later one would not
pub swept_twice : (s t : ℕ) (is : List Instance) → s ≤ t → filter (is_live t) (filter (is_live s) is) ≡ filter (is_live t) is
swept_twice s t [] less = refl
swept_twice s t (i ∷ is) less = grind (arith, live_before s t i less, swept_twice s t is less)
