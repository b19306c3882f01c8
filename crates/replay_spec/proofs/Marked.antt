-- Uses and evictions are read off marks.
use Rattle.std.proofs.Common.{◌≡◌, ◌<◌, ◌==◌, ℕ, List, [], ◌∷◌, map, filter, Option, Some, None, Bool, true, false, refl, sym, ap, subst, ◌∙◌, if◌then◌else◌, arith}
use Rattle.std.proofs.lemmas.Bool.Decides.{nat_tests}
use Rattle.std.proofs.lemmas.Option.{same_Some}
use Rattle.replay_spec.specs.Book.{Use, Eviction, evictor}
use Rattle.replay_spec.specs.Change.{put_in_order, used_by, unless_gone, evict}
use Rattle.replay_spec.specs.Admission.{◌>>=◌}
use Rattle.replay_spec.specs.Invariant.{AreAbove, IsRising}
use Rattle.replay_spec.proofs.Rising.{kept_put, left_put, map_put, put_front}
use Rattle.replay_spec.proofs.Room.{none_gone}
use Rattle.replay_spec.specs.Marks.{Mark, number_of, is_kept, stays, went, use_of, eviction_of, uses_of, evictions_of, use_page, go, go_all, mark_at, CanAllGo, MarksAreUses}

-- a number that is below all has no use
none_used : (p n m : ℕ) (ms : List Mark) → p ≡ m → AreAbove number_of m ms → used_by p n (uses_of ms) ≡ uses_of ms
none_used p n m [] e h = refl
none_used p n m (x ∷ ms) e h =
    let low = h.0 in
    let other : (x.number == p) ≡ false = grind (arith, nat_tests, low, e) in
    by_gone x.gone refl other (none_used p n m ms e h.1)
  where
    by_gone : (o : Option ℕ) → x.gone ≡ o → (x.number == p) ≡ false → used_by p n (uses_of ms) ≡ uses_of ms → used_by p n (uses_of (x ∷ ms)) ≡ uses_of (x ∷ ms)
    by_gone None f other rest = grind (arith, f, other, rest)
    by_gone (Some b) f other rest = grind (arith, f, rest)

used : (ms : List Mark) → IsRising number_of ms → (p n : ℕ) → uses_of (use_page p n ms) ≡ used_by p n (uses_of ms)
used [] rising p n = refl
used (x ∷ ms) rising p n = by_tests (x.number == p) refl x.gone refl (used ms rising.1 p n)
  where
    by_tests : (b : Bool) → (x.number == p) ≡ b → (o : Option ℕ) → x.gone ≡ o → uses_of (use_page p n ms) ≡ used_by p n (uses_of ms) → uses_of (use_page p n (x ∷ ms)) ≡ used_by p n (uses_of (x ∷ ms))
    by_tests true e None f rest = grind (arith, e, f)
    by_tests true e (Some b) f rest =
        let same : p ≡ x.number = grind (arith, nat_tests, e) in
        let none = none_used p n x.number ms same rising.0 in grind (arith, e, f, none)
    by_tests false e None f rest = grind (arith, e, f, rest)
    by_tests false e (Some b) f rest = grind (arith, e, f, rest)

used_evictions : (ms : List Mark) (p n : ℕ) → evictions_of (use_page p n ms) ≡ evictions_of ms
used_evictions [] p n = refl
used_evictions (x ∷ ms) p n = by_tests (x.number == p) refl x.gone refl (used_evictions ms p n)
  where
    by_tests : (b : Bool) → (x.number == p) ≡ b → (o : Option ℕ) → x.gone ≡ o → evictions_of (use_page p n ms) ≡ evictions_of ms → evictions_of (use_page p n (x ∷ ms)) ≡ evictions_of (x ∷ ms)
    by_tests true e None f rest = grind (arith, e, f)
    by_tests true e (Some b) f rest = grind (arith, e, f)
    by_tests false e None f rest = grind (arith, e, f, rest)
    by_tests false e (Some b) f rest = grind (arith, e, f, rest)

pub above_go : (by p m : ℕ) (ms : List Mark) → AreAbove number_of m ms → AreAbove number_of m (go by p ms)
above_go by p m [] h = tt
above_go by p m (x ∷ ms) h = grind (arith, h.0, h.1, above_go by p m ms h.1)

pub rising_go : (by p : ℕ) (ms : List Mark) → IsRising number_of ms → IsRising number_of (go by p ms)
rising_go by p [] h = tt
rising_go by p (x ∷ ms) h = grind (arith, h.0, h.1, rising_go by p ms h.1, above_go by p x.number ms h.0)

-- of marks that are above it none goes
none_goes : (p m : ℕ) (ms : List Mark) → p ≡ m → AreAbove number_of m ms → unless_gone (p ∷ []) (uses_of ms) ≡ uses_of ms
none_goes p m [] e h = refl
none_goes p m (x ∷ ms) e h =
    let low = h.0 in
    let other : (p == x.number) ≡ false = grind (arith, nat_tests, low, e) in
    by_gone x.gone refl other (none_goes p m ms e h.1)
  where
    by_gone : (o : Option ℕ) → x.gone ≡ o → (p == x.number) ≡ false → unless_gone (p ∷ []) (uses_of ms) ≡ uses_of ms → unless_gone (p ∷ []) (uses_of (x ∷ ms)) ≡ uses_of (x ∷ ms)
    by_gone None f other rest = grind (arith, f, other, rest)
    by_gone (Some b) f other rest = grind (arith, f, rest)

one_goes : (by p : ℕ) (ms : List Mark) → IsRising number_of ms → uses_of (go by p ms) ≡ unless_gone (p ∷ []) (uses_of ms)
one_goes by p [] rising = refl
one_goes by p (x ∷ ms) rising = by_tests (x.number == p) refl x.gone refl (one_goes by p ms rising.1)
  where
    by_tests : (b : Bool) → (x.number == p) ≡ b → (o : Option ℕ) → x.gone ≡ o → uses_of (go by p ms) ≡ unless_gone (p ∷ []) (uses_of ms) → uses_of (go by p (x ∷ ms)) ≡ unless_gone (p ∷ []) (uses_of (x ∷ ms))
    by_tests true e o f rest =
        let same : p ≡ x.number = grind (arith, nat_tests, e) in
        let back : (p == x.number) ≡ true = grind (arith, nat_tests, e) in
        let none = none_goes p x.number ms same rising.0 in
        by_gone o f back none
      where
        by_gone : (o : Option ℕ) → x.gone ≡ o → (p == x.number) ≡ true → unless_gone (p ∷ []) (uses_of ms) ≡ uses_of ms → uses_of (go by p (x ∷ ms)) ≡ unless_gone (p ∷ []) (uses_of (x ∷ ms))
        by_gone None f back none = grind (arith, e, f, back, none)
        by_gone (Some b) f back none = grind (arith, e, f, none)
    by_tests false e None f rest =
        let back : (p == x.number) ≡ false = grind (arith, nat_tests, e) in grind (arith, e, f, back, rest)
    by_tests false e (Some b) f rest = grind (arith, e, f, rest)

unless_both : (p : ℕ) (ps : List ℕ) (us : List Use) → unless_gone ps (unless_gone (p ∷ []) us) ≡ unless_gone (p ∷ ps) us
unless_both p ps [] = refl
unless_both p ps (u ∷ us) = grind (arith, unless_both p ps us)

gone : (by : ℕ) (ps : List ℕ) (ms : List Mark) → IsRising number_of ms → CanAllGo ps ms → uses_of (go_all by ps ms) ≡ unless_gone ps (uses_of ms)
gone by [] ms rising can = sym (none_gone (uses_of ms))
gone by (p ∷ ps) ms rising can =
    gone by ps (go by p ms) (rising_go by p ms rising) (can.1 by)
    ∙ (ap (λ (us : List Use). unless_gone ps us) (one_goes by p ms rising) ∙ unless_both p ps (uses_of ms))

-- what stands below all evictions is put in front
front_evictions : (n : ℕ) (e : Eviction) (ms : List Mark) → e.page ≡ n → AreAbove number_of n ms → put_in_order (λ (x : Eviction). x.page) e (evictions_of ms) ≡ e ∷ evictions_of ms
front_evictions n e ms same h = put_front (λ (x : Eviction). x.page) e (evictions_of ms) (above_evictions e.page ms (subst (λ (k : ℕ). AreAbove number_of k ms) (sym same) h))
  where
    above_evictions : (k : ℕ) (xs : List Mark) → AreAbove number_of k xs → AreAbove (λ (x : Eviction). x.page) k (evictions_of xs)
    above_evictions k [] g = tt
    above_evictions k (x ∷ xs) g = by_gone x.gone refl (above_evictions k xs g.1)
      where
        by_gone : (o : Option ℕ) → x.gone ≡ o → AreAbove (λ (y : Eviction). y.page) k (evictions_of xs) → AreAbove (λ (y : Eviction). y.page) k (evictions_of (x ∷ xs))
        by_gone None f rest = grind (arith, f, rest)
        by_gone (Some b) f rest = let low = g.0 in grind (arith, f, rest, low)

one_evicted : (by p : ℕ) (ms : List Mark) (m : Mark) → IsRising number_of ms → mark_at p ms ≡ Some m → m.gone ≡ None
    → evictions_of (go by p ms) ≡ put_in_order (λ (x : Eviction). x.page) (record { page = p; by = by }) (evictions_of ms)
one_evicted by p [] m rising found stands = absurd (let no : ⊥ = cc in no)
one_evicted by p (x ∷ ms) m rising found stands = by_tests (x.number == p) refl (one_evicted by p ms m rising.1)
  where
    by_tests : (b : Bool) → (x.number == p) ≡ b → (mark_at p ms ≡ Some m → m.gone ≡ None → evictions_of (go by p ms) ≡ put_in_order (λ (y : Eviction). y.page) (record { page = p; by = by }) (evictions_of ms))
        → evictions_of (go by p (x ∷ ms)) ≡ put_in_order (λ (y : Eviction). y.page) (record { page = p; by = by }) (evictions_of (x ∷ ms))
    by_tests true e rest =
        let same : x.number ≡ p = grind (arith, nat_tests, e) in
        let is : x ≡ m = same_Some x m (grind (arith, e, found)) in
        let kept : x.gone ≡ None = ap (λ (y : Mark). y.gone) is ∙ stands in
        let front = front_evictions x.number (record { page = p; by = by }) ms (sym same) rising.0 in
        grind (arith, e, kept, front, same)
    by_tests false e rest =
        let there : mark_at p ms ≡ Some m = grind (arith, e, found) in
        by_gone x.gone refl (rest there stands) (later p ms m rising.0 there)
      where
        later : (k : ℕ) (xs : List Mark) (y : Mark) → AreAbove number_of x.number xs → mark_at k xs ≡ Some y → x.number < k
        later k [] y g f = absurd (let no : ⊥ = cc in no)
        later k (z ∷ xs) y g f = let low = g.0 in let more = later k xs y g.1 in grind (arith, nat_tests, low, more, f)

        by_gone : (o : Option ℕ) → x.gone ≡ o → evictions_of (go by p ms) ≡ put_in_order (λ (y : Eviction). y.page) (record { page = p; by = by }) (evictions_of ms) → x.number < p
            → evictions_of (go by p (x ∷ ms)) ≡ put_in_order (λ (y : Eviction). y.page) (record { page = p; by = by }) (evictions_of (x ∷ ms))
        by_gone None f rest up = grind (arith, e, f, rest)
        by_gone (Some b) f rest up = grind (arith, nat_tests, e, f, rest, up)

gone_evictions : (by : ℕ) (ps : List ℕ) (ms : List Mark) → IsRising number_of ms → CanAllGo ps ms → evictions_of (go_all by ps ms) ≡ evict by ps (evictions_of ms)
gone_evictions by [] ms rising can = refl
gone_evictions by (p ∷ ps) ms rising can =
    gone_evictions by ps (go by p ms) (rising_go by p ms rising) (can.1 by)
    ∙ ap (λ (es : List Eviction). evict by ps es) (one_evicted by p ms can.0.0 rising can.0.1.0 can.0.1.1)

told : (ms : List Mark) → IsRising number_of ms → (n : ℕ) → evictor n (evictions_of ms) ≡ (mark_at n ms >>= λ m. m.gone)
told [] rising n = refl
told (x ∷ ms) rising n = by_tests (x.number == n) refl x.gone refl (told ms rising.1 n)
  where
    none_there : (k : ℕ) (xs : List Mark) → n ≡ k → AreAbove number_of k xs → evictor n (evictions_of xs) ≡ None
    none_there k [] e h = refl
    none_there k (y ∷ xs) e h = by_gone y.gone refl (none_there k xs e h.1)
      where
        by_gone : (o : Option ℕ) → y.gone ≡ o → evictor n (evictions_of xs) ≡ None → evictor n (evictions_of (y ∷ xs)) ≡ None
        by_gone None f rest = grind (arith, f, rest)
        by_gone (Some b) f rest = let low = h.0 in let other : (y.number == n) ≡ false = grind (arith, nat_tests, low, e) in grind (arith, f, other, rest)

    by_tests : (b : Bool) → (x.number == n) ≡ b → (o : Option ℕ) → x.gone ≡ o → evictor n (evictions_of ms) ≡ (mark_at n ms >>= λ m. m.gone) → evictor n (evictions_of (x ∷ ms)) ≡ (mark_at n (x ∷ ms) >>= λ m. m.gone)
    by_tests true e None f rest =
        let same : n ≡ x.number = grind (arith, nat_tests, e) in let none = none_there x.number ms same rising.0 in grind (arith, e, f, none)
    by_tests true e (Some b) f rest = grind (arith, e, f)
    by_tests false e None f rest = grind (arith, e, f, rest)
    by_tests false e (Some b) f rest = grind (arith, e, f, rest)

pub marked : MarksAreUses
marked ms rising = record {
  used = used ms rising;
  used_evictions = used_evictions ms;
  gone = λ by ps can. gone by ps ms rising can;
  gone_evictions = λ by ps can. gone_evictions by ps ms rising can;
  shown = λ m new stands.
      ap (λ (xs : List Mark). map use_of xs) (kept_put number_of stays m ms rising new (ap is_kept stands))
      ∙ map_put number_of (λ (u : Use). u.page) use_of m (filter stays ms) (λ x. refl);
  shown_evictions = λ m new stands. ap (λ (xs : List Mark). map eviction_of xs) (left_put number_of went m ms new (ap (λ (o : Option ℕ). if is_kept o then false else true) stands));
  evictor = told ms rising;
}
