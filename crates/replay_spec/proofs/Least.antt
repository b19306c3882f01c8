-- The least used pages go.
use Rattle.std.proofs.Common.{◌≡◌, ◌≢◌, ◌≤◌, ◌<◌, ◌==◌, ◌+◌, ◌⊎◌, max, ℕ, zero, suc, List, [], ◌∷◌, length, map, Some, Bool, true, false, not, filter, refl, sym, ap, subst, ◌∙◌, inl, inr, ⊎_elim, arith}
use Rattle.std.proofs.lemmas.Bool.{cases_eq, cases_lt}
use Rattle.std.proofs.lemmas.Bool.Decides.{nat_tests}
use Rattle.std.proofs.lemmas.Option.{same_Some}
use Rattle.replay_spec.specs.Book.{Use, is_evicted}
use Rattle.replay_spec.specs.Change.{used_by, unless_gone}
use Rattle.replay_spec.specs.Eviction.{least, but, least_used, too_many, goes_for}
use Rattle.replay_spec.specs.Admission.{is_one}
use Rattle.replay_spec.specs.Invariant.{AreAbove, IsRising, number_of}
use Rattle.replay_spec.specs.Evicting.{use_at, GoesFirst, TheLeastUsedGo, UsesRise}
use Rattle.replay_spec.proofs.Numbered as numbered
use Rattle.replay_spec.proofs.Rising.{rising_kept}
use Rattle.replay_spec.proofs.Goers.{goers_among}
use Rattle.replay_spec.proofs.Room.{gone_more}

abbrev paged : Use → ℕ
paged u = u.page

-- a number below all others names no use
above_at : (n m : ℕ) (us : List Use) (v : Use) → AreAbove paged n us → use_at m us ≡ Some v → n < m
above_at n m [] v h found = absurd (let no : ⊥ = cc in no)
above_at n m (u ∷ us) v h found = by_test (u.page == m) refl (above_at n m us v h.1)
  where
    by_test : (b : Bool) → (u.page == m) ≡ b → (use_at m us ≡ Some v → n < m) → n < m
    by_test true e rest = let same : u.page ≡ m = grind (arith, nat_tests, e) in let low = h.0 in omega (arith, same, low)
    by_test false e rest = rest (grind (arith, e, found))

-- the least of uses goes before each of them or is that one
abbrev IsFirst : Use → Use → Type 0
IsFirst u v = (u.last < v.last) ⊎ ((u.last ≡ v.last) × (u.page ≤ v.page))

least_own : (u : Use) (us : List Use) → IsRising paged (u ∷ us) → IsFirst (least u us) u
least_own u [] rising = inr (refl, omega arith)
least_own u (v ∷ us) rising = by_test (cases_lt v.last u.last) (least_own v us rising.1) (least_own u us (rising.0.1, rising.1.1))
  where
    by_test : (v.last < u.last) ⊎ (u.last ≤ v.last) → IsFirst (least v us) v → IsFirst (least u us) u → IsFirst (least u (v ∷ us)) u
    by_test (inl less) one two =
        let is : least u (v ∷ us) ≡ least v us = grind (arith, nat_tests, less) in
        subst (λ (w : Use). IsFirst w u) (sym is) (⊎_elim (λ low. inl (omega (arith, low, less))) (λ tie. inl (let e = tie.0 in omega (arith, e, less))) one)
    by_test (inr more) one two =
        let is : least u (v ∷ us) ≡ least u us = grind (arith, nat_tests, more) in subst (λ (w : Use). IsFirst w u) (sym is) two

least_first : (u : Use) (us : List Use) (n : ℕ) (w : Use) → IsRising paged (u ∷ us) → use_at n us ≡ Some w → IsFirst (least u us) w
least_first u [] n w rising found = absurd (let no : ⊥ = cc in no)
least_first u (v ∷ us) n w rising found =
    by_test (cases_lt v.last u.last) (v.page == n) refl (least_own v us rising.1) (least_own u us (rising.0.1, rising.1.1)) (least_first v us n w rising.1) (least_first u us n w (rising.0.1, rising.1.1))
  where
    by_test : (v.last < u.last) ⊎ (u.last ≤ v.last) → (b : Bool) → (v.page == n) ≡ b → IsFirst (least v us) v → IsFirst (least u us) u
        → (use_at n us ≡ Some w → IsFirst (least v us) w) → (use_at n us ≡ Some w → IsFirst (least u us) w) → IsFirst (least u (v ∷ us)) w
    by_test (inl less) true e own_v own_u rest_v rest_u =
        let is : least u (v ∷ us) ≡ least v us = grind (arith, nat_tests, less) in
        let same : v ≡ w = same_Some v w (grind (arith, e, found)) in
        subst (λ (x : Use). IsFirst x w) (sym is) (subst (λ (x : Use). IsFirst (least v us) x) same own_v)
    by_test (inl less) false e own_v own_u rest_v rest_u =
        let is : least u (v ∷ us) ≡ least v us = grind (arith, nat_tests, less) in
        subst (λ (x : Use). IsFirst x w) (sym is) (rest_v (grind (arith, e, found)))
    by_test (inr more) true e own_v own_u rest_v rest_u =
        let is : least u (v ∷ us) ≡ least u us = grind (arith, nat_tests, more) in
        let same : v ≡ w = same_Some v w (grind (arith, e, found)) in
        let above : u.page < v.page = rising.0.0 in
        subst (λ (x : Use). IsFirst x w) (sym is) (subst (λ (x : Use). IsFirst (least u us) x) same
        (⊎_elim (λ low. inl (omega (arith, low, more))) (λ tie. later tie (cases_lt (least u us).last v.last)) own_u))
      where
        later : ((least u us).last ≡ u.last) × ((least u us).page ≤ u.page) → ((least u us).last < v.last) ⊎ (v.last ≤ (least u us).last) → IsFirst (least u us) v
        later tie (inl low) = inl low
        later tie (inr high) = inr ((let a = tie.0 in omega (arith, a, high, more)), (let a = tie.1 in let above = rising.0.0 in omega (arith, a, above)))
    by_test (inr more) false e own_v own_u rest_v rest_u =
        let is : least u (v ∷ us) ≡ least u us = grind (arith, nat_tests, more) in
        subst (λ (x : Use). IsFirst x w) (sym is) (rest_u (grind (arith, e, found)))

-- the least is found under its number
found_later : (u : Use) (n : ℕ) (us : List Use) (w : Use) → u.page ≢ n → use_at n us ≡ Some w → use_at n (u ∷ us) ≡ Some w
found_later u n us w other found = grind (arith, nat_tests, other, found)

least_found : (u : Use) (us : List Use) → IsRising paged (u ∷ us) → use_at (least u us).page (u ∷ us) ≡ Some (least u us)
least_found u [] rising = grind (arith, nat_tests)
least_found u (v ∷ us) rising = by_test (cases_lt v.last u.last) (least_found v us rising.1) (least_found u us (rising.0.1, rising.1.1))
  where
    by_test : (v.last < u.last) ⊎ (u.last ≤ v.last) → use_at (least v us).page (v ∷ us) ≡ Some (least v us) → use_at (least u us).page (u ∷ us) ≡ Some (least u us)
        → use_at (least u (v ∷ us)).page (u ∷ v ∷ us) ≡ Some (least u (v ∷ us))
    by_test (inl less) one two =
        let is : least u (v ∷ us) ≡ least v us = grind (arith, nat_tests, less) in
        let above = above_at u.page (least v us).page (v ∷ us) (least v us) rising.0 one in
        subst (λ (w : Use). use_at w.page (u ∷ v ∷ us) ≡ Some w) (sym is) (found_later u (least v us).page (v ∷ us) (least v us) (λ e. absurd (omega (arith, e, above))) one)
    by_test (inr more) one two =
        let is : least u (v ∷ us) ≡ least u us = grind (arith, nat_tests, more) in
        subst (λ (w : Use). use_at w.page (u ∷ v ∷ us) ≡ Some w) (sym is) (skip (cases_eq u.page (least u us).page) two)
      where
        skip : (u.page ≡ (least u us).page) ⊎ (u.page ≢ (least u us).page) → use_at (least u us).page (u ∷ us) ≡ Some (least u us) → use_at (least u us).page (u ∷ v ∷ us) ≡ Some (least u us)
        skip (inl same) found = grind (arith, nat_tests, same, found)
        skip (inr other) found =
            let rest : use_at (least u us).page us ≡ Some (least u us) = grind (arith, nat_tests, other, found) in
            let above = above_at v.page (least u us).page us (least u us) rising.1.0 rest in
            found_later u (least u us).page (v ∷ us) (least u us) other (found_later v (least u us).page us (least u us) (λ e. absurd (omega (arith, e, above))) rest)

but_at : (n m : ℕ) (us : List Use) → n ≢ m → use_at n (but m us) ≡ use_at n us
but_at n m [] other = refl
but_at n m (u ∷ us) other = grind (arith, nat_tests, other, but_at n m us other)

-- each page that goes was used before each that stays
go_first : (c : ℕ) (us : List Use) (k l : ℕ) (x y : Use) → IsRising paged us → use_at k us ≡ Some x → use_at l us ≡ Some y
    → is_one k (least_used c us) ≡ true → is_one l (least_used c us) ≡ false → GoesFirst x y
go_first zero us k l x y rising fx fy goes stays = absurd (let no : ⊥ = cc in no)
go_first (suc c) [] k l x y rising fx fy goes stays = absurd (let no : ⊥ = cc in no)
go_first (suc c) (u ∷ us) k l x y rising fx fy goes stays =
    let w = least u us in
    let vs = but w.page (u ∷ us) in
    let other : l ≢ w.page = λ e. let yes : is_one l (w.page ∷ least_used c vs) ≡ true = grind (arith, nat_tests, e) in let no : ⊥ = cc in no in
    let rest : is_one l (least_used c vs) ≡ false = grind (arith, nat_tests, stays, other) in
    by_case w vs other (cases_eq k w.page) (least_found u us rising) (first_at w (u.page == l) refl)
    (λ differs. go_first c vs k l x y (rising_kept paged (λ v. not (v.page == w.page)) (u ∷ us) rising) (but_at k w.page (u ∷ us) differs ∙ fx) (but_at l w.page (u ∷ us) other ∙ fy)
    (grind (arith, nat_tests, goes, differs)) rest)
  where
    first_at : (w : Use) → (b : Bool) → (u.page == l) ≡ b → IsFirst (least u us) y
    first_at w true e = subst (λ (z : Use). IsFirst (least u us) z) (same_Some u y (grind (arith, e, fy))) (least_own u us rising)
    first_at w false e = least_first u us l y rising (grind (arith, e, fy))

    by_case : (w : Use) (vs : List Use) → l ≢ w.page → (k ≡ w.page) ⊎ (k ≢ w.page) → use_at w.page (u ∷ us) ≡ Some w → IsFirst w y → (k ≢ w.page → GoesFirst x y) → GoesFirst x y
    by_case w vs other (inr differs) found first rest = rest differs
    by_case w vs other (inl same) found first rest =
        let is : w ≡ x = same_Some w x (sym found ∙ (ap (λ (n : ℕ). use_at n (u ∷ us)) (sym same) ∙ fx)) in
        let number : y.page ≡ l = numbered.number_of paged l (u ∷ us) y fy in
        subst (λ (z : Use). GoesFirst z y) is (⊎_elim (λ low. inl low) (λ tie. inr (tie.0, (let a = tie.1 in omega (arith, a, number, other)))) first)

-- without the page of a number there is at most one use fewer
but_one : (n : ℕ) (us : List Use) → IsRising paged us → length us ≤ length (but n us) + 1
but_one n [] rising = omega arith
but_one n (u ∷ us) rising = by_test (u.page == n) refl (but_one n us rising.1) (but_none n us)
  where
    but_none : (m : ℕ) (vs : List Use) → AreAbove paged m vs → length (but m vs) ≡ length vs
    but_none m [] h = refl
    but_none m (v ∷ vs) h = let rest = but_none m vs h.1 in let low = h.0 in grind (arith, nat_tests, low, rest)

    by_test : (b : Bool) → (u.page == n) ≡ b → length us ≤ length (but n us) + 1 → (AreAbove paged n us → length (but n us) ≡ length us) → length (u ∷ us) ≤ length (but n (u ∷ us)) + 1
    by_test false e rest none = grind (arith, e, rest)
    by_test true e rest none =
        let same : u.page ≡ n = grind (arith, nat_tests, e) in
        let all = none (subst (λ (m : ℕ). AreAbove paged m us) same rising.0) in
        grind (arith, e, all)

left_many : (k : ℕ) (us : List Use) → IsRising paged us → length us ≤ length (unless_gone (least_used k us) us) + k
left_many zero us rising = let same = none_length us in omega (arith, same)
  where
    none_length : (vs : List Use) → length (unless_gone [] vs) ≡ length vs
    none_length [] = refl
    none_length (v ∷ vs) = ap suc (none_length vs)
left_many (suc k) [] rising = omega arith
left_many (suc k) (u ∷ us) rising =
    let v = least u us in
    let one = but_one v.page (u ∷ us) rising in
    let rest = left_many k (but v.page (u ∷ us)) (rising_kept paged (λ w. not (w.page == v.page)) (u ∷ us) rising) in
    let same = ap (λ (vs : List Use). length vs) (gone_more v.page (least_used k (but v.page (u ∷ us))) (u ∷ us)) in
    omega (arith, one, rest, same)

-- among the uses stands one whose page does not go
record Stays (gone : List ℕ) (us : List Use) : Type 0 where
  one : Use
  found : use_at one.page us ≡ Some one
  stays : is_one one.page gone ≡ false

one_stays : (gone : List ℕ) (us : List Use) → IsRising paged us → 1 ≤ length (unless_gone gone us) → Stays gone us
one_stays gone [] rising h = absurd (omega (arith, h))
one_stays gone (u ∷ us) rising h = by_test (is_one u.page gone) refl (one_stays gone us rising.1)
  where
    by_test : (b : Bool) → is_one u.page gone ≡ b → (1 ≤ length (unless_gone gone us) → Stays gone us) → Stays gone (u ∷ us)
    by_test false e rest = record { one = u; found = grind (arith, nat_tests); stays = e }
    by_test true e rest =
        let s = rest (grind (arith, e, h)) in
        let above = above_at u.page s.one.page us s.one rising.0 s.found in
        record { one = s.one; found = found_later u s.one.page us s.one (λ same. absurd (omega (arith, same, above))) s.found; stays = s.stays }

-- the uses keep their pages
used_above : (p n m : ℕ) (us : List Use) → AreAbove paged m us → AreAbove paged m (used_by p n us)
used_above p n m [] h = tt
used_above p n m (u ∷ us) h = grind (arith, h.0, h.1, used_above p n m us h.1)

used_rising : (p n : ℕ) (us : List Use) → IsRising paged us → IsRising paged (used_by p n us)
used_rising p n [] h = tt
used_rising p n (u ∷ us) h = grind (arith, h.0, h.1, used_rising p n us h.1, used_above p n u.page us h.0)

used_other : (p n l : ℕ) (us : List Use) → l ≢ p → use_at l (used_by p n us) ≡ use_at l us
used_other p n l [] other = refl
used_other p n l (u ∷ us) other = grind (arith, nat_tests, other, used_other p n l us other)

used_own : (p n : ℕ) (us : List Use) (u : Use) → use_at p (used_by p n us) ≡ Some u → n ≤ u.last
used_own p n [] u h = absurd (let no : ⊥ = cc in no)
used_own p n (v ∷ us) u h = by_test (v.page == p) refl (used_own p n us u)
  where
    by_test : (b : Bool) → (v.page == p) ≡ b → (use_at p (used_by p n us) ≡ Some u → n ≤ u.last) → n ≤ u.last
    by_test true e rest = let is : record v { last = max v.last n } ≡ u = same_Some _ u (grind (arith, e, h)) in subst (λ (w : Use). n ≤ w.last) is (omega arith)
    by_test false e rest = rest (grind (arith, e, h))

used_is_there : (k : ℕ) (gone : List ℕ) (us : List Use) → is_one k (map paged us) ≡ true → (u : Use) × (use_at k us ≡ Some u)
used_is_there k gone [] h = absurd (let no : ⊥ = cc in no)
used_is_there k gone (u ∷ us) h = by_test (u.page == k) refl (used_is_there k gone us)
  where
    by_test : (b : Bool) → (u.page == k) ≡ b → (is_one k (map paged us) ≡ true → (v : Use) × (use_at k us ≡ Some v)) → (v : Use) × (use_at k (u ∷ us) ≡ Some v)
    by_test true e rest = (u, rw e refl)
    by_test false e rest = let r = rest (grind (arith, e, h)) in (r.0, rw e r.1)

some_there : (m : ℕ) (vs : List Use) (v : Use) → use_at m vs ≡ Some v → 1 ≤ length vs
some_there m [] v h = absurd (let no : ⊥ = cc in no)
some_there m (w ∷ vs) v h = omega arith

answered_stays : (limit p n : ℕ) (us : List Use) → IsRising paged us → 2 ≤ limit → ((l : ℕ) (v : Use) → (l ≡ p → ⊥) → use_at l us ≡ Some v → v.last < n)
    → is_one p (goes_for limit p n us) ≡ false
answered_stays limit p n us rising two before = by_test (is_one p (goes_for limit p n us)) refl
  where
    now : List Use
    now = used_by p n us

    by_test : (b : Bool) → is_one p (goes_for limit p n us) ≡ b → is_one p (goes_for limit p n us) ≡ false
    by_test false e = e
    by_test true e =
        let up = used_rising p n us rising in
        let there = used_is_there p [] now (goers_among (too_many limit now) now p e) in
        let many = left_many (too_many limit now) now up in
        let full : 1 ≤ length now = some_there p now there.0 there.1 in
        let s = one_stays (goes_for limit p n us) now up (omega (arith, many, full, two)) in
        let stays = s.stays in
        let other : s.one.page ≢ p = λ same. let yes : is_one s.one.page (goes_for limit p n us) ≡ true = subst (λ (m : ℕ). is_one m (goes_for limit p n us) ≡ true) (sym same) e in let no : ⊥ = cc in no in
        let early = before s.one.page s.one (λ same. absurd (other same)) (sym (used_other p n s.one.page us other) ∙ s.found) in
        let late = used_own p n us there.0 there.1 in
        absurd (⊎_elim (λ low. omega (arith, low, early, late)) (λ tie. let a = tie.0 in omega (arith, a, early, late)) (go_first (too_many limit now) now p s.one.page there.0 s.one up there.1 s.found e stays))

pub least_go_first : TheLeastUsedGo
least_go_first limit p n us rising = (
  λ (k l : ℕ) (u v : Use) (fu : use_at k (used_by p n us) ≡ Some u) (fv : use_at l (used_by p n us) ≡ Some v)
      (goes : is_one k (goes_for limit p n us) ≡ true) (stays : is_one l (goes_for limit p n us) ≡ false).
      go_first (too_many limit (used_by p n us)) (used_by p n us) k l u v (used_rising p n us rising) fu fv goes stays,
  answered_stays limit p n us rising,
)

-- the uses rise where the pages of an instance do
mapped_above : {A : Type 0} (number : A → ℕ) (n : ℕ) (xs : List A) → AreAbove number n xs → AreAbove (λ (m : ℕ). m) n (map number xs)
mapped_above number n [] h = tt
mapped_above number n (x ∷ xs) h = (h.0, mapped_above number n xs h.1)

mapped : {A : Type 0} (number : A → ℕ) (xs : List A) → IsRising number xs → IsRising (λ (m : ℕ). m) (map number xs)
mapped number [] h = tt
mapped number (x ∷ xs) h = (mapped_above number (number x) xs h.0, mapped number xs h.1)

unmapped_above : {A : Type 0} (number : A → ℕ) (n : ℕ) (xs : List A) → AreAbove (λ (m : ℕ). m) n (map number xs) → AreAbove number n xs
unmapped_above number n [] h = tt
unmapped_above number n (x ∷ xs) h = (h.0, unmapped_above number n xs h.1)

unmapped : {A : Type 0} (number : A → ℕ) (xs : List A) → IsRising (λ (m : ℕ). m) (map number xs) → IsRising number xs
unmapped number [] h = tt
unmapped number (x ∷ xs) h = (unmapped_above number (number x) xs h.0, unmapped number xs h.1)

pub uses_rise : UsesRise
uses_rise b g k i found =
    let kept = g.instances.kept k i found in
    unmapped paged i.used
    (subst (λ (ns : List ℕ). IsRising (λ (m : ℕ). m) ns) (sym kept.used)
    (mapped number_of (filter (λ p. not (is_evicted p.number i.evicted)) i.pages) (rising_kept number_of (λ p. not (is_evicted p.number i.evicted)) i.pages kept.rising)))
