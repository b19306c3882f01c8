-- Uses of pages, and the pages that go.
use Rattle.std.proofs.Common.{◌≡◌, ◌==◌, ℕ, zero, suc, List, [], ◌∷◌, map, Option, Some, None, Bool, true, false, not, filter, if◌then◌else◌, refl, sym, ap, subst, ◌∙◌, arith}
use Rattle.std.proofs.lemmas.Bool.{and_from}
use Rattle.std.proofs.lemmas.Bool.Decides.{nat_tests}
use Rattle.replay_spec.specs.Book.{Page, Use, Instance, page_at}
use Rattle.replay_spec.specs.Change.{used_by, used_in, unless_gone}
use Rattle.replay_spec.specs.Eviction.{least, but, least_used, too_many, goes_for}
use Rattle.replay_spec.specs.Admission.{is_one}
use Rattle.replay_spec.specs.Recovery.{is_used, can_go}
use Rattle.replay_spec.specs.Invariant.{number_of, IsKept}

abbrev pub pages_of : List Use → List ℕ
pages_of us = map (λ u. u.page) us

pub used_pages : (p n : ℕ) (us : List Use) → pages_of (used_by p n us) ≡ pages_of us
used_pages p n [] = refl
used_pages p n (u ∷ us) = grind (arith, used_pages p n us)

pub used_in_pages : (o : Option ℕ) (n : ℕ) (us : List Use) → pages_of (used_in o n us) ≡ pages_of us
used_in_pages None n us = refl
used_in_pages (Some p) n us = used_pages p n us

pub used_is : (n : ℕ) (us : List Use) → is_used n us ≡ is_one n (pages_of us)
used_is n [] = refl
used_is n (u ∷ us) = grind (arith, used_is n us)

pub but_pages : (n : ℕ) (us : List Use) → pages_of (but n us) ≡ filter (λ m. not (m == n)) (pages_of us)
but_pages n [] = refl
but_pages n (u ∷ us) = grind (arith, but_pages n us)

pub gone_pages : (gone : List ℕ) (us : List Use) → pages_of (unless_gone gone us) ≡ filter (λ m. not (is_one m gone)) (pages_of us)
gone_pages gone [] = refl
gone_pages gone (u ∷ us) = grind (arith, gone_pages gone us)

pub least_there : (u : Use) (us : List Use) → is_one (least u us).page (u.page ∷ pages_of us) ≡ true
least_there u [] = grind (arith, nat_tests)
least_there u (v ∷ us) = grind (arith, nat_tests, least_there u us, least_there v us)

still_one : (m n : ℕ) (ns : List ℕ) → is_one m (filter (λ k. not (k == n)) ns) ≡ true → is_one m ns ≡ true
still_one m n [] h = h
still_one m n (k ∷ ns) h = grind (arith, nat_tests, still_one m n ns)

one_or : (m n : ℕ) (ns ms : List ℕ) → is_one m ms ≡ true → (is_one n ns ≡ true → is_one n ms ≡ true) → (b : Bool) → (m == n) ≡ b → (if b then true else is_one n ns) ≡ true → is_one n ms ≡ true
one_or m n ns ms here rest true e f = let same : m ≡ n = grind (arith, nat_tests, e) in subst (λ (k : ℕ). is_one k ms ≡ true) same here
one_or m n ns ms here rest false e f = rest f

pub goers_among : (k : ℕ) (us : List Use) (n : ℕ) → is_one n (least_used k us) ≡ true → is_one n (pages_of us) ≡ true
goers_among zero us n h = absurd (let no : ⊥ = cc in no)
goers_among (suc k) [] n h = absurd (let no : ⊥ = cc in no)
goers_among (suc k) (u ∷ us) n h =
    let v = least u us in
    one_or v.page n (least_used k (but v.page (u ∷ us))) (pages_of (u ∷ us)) (least_there u us)
    (λ f. still_one n v.page (pages_of (u ∷ us))
    (subst (λ (ns : List ℕ). is_one n ns ≡ true) (but_pages v.page (u ∷ us)) (goers_among k (but v.page (u ∷ us)) n f)))
    (v.page == n) refl h

-- whether pages can go depends on the pages alone
pub go_alike : (ns : List ℕ) (us vs : List Use) → pages_of us ≡ pages_of vs → can_go ns us ≡ can_go ns vs
go_alike [] us vs same = refl
go_alike (n ∷ ns) us vs same =
    let one : is_used n us ≡ is_used n vs = used_is n us ∙ (ap (λ (ms : List ℕ). is_one n ms) same ∙ sym (used_is n vs)) in
    let rest : can_go ns (but n us) ≡ can_go ns (but n vs) =
    go_alike ns (but n us) (but n vs) (but_pages n us ∙ (ap (λ (ms : List ℕ). filter (λ m. not (m == n)) ms) same ∙ sym (but_pages n vs))) in
    cc

least_go : (k : ℕ) (us : List Use) → can_go (least_used k us) us ≡ true
least_go zero us = refl
least_go (suc k) [] = refl
least_go (suc k) (u ∷ us) =
    let v = least u us in
    and_from (is_used v.page (u ∷ us)) (can_go (least_used k (but v.page (u ∷ us))) (but v.page (u ∷ us)))
    (used_is v.page (u ∷ us) ∙ least_there u us) (least_go k (but v.page (u ∷ us)))

-- the pages that go for a new one can go
pub goers_go : (limit p n : ℕ) (us : List Use) → can_go (goes_for limit p n us) us ≡ true
goers_go limit p n us =
    let now = used_by p n us in
    go_alike (goes_for limit p n us) us now (sym (used_pages p n us)) ∙ least_go (too_many limit now) now

-- pages that can go are used
pub go_used : (ns : List ℕ) (us : List Use) (n : ℕ) → can_go ns us ≡ true → is_one n ns ≡ true → is_one n (pages_of us) ≡ true
go_used [] us n can h = absurd (let no : ⊥ = cc in no)
go_used (m ∷ ns) us n can h =
    let rest : can_go ns (but m us) ≡ true → is_one n ns ≡ true → is_one n (pages_of us) ≡ true =
    λ c i. still_one n m (pages_of us) (subst (λ (ks : List ℕ). is_one n ks ≡ true) (but_pages m us) (go_used ns (but m us) n c i)) in
    grind (arith, nat_tests, used_is m us, rest)

-- a page that is used stands in its instance
found_by : (f : Page → Bool) (n : ℕ) (p : Page) (ps : List Page) → (is_one n (map number_of (filter f ps)) ≡ true → (q : Page) × (page_at n ps ≡ Some q))
    → is_one n (map number_of (filter f (p ∷ ps))) ≡ true → (b : Bool) → (p.number == n) ≡ b → (c : Bool) → f p ≡ c → (q : Page) × (page_at n (p ∷ ps) ≡ Some q)
found_by f n p ps rest h true e c g = (p, rw e refl)
found_by f n p ps rest h false e true g = let q = rest (grind (arith, h, e, g)) in (q.0, rw e q.1)
found_by f n p ps rest h false e false g = let q = rest (grind (arith, h, e, g)) in (q.0, rw e q.1)

numbered_there : (f : Page → Bool) (n : ℕ) (ps : List Page) → is_one n (map number_of (filter f ps)) ≡ true → (q : Page) × (page_at n ps ≡ Some q)
numbered_there f n [] h = absurd (let no : ⊥ = cc in no)
numbered_there f n (p ∷ ps) h = found_by f n p ps (numbered_there f n ps) h (p.number == n) refl (f p) refl

pub used_there : (i : Instance) (n : ℕ) → IsKept i → is_one n (pages_of i.used) ≡ true → (q : Page) × (page_at n i.pages ≡ Some q)
used_there i n kept h = numbered_there _ n i.pages (subst (λ (ns : List ℕ). is_one n ns ≡ true) kept.used h)

pub goers_there : (limit p n : ℕ) (i : Instance) (m : ℕ) → IsKept i → is_one m (goes_for limit p n i.used) ≡ true → (q : Page) × (page_at m i.pages ≡ Some q)
goers_there limit p n i m kept h = used_there i m kept (go_used (goes_for limit p n i.used) i.used m (goers_go limit p n i.used) h)
