-- Marks of pages that are kept in order.
use Rattle.std.proofs.Common.{◌≡◌, ◌∙◌, ap, sym, subst, ℕ, zero, suc, ◌<◌, ◌+◌, ◌==◌, max, List, [], ◌∷◌, drop, map, get_or, set, length, Option, Some, None, Bool, true, false, refl, if◌then◌else◌, arith}
use Rattle.std.specs.List.{AllByRecursion, list_all}
use Rattle.std.proofs.lemmas.Bool.{and_parts}
use Rattle.std.proofs.lemmas.Bool.Decides.{nat_tests}
use Rattle.journal_records.specs.ReplaySpec.Book.{Use, Page, page_at, is_expired, is_evicted, is_over}
use Rattle.journal_records.specs.ReplaySpec.Change.{put_in_order, put_use, used_by, used_in, unless_gone, evict}
use Rattle.journal_records.specs.ReplaySpec.Eviction.{but}
use Rattle.journal_records.specs.ReplaySpec.Recovery.{is_used, can_go}
use Rattle.journal_records.specs.ReplaySpec.Invariant.{AreAbove, IsRising}
use Rattle.journal_records.specs.ReplaySpec.Marks.{Mark, number_of, use_of, uses_of, evictions_of, use_page, go, go_all, mark_at, CanAllGo}
use Rattle.journal_records.proofs.ReplaySpec.Goers.{go_alike, used_in_pages}
use Rattle.journal_records.proofs.ReplaySpec.Marked.{marked, rising_go}
use Rattle.instance_book.specs.declared.numbered.Numbered.{Numbered}
use Rattle.instance_book.specs.declared.in_order.InOrder.{InOrder}
use Rattle.instance_book.specs.declared.page.KeptPage.{KeptPage}
use Rattle.instance_book.specs.Orders.{Rises, IsAt, numbers_of}
use Rattle.instance_book.specs.Views.{page_of, mark_of, marks_of, used_of, evicted_of}
use Rattle.instance_book.specs.Places.{ChangesMarks}
use Rattle.instance_book.specs.Uses.{use_if, is_gone, is_over_by}
use Rattle.instance_book.proofs.Orders.{Ascends, rises, ascends, number_at, length_numbers}
use Rattle.instance_book.proofs.Lists.{first_at}
use Rattle.instance_book.proofs.Seen.{seen_some}

-- marks rise as the pages do
above : (n : ℕ) (xs : List (Numbered KeptPage)) → AllByRecursion (λ m. n < m) (numbers_of xs) → AreAbove number_of n (map mark_of xs)
above n [] all = tt
above n (x ∷ xs) all = (all.0, above n xs all.1)

rising_by : (xs : List (Numbered KeptPage)) → Ascends (numbers_of xs) → IsRising number_of (map mark_of xs)
rising_by [] a = tt
rising_by (x ∷ xs) a = (above x.number xs a.0, rising_by xs a.1)

pub marks_rise : (xs : List (Numbered KeptPage)) → Rises (numbers_of xs) → IsRising number_of (map mark_of xs)
marks_rise xs rise = rising_by xs (ascends (numbers_of xs) rise)

-- the page of a number is used at its place, or goes there
used_there : (xs : List (Numbered KeptPage)) (p n place : ℕ) (x y : Numbered KeptPage) → Ascends (numbers_of xs) → IsAt (numbers_of xs) p place → x ≡ get_or xs place x
    → mark_of y ≡ record (mark_of x) { last = max x.item.last n } → map mark_of (set xs place y) ≡ use_page p n (map mark_of xs)
used_there [] p n place x y a at is e = absurd (omega (arith, at.within))
used_there (z ∷ zs) p n zero x y a at is e = grind (arith, nat_tests, at.here, is, e)
used_there (z ∷ zs) p n (suc k) x y a at is e =
    let less : z.number < p = subst (λ m. z.number < m) at.here (rises (numbers_of (z ∷ zs)) a 0 (suc k) (omega arith) at.within) in
    grind (arith, nat_tests, used_there zs p n k x y a.1 (record { within = omega (arith, at.within); here = at.here }) is e)

pub used_at : (xs : List (Numbered KeptPage)) (p n place : ℕ) (x y : Numbered KeptPage) → Rises (numbers_of xs) → IsAt (numbers_of xs) p place → x ≡ get_or xs place x
    → mark_of y ≡ record (mark_of x) { last = max x.item.last n } → map mark_of (set xs place y) ≡ use_page p n (map mark_of xs)
used_at xs p n place x y rise at is e = used_there xs p n place x y (ascends (numbers_of xs) rise) at is e

gone_there : (xs : List (Numbered KeptPage)) (p by place : ℕ) (x y : Numbered KeptPage) → Ascends (numbers_of xs) → IsAt (numbers_of xs) p place → x ≡ get_or xs place x
    → mark_of y ≡ record (mark_of x) { gone = Some by } → map mark_of (set xs place y) ≡ go by p (map mark_of xs)
gone_there [] p by place x y a at is e = absurd (omega (arith, at.within))
gone_there (z ∷ zs) p by zero x y a at is e = grind (arith, nat_tests, at.here, is, e)
gone_there (z ∷ zs) p by (suc k) x y a at is e =
    let less : z.number < p = subst (λ m. z.number < m) at.here (rises (numbers_of (z ∷ zs)) a 0 (suc k) (omega arith) at.within) in
    grind (arith, nat_tests, gone_there zs p by k x y a.1 (record { within = omega (arith, at.within); here = at.here }) is e)

pub gone_at : (xs : List (Numbered KeptPage)) (p by place : ℕ) (x y : Numbered KeptPage) → Rises (numbers_of xs) → IsAt (numbers_of xs) p place → x ≡ get_or xs place x
    → mark_of y ≡ record (mark_of x) { gone = Some by } → map mark_of (set xs place y) ≡ go by p (map mark_of xs)
gone_at xs p by place x y rise at is e = gone_there xs p by place x y (ascends (numbers_of xs) rise) at is e

-- of no page nothing changes
pub used_none : (p n : ℕ) (ms : List Mark) → mark_at p ms ≡ None → ms ≡ use_page p n ms
used_none p n [] h = refl
used_none p n (m ∷ ms) h = grind (arith, nat_tests, h, used_none p n ms)

pub gone_none : (p by : ℕ) (ms : List Mark) → mark_at p ms ≡ None → ms ≡ go by p ms
gone_none p by [] h = refl
gone_none p by (m ∷ ms) h = grind (arith, nat_tests, h, gone_none p by ms)

-- the marks rise on where a page was used
above_used : (p n m : ℕ) (ms : List Mark) → AreAbove number_of m ms → AreAbove number_of m (use_page p n ms)
above_used p n m [] h = tt
above_used p n m (x ∷ ms) h = grind (arith, h.0, h.1, above_used p n m ms h.1)

pub rising_used : (p n : ℕ) (ms : List Mark) → IsRising number_of ms → IsRising number_of (use_page p n ms)
rising_used p n [] h = tt
rising_used p n (x ∷ ms) h = grind (arith, h.0, h.1, rising_used p n ms h.1, above_used p n x.number ms h.0)

-- what marks tell after a page was answered
pub answered_uses : (p n : ℕ) (old new : InOrder KeptPage) → ChangesMarks (use_page p n) old new → used_of new ≡ used_by p n (used_of old)
answered_uses p n old new changed =
    ap uses_of changed.marks ∙ (marked (marks_of old) (marks_rise old.things.items old.rising)).used p n

pub answered_evictions : (p n : ℕ) (old new : InOrder KeptPage) → ChangesMarks (use_page p n) old new → evicted_of new ≡ evicted_of old
answered_evictions p n old new changed =
    ap evictions_of changed.marks ∙ (marked (marks_of old) (marks_rise old.things.items old.rising)).used_evictions p n

-- ---- pages that can go by their uses can by their marks

-- what stands below all is not used
below_all : (p m : ℕ) (ms : List Mark) → p ≡ m → AreAbove number_of m ms → is_used p (uses_of ms) ≡ false
below_all p m [] e h = refl
below_all p m (x ∷ ms) e h =
    let low = h.0 in
    let other : (x.number == p) ≡ false = grind (arith, nat_tests, low, e) in
    by_gone x.gone refl other (below_all p m ms e h.1)
  where
    by_gone : (o : Option ℕ) → x.gone ≡ o → (x.number == p) ≡ false → is_used p (uses_of ms) ≡ false → is_used p (uses_of (x ∷ ms)) ≡ false
    by_gone None f other rest = grind (arith, f, other, rest)
    by_gone (Some b) f other rest = grind (arith, f, rest)

used_stays : (p : ℕ) (ms : List Mark) → IsRising number_of ms → is_used p (uses_of ms) ≡ true → (m : Mark) × ((mark_at p ms ≡ Some m) × (m.gone ≡ None))
used_stays p [] rising h = absurd (let no : ⊥ = cc in no)
used_stays p (x ∷ ms) rising h = by_tests (x.number == p) refl x.gone refl (used_stays p ms rising.1)
  where
    by_tests : (b : Bool) → (x.number == p) ≡ b → (o : Option ℕ) → x.gone ≡ o → (is_used p (uses_of ms) ≡ true → (m : Mark) × ((mark_at p ms ≡ Some m) × (m.gone ≡ None)))
        → (m : Mark) × ((mark_at p (x ∷ ms) ≡ Some m) × (m.gone ≡ None))
    by_tests true e None f rest = (x, (rw e refl, f))
    by_tests true e (Some b) f rest =
        let same : p ≡ x.number = grind (arith, nat_tests, e) in
        let none = below_all p x.number ms same rising.0 in
        let unused : is_used p (uses_of (x ∷ ms)) ≡ false = grind (arith, f, none) in
        absurd (let no : ⊥ = cc in no)
    by_tests false e None f rest =
        let later : is_used p (uses_of ms) ≡ true = grind (arith, e, f, h) in
        let m = rest later in (m.0, (rw e m.1.0, m.1.1))
    by_tests false e (Some b) f rest =
        let later : is_used p (uses_of ms) ≡ true = grind (arith, e, f, h) in
        let m = rest later in (m.0, (rw e m.1.0, m.1.1))

without_one : (p : ℕ) (us : List Use) → unless_gone (p ∷ []) us ≡ but p us
without_one p [] = refl
without_one p (u ∷ us) = by_tests (p == u.page) refl (without_one p us)
  where
    by_tests : (b : Bool) → (p == u.page) ≡ b → unless_gone (p ∷ []) us ≡ but p us → unless_gone (p ∷ []) (u ∷ us) ≡ but p (u ∷ us)
    by_tests true e rest = let back : (u.page == p) ≡ true = grind (arith, nat_tests, e) in grind (arith, e, back, rest)
    by_tests false e rest = let back : (u.page == p) ≡ false = grind (arith, nat_tests, e) in grind (arith, e, back, rest)

pub all_go : (gone : List ℕ) (ms : List Mark) → IsRising number_of ms → can_go gone (uses_of ms) ≡ true → CanAllGo gone ms
all_go [] ms rising can = tt
all_go (p ∷ ps) ms rising can =
    let both = and_parts (is_used p (uses_of ms)) (can_go ps (but p (uses_of ms))) can in
    let first = used_stays p ms rising both.0 in (
      first,
      λ by.
          let alone : CanAllGo (p ∷ []) ms = (first, λ b. tt) in
          let left : uses_of (go by p ms) ≡ but p (uses_of ms) = (marked ms rising).gone by (p ∷ []) alone ∙ without_one p (uses_of ms) in
          all_go ps (go by p ms) (rising_go by p ms rising) (subst (λ (us : List Use). can_go ps us ≡ true) (sym left) both.1),
    )

-- ---- pages that are over

not_evicted : (p m : ℕ) (ms : List Mark) → p ≡ m → AreAbove number_of m ms → is_evicted p (evictions_of ms) ≡ false
not_evicted p m [] e h = refl
not_evicted p m (x ∷ ms) e h =
    let low = h.0 in
    let other : (x.number == p) ≡ false = grind (arith, nat_tests, low, e) in
    by_gone x.gone refl other (not_evicted p m ms e h.1)
  where
    by_gone : (o : Option ℕ) → x.gone ≡ o → (x.number == p) ≡ false → is_evicted p (evictions_of ms) ≡ false → is_evicted p (evictions_of (x ∷ ms)) ≡ false
    by_gone None f other rest = grind (arith, f, rest)
    by_gone (Some b) f other rest = grind (arith, f, other, rest)

pub evicted_is : (ms : List Mark) (p : ℕ) (m : Mark) → IsRising number_of ms → mark_at p ms ≡ Some m → is_evicted p (evictions_of ms) ≡ is_gone m.gone
evicted_is [] p m rising here = absurd (let no : ⊥ = cc in no)
evicted_is (x ∷ ms) p m rising here = by_tests (x.number == p) refl x.gone refl (evicted_is ms p m rising.1)
  where
    by_tests : (b : Bool) → (x.number == p) ≡ b → (o : Option ℕ) → x.gone ≡ o → (mark_at p ms ≡ Some m → is_evicted p (evictions_of ms) ≡ is_gone m.gone) → is_evicted p (evictions_of (x ∷ ms)) ≡ is_gone m.gone
    by_tests true e None f rest =
        let same : p ≡ x.number = grind (arith, nat_tests, e) in
        let none = not_evicted p x.number ms same rising.0 in
        let is : m ≡ x = grind (arith, e, here) in grind (arith, e, f, none, is)
    by_tests true e (Some b) f rest = let is : m ≡ x = grind (arith, e, here) in grind (arith, e, f, is)
    by_tests false e None f rest =
        let later : mark_at p ms ≡ Some m = grind (arith, e, here) in let same = rest later in grind (arith, e, f, same)
    by_tests false e (Some b) f rest =
        let later : mark_at p ms ≡ Some m = grind (arith, e, here) in let same = rest later in grind (arith, e, f, same)

-- the mark of a page that stands among others
pub marked_there : (xs : List (Numbered KeptPage)) (k : ℕ) (x : Numbered KeptPage) → Rises (numbers_of xs) → k < length xs → x ≡ get_or xs k x → mark_at x.number (map mark_of xs) ≡ Some (mark_of x)
marked_there xs k x rise h is =
    let at : IsAt (numbers_of xs) x.number k = record {
      within = subst (λ (n : ℕ). k < n) (sym (length_numbers (λ (y : Numbered KeptPage). y.number) xs)) h;
      here = number_at (λ (y : Numbered KeptPage). y.number) xs k x h ∙ sym (ap (λ (y : Numbered KeptPage). y.number) is);
    } in
    seen_some number_of mark_of (λ y. refl) x.number xs x (first_at xs x.number k x rise at is)

pub over_there : (tick : ℕ) (xs : List (Numbered KeptPage)) (k : ℕ) (x : Numbered KeptPage) → Rises (numbers_of xs) → k < length xs → x ≡ get_or xs k x
    → is_over tick (evictions_of (map mark_of xs)) (page_of x) ≡ is_over_by tick x.item.deadline x.item.gone
over_there tick xs k x rise h is =
    let here = marked_there xs k x rise h is in
    let gone : is_evicted x.number (evictions_of (map mark_of xs)) ≡ is_gone x.item.gone = evicted_is (map mark_of xs) x.number (mark_of x) (marks_rise xs rise) here in
    ap (λ (b : Bool). if is_expired tick (page_of x) then true else b) gone

-- ---- a page that is shown

-- what may be answered
pub uses_if : (o : Option ℕ) (n : ℕ) (ms : List Mark) → IsRising number_of ms → uses_of (use_if o n ms) ≡ used_in o n (uses_of ms)
uses_if None n ms rising = refl
uses_if (Some p) n ms rising = (marked ms rising).used p n

evictions_if : (o : Option ℕ) (n : ℕ) (ms : List Mark) → IsRising number_of ms → evictions_of (use_if o n ms) ≡ evictions_of ms
evictions_if None n ms rising = refl
evictions_if (Some p) n ms rising = (marked ms rising).used_evictions p n

rising_if : (o : Option ℕ) (n : ℕ) (ms : List Mark) → IsRising number_of ms → IsRising number_of (use_if o n ms)
rising_if None n ms rising = rising
rising_if (Some p) n ms rising = rising_used p n ms rising

rising_all : (by : ℕ) (ps : List ℕ) (ms : List Mark) → IsRising number_of ms → IsRising number_of (go_all by ps ms)
rising_all by [] ms rising = rising
rising_all by (p ∷ ps) ms rising = rising_all by ps (go by p ms) (rising_go by p ms rising)

-- no page comes of it
absent_used : (k p n : ℕ) (ms : List Mark) → mark_at k ms ≡ None → mark_at k (use_page p n ms) ≡ None
absent_used k p n [] h = refl
absent_used k p n (m ∷ ms) h = grind (arith, nat_tests, h, absent_used k p n ms)

absent_if : (k : ℕ) (o : Option ℕ) (n : ℕ) (ms : List Mark) → mark_at k ms ≡ None → mark_at k (use_if o n ms) ≡ None
absent_if k None n ms h = h
absent_if k (Some p) n ms h = absent_used k p n ms h

absent_gone : (k by p : ℕ) (ms : List Mark) → mark_at k ms ≡ None → mark_at k (go by p ms) ≡ None
absent_gone k by p [] h = refl
absent_gone k by p (m ∷ ms) h = grind (arith, nat_tests, h, absent_gone k by p ms)

absent_all : (k by : ℕ) (ps : List ℕ) (ms : List Mark) → mark_at k ms ≡ None → mark_at k (go_all by ps ms) ≡ None
absent_all k by [] ms h = h
absent_all k by (p ∷ ps) ms h = absent_all k by ps (go by p ms) (absent_gone k by p ms h)

pub absent_mark : (k : ℕ) (xs : List (Numbered KeptPage)) → page_at k (map page_of xs) ≡ None → mark_at k (map mark_of xs) ≡ None
absent_mark k [] h = refl
absent_mark k (x ∷ xs) h = grind (arith, nat_tests, h, absent_mark k xs)

module _ (ms : List Mark) (rising : IsRising number_of ms) (m : Mark) (o : Option ℕ) (gone : List ℕ) (absent : mark_at m.number ms ≡ None) (stays : m.gone ≡ None)
    (can : can_go gone (uses_of ms) ≡ true) where
  can_now : CanAllGo gone (use_if o m.number ms)
  can_now =
      let used = uses_if o m.number ms rising in
      let alike : can_go gone (used_in o m.number (uses_of ms)) ≡ can_go gone (uses_of ms) = go_alike gone (used_in o m.number (uses_of ms)) (uses_of ms) (used_in_pages o m.number (uses_of ms)) in
      all_go gone (use_if o m.number ms) (rising_if o m.number ms rising) (ap (can_go gone) used ∙ (alike ∙ can))

  pub shown_uses : uses_of (put_in_order number_of m (go_all m.number gone (use_if o m.number ms))) ≡ put_use (use_of m) (unless_gone gone (used_in o m.number (uses_of ms)))
  shown_uses =
      let now = use_if o m.number ms in
      let up = rising_if o m.number ms rising in
      let after = go_all m.number gone now in
      let new : mark_at m.number after ≡ None = absent_all m.number m.number gone now (absent_if m.number o m.number ms absent) in
      (marked after (rising_all m.number gone now up)).shown m new stays
      ∙ (ap (put_use (use_of m)) ((marked now up).gone m.number gone can_now)
      ∙ ap (λ (us : List Use). put_use (use_of m) (unless_gone gone us)) (uses_if o m.number ms rising))

  pub shown_evictions : evictions_of (put_in_order number_of m (go_all m.number gone (use_if o m.number ms))) ≡ evict m.number gone (evictions_of ms)
  shown_evictions =
      let now = use_if o m.number ms in
      let up = rising_if o m.number ms rising in
      let after = go_all m.number gone now in
      let new : mark_at m.number after ≡ None = absent_all m.number m.number gone now (absent_if m.number o m.number ms absent) in
      (marked after (rising_all m.number gone now up)).shown_evictions m new stays
      ∙ ((marked now up).gone_evictions m.number gone can_now
      ∙ ap (evict m.number gone) (evictions_if o m.number ms rising))

-- ---- uses one by one

-- where no page is, there is no mark
pub none_marked : (xs : List (Numbered KeptPage)) → map page_of xs ≡ [] → map mark_of xs ≡ []
none_marked [] e = refl
none_marked (x ∷ xs) e = absurd (let no : ⊥ = cc in no)

-- what holds of each page from a place on
module _ (f : Page → Bool) where
  pub all_but : (xs : List (Numbered KeptPage)) (k : ℕ) (x : Numbered KeptPage) → k < length xs → x ≡ get_or xs k x → f (page_of x) ≡ false → list_all f (map page_of (drop k xs)) ≡ false
  all_but [] k x h is e = absurd (omega arith)
  all_but (y ∷ ys) zero x h is e = grind (arith, is, e)
  all_but (y ∷ ys) (suc k) x h is e = all_but ys k x (omega arith) is e

  pub all_behind : (xs : List (Numbered KeptPage)) (k : ℕ) (x : Numbered KeptPage) → k < length xs → x ≡ get_or xs k x → f (page_of x) ≡ true
      → list_all f (map page_of (drop k xs)) ≡ list_all f (map page_of (drop (k + 1) xs))
  all_behind [] k x h is e = absurd (omega arith)
  all_behind (y ∷ ys) zero x h is e = grind (arith, is, e)
  all_behind (y ∷ ys) (suc k) x h is e =
      let next : suc k + 1 ≡ suc (k + 1) = omega arith in rw next (all_behind ys k x (omega arith) is e)
