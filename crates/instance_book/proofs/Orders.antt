-- Rising numbers: searching, and the first of a number among things in the order of their numbers.
use Rattle.std.proofs.Common.{◌≡◌, ◌∙◌, ap, sym, subst, ℕ, zero, suc, ◌<◌, ◌≤◌, List, [], ◌∷◌, length, get_or, set, map, filter, None, slice_get, Result, Ok, Err, refl, arith, Bool, true, false}
use Rattle.std.specs.List.{AllByRecursion, insert}
use Rattle.std.specs.List.Sorted.{IsSearchInRange, IsBinarySearchResult, IsNonDecreasingBy}
use Rattle.std.specs.Ordering.{nat_cmp, ordering_index}
use Rattle.std.proofs.lemmas.Cmp.{ranked}
use Rattle.std.proofs.lemmas.List.Sorted.{IsNonDecreasingBy-from_default}
use Rattle.std.proofs.lemmas.Bool.Decides.{nat_tests}
use Rattle.journal_records.specs.ReplaySpec.Book.{at_number}
use Rattle.journal_records.specs.ReplaySpec.Change.{put_in_order}
use Rattle.journal_records.specs.ReplaySpec.Admission.{is_one}
use Rattle.instance_book.specs.Orders.{Rises, IsAt, IsGap, Finds}

-- the same by recursion
abbrev pub Ascends : List ℕ → Type 0
Ascends [] = Unit {0}
Ascends (n ∷ ns) = AllByRecursion (λ m. n < m) ns × Ascends ns

behind_first : (n : ℕ) (ns : List ℕ) (k : ℕ) → AllByRecursion (λ m. n < m) ns → k < length ns → n < get_or ns k 0
behind_first n [] k all h = absurd (omega arith)
behind_first n (m ∷ ns) zero all h = all.0
behind_first n (m ∷ ns) (suc k) all h = behind_first n ns k all.1 (omega arith)

pub rises : (ns : List ℕ) → Ascends ns → Rises ns
rises [] a i j h k = absurd (omega arith)
rises (n ∷ ns) a zero zero h k = absurd (omega arith)
rises (n ∷ ns) a zero (suc j) h k = behind_first n ns j a.0 (omega arith)
rises (n ∷ ns) a (suc i) zero h k = absurd (omega arith)
rises (n ∷ ns) a (suc i) (suc j) h k = rises ns a.1 i j (omega arith) (omega arith)

all_behind : (n : ℕ) (ns : List ℕ) → ((k : ℕ) → k < length ns → n < get_or ns k 0) → AllByRecursion (λ m. n < m) ns
all_behind n [] h = tt
all_behind n (m ∷ ns) h = (h 0 (omega arith), all_behind n ns (λ k l. h (suc k) (omega arith)))

pub ascends : (ns : List ℕ) → Rises ns → Ascends ns
ascends [] r = tt
ascends (n ∷ ns) r = (all_behind n ns (λ k l. r 0 (suc k) (omega arith) (omega arith)), ascends ns (λ i j h l. r (suc i) (suc j) (omega arith) (omega arith)))

-- a number at a place
pub number_at : {A : Type 0} (number : A → ℕ) (xs : List A) (k : ℕ) (d : A) → k < length xs → get_or (map number xs) k 0 ≡ number (get_or xs k d)
number_at number [] k d h = absurd (omega arith)
number_at number (x ∷ xs) zero d h = refl
number_at number (x ∷ xs) (suc k) d h = number_at number xs k d (omega arith)

pub length_numbers : {A : Type 0} (number : A → ℕ) (xs : List A) → length (map number xs) ≡ length xs
length_numbers number [] = refl
length_numbers number (x ∷ xs) = ap suc (length_numbers number xs)

-- a search among things in the order of their numbers ends where the number is, or at the gap for it
pub searched_by : {A : Type 0} (number : A → ℕ) (xs : List A) → Rises (map number xs) → (n : ℕ) (r : Result ℕ ℕ) → IsSearchInRange r (length xs)
    → IsBinarySearchResult (λ x. nat_cmp (number x) n) xs r → Finds (map number xs) n r
searched_by number [] rise n (Ok at) within equal = absurd (omega arith)
searched_by number [] rise n (Err at) within parted =
    record { found = tt; absent = record { within = within; lower = λ k h. absurd (omega arith); greater = λ k le h. absurd (omega arith) } }
searched_by number (x ∷ xs) rise n (Ok at) within equal =
    let here = number_at number (x ∷ xs) at x within in
    record { found = record { within = rw (length_numbers number (x ∷ xs)) within; here = here ∙ ranked _ n _ (sym (equal x)) }; absent = tt }
searched_by number (x ∷ xs) rise n (Err at) within parted =
    let long = length_numbers number (x ∷ xs) in
    let rising : IsNonDecreasingBy (λ y. ordering_index (nat_cmp (number y) n)) (x ∷ xs) =
    IsNonDecreasingBy-from_default (λ y. ordering_index (nat_cmp (number y) n)) (x ∷ xs) x (λ i j le in_range.
    let first = number_at number (x ∷ xs) i x (omega arith) in
    let second = number_at number (x ∷ xs) j x in_range in
    let less : i < j → get_or (map number (x ∷ xs)) i 0 < get_or (map number (x ∷ xs)) j 0 = λ h. rise i j h (rw long in_range) in
    let keys_rise : number (get_or (x ∷ xs) i x) ≤ number (get_or (x ∷ xs) j x) = grind (arith, first, second, less, λ (same : i ≡ j). ap (λ k. get_or (x ∷ xs) k x) same) in
    grind (arith, nat_tests)) in
    record {
      found = tt;
      absent = record {
        within = rw long within;
        lower = λ k h. rw (number_at number (x ∷ xs) k x (omega arith)) (ranked _ n _ (sym ((parted rising).0 k x (omega arith) h)));
        greater = λ k le h. rw (number_at number (x ∷ xs) k x (omega (arith, long))) (ranked _ n _ (sym ((parted rising).1 k x le (omega (arith, long)))));
      };
    }

-- whether a number is one of some
pub one_found : (ns : List ℕ) (n place : ℕ) → IsAt ns n place → is_one n ns ≡ true
one_found [] n place at = absurd (omega (arith, at.within))
one_found (m ∷ ns) n zero at = grind (arith, nat_tests, at.here)
one_found (m ∷ ns) n (suc k) at = grind (arith, nat_tests, one_found ns n k (record { within = omega (arith, at.within); here = at.here }))

pub none_found : (ns : List ℕ) (n : ℕ) → ((k : ℕ) → k < length ns → get_or ns k 0 ≡ n → ⊥) → is_one n ns ≡ false
none_found [] n other = refl
none_found (m ∷ ns) n other = grind (arith, nat_tests, other 0 (omega arith), none_found ns n (λ k h. other (suc k) (omega arith)))

-- no number of a gap is there
pub gap_has_none : (ns : List ℕ) (n place : ℕ) → IsGap ns n place → (k : ℕ) → k < length ns → get_or ns k 0 ≡ n → ⊥
gap_has_none ns n place gap k h same = grind (arith, gap.lower k, gap.greater k)

module _ {A : Type 0} (number : A → ℕ) where
  -- the first thing of a number
  pub first_absent : (xs : List A) (n : ℕ) → ((k : ℕ) → k < length (map number xs) → get_or (map number xs) k 0 ≡ n → ⊥) → at_number number n xs ≡ None
  first_absent [] n other = refl
  first_absent (x ∷ xs) n other = grind (arith, nat_tests, other 0 (omega arith), first_absent xs n (λ k h. other (suc k) (omega arith)))

  pub first_found : (xs : List A) (n place : ℕ) → Ascends (map number xs) → IsAt (map number xs) n place → at_number number n xs ≡ slice_get xs place
  first_found [] n place a at = absurd (omega (arith, at.within))
  first_found (x ∷ xs) n zero a at = grind (arith, nat_tests, at.here)
  first_found (x ∷ xs) n (suc k) a at =
      let before : number x < n = subst (λ m. number x < m) at.here (behind_first (number x) (map number xs) k a.0 (omega (arith, at.within))) in
      grind (arith, nat_tests, first_found xs n k a.1 (record { within = omega (arith, at.within); here = at.here }))

  -- one more in its place
  pub put_between : (xs : List A) (x : A) (place : ℕ) → IsGap (map number xs) (number x) place → put_in_order number x xs ≡ insert xs place x
  put_between [] x zero gap = refl
  put_between [] x (suc k) gap = absurd (omega (arith, gap.within))
  put_between (y ∷ ys) x zero gap = grind (arith, nat_tests, gap.greater 0 (omega arith) (omega arith))
  put_between (y ∷ ys) x (suc k) gap =
      let rest : IsGap (map number ys) (number x) k = record { within = omega (arith, gap.within); lower = λ j h. gap.lower (suc j) (omega arith); greater = λ j le h. gap.greater (suc j) (omega arith) (omega arith) } in
      grind (arith, nat_tests, gap.lower 0 (omega arith), put_between ys x k rest)

  pub put_over : (xs : List A) (x : A) (place : ℕ) → Ascends (map number xs) → IsAt (map number xs) (number x) place → put_in_order number x xs ≡ set xs place x
  put_over [] x place a at = absurd (omega (arith, at.within))
  put_over (y ∷ ys) x zero a at = grind (arith, nat_tests, at.here)
  put_over (y ∷ ys) x (suc k) a at =
      let before : number y < number x = subst (λ m. number y < m) at.here (behind_first (number y) (map number ys) k a.0 (omega (arith, at.within))) in
      grind (arith, nat_tests, put_over ys x k a.1 (record { within = omega (arith, at.within); here = at.here }))

  all_put : (n : ℕ) (x : A) (xs : List A) → n < number x → AllByRecursion (λ m. n < m) (map number xs) → AllByRecursion (λ m. n < m) (map number (put_in_order number x xs))
  all_put n x [] h all = (h, tt)
  all_put n x (y ∷ ys) h all = grind (arith, nat_tests, all.0, all.1, all_put n x ys h all.1)

  all_lower : (m n : ℕ) (ns : List ℕ) → m < n → AllByRecursion (λ k. n < k) ns → AllByRecursion (λ k. m < k) ns
  all_lower m n [] h all = tt
  all_lower m n (k ∷ ns) h all = (omega (arith, all.0), all_lower m n ns h all.1)

  pub ascends_put : (x : A) (xs : List A) → Ascends (map number xs) → Ascends (map number (put_in_order number x xs))
  ascends_put x [] a = (tt, tt)
  ascends_put x (y ∷ ys) a = grind (arith, nat_tests, a.0, a.1, all_lower (number x) (number y) (map number ys), all_put (number y) x ys, ascends_put x ys a.1)

  all_kept : (p : A → Bool) (n : ℕ) (xs : List A) → AllByRecursion (λ m. n < m) (map number xs) → AllByRecursion (λ m. n < m) (map number (filter p xs))
  all_kept p n [] all = tt
  all_kept p n (x ∷ xs) all = grind (arith, nat_tests, all.0, all.1, all_kept p n xs all.1)

  pub ascends_kept : (p : A → Bool) (xs : List A) → Ascends (map number xs) → Ascends (map number (filter p xs))
  ascends_kept p [] a = tt
  ascends_kept p (x ∷ xs) a = grind (arith, nat_tests, a.0, a.1, all_kept p (number x) xs a.0, ascends_kept p xs a.1)
