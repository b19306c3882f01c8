-- Things in the order of their numbers.
use Rattle.std.proofs.Common.{◌≡◌, ◌∙◌, ap, sym, subst, ℕ, zero, suc, ◌<◌, ◌≤◌, ◌==◌, not, take, List, [], ◌∷◌, length, get_or, set, filter, Some, None, Result, Ok, Err, IsOk, is_ok, slice_get, refl, arith, Bool, if◌then◌else◌, IfNone}
use Rattle.std.specs.Result.{result_ok}
use Rattle.std.specs.List.{AllByRecursion, insert, remove}
use Rattle.std.proofs.lemmas.Bool.Decides.{nat_tests}
use Rattle.journal_records.specs.ReplaySpec.Book.{at_number}
use Rattle.journal_records.specs.ReplaySpec.Change.{put_in_order}
use Rattle.journal_records.specs.ReplaySpec.Admission.{is_one}
use Rattle.instance_book.specs.declared.numbered.Numbered.{Numbered}
use Rattle.instance_book.specs.Orders.{Rises, IsAt, IsGap, Finds, numbers_of}
use Rattle.instance_book.proofs.Orders.{Ascends, rises, ascends, one_found, none_found, gap_has_none, first_absent, first_found, put_between, put_over, ascends_put, ascends_kept, length_numbers}

-- the thing that stands at a place
pub got : {A : Type 0} (xs : List A) (place : ℕ) (x : A) → place < length xs → x ≡ get_or xs place x → slice_get xs place ≡ Some x
got [] place x h e = absurd (omega arith)
got (y ∷ ys) zero x h e = ap Some (sym e)
got (y ∷ ys) (suc k) x h e = got ys k x (omega arith) e

-- what was done where it went well
pub done_if : {A X E : Type 0} (r : Result X E) (a b : List A) → IsOk r → (if is_ok r then a else b) ≡ a
done_if (Ok x) a b h = refl
done_if (Err e) a b h = grind arith

pub taken : {A : Type 0} (xs : List A) (n : ℕ) → length xs ≤ n → take n xs ≡ xs
taken [] zero h = refl
taken [] (suc n) h = refl
taken (x ∷ xs) zero h = absurd (omega arith)
taken (x ∷ xs) (suc n) h = ap (λ ys. x ∷ ys) (taken xs n (omega arith))

module _ {T : Type 0} where
  abbrev number : Numbered T → ℕ
  number x = x.number

  -- a search in what equals a list
  pub at_in : (ys xs : List (Numbered T)) (n place : ℕ) → ys ≡ xs → IsAt (numbers_of ys) n place → IsAt (numbers_of xs) n place
  at_in ys xs n place e at = subst (λ (zs : List (Numbered T)). IsAt (numbers_of zs) n place) e at

  pub gap_in : (ys xs : List (Numbered T)) (n place : ℕ) → ys ≡ xs → IsGap (numbers_of ys) n place → IsGap (numbers_of xs) n place
  gap_in ys xs n place e gap = subst (λ (zs : List (Numbered T)). IsGap (numbers_of zs) n place) e gap

  pub within : (xs : List (Numbered T)) (n place : ℕ) → IsAt (numbers_of xs) n place → place < length xs
  within xs n place at = subst (λ k. place < k) (length_numbers number xs) at.within

  -- the first of a number is at its place, or there is none
  pub first_at : (xs : List (Numbered T)) (n place : ℕ) (x : Numbered T) → Rises (numbers_of xs) → IsAt (numbers_of xs) n place → x ≡ get_or xs place x
      → at_number (λ thing. thing.number) n xs ≡ Some x
  first_at xs n place x rise at e = first_found number xs n place (ascends (numbers_of xs) rise) at ∙ got xs place x (within xs n place at) e

  pub none_at : (xs : List (Numbered T)) (n place : ℕ) → IsGap (numbers_of xs) n place → at_number (λ thing. thing.number) n xs ≡ None
  none_at xs n place gap = first_absent number xs n (gap_has_none (numbers_of xs) n place gap)

  -- whether there is one
  pub told : (xs : List (Numbered T)) (n : ℕ) (r : Result ℕ ℕ) → Finds (numbers_of xs) n r → is_ok r ≡ is_one n (numbers_of xs)
  told xs n (Ok at) f = sym (one_found (numbers_of xs) n at f.found)
  told xs n (Err at) f = sym (none_found (numbers_of xs) n (gap_has_none (numbers_of xs) n at f.absent))

  pub told_none : (xs : List (Numbered T)) (n : ℕ) (r : Result ℕ ℕ) → Finds (numbers_of xs) n r → IfNone (result_ok r) (at_number (λ thing. thing.number) n xs ≡ None)
  told_none xs n (Ok at) f = tt
  told_none xs n (Err at) f = none_at xs n at f.absent

  -- one more in its place
  pub put_at : (xs : List (Numbered T)) (x : Numbered T) (place : ℕ) → Rises (numbers_of xs) → IsAt (numbers_of xs) x.number place → set xs place x ≡ put_in_order (λ thing. thing.number) x xs
  put_at xs x place rise at = sym (put_over number xs x place (ascends (numbers_of xs) rise) at)

  pub put_in_gap : (xs : List (Numbered T)) (x : Numbered T) (place : ℕ) → IsGap (numbers_of xs) x.number place → insert xs place x ≡ put_in_order (λ thing. thing.number) x xs
  put_in_gap xs x place gap = sym (put_between number xs x place gap)

  pub rises_put : (xs : List (Numbered T)) (x : Numbered T) → Rises (numbers_of xs) → Rises (numbers_of (put_in_order number x xs))
  rises_put xs x rise = rises _ (ascends_put number x xs (ascends (numbers_of xs) rise))

  pub rises_kept : (p : Numbered T → Bool) (xs : List (Numbered T)) → Rises (numbers_of xs) → Rises (numbers_of (filter p xs))
  rises_kept p xs rise = rises _ (ascends_kept number p xs (ascends (numbers_of xs) rise))

  -- all but the one of a number
  dropped_behind : (xs : List (Numbered T)) (n : ℕ) → AllByRecursion (λ m. n < m) (numbers_of xs) → filter (λ thing. not (thing.number == n)) xs ≡ xs
  dropped_behind [] n all = refl
  dropped_behind (x ∷ xs) n all = grind (arith, nat_tests, all.0, dropped_behind xs n all.1)

  dropped : (xs : List (Numbered T)) (n place : ℕ) → Ascends (numbers_of xs) → IsAt (numbers_of xs) n place → filter (λ thing. not (thing.number == n)) xs ≡ remove xs place
  dropped [] n place a at = absurd (omega (arith, at.within))
  dropped (x ∷ xs) n zero a at =
      let behind : AllByRecursion (λ m. n < m) (numbers_of xs) = subst (λ k. AllByRecursion (λ m. k < m) (numbers_of xs)) at.here a.0 in
      grind (arith, nat_tests, at.here, dropped_behind xs n behind)
  dropped (x ∷ xs) n (suc k) a at =
      let less : x.number < n = subst (λ m. x.number < m) at.here (rises (numbers_of (x ∷ xs)) a 0 (suc k) (omega arith) at.within) in
      grind (arith, nat_tests, dropped xs n k a.1 (record { within = omega (arith, at.within); here = at.here }))

  pub dropped_at : (xs : List (Numbered T)) (n place : ℕ) → Rises (numbers_of xs) → IsAt (numbers_of xs) n place → remove xs place ≡ filter (λ thing. not (thing.number == n)) xs
  dropped_at xs n place rise at = sym (dropped xs n place (ascends (numbers_of xs) rise) at)

  dropped_other : (xs : List (Numbered T)) (n : ℕ) → ((k : ℕ) → k < length (numbers_of xs) → get_or (numbers_of xs) k 0 ≡ n → ⊥) → filter (λ thing. not (thing.number == n)) xs ≡ xs
  dropped_other [] n other = refl
  dropped_other (x ∷ xs) n other = grind (arith, nat_tests, other 0 (omega arith), dropped_other xs n (λ k h. other (suc k) (omega arith)))

  pub dropped_none : (xs : List (Numbered T)) (n place : ℕ) → IsGap (numbers_of xs) n place → xs ≡ filter (λ thing. not (thing.number == n)) xs
  dropped_none xs n place gap = sym (dropped_other xs n (gap_has_none (numbers_of xs) n place gap))
