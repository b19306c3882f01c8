-- What stands in the order of its numbers, where one is put among others, changed, or left out.
use Rattle.std.proofs.Common.{◌≡◌, ◌<◌, ◌≤◌, ℕ, List, [], ◌∷◌, map, None, Bool, true, false, filter, refl, arith}
use Rattle.std.proofs.lemmas.Bool.Decides.{nat_tests}
use Rattle.replay_spec.specs.Book.{Instance, at_number}
use Rattle.replay_spec.specs.Change.{put_in_order, mend}
use Rattle.replay_spec.specs.Invariant.{AreAbove, IsRising}
use Rattle.replay_spec.proofs.Found.{KeepsNumber}

pub above_less : {A : Type 0} (number : A → ℕ) (m n : ℕ) (ys : List A) → m ≤ n → AreAbove number n ys → AreAbove number m ys
above_less number m n [] less h = tt
above_less number m n (y ∷ ys) less h = (omega (arith, less, h.0), above_less number m n ys less h.1)

pub above_put : {A : Type 0} (number : A → ℕ) (n : ℕ) (x : A) (ys : List A) → n < number x → AreAbove number n ys → AreAbove number n (put_in_order number x ys)
above_put number n x [] less h = (less, tt)
above_put number n x (y ∷ ys) less h = grind (arith, nat_tests, above_put number n x ys, h.0, h.1)

pub rising_put : {A : Type 0} (number : A → ℕ) (x : A) (ys : List A) → IsRising number ys → IsRising number (put_in_order number x ys)
rising_put number x [] h = (tt, tt)
rising_put number x (y ∷ ys) h =
    grind (arith, nat_tests, h.0, h.1, rising_put number x ys h.1, above_put number (number y) x ys, above_less number (number x) (number y) ys)

pub above_kept : {A : Type 0} (number : A → ℕ) (n : ℕ) (f : A → Bool) (ys : List A) → AreAbove number n ys → AreAbove number n (filter f ys)
above_kept number n f [] h = tt
above_kept number n f (y ∷ ys) h = grind (arith, h.0, above_kept number n f ys h.1)

pub rising_kept : {A : Type 0} (number : A → ℕ) (f : A → Bool) (ys : List A) → IsRising number ys → IsRising number (filter f ys)
rising_kept number f [] h = tt
rising_kept number f (y ∷ ys) h = grind (arith, rising_kept number f ys h.1, above_kept number (number y) f ys h.0)

above_mended : (n m : ℕ) (f : Instance → Instance) (is : List Instance) → KeepsNumber f → AreAbove (λ (i : Instance). i.number) m is → AreAbove (λ (i : Instance). i.number) m (mend n f is)
above_mended n m f [] same h = tt
above_mended n m f (i ∷ is) same h = grind (arith, nat_tests, h.0, h.1, same i, above_mended n m f is same h.1)

pub rising_mended : (n : ℕ) (f : Instance → Instance) (is : List Instance) → KeepsNumber f → IsRising (λ (i : Instance). i.number) is → IsRising (λ (i : Instance). i.number) (mend n f is)
rising_mended n f [] same h = tt
rising_mended n f (i ∷ is) same h = grind (arith, nat_tests, h.0, h.1, same i, rising_mended n f is same h.1, above_mended n i.number f is same h.0)

-- one that is below all others is put in front of them
pub put_front : {A : Type 0} (number : A → ℕ) (x : A) (ys : List A) → AreAbove number (number x) ys → put_in_order number x ys ≡ x ∷ ys
put_front number x [] h = refl
put_front number x (y ∷ ys) h = grind (arith, nat_tests, h.0)

-- what is left out before or after makes no difference to where it is put
pub kept_put : {A : Type 0} (number : A → ℕ) (f : A → Bool) (x : A) (ys : List A) → IsRising number ys → at_number number (number x) ys ≡ None → f x ≡ true
    → filter f (put_in_order number x ys) ≡ put_in_order number x (filter f ys)
kept_put number f x [] h none passes = grind arith
kept_put number f x (y ∷ ys) h none passes =
    let front : number x < number y → put_in_order number x (filter f ys) ≡ x ∷ filter f ys =
    λ less. put_front number x (filter f ys) (above_kept number (number x) f ys (above_less number (number x) (number y) ys (omega (arith, less)) h.0)) in
    grind (arith, nat_tests, kept_put number f x ys h.1, front)

pub left_put : {A : Type 0} (number : A → ℕ) (f : A → Bool) (x : A) (ys : List A) → at_number number (number x) ys ≡ None → f x ≡ false
    → filter f (put_in_order number x ys) ≡ filter f ys
left_put number f x [] none fails = grind arith
left_put number f x (y ∷ ys) none fails = grind (arith, nat_tests, left_put number f x ys)

-- a map that keeps numbers keeps where one is put
pub map_put : {A B : Type 0} (number : A → ℕ) (mark : B → ℕ) (g : A → B) (x : A) (ys : List A) → ((z : A) → mark (g z) ≡ number z)
    → map g (put_in_order number x ys) ≡ put_in_order mark (g x) (map g ys)
map_put number mark g x [] same = refl
map_put number mark g x (y ∷ ys) same = grind (arith, nat_tests, map_put number mark g x ys same, same x, same y)
