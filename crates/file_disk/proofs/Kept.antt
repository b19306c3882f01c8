-- A list that grows at its end keeps its elements.
use Rattle.std.proofs.Common.{◌≡◌, ℕ, zero, suc, List, [], ◌∷◌, ◌++◌, Some, slice_get}

pub stays_there : {X : Type 0} (xs ys : List X) (n : ℕ) (there : X) → slice_get xs n ≡ Some there → slice_get (xs ++ ys) n ≡ Some there
stays_there [] ys n there is = absurd (cc is)
stays_there (x ∷ xs) ys zero there is = is
stays_there (x ∷ xs) ys (suc n) there is = stays_there xs ys n there is
