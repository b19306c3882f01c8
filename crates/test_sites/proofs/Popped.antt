-- Passes that are popped off those that a site gave.
use Rattle.std.proofs.Common.{◌≡◌, ◌++◌, ◌∷◌, [], ℕ, zero, suc, List, Some, slice_get, length, subst}
use mathlib.Core.List.{IsPrefix}
use Rattle.shelf_lock.proofs.Closings.{prefix_at}
use Rattle.lock_row.proofs.Places.{one_of}
use Rattle.site.specs.declared.site.Site.{Site}
use Rattle.site.specs.Passes.{Spots}
use Rattle.site.specs.Sites.{IsOwn}
use Rattle.site.specs.Beginnings.{IsFirstPass}

pub own_in : {D N : Type 0} (site : Site D N) (given front : List (Spots D N)) (p : Spots D N) → ((k : ℕ) (q : Spots D N) → slice_get given k ≡ Some q → IsFirstPass site k q)
    → IsPrefix (front ++ p ∷ []) given → IsOwn site p
own_in site given front p all begins = (all (length front) p (prefix_at front given p begins)).own

-- both of two
pub own_both : {D N : Type 0} (site : Site D N) (a b : Spots D N) → IsOwn site a → IsOwn site b
    → (j : ℕ) (p : Spots D N) → slice_get (a ∷ b ∷ []) j ≡ Some p → IsOwn site p
own_both site a b own_a own_b zero p at = subst (λ q. IsOwn site q) (one_of at) own_a
own_both site a b own_a own_b (suc zero) p at = subst (λ q. IsOwn site q) (one_of at) own_b
own_both site a b own_a own_b (suc (suc j)) p at = absurd (let z : ⊥ = cc in z)
