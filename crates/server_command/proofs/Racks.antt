-- What disks hold when they are taken.
use Rattle.std.proofs.Common.{◌≡◌, ◌+◌, ◌++◌, ◌∷◌, ◌∙◌, ℕ, List, [], length, Option, None, refl, ap, subst, arith}
use Rattle.server_command.specs.Racks.{AreHeld, Unfit, found_unfit, first_unfit}
use Rattle.server_command.specs.Command.{AreFit}

-- one disk more
pub held_more : (holds : ℕ → List ℕ → Type 0) (k n : ℕ) (images : List (List ℕ)) (image : List ℕ) → k + length images ≡ n → AreHeld holds k images → holds n image
    → AreHeld holds k (images ++ image ∷ [])
held_more holds k n [] image is held here = (let same : n ≡ k = omega (arith, is) in subst (λ m. holds m image) same here, tt)
held_more holds k n (i ∷ images) image is held here = (held.0, held_more holds (k + 1) n images image (omega (arith, is)) held.1 here)

-- where each may be opened, none is unfit
pub fit_opens : (unfit : ℕ → List ℕ → Option Unfit) (holds : ℕ → List ℕ → Type 0) (k : ℕ) (images : List (List ℕ)) → AreFit unfit holds → AreHeld holds k images
    → first_unfit unfit k images ≡ None
fit_opens unfit holds k [] fit held = refl
fit_opens unfit holds k (image ∷ images) fit held =
    ap (λ why. found_unfit k why (first_unfit unfit (k + 1) images)) (fit k image held.0) ∙ fit_opens unfit holds (k + 1) images fit held.1
