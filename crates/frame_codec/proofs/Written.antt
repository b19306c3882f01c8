-- What is written one after the other.
use Rattle.std.proofs.Common.{◌≡◌, ℕ, List, ◌++◌, ap, ◌∙◌, append_assoc}
use Rattle.std.specs.Prelude.{Result, Ok, Err, OnOk}

-- what holds of a success, where something else does
pub on_ok : {T E : Type 0} (r : Result T E) {P Q : Type 0} → (P → Q) → OnOk r P → OnOk r Q
on_ok (Ok x) f h = f h
on_ok (Err e) f h = tt

-- in two steps
pub in_two : (before first after front back : List ℕ) → first ≡ before ++ front → after ≡ first ++ back → after ≡ before ++ (front ++ back)
in_two before first after front back e f = f ∙ ap (λ (l : List ℕ). l ++ back) e ∙ append_assoc before front back

-- in three
pub in_three : (before first second after front middle back : List ℕ) → first ≡ before ++ front → second ≡ first ++ middle → after ≡ second ++ back
    → after ≡ before ++ (front ++ (middle ++ back))
in_three before first second after front middle back e f g =
    in_two before first after front (middle ++ back) e (in_two first second after middle back f g)
