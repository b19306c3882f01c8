-- How deep the values of a state nest, whose frames are kept in the other order.
use Rattle.std.proofs.Common.{◌≡◌, List, [], ◌∷◌, reverse, map, Bool, true, false, ◌&&◌, refl, ◌∙◌, ap}
use Rattle.std.specs.List.{list_all}
use Rattle.std.proofs.lemmas.Grind.{reverse_onto}
use Rattle.std.proofs.lemmas.List.Folds.{list_all-append}
use Rattle.machine_states.specs.declared.frame.Frame.{Frame}
use Rattle.machine_states.specs.Views.{frame_of, stack}
use Rattle.book_recovery.specs.JournalSpec.Lengths.{is_shallow_frame}

turned : (a b : Bool) → (a && (b && true)) ≡ (b && a)
turned true true = refl
turned true false = refl
turned false true = refl
turned false false = refl

all_turned : {X : Type 0} (p : X → Bool) (xs : List X) → list_all p (reverse xs) ≡ list_all p xs
all_turned p [] = refl
all_turned p (x ∷ xs) = ap (list_all p) (reverse_onto xs x []) ∙ (list_all-append p (reverse xs) (x ∷ []) ∙ (ap (λ (b : Bool). b && (p x && true)) (all_turned p xs) ∙ turned (list_all p xs) (p x)))

pub frames_shallow : (fs : List Frame) → list_all is_shallow_frame (stack fs) ≡ list_all is_shallow_frame (map frame_of fs)
frames_shallow fs = all_turned is_shallow_frame (map frame_of fs)
