-- Frames in the order in which they are kept.
use Rattle.std.proofs.Common.{◌≡◌, ℕ, ◌+◌, ◌<◌, List, [], ◌∷◌, ◌++◌, length, map, take, get_or, reverse, arith, length-append}
use Rattle.std.specs.List.{flat_map}
use Rattle.std.proofs.lemmas.List.{map_more, reverse-reverse}
use Rattle.machine_states.specs.declared.frame.Frame.{Frame}
use Rattle.machine_states.specs.Views.{frame_of, stack}
use Rattle.frame_codec.specs.Spelling.{frame_bytes}

flat_more : {A : Type 0} (spelled : A → List ℕ) (xs : List A) (x : A) → length (flat_map spelled (xs ++ x ∷ [])) ≡ length (flat_map spelled xs) + length (spelled x)
flat_more spelled [] x = omega (arith, length-append (spelled x) [])
flat_more spelled (y ∷ xs) x =
    omega (arith, flat_more spelled xs x, length-append (spelled y) (flat_map spelled (xs ++ x ∷ [])), length-append (spelled y) (flat_map spelled xs))

-- The spellings of one frame more are longer by its own spelling.
pub frames_more : (xs : List Frame) (i : ℕ) (d : Frame) → i < length xs
    → length (flat_map frame_bytes (map frame_of (take (i + 1) xs))) ≡ length (flat_map frame_bytes (map frame_of (take i xs))) + length (frame_bytes (frame_of (get_or xs i d)))
frames_more xs i d h = rw (map_more frame_of xs i d h) (flat_more frame_bytes (map frame_of (take i xs)) (frame_of (get_or xs i d)))

-- The frames of a stack are those that are kept, the last first.
pub kept_order : (fs : List Frame) → reverse (stack fs) ≡ map frame_of fs
kept_order fs = reverse-reverse (map frame_of fs)
