-- What a chosen crash leaves is one of the images.
use Rattle.std.proofs.Common.{◌≡◌, ℕ, zero, suc, ◌+◌, ◌<◌, ◌≤◌, List, [], ◌∷◌, length, take, slice_get, ◌≢◌, Some, Bool, true, false, ◌&&◌, nat_le, if◌then◌else◌, refl, sym, ◌∙◌, ap, subst, arith}
use Rattle.std.proofs.lemmas.Option.{slice_get_within}
use Rattle.std.proofs.lemmas.List.{length-take-le}
use Rattle.web_disk.specs.Change.{Content, is_touched, IsImage}
use Rattle.web_disk.specs.Wrecks.{is_lost, sound_end, end_of, IsFilled, IsLeft}
use Rattle.web_disk.specs.declared.trace.Span.{Span}
use Rattle.web_disk.proofs.Images.{slice_get_take}
use Rattle.web_disk.specs.declared.wreck.Wreck.{Wreck}

-- equal at each place
same_places : (xs ys : List ℕ) → length xs ≡ length ys → ((k : ℕ) → k < length xs → slice_get xs k ≡ slice_get ys k) → xs ≡ ys
same_places [] [] long each = refl
same_places [] (y ∷ ys) long each = absurd (omega arith)
same_places (x ∷ xs) [] long each = absurd (omega arith)
same_places (x ∷ xs) (y ∷ ys) long each =
    let first : x ≡ y = cc (each zero (omega arith)) in
    let rest = same_places xs ys (omega arith) (λ k lt. each (suc k) (omega arith)) in
    λ i. first i ∷ rest i

below_either : (b : Bool) (k n m : ℕ) → (b ≡ true → k < m) → (b ≡ false → k < n + 1) → k < (if b then m else n + 1)
below_either true k n m lost safe = lost refl
below_either false k n m lost safe = safe refl

other_place : (wreck : Wreck) (touched : List Span) (n k : ℕ) → is_lost wreck touched n ≡ true → is_lost wreck touched k ≡ false → k ≡ n → ⊥
other_place wreck touched n k lost safe same = cc (sym (ap (λ (m : ℕ). is_lost wreck touched m) same) ∙ safe, lost)

-- a place that is not lost is in front of the end
sound_within : (wreck : Wreck) (touched : List Span) (n k : ℕ) → k < n → is_lost wreck touched k ≡ false → k < sound_end wreck touched n
sound_within wreck touched zero k lt safe = absurd (omega arith)
sound_within wreck touched (suc n) k lt safe =
    below_either (is_lost wreck touched n) k n (sound_end wreck touched n)
    (λ lost. let other : k ≢ n = other_place wreck touched n k lost safe in sound_within wreck touched n k (omega (arith, lt, other)) safe)
    (λ _. omega (arith, lt))

at_most_either : (b : Bool) (n m : ℕ) → m ≤ n → (if b then m else n + 1) ≤ n + 1
at_most_either true n m le = omega arith
at_most_either false n m le = omega arith

sound_at_most : (wreck : Wreck) (touched : List Span) (n : ℕ) → sound_end wreck touched n ≤ n
sound_at_most wreck touched zero = omega arith
sound_at_most wreck touched (suc n) = let le = at_most_either (is_lost wreck touched n) n (sound_end wreck touched n) (sound_at_most wreck touched n) in omega (arith, le)

nothing_lost : (wreck : Wreck) (n : ℕ) → sound_end wreck [] n ≡ n
nothing_lost wreck zero = refl
nothing_lost wreck (suc n) = omega arith

within : (wreck : Wreck) (touched : List Span) (n k : ℕ) → k < n → is_lost wreck touched k ≡ false → k < end_of wreck touched n
within wreck touched n k lt safe = cases wreck.short
  where
    cases : (b : Bool) → k < (if b then sound_end wreck touched n else n)
    cases false = lt
    cases true = sound_within wreck touched n k lt safe

end_at_most : (wreck : Wreck) (touched : List Span) (n : ℕ) → end_of wreck touched n ≤ n
end_at_most wreck touched n = cases wreck.short
  where
    cases : (b : Bool) → (if b then sound_end wreck touched n else n) ≤ n
    cases false = omega arith
    cases true = sound_at_most wreck touched n

all_within : (wreck : Wreck) (n : ℕ) → end_of wreck [] n ≡ n
all_within wreck n = cases wreck.short
  where
    cases : (b : Bool) → (if b then sound_end wreck [] n else n) ≡ n
    cases false = refl
    cases true = nothing_lost wreck n

not_touched_not_lost : (wreck : Wreck) (touched : List Span) (k : ℕ) → is_touched touched k ≡ false → is_lost wreck touched k ≡ false
not_touched_not_lost wreck touched k safe = ap (λ (b : Bool). b && nat_le wreck.reached k) safe

-- the front of what is filled, up to the last place that is not lost
pub front_is_left : (wreck : Wreck) (touched : List Span) (old filled new : List ℕ) → IsFilled wreck touched old filled → new ≡ take (end_of wreck touched (length old)) filled → IsLeft wreck touched old new
front_is_left wreck touched old filled new is front =
    let end = end_of wreck touched (length old) in
    let le : end ≤ length filled = subst (λ (n : ℕ). end ≤ n) (sym is.long) (end_at_most wreck touched (length old)) in
    let long : length new ≡ end = ap length front ∙ length-take-le end filled le in
    let there : (k : ℕ) → k < length new → slice_get new k ≡ slice_get filled k =
    λ k lt. ap (λ (l : List ℕ). slice_get l k) front ∙ slice_get_take filled end k (omega (arith, lt, long)) in
    record {
      long = long;
      lost = λ k lt lost. there k lt ∙ is.lost k (omega (arith, lt, long, le, is.long)) lost;
      kept = λ k lt safe. there k lt ∙ is.kept k safe;
    }

pub left_is_image : (wreck : Wreck) (c : Content) (touched : List Span) (seen image : List ℕ) → touched ≡ c.touched → seen ≡ c.seen → IsLeft wreck touched seen image → IsImage c image
left_is_image wreck c touched seen image is_touched_same is_seen left = record {
  whole = λ none.
      let nothing : touched ≡ [] = is_touched_same ∙ none in
      let long : length image ≡ length seen = left.long ∙ ap (λ (l : List Span). end_of wreck l (length seen)) nothing ∙ all_within wreck (length seen) in
      same_places image seen long (λ k lt. left.kept k lt (ap (λ (l : List Span). is_lost wreck l k) nothing)) ∙ is_seen;
  sure = λ k b safe here.
      let there : slice_get seen k ≡ Some b = ap (λ (l : List ℕ). slice_get l k) is_seen ∙ here in
      let not_lost : is_lost wreck touched k ≡ false = not_touched_not_lost wreck touched k (ap (λ (l : List Span). is_touched l k) is_touched_same ∙ safe) in
      left.kept k (subst (λ (n : ℕ). k < n) (sym left.long) (within wreck touched (length seen) k (slice_get_within seen k b there) not_lost)) not_lost ∙ there;
}
