-- What a call of a disk in memory does to its images.
use Rattle.std.proofs.Common.{◌≡◌, ◌≢◌, ◌⊎◌, inl, inr, ℕ, zero, suc, ◌+◌, ◌-◌, ◌<◌, ◌≤◌, List, [], ◌∷◌, ◌++◌, length, take, drop, set, slice_get, Some, Bool, true, false, ◌||◌, ◌&&◌, nat_le, nat_lt, refl, sym, ◌∙◌, ap, subst, arith, length-append}
use Rattle.std.proofs.lemmas.List.{length-take-le}
use Rattle.std.proofs.lemmas.Bool.Decides.{nat_tests}
use Rattle.web_disk.specs.View.{IsSure, Spoils, Cuts, Only, NoNewImage}
use Rattle.web_disk.specs.Change.{Change, Content, Put, Torn, CutTo, Synced, span, changed, is_touched, IsImage}
use Rattle.web_disk.specs.Since.{seen_is_image}
use Rattle.web_disk.specs.Memory.{content_of, Adds, view_of}
use Rattle.web_disk.specs.declared.trace.Trace.{Trace}
use Rattle.web_disk.specs.declared.trace.Span.{Span}
use Rattle.web_disk.proofs.Sure.{slice_get_left, slice_get_right, slice_get_drop}
use Rattle.web_disk.proofs.Traces.{content_after}

set_same : (xs : List ℕ) (k b v : ℕ) → slice_get xs k ≡ Some b → slice_get (set xs k v) k ≡ Some v
set_same [] k b v here = absurd (cc here)
set_same (x ∷ xs) zero b v here = refl
set_same (x ∷ xs) (suc k) b v here = set_same xs k b v here

pub set_other : (xs : List ℕ) (k n b v : ℕ) → k ≢ n → slice_get xs n ≡ Some b → slice_get (set xs k v) n ≡ Some b
set_other [] k n b v other here = absurd (cc here)
set_other (x ∷ xs) zero zero b v other here = absurd (other refl)
set_other (x ∷ xs) zero (suc n) b v other here = here
set_other (x ∷ xs) (suc k) zero b v other here = here
set_other (x ∷ xs) (suc k) (suc n) b v other here = set_other xs k n b v (λ same. other (ap suc same)) here

-- a byte that was touched is not sure
other_byte : (c : Content) (k b : ℕ) → is_touched c.touched k ≡ true → slice_get c.seen k ≡ Some b → IsImage c (set c.seen k (suc b))
other_byte c k b touched here = record {
  whole = λ none. absurd (cc (sym (ap (λ (l : List Span). is_touched l k) none) ∙ touched));
  sure = λ n v safe there. set_other c.seen k n v (suc b) (λ same. absurd (cc (sym (ap (λ (m : ℕ). is_touched c.touched m) same) ∙ touched, safe))) there;
}

pub record WasSafe (c : Content) (k b : ℕ) : Type 0 where
  pub byte : slice_get c.seen k ≡ Some b
  pub safe : is_touched c.touched k ≡ false

was_safe : (c : Content) (k b : ℕ) → IsSure (IsImage c) k b → WasSafe c k b
was_safe c k b is_sure = cases (is_touched c.touched k) refl
  where
    byte : slice_get c.seen k ≡ Some b
    byte = is_sure c.seen (seen_is_image c c.seen refl)

    cases : (t : Bool) → is_touched c.touched k ≡ t → WasSafe c k b
    cases false is = record { byte = byte; safe = is }
    cases true is = absurd (omega (arith, same))
      where
        same : suc b ≡ b
        same = cc (sym (set_same c.seen k b (suc b) byte), is_sure (set c.seen k (suc b)) (other_byte c k b is byte))

nor_then : (a b c : Bool) → (a || b) ≡ false → (b ≡ false → c ≡ false) → (a || c) ≡ false
nor_then true b c none next = absurd (cc none)
nor_then false b c none next = next none

outside : (ranges : List Span) (low high k : ℕ) → (k < low) ⊎ (high ≤ k) → is_touched ranges k ≡ false → is_touched (ranges ++ span low high ∷ []) k ≡ false
outside [] low high k (inl below) none = grind (arith, nat_tests)
outside [] low high k (inr above) none = grind (arith, nat_tests)
outside (r ∷ ranges) low high k out none = nor_then (nat_le r.low k && nat_lt k r.high) (is_touched ranges k) (is_touched (ranges ++ span low high ∷ []) k) none (outside ranges low high k out)

pub slice_get_take : (xs : List ℕ) (n k : ℕ) → k < n → slice_get (take n xs) k ≡ slice_get xs k
slice_get_take xs zero k lt = absurd (omega arith)
slice_get_take [] (suc n) k lt = refl
slice_get_take (x ∷ xs) (suc n) zero lt = refl
slice_get_take (x ∷ xs) (suc n) (suc k) lt = slice_get_take xs n k (omega arith)

written_get : (xs : List ℕ) (place : ℕ) (piece : List ℕ) (k b : ℕ) → place ≤ length xs → (k < place) ⊎ (place + length piece ≤ k) → slice_get xs k ≡ Some b
    → slice_get (take place xs ++ piece ++ drop (place + length piece) xs) k ≡ Some b
written_get xs place piece k b le (inl below) here =
    slice_get_left (take place xs ++ piece) (drop (place + length piece) xs) k b (slice_get_left (take place xs) piece k b (slice_get_take xs place k below ∙ here))
written_get xs place piece k b le (inr above) here =
    let m = place + length piece in
    let front : length (take place xs ++ piece) ≡ m = omega (arith, length-append (take place xs) piece, length-take-le place xs le) in
    let same : m + (k - m) ≡ k = omega arith in
    slice_get_right (take place xs ++ piece) (drop m xs) k (k - m) (omega (arith, front))
    ∙ slice_get_drop xs m k (k - m) (sym same)
    ∙ here

new_image : (x : Change) (old new : Trace) (f g : ℕ) → Adds x old new → (image : List ℕ) → (view_of new g).images image → IsImage (changed x (content_of old)) image
new_image x old new f g adds image is = subst (λ (c : Content). IsImage c image) (content_after x old new adds) is

pub put_spoils : (place : ℕ) (piece : List ℕ) (old new : Trace) (f g : ℕ) → Adds (Put place piece) old new → old.bytes.items ≡ (content_of old).seen → place ≤ length old.bytes.items → Spoils place (place + length piece) (view_of old f) (view_of new g)
put_spoils place piece old new f g adds same le = λ k b out is_sure image left.
    let was = was_safe (content_of old) k b is_sure in
    (new_image (Put place piece) old new f g adds image left).sure k b (outside (content_of old).touched place (place + length piece) k out was.safe)
    (written_get (content_of old).seen place piece k b (subst (λ (l : List ℕ). place ≤ length l) same le) out was.byte)

pub torn_spoils : (low high : ℕ) (old new : Trace) (f g : ℕ) → Adds (Torn (span low high)) old new → Spoils low high (view_of old f) (view_of new g)
torn_spoils low high old new f g adds = λ k b out is_sure image left.
    let was = was_safe (content_of old) k b is_sure in
    (new_image (Torn (span low high)) old new f g adds image left).sure k b (outside (content_of old).touched low high k out was.safe) was.byte

pub torn_cuts : (len high : ℕ) (old new : Trace) (f g : ℕ) → Adds (Torn (span len high)) old new → Cuts len (view_of old f) (view_of new g)
torn_cuts len high old new f g adds = λ k b below. torn_spoils len high old new f g adds k b (inl below)

pub cut_cuts : (len : ℕ) (old new : Trace) (f g : ℕ) → Adds (CutTo len) old new → Cuts len (view_of old f) (view_of new g)
cut_cuts len old new f g adds = λ k b below is_sure image left.
    let was = was_safe (content_of old) k b is_sure in
    (new_image (CutTo len) old new f g adds image left).sure k b (outside (content_of old).touched len (length (content_of old).seen) k (inl below) was.safe) (slice_get_take (content_of old).seen len k below ∙ was.byte)

pub synced_only : (old new : Trace) (g : ℕ) → Adds Synced old new → old.bytes.items ≡ (content_of old).seen → Only old.bytes.items (view_of new g)
synced_only old new g adds same = λ image left. (new_image Synced old new g g adds image left).whole refl ∙ sym same

pub synced_no_new : (old new : Trace) (f g : ℕ) → Adds Synced old new → NoNewImage (view_of old f) (view_of new g)
synced_no_new old new f g adds = λ image left. seen_is_image (content_of old) image ((new_image Synced old new f g adds image left).whole refl)
