-- What contracts see of a disk, and what its calls do to that.
use Rattle.std.specs.Prelude.{◌≡◌, ◌⊎◌, ℕ, Bool, ◌+◌, ◌<◌, ◌≤◌, List, ◌++◌, length, take, drop, slice_get, Some, OnErr, Result}
use Rattle.web_outside.specs.Causes.{Rose}

-- what contracts see of a disk
pub record View : Type 1 where
  -- what a read gives
  pub seen : List ℕ
  -- what a crash now may leave
  pub images : List ℕ → Type 0
  -- the moment, a number that does not fall
  pub moment : ℕ
  -- what a crash at some moment from this one on might have left
  pub since : ℕ → List ℕ → Type 0
  -- how often a device call has failed
  pub faults : ℕ
  -- for how many writes, cuts and syncs there is room, up to which length, and for how many bytes of pieces in all
  pub ready : ℕ
  pub end : ℕ
  pub left : ℕ

-- what contracts see of a rack
pub record RackView : Type 1 where
  -- what the disk of a number may hold when it is taken
  pub holds : ℕ → List ℕ → Type 0
  -- whether the disk of a number was taken and not given back
  pub out : ℕ → Bool
  -- how often a call failed, of the rack or of a disk that was given back, up to the type's end
  pub faults : ℕ
  -- how often a take of the disk of a number failed, or a call of that disk, which counts once it was given back
  pub failed : ℕ → ℕ
  -- the numbers of the disks that were asked for by a take, whatever it answered, in order
  pub asked : List ℕ

-- each image has this byte at this place
abbrev pub IsSure : (List ℕ → Type 0) → ℕ → ℕ → Type 0
IsSure images place byte = (image : List ℕ) → images image → slice_get image place ≡ Some byte

-- nothing but places from `low` up to `high`, and those past the images' ends, became unsure
abbrev pub Spoils : ℕ → ℕ → View → View → Type 0
Spoils low high old new = (place byte : ℕ) → (place < low) ⊎ (high ≤ place) → IsSure old.images place byte → IsSure new.images place byte

-- nothing but places from `len` on became unsure
abbrev pub Cuts : ℕ → View → View → Type 0
Cuts len old new = (place byte : ℕ) → place < len → IsSure old.images place byte → IsSure new.images place byte

-- a crash leaves this and nothing else
abbrev pub Only : List ℕ → View → Type 0
Only bytes view = (image : List ℕ) → view.images image → image ≡ bytes

-- each of these images is among those
abbrev pub AreAmong : (List ℕ → Type 0) → (List ℕ → Type 0) → Type 0
AreAmong these those = (image : List ℕ) → these image → those image

-- each image is one from before
abbrev pub NoNewImage : View → View → Type 0
NoNewImage old new = AreAmong new.images old.images

-- new is old with these bytes at this place
abbrev pub Holds : List ℕ → ℕ → List ℕ → List ℕ → Type 0
Holds old place bytes new = new ≡ take place old ++ bytes ++ drop (place + length bytes) old

-- time goes on: a crash since t might have left what it might have left before, or what it may leave now
pub record Elapses (old new : View) : Type 0 where
  pub later : old.moment ≤ new.moment
  pub nothing_else : (t : ℕ) (image : List ℕ) → t ≤ old.moment → new.since t image → old.since t image ⊎ new.images image
  pub keeps : (t : ℕ) (image : List ℕ) → t ≤ old.moment → old.since t image → new.since t image
  pub faults : old.faults ≤ new.faults

-- a crash at any moment since old leaves what has P
pub record LeavesOnly (old new : View) (P : List ℕ → Type 0) : Type 0 where
  pub later : old.moment ≤ new.moment
  pub each : (image : List ℕ) → new.since old.moment image → P image
  -- for a run that began earlier
  pub before : (t : ℕ) (image : List ℕ) → t ≤ old.moment → new.since t image → old.since t image ⊎ P image

-- a device call that takes a piece of this many bytes
pub record IsCall {T E : Type 0} (bytes : ℕ) (old new : View) (result : Result T E) : Type 0 where
  pub time : Elapses old new
  pub cause : OnErr result (Rose old.faults new.faults)
  pub end : old.end ≤ new.end
  pub ready : old.ready ≤ new.ready + 1
  pub left : old.left ≤ new.left + bytes
