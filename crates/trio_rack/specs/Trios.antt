-- A rack whose disks are taken three at a time.
use Rattle.std.specs.Prelude.{◌≡◌, ◌≢◌, ◌⊎◌, ℕ, ◌+◌, ◌≤◌, Bool, true, false, ◌||◌, List, [], ◌∷◌, ◌++◌, Result, Ok, Err}
use Rattle.web_disk.specs.View.{RackView, AreAmong}
use Rattle.web_disk.specs.Takes.{failed_after}
use Rattle.web_disk.specs.declared.disk.Disk.{Ghosts}
use Rattle.web_disk.specs.declared.rack.RackFault.{RackFault}
use Rattle.disk_trio.specs.Naming.{names}
use Rattle.disk_trio.specs.Trio.{three_of, trio_view}
use Rattle.disk_trio.specs.declared.side.Side.TheVariants.{A, B}
use Rattle.disk_trio.specs.declared.trio.Disks.{Disks}
use Rattle.trio_rack.specs.Numbers.{file_number, root_number, is_shelf, number_behind, three_numbers, IsOneOfThree, IsNoneOf}

-- the disks of a shelf may hold a root, and these bytes in the file that it names
pub record HoldsTrio (rack : RackView) (shelf : ℕ) (image : List ℕ) : Type 0 where
  pub naming : List ℕ
  pub root : rack.holds (root_number shelf) naming
  pub file : rack.holds (file_number (names naming) shelf) image

-- what is held under a number that is a shelf's or not
abbrev pub held_by : (is_shelf : Bool) → RackView → (number : ℕ) → List ℕ → Type 0
held_by true rack n image = HoldsTrio rack n image
held_by false rack n image = rack.holds (number_behind n) image

-- whether one of the disks is out that a number stands for, which is a shelf's or not
abbrev pub out_by : (is_shelf : Bool) → RackView → (number : ℕ) → Bool
out_by true rack n = rack.out (file_number A n) || (rack.out (file_number B n) || rack.out (root_number n))
out_by false rack n = rack.out (number_behind n)

-- how often calls failed for the disks that a number stands for, which is a shelf's or not
abbrev pub failed_by : (is_shelf : Bool) → RackView → (number : ℕ) → ℕ
failed_by true rack n = rack.failed (file_number A n) + rack.failed (file_number B n) + rack.failed (root_number n)
failed_by false rack n = rack.failed (number_behind n)

-- What contracts see of a rack whose disks are taken three at a time: the three disks of a shelf are one disk of the number of the shelf, which
-- is out where one of them is. The disks after them have the numbers after those of the shelves. What was asked for is told by the
-- numbers of the disks themselves.
abbrev pub shelves_of : RackView → RackView
shelves_of rack = record {
  holds = λ n. held_by (is_shelf n) rack n;
  out = λ n. out_by (is_shelf n) rack n;
  faults = rack.faults;
  failed = λ n. failed_by (is_shelf n) rack n;
  asked = rack.asked;
}

-- each of three disks holds what the rack might hold under its number
pub record AreFrom {D : Type 0} {G : Ghosts D} (rack : RackView) (shelf : ℕ) (d : Disks D G) : Type 0 where
  pub a : AreAmong (G.view (three_of d).a).images (rack.holds (file_number A shelf))
  pub b : AreAmong (G.view (three_of d).b).images (rack.holds (file_number B shelf))
  pub root : AreAmong (G.view d.root).images (rack.holds (root_number shelf))

-- under each number of a shelf the rack may hold what one of three disks may leave, and nothing else
pub record AreGivenTo {D : Type 0} {G : Ghosts D} (rack : RackView) (shelf : ℕ) (d : Disks D G) : Type 0 where
  pub a : AreAmong (rack.holds (file_number A shelf)) (G.view (three_of d).a).images
  pub b : AreAmong (rack.holds (file_number B shelf)) (G.view (three_of d).b).images
  pub root : AreAmong (rack.holds (root_number shelf)) (G.view d.root).images

-- what each disk of a rack may hold it might hold before: nothing was written on any of them
abbrev pub LeavesAllDisks : (old new : RackView) → Type 0
LeavesAllDisks old new = (number : ℕ) → AreAmong (new.holds number) (old.holds number)

-- the three disks of a shelf may hold nothing
pub record MayBeBare (rack : RackView) (shelf : ℕ) : Type 0 where
  pub a : rack.holds (file_number A shelf) []
  pub b : rack.holds (file_number B shelf) []
  pub root : rack.holds (root_number shelf) []

-- what the disks of other shelves, and those after all shelves, may hold they might hold before
abbrev pub LeavesOtherDisks : (shelf : ℕ) → (old new : RackView) → Type 0
LeavesOtherDisks shelf old new = (number : ℕ) → IsNoneOf shelf number → AreAmong (new.holds number) (old.holds number)

-- one of the three disks of a shelf may hold some bytes
pub record MayHoldSome (rack : RackView) (shelf : ℕ) : Type 0 where
  pub number : ℕ
  pub its : IsOneOfThree shelf number
  pub image : List ℕ
  pub held : rack.holds number image
  pub some : image ≢ []

-- how often calls of three disks failed in all
abbrev pub sum_of_faults : {D : Type 0} {G : Ghosts D} → Disks D G → ℕ
sum_of_faults {G = G} d = (G.view d.current).faults + (G.view d.other).faults + (G.view d.root).faults

-- these are the numbers of the disks of a shelf up to one of them, in order
abbrev pub AreFirstOfThree : (shelf : ℕ) → (numbers : List ℕ) → Type 0
AreFirstOfThree shelf numbers =
    (numbers ≡ file_number A shelf ∷ []) ⊎ ((numbers ≡ file_number A shelf ∷ file_number B shelf ∷ []) ⊎ (numbers ≡ three_numbers shelf))

-- which disks a rack was asked for when those of a shelf were taken: all three in order, or those up to the one that was not taken
abbrev pub AsksForThree : {T E : Type 0} → (shelf : ℕ) → Result T E → (old new : RackView) → Type 0
AsksForThree shelf (Ok disks) old new = new.asked ≡ old.asked ++ three_numbers shelf
AsksForThree shelf (Err fault) old new = (numbers : List ℕ) × (AreFirstOfThree shelf numbers × (new.asked ≡ old.asked ++ numbers))

-- ---- shelves of a rack, each of whose three disks count as one

-- What three disks may hold, taken as one, a rack might hold for this shelf.
abbrev pub IsFrom : {D : Type 0} {G : Ghosts D} → RackView → (shelf : ℕ) → Disks D G → Type 0
IsFrom rack shelf d = AreAmong (trio_view d).images ((shelves_of rack).holds shelf)

-- What a rack may hold for this shelf three disks may hold, taken as one.
abbrev pub IsGivenTo : {D : Type 0} {G : Ghosts D} → RackView → (shelf : ℕ) → Disks D G → Type 0
IsGivenTo rack shelf d = AreAmong ((shelves_of rack).holds shelf) (trio_view d).images

-- What a rack may hold for each shelf it might hold before.
abbrev pub LeavesAllShelves : (old new : RackView) → Type 0
LeavesAllShelves old new = (n : ℕ) → AreAmong ((shelves_of new).holds n) ((shelves_of old).holds n)

-- What a rack may hold for each other shelf than this one it might hold before.
abbrev pub LeavesOtherShelves : (shelf : ℕ) → (old new : RackView) → Type 0
LeavesOtherShelves shelf old new = (n : ℕ) → n ≢ shelf → AreAmong ((shelves_of new).holds n) ((shelves_of old).holds n)

-- Each shelf whose disks were home has them home still, or again.
abbrev pub KeepsHome : (before after : RackView) → Type 0
KeepsHome before after = (number : ℕ) → (shelves_of before).out number ≡ false → (shelves_of after).out number ≡ false

-- Where the disks of a shelf were not taken for a fault, one failure more counts for it.
abbrev pub CountsTake : {T : Type 0} → (shelf : ℕ) → Result T RackFault → (old new : RackView) → Type 0
CountsTake shelf result old new = (shelves_of new).failed shelf ≡ failed_after result ((shelves_of old).failed shelf)

-- For each other shelf than this one as many failures count as before.
abbrev pub CountsNoOther : (shelf : ℕ) → (old new : RackView) → Type 0
CountsNoOther shelf old new = (n : ℕ) → n ≢ shelf → (shelves_of new).failed n ≡ (shelves_of old).failed n

-- The failures of calls of these three disks count for a shelf, each of them.
abbrev pub CountsEach : {D : Type 0} {G : Ghosts D} → (shelf : ℕ) → Disks D G → (old new : RackView) → Type 0
CountsEach shelf d old new = (shelves_of new).failed shelf ≡ (shelves_of old).failed shelf + sum_of_faults d

-- The failures of calls of these three disks, taken as one, count for a shelf.
abbrev pub CountsWhole : {D : Type 0} {G : Ghosts D} → (shelf : ℕ) → Disks D G → (old new : RackView) → Type 0
CountsWhole shelf d old new = (shelves_of old).failed shelf + (trio_view d).faults ≤ (shelves_of new).failed shelf
