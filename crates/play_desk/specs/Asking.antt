-- Which disks a rack is asked for, and in which order.
use Rattle.std.specs.Prelude.{◌≡◌, ◌<◌, ℕ, zero, suc, List, [], ◌++◌}
use mathlib.Core.List.{IsPrefix}
use Rattle.web_disk.specs.View.{RackView}
use Rattle.trio_rack.specs.Numbers.{three_numbers}
use Rattle.trio_rack.specs.Trios.{AreFirstOfThree}

-- the numbers of the three disks of each shelf below this one, shelf by shelf in order
abbrev pub numbers_below : ℕ → List ℕ
numbers_below zero = []
numbers_below (suc n) = numbers_below n ++ three_numbers n

-- no disk was asked for
abbrev pub AsksForNone : (old new : RackView) → Type 0
AsksForNone old new = new.asked ≡ old.asked

-- the three disks of this shelf were asked for, each once and in order, and no other
abbrev pub AsksForOne : (shelf : ℕ) → (old new : RackView) → Type 0
AsksForOne shelf old new = new.asked ≡ old.asked ++ three_numbers shelf

-- the disks of this shelf up to one of them were asked for, each once and in order, and no other
abbrev pub AsksForSome : (shelf : ℕ) → (old new : RackView) → Type 0
AsksForSome shelf old new = (numbers : List ℕ) × (AreFirstOfThree shelf numbers × (new.asked ≡ old.asked ++ numbers))

-- the disks of so many shelves were asked for, from number 0 on, each once and in order, and no other
abbrev pub AsksForFirst : (count : ℕ) → (old new : RackView) → Type 0
AsksForFirst count old new = new.asked ≡ old.asked ++ numbers_below count

-- of so many shelves, the disks of those before this one were asked for, each once and in order, then its own up to one of them, and no other
pub record AsksUntil (count shelf : ℕ) (old new : RackView) : Type 0 where
  pub low : shelf < count
  pub numbers : List ℕ
  pub first : AreFirstOfThree shelf numbers
  pub asked : new.asked ≡ old.asked ++ (numbers_below shelf ++ numbers)

-- a rack was asked for the disks of these numbers first, in this order
abbrev pub HasAsked : RackView → (front : List ℕ) → Type 0
HasAsked rack front = IsPrefix front rack.asked

-- the disks of so many shelves were asked for, from number 0 on and in order, before any was asked for again
abbrev pub AsksForAll : (count : ℕ) → (old new : RackView) → Type 0
AsksForAll count old new = HasAsked new (old.asked ++ numbers_below count)
