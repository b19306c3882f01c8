-- The locks of a row, and what a pass knows at each.
use Rattle.std.specs.Prelude.{◌≡◌, ℕ, ◌+◌, ◌-◌, List, [], ◌∷◌, Some, slice_get, slice_set, map}
use Rattle.atomic_table.specs.Seated.{TableId}
use Rattle.shelf_lock.specs.declared.view.View.{View}

-- what a pass knows at one lock
pub record Spot (O E : Type 0) : Type 0 where
  pub table : TableId
  pub known : View O E

-- a lock of a row, with what a pass knows of its history
abbrev pub spot : {O E : Type 0} → TableId → View O E → Spot O E
spot table known = record { table = table; known = known }

-- a lock: its table, and the opening of its value, alone
pub record Home (O : Type 0) : Type 0 where
  pub table : TableId
  pub opening : List O

-- a lock of a row, with the opening of its value
abbrev pub home : {O : Type 0} → TableId → List O → Home O
home table opening = record { table = table; opening = opening }

-- a row: the locks in their order; how many callers have their pass, which are numbered from 0; and for how many more there are seats
pub record Homes (O : Type 0) : Type 0 where
  pub homes : List (Home O)
  pub seats : ℕ
  pub left : ℕ

-- one caller more has his pass
abbrev pub one_dealt : {O : Type 0} → Homes O → Homes O
one_dealt row = record { homes = row.homes; seats = row.seats + 1; left = row.left - 1 }

module _ {O E : Type 0} where
  -- the lock that a spot is at
  abbrev pub home_of : Spot O E → Home O
  home_of s = home s.table s.known.opening

  -- a pass has a seat at each of these locks, in their order
  abbrev pub IsAt : List (Home O) → List (Spot O E) → Type 0
  IsAt homes pass = map home_of pass ≡ homes

  -- a pass has a seat at each lock of a row, in their order
  abbrev pub IsOf : Homes O → List (Spot O E) → Type 0
  IsOf row pass = IsAt row.homes pass

  -- a note is of these locks, in their order
  abbrev pub IsNoteIn : Homes O → List (Spot O E) → Type 0
  IsNoteIn row note = map (λ (s : Spot O E). s.table) note ≡ map (λ (h : Home O). h.table) row.homes

  -- the pass goes on at this place alone
  abbrev pub At : ℕ → (View O E → View O E → Type 0) → List (Spot O E) → List (Spot O E) → Type 0
  At place R old new =
      (a : Spot O E) × (w : View O E) × (slice_get old place ≡ Some a) × (new ≡ slice_set old place (spot a.table w)) × R a.known w

-- the caller of the first seat, and 0 where there is none
abbrev pub caller_at : {O E : Type 0} → List (Spot O E) → ℕ
caller_at [] = 0
caller_at (s ∷ ss) = s.known.caller
