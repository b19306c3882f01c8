-- Values on their way behind locks, and seats on their way to callers.
use Rattle.std.specs.Prelude.{◌≡◌, ℕ, ◌+◌, ◌≤◌, List, [], ◌∷◌, ◌++◌, length, map, reverse, Some, slice_get, vec_len}
use Rattle.std.specs.Global.{Vec}
use Rattle.std.specs.List.{AllZip}
use Rattle.atomic_table.specs.Seated.{TableId}
use Rattle.shelf_lock.specs.declared.kept.Kept.{Ghosts}
use Rattle.shelf_lock.specs.declared.rule.Start.{Start}
use Rattle.lock_row.specs.Spots.{Spot, Home, home, home_of}
use Rattle.lock_row.specs.Rows.{IsFresh, ComesBack, IsNewFor, IsNewPass}

-- a lock, what it was made with, and the seats of all its callers
pub record Held (S O E : Type 0) : Type 0 where
  pub table : TableId
  pub start : Start S
  pub spots : List (Spot O E)

-- seats of one caller, and room for so many more
pub record Seats (O E : Type 0) : Type 0 where
  pub spots : List (Spot O E)
  pub room : ℕ

-- the value that a lock was made with
abbrev pub first_value : {S O E : Type 0} → Held S O E → S
first_value h = h.start.value.value

module _ {O E : Type 0} where
  -- there are the columns of so many callers, each without a seat and with room for so many
  abbrev pub AreEmpty : (seats places : ℕ) → List (Seats O E) → Type 0
  AreEmpty seats places columns =
      (length columns ≡ seats) × ((k : ℕ) (c : Seats O E) → slice_get columns k ≡ Some c → (c.spots ≡ []) × (places ≤ c.room))

  -- the columns of a vector are those of so many callers, each without a seat and with room for so many
  abbrev pub AreColumns : (seats places : ℕ) → Vec (Seats O E) → Type 0
  AreColumns seats places columns = AreEmpty seats places columns.items × (vec_len columns ≡ seats)

  -- the column has one seat more, in the room that it had
  abbrev pub Extends : Spot O E → Seats O E → Seats O E → Type 0
  Extends s a b = (b.spots ≡ a.spots ++ s ∷ []) × (b.room + 1 ≡ a.room)

  -- each caller has a seat at each of these locks, has seen nothing, and has room for so many seats more
  abbrev pub AreDealt : List (Home O) → (places : ℕ) → List (Seats O E) → Type 0
  AreDealt homes places columns =
      (k : ℕ) (c : Seats O E) → slice_get columns k ≡ Some c
      → (map (λ (s : Spot O E). home_of s) c.spots ≡ homes) × IsNewPass k c.spots × (places ≤ c.room)

module _ {S O E : Type 0} (g : Ghosts S O E) where
  -- where a lock is, and what its value was opened as
  abbrev pub home_in : Held S O E → Home O
  home_in h = home h.table (g.opening (first_value h) ∷ [])

  -- a lock that was just made, with the seat of each of its callers
  pub record IsHeld (seats : ℕ) (h : Held S O E) : Type 0 where
    pub fresh : IsFresh g (first_value h)
    pub callers : h.start.seats ≡ seats
    pub many : length h.spots ≡ seats
    pub each : (k : ℕ) (s : Spot O E) → slice_get h.spots k ≡ Some s → (home_of s ≡ home_in h) × IsNewFor k s

  -- each of these values is behind a lock that was just made, with a pass for each caller
  abbrev pub AreHeld : (seats : ℕ) → List (Held S O E) → Type 0
  AreHeld seats hs = (k : ℕ) (h : Held S O E) → slice_get hs k ≡ Some h → IsHeld seats h

  -- all these values are behind locks that were just made, that of the last value first
  abbrev pub HoldsAll : (seats : ℕ) → List S → List (Held S O E) → Type 0
  HoldsAll seats xs hs = AreHeld seats hs × (reverse (map first_value hs) ≡ xs)

  -- the values of these locks came back and stand at the end of the list, that of the last lock first
  abbrev pub PutsBack : List (Held S O E) → (old new : List S) → Type 0
  PutsBack hs old new = (back : List S) × (new ≡ old ++ back) × AllZip (ComesBack g) (reverse (map first_value hs)) back

  -- each of these values came back in its place, as nothing had been done
  abbrev pub AllComeBack : Vec S → Vec S → Type 0
  AllComeBack old new = AllZip (ComesBack g) old.items new.items × (vec_len new ≡ vec_len old)
