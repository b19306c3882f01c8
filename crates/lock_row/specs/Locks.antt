-- Locks and their seats, as the vectors of a row keep them.
use Rattle.std.specs.Prelude.{◌≡◌, ◌≤◌, ◌<◌, ◌+◌, ◌^◌, ℕ, List, [], ◌∷◌, map, length, Some, slice_get, vec_len, vec_capacity}
use Rattle.std.specs.Global.{Vec}
use Rattle.shelf_lock.specs.declared.kept.Kept.{Ghosts}
use Rattle.shelf_lock.specs.declared.lock.ShelfLock.{ShelfLock}
use Rattle.shelf_lock.specs.declared.pass.Note.{Note}
use Rattle.shelf_lock.specs.declared.pass.Pass.{Pass}
use Rattle.shelf_lock.specs.Order.{Begins}
use Rattle.lock_row.specs.Spots.{Spot, spot, Home, home}
use Rattle.lock_row.specs.Rows.{IsClosed, IsSpare, AreSpare}

-- a vector that is empty, and has room for so many
abbrev pub HasRoomFor : {T : Type 0} → ℕ → Vec T → Type 0
HasRoomFor many v = (v.items ≡ []) × (vec_len v ≡ 0) × (many ≤ vec_capacity v)

-- the vector has so many items more, in the room that it had
abbrev pub GrowsBy : {T : Type 0} → ℕ → Vec T → Vec T → Type 0
GrowsBy many old new = (vec_capacity new ≡ vec_capacity old) × (vec_len new ≡ vec_len old + many)

module _ {S O E : Type 0} where
  -- each lock was made with seats for so many callers
  abbrev pub AreMadeFor : ℕ → List (ShelfLock S O E) → Type 0
  AreMadeFor seats locks = (k : ℕ) (l : ShelfLock S O E) → slice_get locks k ≡ Some l → l.board.shared.key.seats ≡ seats

module _ {S O E : Type 0} {g : Ghosts S O E} where
  -- what a pass knows at its lock
  abbrev pub seat_spot : Pass S O E g → Spot O E
  seat_spot q = spot q.seat.table_id q.seat.me.0

  -- what a note knows of its lock
  abbrev pub note_spot : Note S O E g → Spot O E
  note_spot n = spot n.seat.table_id n.seat.me.0

  -- there is a seat at each lock, in their order
  abbrev pub AreSeatsAt : List (ShelfLock S O E) → List (Pass S O E g) → Type 0
  AreSeatsAt locks seats = map (λ p. p.seat.table_id) seats ≡ map (λ l. l.board.shared.table_id) locks

module _ {S O E : Type 0} (g : Ghosts S O E) where
  -- where a lock is, and what its value was opened as
  abbrev pub lock_home : ShelfLock S O E → Home O
  lock_home l = home l.board.shared.table_id (g.opening l.board.shared.key.value.value ∷ [])

  -- where these locks are, and what their values were opened as
  abbrev pub lock_homes : List (ShelfLock S O E) → List (Home O)
  lock_homes locks = map lock_home locks

  -- the value is of this lock, once that is closed
  abbrev pub IsClosedOf : ShelfLock S O E → S → Type 0
  IsClosedOf l x = IsClosed g l.board.shared.key x

  -- the value's history tells of this seat
  abbrev pub TellsOfSeat : Pass S O E g → S → Type 0
  TellsOfSeat p x = Begins g (g.history x) p.seat.me.0

  -- Each lock has a seat for each caller who has his pass, for each who may still get it, and the row's own; the passes that no
  -- caller has, and the row's own one, have seen nothing.
  abbrev pub HasSeats : (dealt : ℕ) → List (ShelfLock S O E) → List (List (Spot O E)) → List (Spot O E) → Type 0
  HasSeats dealt locks spare own =
      AreMadeFor (dealt + length spare + 1) locks
      × (dealt + length spare + 1 < 2 ^ 32)
      × AreSpare (lock_homes locks) dealt spare
      × IsSpare (lock_homes locks) (dealt + length spare) own
