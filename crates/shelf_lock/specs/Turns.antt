-- What a turn asks of its function, and what it gives.
use Rattle.std.specs.Prelude.{◌≡◌, ℕ, ◌+◌, ◌<◌, List, [], ◌∷◌, length, Some, slice_get, Result, MatchResult}
use Rattle.std.specs.Fn.{Once, FnOnceReturnsAtMut}
use denote.Ref.{MutBor}
use Rattle.shelf_lock.specs.declared.kept.Kept.{Ghosts}
use Rattle.shelf_lock.specs.declared.pass.Pass.{Pass}
use Rattle.shelf_lock.specs.declared.rule.Start.{Start}
use Rattle.atomic_table.specs.Seated.{TableId}
use Rattle.atomic_table.specs.declared.shared.Seat.{Seat}
use Rattle.shelf_lock.specs.declared.view.Role.TheVariants.{Outside, Inside}
use Rattle.shelf_lock.specs.declared.view.View.{View}
use Rattle.shelf_lock.specs.Order.{Of, Begins, Each, GoesOn, IsWithin, Adds, MakesNone, MakesOne, Told, longer, maker, posed, entry_limit}

-- a table of one word, which is the gate, and one slot, which is the value's
abbrev pub IsSized : TableId → Type 0
IsSized z = (z.words ≡ 1) × (z.slots ≡ 1)

module _ {S O E : Type 0} where
  -- the seat waits for nothing and has nothing
  abbrev pub IsOutside : Seat S (View O E) → Type 0
  IsOutside s = (s.me.0.role ≡ Outside) × (s.me.1 ≡ [])

  -- the two seats are one, before and after: of one table, under one number
  abbrev pub IsSameSeat : Seat S (View O E) → Seat S (View O E) → Type 0
  IsSameSeat a b = (b.table_id ≡ a.table_id) × (b.id ≡ a.id)

  -- Both seats are of this table.
  abbrev pub AreOf : TableId → Seat S (View O E) → Seat S (View O E) → Type 0
  AreOf z a b = (a.table_id ≡ z) × (b.table_id ≡ z)

  -- Both seats are of this table, which is of one word and one slot.
  abbrev pub AreSeated : TableId → Seat S (View O E) → Seat S (View O E) → Type 0
  AreSeated z a b = (a.table_id ≡ z) × (b.table_id ≡ z) × IsSized z

-- The view v where it has taken in the note n: it has seen the longer of both histories.
abbrev pub joined : {O E : Type 0} → View O E → View O E → View O E
joined v n = posed Outside (longer v.seen n.seen) v

module _ {S O E : Type 0} (g : Ghosts S O E) where
  -- the seat has the value x, whose history begins with all that it had seen, and has no other entry of its caller
  abbrev pub HasEntered : Seat S (View O E) → Seat S (View O E) → S → Type 0
  HasEntered a b x = (b.me ≡ (posed Inside (g.history x) a.me.0, (0, x) ∷ [])) × g.sound x × Of g x a.me.0 × Begins g (g.history x) a.me.0 × IsWithin g x

  -- a value that a turn of the seat may find
  abbrev pub Reached : View O E → S → Type 0
  Reached v x = g.sound x × Of g x v × Begins g (g.history x) v × (g.first x + length (g.history x) < entry_limit)

  -- a turn on x leaves y: it is sound, has the same opening and first number, and one entry more at most, by this caller
  abbrev pub KeepsAll : ℕ → S → S → Type 0
  KeepsAll who x y = g.sound y × (g.opening y ≡ g.opening x) × (g.first y ≡ g.first x) × Adds g.caller who (g.history x) (g.history y)

  -- f may be called on each value that a turn of the seat may find
  abbrev pub MayCall : {F A : Type 0} → Once F (MutBor S × Unit {0}) (A × (MutBor S × Unit {0})) → F → View O E → Type 0
  MayCall call f v = (p : MutBor S) → Reached v p.now → call.pre f (p, tt)

  -- f keeps what a turn has to keep, on each value that a turn of the seat may find
  abbrev pub KeepsEach : {F A : Type 0} → Once F (MutBor S × Unit {0}) (A × (MutBor S × Unit {0})) → F → View O E → Type 0
  KeepsEach {F} {A} call f v = (x : S) (a : A) (y : S) → Reached v x → FnOnceReturnsAtMut call f x a y → KeepsAll v.caller x y

  -- f was called on a value x whose history begins with all that was seen, and left y, whose history is now seen
  abbrev pub Turned : {F A : Type 0} → Once F (MutBor S × Unit {0}) (A × (MutBor S × Unit {0})) → F → View O E → A → View O E → Type 0
  Turned call f v a w = (x : S) × (y : S) × Reached v x × FnOnceReturnsAtMut call f x a y × KeepsAll v.caller x y × (w ≡ posed Outside (g.history y) v)

  -- a value was found whose next entry would have the number of the limit; nothing was done to it
  abbrev pub FoundWorn : View O E → View O E → Type 0
  FoundWorn v w = (x : S) × g.sound x × Of g x v × Begins g (g.history x) v × (g.first x + length (g.history x) ≡ entry_limit) × (w ≡ posed Outside (g.history x) v)

  -- A turn gave an answer, or found the value worn.
  abbrev pub HasTurned : {F A W : Type 0} → Once F (MutBor S × Unit {0}) (A × (MutBor S × Unit {0})) → F → View O E → Result A W → View O E → Type 0
  HasTurned call f v result w = MatchResult result (λ a. Turned call f v a w) (λ _. FoundWorn v w)

  -- The seat has a value that a turn on another one left, whose history it had seen whole.
  abbrev pub MayLeave : Seat S (View O E) → Type 0
  MayLeave a =
      (x : S) × (y : S) × (a.me.1 ≡ (0, y) ∷ []) × (a.me.0.role ≡ Inside) × (a.me.0.seen ≡ g.history x) × Of g x a.me.0 × KeepsAll a.me.0.caller x y × IsWithin g y

  -- The seat has put the value back, whose history it has seen then.
  abbrev pub HasLeft : Seat S (View O E) → Seat S (View O E) → Type 0
  HasLeft a b = (x : S) → a.me.1 ≡ (0, x) ∷ [] → b.me ≡ (posed Outside (g.history x) a.me.0, [])

  -- The seat has a sound value, whose history it has seen whole.
  abbrev pub MayShut : Seat S (View O E) → Type 0
  MayShut a = (x : S) × (a.me.1 ≡ (0, x) ∷ []) × (a.me.0.role ≡ Inside) × (a.me.0.seen ≡ g.history x) × g.sound x × Of g x a.me.0

  -- The seat has compared what it took in: its history goes on from both.
  abbrev pub HasCompared : Seat S (View O E) → Seat S (View O E) → Type 0
  HasCompared a b = (b.me ≡ (posed Outside a.me.0.seen a.me.0, [])) × GoesOn g a.me.0.caller a.me.0.seen a.me.0.told

  -- What the view w has seen begins with what v had seen, has no further entry of this caller, and begins with what n had seen.
  abbrev pub GoesOnFrom : ℕ → View O E → View O E → View O E → Type 0
  GoesOnFrom who v n w = GoesOn g who w.seen (v.seen ∷ n.seen ∷ [])

  -- The history tells of a caller with this view, and of all that the view has heard of.
  abbrev pub Tells : List E → ℕ → View O E → Type 0
  Tells log who v = Told g log (who, v.seen) × Each (Told g log) v.heard

-- A turn that gave an answer made one entry at most, by this caller; one that found the value worn made none by it.
abbrev pub MakesInTurn : {A W E : Type 0} → (E → ℕ) → ℕ → List E → Result A W → List E → Type 0
MakesInTurn caller who seen result now = MatchResult result (λ _. MakesOne caller who seen now) (λ _. MakesNone caller who seen now)

-- a seat of a caller that has seen nothing yet
abbrev pub IsNewSeat : {S O E : Type 0} → TableId → O → ℕ → Seat S (View O E) → Type 0
IsNewSeat z o first s = (s.table_id ≡ z) × (s.me.0.opening ≡ o ∷ []) × (s.me.0.first ≡ first) × (s.me.0.seen ≡ []) × (s.me.0.heard ≡ [])

module _ {S O E : Type 0} {g : Ghosts S O E} where
  -- The pass is the same one, and knows what it knew.
  abbrev pub IsUntouched : (old new : Pass S O E g) → Type 0
  IsUntouched old new = IsSameSeat old.seat new.seat × (new.caller ≡ old.caller) × (new.seat.me ≡ old.seat.me)

module _ {S O E : Type 0} (g : Ghosts S O E) where
  -- The table of a lock was made with this value and so many seats, and its first seat hands out the callers from 0 on.
  abbrev pub IsMade : (value : S) → (seats : ℕ) → TableId → Start S → Seat S (View O E) → Type 0
  IsMade value seats z start seat =
      IsSized z × (start.value.value ≡ value) × (start.seats ≡ seats) × (seat.table_id ≡ z) × (seat.me ≡ (maker (g.opening value) (g.first value) 0, []))

  -- There are passes of the callers 0, 1, and so on, as many as there are seats, which have seen nothing yet of a lock of this value.
  abbrev pub AreNewPasses : (value : S) → (seats : ℕ) → TableId → List (Pass S O E g) → Type 0
  AreNewPasses value seats z passes =
      (length passes ≡ seats)
      × ((k : ℕ) (p : Pass S O E g) → slice_get passes k ≡ Some p → (p.caller ≡ k) × IsNewSeat z (g.opening value) (g.first value) p.seat)

  -- The history tells of each of these passes, and of all that each has heard of.
  abbrev pub TellsEach : List E → List (Pass S O E g) → Type 0
  TellsEach log passes = (k : ℕ) (p : Pass S O E g) → slice_get passes k ≡ Some p → Tells g log p.caller p.seat.me.0
