-- What the calls of a row do.
use Rattle.std.specs.Prelude.{◌≡◌, ℕ, ◌+◌, ◌-◌, ◌<◌, ◌≤◌, ◌^◌, List, [], ◌∷◌, length, map, Some, slice_get, Result, MatchResult}
use Rattle.std.specs.Fn.{Once}
use denote.Ref.{MutBor}
use Rattle.atomic_table.specs.Seated.{TableId}
use mathlib.Core.List.{IsPrefix}
use Rattle.shelf_lock.specs.declared.kept.Kept.{Ghosts}
use Rattle.shelf_lock.specs.declared.view.Role.TheVariants.{Outside}
use Rattle.shelf_lock.specs.Order.{made_by, posed, longer, both, Begins, GoesOn, MadeBelow}
use Rattle.shelf_lock.specs.Turns.{MayCall, KeepsEach, Turned, FoundWorn}
use Rattle.shelf_lock.specs.declared.rule.Start.{Start}
use Rattle.lock_row.specs.Spots.{Spot, spot, Home, IsAt, At}

module _ {S O E : Type 0} (g : Ghosts S O E) where
  -- a value that may be put behind a lock: it has no entry
  abbrev pub IsFresh : S → Type 0
  IsFresh x = g.sound x × (g.history x ≡ []) × (g.first x ≤ 2 ^ 62)

  -- each of these values may be put behind a lock: it has no entry
  abbrev pub AreFresh : List S → Type 0
  AreFresh xs = (k : ℕ) (x : S) → slice_get xs k ≡ Some x → IsFresh x

  -- the locks have the openings of these values, in their order
  abbrev pub AreHomesOf : List S → List (Home O) → Type 0
  AreHomesOf xs homes = map (λ h. h.opening) homes ≡ map (λ x. g.opening x ∷ []) xs

  -- a value that was put behind a lock came back as nothing had been done
  abbrev pub ComesBack : S → S → Type 0
  ComesBack x y = g.sound y × (g.opening y ≡ g.opening x) × (g.history y ≡ []) × (g.first y ≡ g.first x)

  -- f may be called in a turn at this place
  abbrev pub MayCallAt : {F A : Type 0} → Once F (MutBor S × Unit {0}) (A × (MutBor S × Unit {0})) → F → ℕ → List (Spot O E) → Type 0
  MayCallAt call f place pass = (a : Spot O E) → slice_get pass place ≡ Some a → MayCall g call f a.known

  -- f keeps what a turn at this place has to keep
  abbrev pub KeepsEachAt : {F A : Type 0} → Once F (MutBor S × Unit {0}) (A × (MutBor S × Unit {0})) → F → ℕ → List (Spot O E) → Type 0
  KeepsEachAt call f place pass = (a : Spot O E) → slice_get pass place ≡ Some a → KeepsEach g call f a.known

  -- At this place a turn gave an answer, or found the value worn; the pass goes on there alone.
  abbrev pub HasTurnedAt : {F A W : Type 0} → Once F (MutBor S × Unit {0}) (A × (MutBor S × Unit {0})) → F → ℕ
      → (old : List (Spot O E)) → Result A W → (new : List (Spot O E)) → Type 0
  HasTurnedAt call f place old result new =
      MatchResult result (λ a. At place (λ v w. Turned g call f v a w) old new) (λ _. At place (λ v w. FoundWorn g v w) old new)

  -- The pass has heard a note: it has then seen the longer history of both. What it and the note had seen begin that one, which has
  -- no further entry of the pass's caller.
  abbrev pub Hears : Spot O E → Spot O E → Spot O E → Type 0
  Hears note a b =
      (b ≡ spot a.table (posed Outside (longer a.known.seen note.known.seen) a.known))
      × IsPrefix a.known.seen b.known.seen × IsPrefix note.known.seen b.known.seen
      × (made_by g.caller b.known.caller b.known.seen ≡ made_by g.caller a.known.caller a.known.seen)

  -- at this place the pass hears a note that had seen this
  abbrev pub HearsAt : ℕ → List E → List (Spot O E) → List (Spot O E) → Type 0
  HearsAt place noted old new =
      At place (λ v w. (w ≡ posed Outside (longer v.seen noted) v) × GoesOn g v.caller w.seen (v.seen ∷ noted ∷ [])) old new

  -- a value given back from a lock that was made with this: it is sound, has the same opening, and entries of the lock's callers alone
  abbrev pub IsClosed : Start S → S → Type 0
  IsClosed start x =
      g.sound x × (g.opening x ≡ g.opening start.value.value) × MadeBelow g start.seats (g.history x)

  -- each history that tells of this pass at a lock tells of each of these passes there
  abbrev pub TellsAll : List (List (Spot O E)) → List (Spot O E) → Type 0
  TellsAll passes pass =
      (k : ℕ) (a : Spot O E) → slice_get pass k ≡ Some a → (log : List E) → Begins g log a.known
      → (j : ℕ) (p : List (Spot O E)) → slice_get passes j ≡ Some p → (b : Spot O E) → slice_get p k ≡ Some b → Begins g log b.known

  -- The history of each value that was given back tells of each of these passes at its lock.
  abbrev pub AllTell : (passes : List (List (Spot O E))) → (values : List S) → Type 0
  AllTell passes values =
      (k : ℕ) (x : S) → slice_get values k ≡ Some x
      → (j : ℕ) (p : List (Spot O E)) → slice_get passes j ≡ Some p → (a : Spot O E) → slice_get p k ≡ Some a → Begins g (g.history x) a.known

  -- a value that was given back: of this opening, and of so many callers
  pub record IsBack (opening : List O) (seats : ℕ) (x : S) : Type 0 where
    pub sound : g.sound x
    pub opening_is : opening ≡ g.opening x ∷ []
    pub callers : MadeBelow g seats (g.history x)

  -- a value that was given back from this lock
  abbrev pub IsBackFrom : (seats : ℕ) → Home O → S → Type 0
  IsBackFrom seats h x = IsBack h.opening seats x

module _ {O E : Type 0} where
  -- a note of what the pass has seen at a lock
  abbrev pub IsNoteOf : Spot O E → Spot O E → Type 0
  IsNoteOf a note = (note.table ≡ a.table) × (note.known.seen ≡ a.known.seen)

  -- a note of what the pass has seen at this place
  abbrev pub IsNoteAt : ℕ → List (Spot O E) → Spot O E → Type 0
  IsNoteAt place pass note = (a : Spot O E) × (slice_get pass place ≡ Some a) × IsNoteOf a note

  -- Each of these is a note of what the pass has seen at its place.
  abbrev pub AreNotesOf : List (Spot O E) → (notes : List (Spot O E)) → Type 0
  AreNotesOf pass notes = (k : ℕ) (m : Spot O E) → slice_get notes k ≡ Some m → IsNoteAt k pass m

  -- the pass has a seat at this place, at this table
  abbrev pub SitsAt : ℕ → List (Spot O E) → TableId → Type 0
  SitsAt place pass table = (a : Spot O E) × (slice_get pass place ≡ Some a) × (table ≡ a.table)

  -- a seat has taken over another: what is told of it then is told of both
  abbrev pub Absorbs : Spot O E → Spot O E → Spot O E → Type 0
  Absorbs other a b = b ≡ spot a.table (both a.known other.known)

  -- a seat of this caller that has seen nothing yet
  abbrev pub IsNewFor : ℕ → Spot O E → Type 0
  IsNewFor caller s = (s.known.caller ≡ caller) × (s.known.seen ≡ []) × (s.known.heard ≡ [])

  -- a pass of this caller that has seen nothing yet at any lock
  abbrev pub IsNewPass : ℕ → List (Spot O E) → Type 0
  IsNewPass caller pass = (k : ℕ) (s : Spot O E) → slice_get pass k ≡ Some s → IsNewFor caller s

  -- a pass at these locks that a caller of this number may get
  abbrev pub IsSpare : List (Home O) → ℕ → List (Spot O E) → Type 0
  IsSpare homes caller pass = IsAt homes pass × IsNewPass caller pass

  -- each of these passes has seen nothing and may be given out, the last one to the next caller
  abbrev pub AreSpare : List (Home O) → (next : ℕ) → List (List (Spot O E)) → Type 0
  AreSpare homes next spare =
      (j : ℕ) (p : List (Spot O E)) → slice_get spare j ≡ Some p → IsSpare homes (next + (length spare - 1 - j)) p

-- each place from this one on was changed so, by what stands there in the second list, and the places before it are as they were
abbrev pub ZipsFrom : {A B : Type 0} → (B → A → A → Type 0) → ℕ → List A → List B → List A → Type 0
ZipsFrom {A} {B} R from old others new =
    ((k : ℕ) → from ≤ k → (a : A) (n : B) → slice_get old k ≡ Some a → slice_get others k ≡ Some n → (b : A) × (slice_get new k ≡ Some b) × R n a b)
    × ((k : ℕ) → k < from → slice_get new k ≡ slice_get old k)

-- each place of a list was changed so, by what stands there in the second list
abbrev pub ZipsAll : {A B : Type 0} → (B → A → A → Type 0) → List A → List B → List A → Type 0
ZipsAll {A} {B} R old others new =
    (k : ℕ) (a : A) (n : B) → slice_get old k ≡ Some a → slice_get others k ≡ Some n → (b : A) × (slice_get new k ≡ Some b) × R n a b
