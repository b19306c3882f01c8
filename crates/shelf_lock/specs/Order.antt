-- One history behind a lock, and what each seat knows of it.
use Rattle.std.specs.Prelude.{◌≡◌, ◌≢◌, ◌⊎◌, ℕ, ◌+◌, ◌<◌, ◌≤◌, ◌^◌, ◌==◌, List, [], ◌∷◌, ◌++◌, length, filter, slice_index, ltb, if◌then◌else◌}
use mathlib.Core.Option.{some}
use mathlib.Core.List.{IsPrefix}
use lib.ListN.{get_elem?}
use Rattle.shelf_lock.specs.declared.kept.Kept.{Ghosts}
use Rattle.atomic_table.specs.Table.{State, Me, Step}
use Rattle.shelf_lock.specs.declared.view.Role.{Role}
use Rattle.shelf_lock.specs.declared.view.Role.TheVariants.{Maker, Outside, Inside, Closer, Comparing, Noted, Spent}
use Rattle.shelf_lock.specs.declared.view.View.{View}

-- the entries that one caller made
abbrev pub made_by : {E : Type 0} → (E → ℕ) → ℕ → List E → List E
made_by caller who log = filter (λ e. caller e == who) log

-- the property holds of each element of the list
abbrev pub Each : {A : Type 0} → (A → Type 0) → List A → Type 0
Each P [] = Unit {0}
Each P (x ∷ xs) = P x × Each P xs

-- the limit that the number of each entry is below
abbrev pub entry_limit : ℕ
entry_limit = 2 ^ 62

-- the longer of two histories
abbrev pub longer : {E : Type 0} → List E → List E → List E
longer xs ys = if ltb (length xs) (length ys) then ys else xs

module _ {O E : Type 0} where
  -- the view of the seat that hands out the callers, before it hands out the caller of this number
  abbrev pub maker : O → ℕ → ℕ → View O E
  maker o first next = record { role = Maker; caller = next; opening = o ∷ []; first = first; seen = []; heard = []; told = [] }

  -- the view of the maker, after it has handed out one caller
  abbrev pub appointer : View O E → View O E
  appointer v = record { role = v.role; caller = v.caller + 1; opening = v.opening; first = v.first; seen = v.seen; heard = v.heard; told = v.told }

  -- the view of a caller that the maker has just handed out, which has seen nothing
  abbrev pub appointed : View O E → View O E
  appointed v = record { role = Outside; caller = v.caller; opening = v.opening; first = v.first; seen = []; heard = []; told = [] }

  -- the view v in this role, having seen this history
  abbrev pub posed : Role → List E → View O E → View O E
  posed role seen v = record { role = role; caller = v.caller; opening = v.opening; first = v.first; seen = seen; heard = v.heard; told = [] }

  -- the view v where it has heard of w too, and of all that w has heard of
  abbrev pub both : View O E → View O E → View O E
  both v w = record { role = v.role; caller = v.caller; opening = v.opening; first = v.first; seen = v.seen; heard = (w.caller, w.seen) ∷ (w.heard ++ v.heard); told = v.told }

  -- a note of what v has seen, which has no caller number
  abbrev pub noted : View O E → View O E
  noted v = record { role = Noted; caller = 0; opening = v.opening; first = v.first; seen = v.seen; heard = []; told = [] }

  -- the view v after it has taken in the note n, with the two histories that it has yet to compare
  abbrev pub comparing : View O E → View O E → View O E
  comparing v n = record { role = Comparing; caller = v.caller; opening = v.opening; first = v.first; seen = longer v.seen n.seen; heard = v.heard; told = v.seen ∷ n.seen ∷ [] }

  -- the view that is left of a seat which was joined into another
  abbrev pub nobody : View O E
  nobody = record { role = Spent; caller = 0; opening = []; first = 0; seen = []; heard = []; told = [] }

-- what holds of all seats: the history so far, the gate, the seat inside, the maker's seat, its next number, and the seat of each
-- number below that
pub record Facts (E : Type 0) : Type 0 where
  pub log : List E
  pub gate : ℕ
  pub holder : ℕ
  pub chief : ℕ
  pub next : ℕ
  pub owner : ℕ → ℕ

module _ {S O E : Type 0} (g : Ghosts S O E) where
  -- the value has the opening that the view knows, and its entries are numbered from the same number
  abbrev pub Of : S → View O E → Type 0
  Of x v = (v.opening ≡ g.opening x ∷ []) × (v.first ≡ g.first x)

  -- the number of the value's next entry is the limit at most
  abbrev pub IsWithin : S → Type 0
  IsWithin x = g.first x + length (g.history x) ≤ entry_limit

  -- what a caller has seen begins the history, and has all its entries
  abbrev pub Told : List E → ℕ × List E → Type 0
  Told log h = IsPrefix h.1 log × (made_by g.caller h.0 log ≡ made_by g.caller h.0 h.1)

  -- what the view has seen begins the history and has all entries of its caller, and so it is of each caller that the view has heard of
  abbrev pub Begins : List E → View O E → Type 0
  Begins log v = IsPrefix v.seen log × (made_by g.caller v.caller log ≡ made_by g.caller v.caller v.seen) × Each (Told log) v.heard

  -- the caller is one that this seat took over from another: its number is the seat's, and not that of the seat's own caller
  abbrev pub Owned : Facts E → ℕ → ℕ → ℕ × List E → Type 0
  Owned k seat who h = (h.0 < k.next) × (k.owner h.0 ≡ seat) × (h.0 ≢ who)

  -- the numbers of the seat's caller, and of other callers that it took over, are given out and belong to this seat
  abbrev pub Numbered : Facts E → ℕ → View O E → Type 0
  Numbered k seat v = (v.caller < k.next) × (k.owner v.caller ≡ seat) × Each (Owned k seat v.caller) v.heard

  -- a history begins with what the caller had seen, has no further entry of the caller, and begins with what others had seen
  abbrev pub GoesOn : ℕ → List E → List (List E) → Type 0
  GoesOn who seen [] = Unit {0}
  GoesOn who seen (own ∷ others) = IsPrefix own seen × (made_by g.caller who seen ≡ made_by g.caller who own) × Each (λ l. IsPrefix l seen) others

  -- what the rule says of a seat's view, by its role
  abbrev pub Fits : S → Facts E → ℕ → View O E → Role → Type 0
  Fits start k seat v Maker = Of start v × (seat ≡ k.chief) × (v.caller ≡ k.next)
  Fits start k seat v Outside = Of start v × Begins k.log v × Numbered k seat v
  Fits start k seat v Inside = (Of start v × Begins k.log v × Numbered k seat v) × (k.gate ≡ 1) × (seat ≡ k.holder) × (v.seen ≡ k.log)
  Fits start k seat v Closer = (Of start v × Begins k.log v × Numbered k seat v) × (k.gate ≡ 2) × (v.seen ≡ k.log)
  Fits start k seat v Comparing = (Of start v × Begins k.log v × Numbered k seat v) × GoesOn v.caller v.seen v.told
  Fits start k seat v Noted = Of start v × IsPrefix v.seen k.log
  Fits start k seat v Spent = Unit {0}

  -- the value that is at home is sound, has the opening and the first number of the start, and has this history
  pub record Home (start : S) (log : List E) (s : State S (View O E)) : Type 0 where
    pub value : S
    pub there : get_elem? s.homes 0 ≡ some (some value)
    pub sound : g.sound value
    pub opening_is : g.opening value ≡ g.opening start
    pub first_is : g.first value ≡ g.first start
    pub history_is : g.history value ≡ log

  -- callers from this number on have no entries in the history
  abbrev pub MadeBelow : ℕ → List E → Type 0
  MadeBelow seats log = (who : ℕ) → seats ≤ who → made_by g.caller who log ≡ []

  -- there is one history, which is that of the value at home, and each seat knows a beginning of it
  pub record Ordered (start : S) (seats : ℕ) (s : State S (View O E)) : Type 0 where
    pub facts : Facts E
    pub few : facts.next ≤ seats
    pub within : g.first start + length facts.log ≤ entry_limit
    pub one_word : length s.words ≡ 1
    pub gate_is : slice_index s.words 0 ≡ facts.gate
    pub home : facts.gate ≢ 1 → Home start facts.log s
    pub fits : (seat : ℕ) (v : View O E) → get_elem? s.views seat ≡ some v → Fits start facts seat v v.role
    pub unmade : (who : ℕ) → facts.next ≤ who → made_by g.caller who facts.log ≡ []

  -- the gate was open, and the seat has the value and knows its history; or it was not, and nothing changed
  abbrev pub Entered : Step S → Me S (View O E) → ℕ → Me S (View O E) → Type 0
  Entered s v found w =
      (found ≡ 0 → (x : S) × (w ≡ (posed Inside (g.history x) v.0, (0, x) ∷ [])) × g.sound x × Of x v.0 × Begins (g.history x) v.0 × IsWithin x)
      × (found ≢ 0 → w ≡ v)

  -- the seat has compared what it had to: these are beginnings of one history, which it has seen
  abbrev pub Looked : Step S → Me S (View O E) → ℕ → Me S (View O E) → Type 0
  Looked s v found w = (w ≡ (posed Outside v.0.seen v.0, [])) × GoesOn v.0.caller v.0.seen v.0.told

  -- the seat has put the value back for good
  abbrev pub Shut : Step S → Me S (View O E) → ℕ → Me S (View O E) → Type 0
  Shut s v found w = w ≡ (posed Closer v.0.seen v.0, [])

module _ {S O E : Type 0} (history : S → List E) where
  -- the seat has put the value back, and has seen its history
  abbrev pub Left : Step S → Me S (View O E) → ℕ → Me S (View O E) → Type 0
  Left s v found w = (x : S) → v.1 ≡ (0, x) ∷ [] → w ≡ (posed Outside (history x) v.0, [])

-- the new history has one entry more at most, which this caller made
abbrev pub Adds : {E : Type 0} → (E → ℕ) → ℕ → List E → List E → Type 0
Adds {E} caller who old new = (new ≡ old) ⊎ ((e : E) × (caller e ≡ who) × (new ≡ old ++ e ∷ []))

-- between two histories the caller made one entry at most
abbrev pub MakesOne : {E : Type 0} → (E → ℕ) → ℕ → List E → List E → Type 0
MakesOne caller who old new = Adds caller who (made_by caller who old) (made_by caller who new)

-- between two histories the caller made no entry
abbrev pub MakesNone : {E : Type 0} → (E → ℕ) → ℕ → List E → List E → Type 0
MakesNone caller who old new = made_by caller who new ≡ made_by caller who old
