-- What stands of a shelf between the turns of a lock, beside the history that it has had since it was opened.
use Rattle.std.specs.Prelude.{◌≡◌, ◌⊎◌, ◌≤◌, ◌+◌, ℕ, List, [], ◌∷◌, ◌++◌, length}
use mathlib.Core.List.{IsPrefix}
use Rattle.replay_spec.specs.Book.{Book, reopened}
use Rattle.replay_spec.specs.Rules.{Rules}
use Rattle.replay_spec.specs.Step.{Event, Fate, lost, kept, recovered, Reply}
use Rattle.replay_spec.specs.Runs.{Shelf, shelf_step}
use Rattle.replay_spec.specs.Invariant.{IsOrderly, IsSound}
use Rattle.replay_spec.specs.Laws.{IsLawful, Leads}
use Rattle.history_spec.specs.Histories.{Entry, fate_by, shelf_behind, book_behind, MayCome, IsCounted, IsLegal, IsOpened}
use Rattle.history_spec.specs.Laws.{tickets_taken}

-- The history is legal from the shelf as it was opened, the shelf is the one after it, and the nonces to come are those of
-- the source after what it has given.
pub record IsKept (source : ℕ → ℕ) (opened now : ℕ) (start s : Shelf) (coming : ℕ → ℕ) (es : List Entry) : Type 0 where
  pub legal : IsLegal source opened now start es
  pub shelf : s ≡ shelf_behind source start es
  pub nonces : (k : ℕ) → coming k ≡ source (s.nonces + k)

-- what an event has to make of a shelf that is kept: this reply, and the next shelf with the nonces to come then
pub record IsEvent (source : ℕ → ℕ) (s : Shelf) (x : Event) (r : Reply) (next : Shelf) (coming : ℕ → ℕ) : Type 0 where
  pub step : shelf_step source s x (fate_by r) ≡ (r, next)
  pub nonces : (k : ℕ) → coming k ≡ source (next.nonces + k)

-- A shelf that was opened is kept, with an empty history; an event that may come keeps it so, with one entry more, and so does
-- a disk's count that rises.
abbrev pub KeptGoesOn : Type 0
KeptGoesOn =
    (source : ℕ → ℕ) (opened now : ℕ) (start : Shelf)
    → (start.nonces ≡ 0 → IsKept source opened now start start source [])
    × ((s next : Shelf) (coming behind : ℕ → ℕ) (es : List Entry) (caller : ℕ) (x : Event) (r : Reply) → IsKept source opened now start s coming es
    → MayCome caller x es → IsEvent source s x r next behind → IsCounted opened now r
    → IsKept source opened now start next behind (es ++ record { caller = caller; event = x; reply = r } ∷ []))
    × ((s : Shelf) (coming : ℕ → ℕ) (es : List Entry) (later : ℕ) → now ≤ later → IsKept source opened now start s coming es
    → IsKept source opened later start s coming es)

-- Of a shelf that is kept the book is orderly, and sound where it was sound as it was opened; a publish that may come is lawful;
-- and the nonces to come are the source's after those of the takes.
abbrev pub WhatIsKeptIsSound : Type 0
WhatIsKeptIsSound =
    (source : ℕ → ℕ) (opened now : ℕ) (start s : Shelf) (coming : ℕ → ℕ) (es : List Entry) → IsOpened start.book
    → IsKept source opened now start s coming es
    → IsOrderly s.book
    × (IsSound start.book → IsSound s.book)
    × ((caller : ℕ) (x : Event) → MayCome caller x es → IsLawful x s.book)
    × ((k : ℕ) → coming k ≡ source (start.nonces + length (tickets_taken es) + k))

-- the book as after a crash, with what is in doubt or without it
abbrev pub crashed : Rules → Fate → Book → Book
crashed rules fate b = reopened (recovered rules fate b.down b)

-- What a crash at some moment since the opening may have left: the book after a front of the history, and of what was in
-- doubt there all or nothing.
pub record MayBeLeft (source : ℕ → ℕ) (start : Shelf) (es : List Entry) (c : Book) : Type 0 where
  pub front : List Entry
  pub begins : IsPrefix front es
  pub left : (c ≡ crashed start.rules lost (book_behind source start front)) ⊎ (c ≡ crashed start.rules kept (book_behind source start front))

-- What may have been left may have been left of a longer history too, and with it the shelf may be opened.
abbrev pub WhatIsLeftOpens : Type 0
WhatIsLeftOpens =
    (source : ℕ → ℕ) (start : Shelf) (es : List Entry) (c : Book) → MayBeLeft source start es c
    → ((more : List Entry) → MayBeLeft source start (es ++ more) c)
    × ((opened now : ℕ) → IsOpened start.book → IsLegal source opened now start es → IsOpened c × Leads start.book c × (IsSound start.book → IsSound c))
