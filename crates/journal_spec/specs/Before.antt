-- What records told earlier, and what the state of a record's page is written after.
use Rattle.std.specs.Prelude.{ℕ, ◌==◌, List, [], ◌∷◌, length, Option, Some, None, if◌then◌else◌}
use Rattle.replay_spec.specs.Book.{Change, extends, Book, chain, reopened}
use Rattle.replay_spec.specs.Admission.{◌>>=◌, Place}
use Rattle.replay_spec.specs.Recovery as recovery
use Rattle.replay_spec.specs.Recovery.{page_of_numbers}
use Rattle.machine_states.specs.Machine.{Suspended}
use Rattle.kept_states.specs.Links.{links_at, behind_at}

-- the states of the pages that records showed, by the pages' numbers, the newest first
abbrev pub States : Type 0
States = List (ℕ × Suspended)

-- the state that records told last of the page of this number
abbrev pub state_at : ℕ → States → Option Suspended
state_at n [] = None
state_at n (s ∷ ss) = if s.0 == n then Some s.1 else state_at n ss

-- the numbers of the segments that records told of, and the states of their pages
pub record Earlier : Type 0 where
  pub seen : List ℕ
  pub states : States

-- what was told before the first record: nothing
abbrev pub nothing_told : Earlier
nothing_told = record { seen = []; states = [] }

-- the book that records made, and what they told
pub record Made : Type 0 where
  pub book : Book
  pub earlier : Earlier

-- a book as after a crash, with what records told
abbrev pub made_of : Book → Earlier → Made
made_of b earlier = record { book = reopened b; earlier = earlier }

-- the book that records made, and the numbers that they told, without the states
abbrev pub plain : Made → recovery.Made
plain m = record { book = m.book; seen = m.earlier.seen }

-- the links of a page that answers this one: its ancestors are the pages of this one's chain
abbrev pub links_behind : Place → ℕ
links_behind at = links_at (length (chain at.instance.pages at.page))

-- The state that a record's page is written after, where each page has this one: that of the page that is answered, if the links
-- ask for it.
abbrev pub before_by : (Place → Option Suspended) → Book → Change → Option Suspended
before_by state b (extends x) = do
  at ← page_of_numbers b x.instance x.page
  behind_at (links_behind at) (state at)
before_by state b _ = None

-- the state that a record's page is written after, as records told it earlier
abbrev pub before_told : Earlier → Book → Change → Option Suspended
before_told earlier b c = before_by (λ at. state_at at.page.number earlier.states) b c
