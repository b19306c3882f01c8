-- Histories of a shelf that follows another one's journal.
use Rattle.std.specs.Prelude.{◌≡◌, ◌⊎◌, ◌≤◌, ℕ, List, Contains, true}
use Rattle.replay_spec.specs.Book.{Book}
use Rattle.replay_spec.specs.Step.{Event, publish, sweep, crash, Reply, memory, swept}
use Rattle.replay_spec.specs.Runs.{Shelf}
use Rattle.replay_spec.specs.Promises.{follower_reply}
use Rattle.history_spec.specs.Histories.{Entry, book_behind, IsLegal}

-- the answer of a shelf of this book that follows, unless memory was wanting
abbrev pub IsFollowers : Book → Reply → Type 0
IsFollowers b r = (r ≡ follower_reply b.down) ⊎ (r ≡ memory)

-- A shelf that follows another one's journal gives a take, a compaction and a sweep above its clock this answer. A sweep to a tick that is
-- over does nothing, and no ticket is there to be published.
abbrev pub IsAnsweredSo : Book → Event → Reply → Type 0
IsAnsweredSo b (sweep tick) r = ((tick ≤ b.clock) × (r ≡ swept 0)) ⊎ IsFollowers b r
IsAnsweredSo b (publish t) r = ⊥
IsAnsweredSo b (crash scripts) r = ⊥
IsAnsweredSo b _ r = IsFollowers b r

-- The book of a shelf that follows another one's journal when it is opened is the same after each legal history, each entry of which is
-- answered so: of visits there are takes alone, whatever they ask for, and each is told that the shelf is down or follows, or memory was
-- wanting.
abbrev pub AFollowerStays : Type 0
AFollowerStays =
    (source : ℕ → ℕ) (opened now : ℕ) (s : Shelf) (es : List Entry) → IsLegal source opened now s es → s.book.follows ≡ true
    → (book_behind source s es ≡ s.book) × ((e : Entry) → Contains es e → IsAnsweredSo s.book e.event e.reply)
