-- What the bodies of a compacted file have of those that they were made of.
use Rattle.std.specs.Prelude.{◌≡◌, ℕ, ◌≤◌, ◌^◌, true, false, List, length, Some}
use Rattle.replay_spec.specs.Invariant.{Among}
use Rattle.page_journal.specs.Records.{is_format, at_rest}
use Rattle.journal_records.specs.Old.{newest_format}
use Rattle.journal_spec.specs.Before.{Made}
use Rattle.journal_spec.specs.Making.{Texts, made_in, book_of}
use Rattle.journal_spec.specs.Old.{book_of_format}
use Rattle.journal_spec.specs.Owning.{AreOwn, AreOwnIn, AreLanded}
use Rattle.journal_spec.specs.Reading.{AreAllBytes}
use Rattle.journal_spec.specs.Copying.{copies, IsToldAnew}

-- A file of a known format can be compacted: of an older format its states can be told anew, and a journal has room for the bodies that stay.
pub record CanBeCopied (format : ℕ) (texts : Texts) (shelf : ℕ) (bodies : List (List ℕ)) (m : Made) : Type 0 where
  pub known : is_format format ≡ true
  pub anew : IsToldAnew format m
  pub room : (format ≡ newest_format → ⊥) → length (at_rest (copies format texts shelf bodies m)) ≤ 2 ^ 30

-- The bodies of a compacted file have own states, where those of the file before have; none of them is passed over; they tell of no number that
-- those do not tell of; and those that are copied are bytes.
pub record CopiesKeep (format : ℕ) (texts : Texts) (shelf : ℕ) (bodies : List (List ℕ)) (m k : Made) : Type 0 where
  pub own : AreOwnIn format texts shelf bodies → AreOwn texts shelf (copies format texts shelf bodies m)
  pub landed : AreLanded texts shelf (copies format texts shelf bodies m)
  pub seen : (n : ℕ) → Among n k.earlier.seen → Among n m.earlier.seen
  pub bytes : format ≡ newest_format → AreAllBytes (copies format texts shelf bodies m)

-- The compacted file of each file of any format that can be compacted has own states, passes over no record, and tells no new
-- number, whoever wrote that file.
abbrev pub CopiesAreOwn : Type 0
CopiesAreOwn =
    (format : ℕ) (texts : Texts) (shelf : ℕ) (bodies : List (List ℕ)) (m k : Made) → CanBeCopied format texts shelf bodies m
    → AreAllBytes bodies → made_in (book_of_format format texts shelf bodies) ≡ Some m → m.book.follows ≡ false
    → made_in (book_of texts shelf (copies format texts shelf bodies m)) ≡ Some k → CopiesKeep format texts shelf bodies m k
