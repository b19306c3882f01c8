-- Journals whose states are those of their pages' chains: an empty one is, and this program leaves no other. A record of a setup or of a
-- compaction tells no state.
use Rattle.std.specs.Prelude.{◌≡◌, ℕ, List, ◌∷◌, ◌++◌, Option, Some, None, ⊤}
use Rattle.replay_spec.specs.Book.{Change, Book}
use Rattle.journal_records.specs.Records.{Record, changes}
use Rattle.journal_records.specs.Reading.{read_record}
use Rattle.journal_records.specs.Old.{read_record_in}
use Rattle.journal_spec.specs.Before.{Earlier, Made, before_told}
use Rattle.journal_spec.specs.Retaking.{Told, told, told_in, IsLanded}
use Rattle.journal_spec.specs.Lengths.{state_by, own_before}
use Rattle.journal_spec.specs.Making.{Texts, made_in, book_of}
use Rattle.journal_spec.specs.Old.{told_of, book_of_format}

-- a fact of each record of these bodies, on what those before it make
abbrev pub OfEach : (Made → Option Record → Type 0) → Texts → (shelf : ℕ) → List (List ℕ) → Type 0
OfEach P texts shelf bodies =
    (front rest : List (List ℕ)) (body : List ℕ) (m : Made) → bodies ≡ front ++ body ∷ rest → made_in (book_of texts shelf front) ≡ Some m
    → P m (read_record body)

-- the state that is told of a change's page is the one that its script leaves
abbrev pub IsOwnState : Book → Change → Told → Type 0
IsOwnState b c (told d) = state_by b c ≡ Some d
IsOwnState b c _ = ⊤

-- the state that a record tells of its page, on what the records before it make, is the one that its script leaves
abbrev pub IsOwnRecord : Made → Option Record → Type 0
IsOwnRecord m (Some (changes c state)) = IsOwnState m.book c (told_in m.earlier m.book c state)
IsOwnRecord m _ = ⊤

-- the state that each of these records tells of its page is the one that its script leaves
abbrev pub AreOwn : Texts → (shelf : ℕ) → List (List ℕ) → Type 0
AreOwn texts shelf bodies = OfEach IsOwnRecord texts shelf bodies

-- the record of a change, on what the records before it make, is none that is passed over
abbrev pub IsLandedRecord : Made → Option Record → Type 0
IsLandedRecord m (Some (changes c state)) = IsLanded m c (told_in m.earlier m.book c state)
IsLandedRecord m _ = ⊤

-- each record of these bodies that tells of a change is none that is passed over
abbrev pub AreLanded : Texts → (shelf : ℕ) → List (List ℕ) → Type 0
AreLanded texts shelf bodies = OfEach IsLandedRecord texts shelf bodies

-- the state that a change's page is written after, as records told it, is the one that the script left there
abbrev pub IsOwnBefore : Earlier → Book → Option Change → Type 0
IsOwnBefore earlier b None = ⊤
IsOwnBefore earlier b (Some c) = before_told earlier b c ≡ own_before b c

-- the state that a record of this format tells of its page, on what the records before it make, is the one that its script leaves
abbrev pub IsOwnRecordIn : (format : ℕ) → Made → Option Record → Type 0
IsOwnRecordIn format m (Some (changes c state)) = IsOwnState m.book c (told_of format m c state)
IsOwnRecordIn format m _ = ⊤

-- the state that each record of these bodies of this format tells of its page is the one that its script leaves
abbrev pub AreOwnIn : (format : ℕ) → Texts → (shelf : ℕ) → List (List ℕ) → Type 0
AreOwnIn format texts shelf bodies =
    (front rest : List (List ℕ)) (body : List ℕ) (m : Made) → bodies ≡ front ++ body ∷ rest → made_in (book_of_format format texts shelf front) ≡ Some m
    → IsOwnRecordIn format m (read_record_in format body)
