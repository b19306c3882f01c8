-- What an audit finds in the records of a journal.
use Rattle.std.specs.Prelude.{ℕ, ◌+◌, not, List, [], ◌∷◌, length, Option, Some, None, if◌then◌else◌}
use Rattle.replay_spec.specs.Book.{Change}
use Rattle.replay_spec.specs.Recovery.{number_in, is_repeated}
use Rattle.journal_records.specs.Records.{Record, begins, changes, follows, promotes}
use Rattle.journal_records.specs.Old.{read_record_in}
use Rattle.journal_spec.specs.Before.{Made}
use Rattle.journal_spec.specs.Making.{Texts, Making, nothing, damaged, other, made_in}
use Rattle.journal_spec.specs.Old.{with_body_at, book_of_format}
use Rattle.audit_spec.specs.declared.word.Word.{Word}
use Rattle.audit_spec.specs.declared.word.Word.TheVariants as word
use Rattle.audit_spec.specs.Tests.{goes_on, is_admitted, runs_so, least_go, is_in_time, tells_own}

-- the word of the first test of the record of a change that fails, on what the records before it make; none where all hold
abbrev pub fault_in : (format : ℕ) → Made → Change → (state : Option (List ℕ)) → Option Word
fault_in format m c state =
    if not (goes_on m.book c) then Some word.Sweep
    else (if is_repeated (number_in c) m.earlier.seen then Some word.Number
    else (if not (is_admitted m.book c) then Some word.Target
    else (if not (runs_so m.book c) then Some word.Run
    else (if not (least_go m.book c) then Some word.Evicted
    else (if not (is_in_time m.book c) then Some word.Deadline
    else (if not (tells_own format m c state) then Some word.State else None))))))

-- the word for a record of this format after others: one that tells of no change has none
abbrev pub fault_of : (format : ℕ) → Made → Option Record → Option Word
fault_of format m (Some (changes c state)) = fault_in format m c state
fault_of format m _ = None

-- a record to which an audit says No: the place of its gate, and why
pub record Finding : Type 0 where
  pub place : ℕ
  pub word : Word

-- this word at this place, if there is one
abbrev pub found_at : (place : ℕ) → Option Word → Option Finding
found_at place None = None
found_at place (Some w) = Some (record { place = place; word = w })

-- the first of two findings
abbrev pub first_found : Option Finding → Option Finding → Option Finding
first_found None later = later
first_found (Some f) later = Some f

-- what is found at one more body, whose gate is at this place; nothing where none were made of those before
abbrev pub found_in : (format : ℕ) → (place : ℕ) → List ℕ → Option Made → Option Finding
found_in format place body None = None
found_in format place body (Some m) = found_at place (fault_of format m (read_record_in format body))

-- the first finding in these bodies, the gate of the first of them at this place, after what was made
abbrev pub first_finding : (format : ℕ) → Texts → (shelf place : ℕ) → List (List ℕ) → Making → Option Finding
first_finding format texts shelf place [] m = None
first_finding format texts shelf place (body ∷ bodies) m =
    first_found (found_in format place body (made_in m))
    (first_finding format texts shelf (place + 5 + length body) bodies (with_body_at format texts shelf place body m))

-- What an audit answers: yes, to so many records; no, for this finding; or at this place stands no record that a shelf writes there.
pub data Answer : Type 0 where
  yes : (records : ℕ) → Answer
  no : Finding → Answer
  is_damaged : (place : ℕ) → Answer

-- yes, where nothing is found
abbrev pub answer_by : (records : ℕ) → Option Finding → Answer
answer_by n None = yes n
answer_by n (Some f) = no f

-- the answer over what the records make: damage anywhere comes before each finding
abbrev pub answer_over : Making → (records : ℕ) → Option Finding → Answer
answer_over (damaged place) n f = is_damaged place
answer_over (other place) n f = is_damaged place
answer_over _ n f = answer_by n f

-- The number of the shelf that a record names which tells a setup. One that tells of following names none, and leaves it to the records after
-- it. Any other names 0.
abbrev pub shelf_by : Option Record → (behind : ℕ) → ℕ
shelf_by (Some (begins shelf named)) n = shelf
shelf_by (Some follows) n = n
shelf_by (Some promotes) n = n
shelf_by _ n = 0

-- the number of the shelf that the first record names which tells a setup; 0 where there is none
abbrev pub shelf_in : (format : ℕ) → List (List ℕ) → ℕ
shelf_in format [] = 0
shelf_in format (body ∷ bodies) = shelf_by (read_record_in format body) (shelf_in format bodies)

-- What an audit answers to the bodies of a file of this format, for the shelf that its first record of a setup names. The first gate is at 8.
abbrev pub audited : (format : ℕ) → Texts → List (List ℕ) → Answer
audited format texts bodies =
    let shelf = shelf_in format bodies in
    answer_over (book_of_format format texts shelf bodies) (length bodies) (first_finding format texts shelf 8 bodies nothing)
