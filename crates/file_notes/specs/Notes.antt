-- What is known of a record without its bytes.
use Rattle.std.specs.Prelude.{ℕ, ◌+◌, ◌&&◌, Bool, true, false, not, List, [], ◌∷◌, if◌then◌else◌}
use Rattle.replay_spec.specs.Book.{Instance as Live, Change, opens, extends, ends, finishes, sweeps, Line, changed, renewed}
use Rattle.replay_spec.specs.Compaction.{is_there}
use Rattle.journal_records.specs.Records.{Record, begins, changes, renews, draws, follows, promotes}
use Rattle.file_notes.specs.declared.note.Note.{Note}
use Rattle.file_notes.specs.declared.note.Note.TheVariants.{Instance, Freed, Time, Setup, Passed}

-- what is known of the record of a change, whose body is so long
abbrev pub note_by : Change → (length : ℕ) → Note
note_by (opens o) n = Instance o.number n
note_by (extends x) n = Instance x.instance n
note_by (ends e) n = Instance e.instance n
note_by (finishes f) n = Freed n
note_by (sweeps tick) n = Time n

-- what is known of a record that was read, whose body is so long; of none but that of a change anything
abbrev pub note_read : Record → (length : ℕ) → Note
note_read (changes c state) n = note_by c n
note_read (begins shelf named) n = Passed n
note_read (renews named) n = Passed n
note_read (draws number) n = Passed n
note_read follows n = Passed n
note_read promotes n = Passed n

-- what is known of a line of a file
abbrev pub note_of : Line → Note
note_of (changed c n) = note_by c n
note_of (renewed scripts n) = Setup n

-- how long the body of a noted record is
abbrev pub length_in : Note → ℕ
length_in (Instance number n) = n
length_in (Freed n) = n
length_in (Time n) = n
length_in (Setup n) = n
length_in (Passed n) = n

-- how long records are in a file: each has a gate and four bytes of length
abbrev pub all_lengths : List Note → ℕ
all_lengths [] = 0
all_lengths (n ∷ ns) = (length_in n + 5) + all_lengths ns

-- whether the record tells that time went on
abbrev pub is_time : Note → Bool
is_time (Time n) = true
is_time _ = false

-- whether recovery takes the record
abbrev pub is_told : Note → Bool
is_told (Passed n) = false
is_told _ = true

-- whether the record stays in the compacted file of a book with these instances, sweeps that stand together aside
abbrev pub stays_note : List Live → Note → Bool
stays_note is (Instance number n) = is_there number is
stays_note is (Freed n) = false
stays_note is (Time n) = true
stays_note is (Setup n) = true
stays_note is (Passed n) = false

-- whether the first record that stays tells that time went on
abbrev pub time_next : List Live → List Note → Bool
time_next is [] = false
time_next is (n ∷ ns) = if stays_note is n then is_time n else time_next is ns

-- which records stay in the compacted file of a book with these instances: of sweeps that then stand together the last one
abbrev pub plan_in : List Live → List Note → List Bool
plan_in is [] = []
plan_in is (n ∷ ns) = (stays_note is n && not (is_time n && time_next is ns)) ∷ plan_in is ns

-- the items whose places are marked
abbrev pub picked : {A : Type 0} → List Bool → List A → List A
picked [] xs = []
picked (b ∷ bs) [] = []
picked (b ∷ bs) (x ∷ xs) = if b then x ∷ picked bs xs else picked bs xs
