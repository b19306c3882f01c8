-- Which bodies of a journal stay when its file is compacted, whoever wrote it, and what they make. A file of an older format is compacted too:
-- of that the bodies that stay are written in the newest format. That a shelf followed another one's journal stays in no file.
use Rattle.std.specs.Prelude.{◌≡◌, ℕ, ◌+◌, ◌≤◌, ◌^◌, ◌==◌, ◌&&◌, true, false, List, [], ◌∷◌, ◌++◌, length, map, Option, Some, None, is_some, nat_lt, if◌then◌else◌}
use Rattle.script_value.specs.declared.outcome.TxName.{TxName}
use Rattle.script_nodes.specs.Setup.{Named}
use Rattle.replay_spec.specs.Book.{Page, Instance, Change, Line, changed, renewed, instance_at, page_at}
use Rattle.replay_spec.specs.Compaction.{stays_in, is_sweep, compaction, file_length}
use Rattle.replay_spec.specs.Recovery.{resettled}
use Rattle.machine_states.specs.Machine.{Suspended, inside_of}
use Rattle.kept_states.specs.FrameCodec.Stored.{IsStored}
use Rattle.kept_states.specs.FrameCodec.Forms.{form_bytes}
use Rattle.page_journal.specs.Records.{is_format, at_rest}
use Rattle.journal_records.specs.Records.{Record, changes, renews, draws, body_of}
use Rattle.journal_records.specs.Old.{newest_format, read_record_in}
use Rattle.journal_records.specs.Roles.{behind_front}
use Rattle.journal_spec.specs.Before.{Earlier, state_at, Made, plain, before_told}
use Rattle.journal_spec.specs.Retaking.{arena_of, Told, unread, misread, told, told_in, landing, retaken}
use Rattle.journal_spec.specs.Making.{Texts, Making, nothing, begun, made, beside, made_in, book_of}
use Rattle.journal_spec.specs.Old.{told_of, landing_of, with_body_at, book_of_format}
use Rattle.journal_spec.specs.Whole.{AreWhole}
use Rattle.journal_spec.specs.Reading.{AreAllBytes}

-- the transactions that a page is inside whose state is told so
abbrev pub inside_told : Told → List TxName
inside_told unread = []
inside_told misread = []
inside_told (told d) = inside_of d.frames

-- a record that is not passed over, with its body: of a change, with the bytes of its page's state, if there are any; or of a setup
pub data Entry : Type 0 where
  tells : Change → (state : Option (List ℕ)) → (body : List ℕ) → Entry
  settles : List Named → (body : List ℕ) → Entry

-- the body of an entry
abbrev pub body_in : Entry → List ℕ
body_in (tells c state body) = body
body_in (settles scripts body) = body

-- the line of an entry
abbrev pub line_of : Entry → Line
line_of (tells c state body) = changed c (length body)
line_of (settles scripts body) = renewed scripts (length body)

-- what records make with this one more
abbrev pub then_entry : Entry → Made → Made
then_entry (tells c state body) m =
    let x = told_in m.earlier m.book c state in retaken (length body) c (landing m c (inside_told x)) x m
then_entry (settles scripts body) m = beside m.earlier (resettled (length body) scripts (plain m))

-- what records make with these more
abbrev pub entries_after : List Entry → Made → Made
entries_after [] m = m
entries_after (e ∷ es) m = entries_after es (then_entry e m)

-- the bytes that the newest format has of a page's state, where this is told of it, after the state that it is written after
abbrev pub bytes_now : (before : Option Suspended) → Option (List ℕ) → Told → Option (List ℕ)
bytes_now before state (told d) = Some (form_bytes before d)
bytes_now before state _ = state

-- the bytes that the newest format has of the state of a record's page: from format 3 on those that the record has
abbrev pub state_now : (format : ℕ) → Made → Change → Option (List ℕ) → Option (List ℕ)
state_now format m c state =
    if nat_lt format 3 then bytes_now (before_told m.earlier m.book c) state (told_of format m c state) else state

-- the body that the newest format has of a change: there it is copied, and of an older format it is written anew
abbrev pub body_now : (format : ℕ) → Made → (body : List ℕ) → Change → Option (List ℕ) → List ℕ
body_now format m body c state = if format == newest_format then body else body_of (changes c (state_now format m c state))

-- the entry of a setup, where its names and texts are read as one
abbrev pub settled_by : (body : List ℕ) → Option (List Named) → List Entry
settled_by body None = []
settled_by body (Some scripts) = settles scripts body ∷ []

-- the entry of a body of this format after what was made, if it stays in the compacted file of a book with these instances
abbrev pub entry_by : (format : ℕ) → List Instance → Texts → Made → (body : List ℕ) → Option Record → List Entry
entry_by format is texts m body (Some (changes c state)) =
    if is_some (landing_of format m c (told_of format m c state)) && stays_in is c
    then tells c (state_now format m c state) (body_now format m body c state) ∷ [] else []
entry_by format is texts m body (Some (renews named)) = settled_by body (texts named)
entry_by format is texts m body _ = []

-- the entry of a body after what records make, if they make a book and it stays
abbrev pub entry_in : (format : ℕ) → List Instance → Texts → Making → (body : List ℕ) → List Entry
entry_in format is texts (begun m) body = entry_by format is texts m body (read_record_in format body)
entry_in format is texts (made m) body = entry_by format is texts m body (read_record_in format body)
entry_in format is texts _ body = []

-- the entries of these bodies that stay, the gate of the first at this place, after what records make
abbrev pub entries : (format : ℕ) → List Instance → Texts → (shelf place : ℕ) → List (List ℕ) → Making → List Entry
entries format is texts shelf place [] x = []
entries format is texts shelf place (body ∷ bodies) x =
    entry_in format is texts x body ++ entries format is texts shelf (place + 5 + length body) bodies (with_body_at format texts shelf place body x)

-- an entry before others, where of two sweeps that stand together the later one is left
abbrev pub entry_ahead : Entry → List Entry → List Entry
entry_ahead e [] = e ∷ []
entry_ahead e (f ∷ es) = if is_sweep (line_of e) && is_sweep (line_of f) then f ∷ es else e ∷ f ∷ es

-- entries, where of sweeps that stand together the last one is left
abbrev pub entries_joined : List Entry → List Entry
entries_joined [] = []
entries_joined (e ∷ es) = entry_ahead e (entries_joined es)

-- the first of these bodies, if there is one
abbrev pub first_body_of : List (List ℕ) → List ℕ
first_body_of [] = []
first_body_of (body ∷ bodies) = body

-- the body of the record that a journal begins with, after those that tell whether the shelf follows another one's journal
abbrev pub begin_in : List (List ℕ) → List ℕ
begin_in bodies = first_body_of (behind_front bodies)

-- The bodies of the compacted file of this book, whose file of this format has these bodies: the one that a journal begins with, that of the
-- next number, and those that stay.
abbrev pub copies : (format : ℕ) → Texts → (shelf : ℕ) → (bodies : List (List ℕ)) → Made → List (List ℕ)
copies format texts shelf bodies m =
    begin_in bodies ∷ (body_of (draws m.book.logged) ∷ map body_in (entries_joined (entries format m.book.instances texts shelf 8 bodies nothing)))

-- of each page of these instances the same state is told
abbrev pub SameStates : List Instance → (e f : Earlier) → Type 0
SameStates is e f =
    (k n : ℕ) (i : Instance) (p : Page) → instance_at k is ≡ Some i → page_at n i.pages ≡ Some p → state_at n f.states ≡ state_at n e.states

-- what records make is the book of the compacted file, with the states that were told of its pages
pub record IsCompacted (m k : Made) : Type 0 where
  pub book : k.book ≡ record m.book { length = file_length (compaction m.book); file = compaction m.book; follows = false }
  pub states : SameStates m.book.instances m.earlier k.earlier

-- The bodies that are copied make the book of the compacted file, whoever wrote them: none is read or run anew.
abbrev pub CopiesMakeTheBook : Type 0
CopiesMakeTheBook =
    (texts : Texts) (shelf : ℕ) (bodies : List (List ℕ)) (m : Made) → AreAllBytes bodies
    → made_in (book_of texts shelf bodies) ≡ Some m → m.book.follows ≡ false
    → (k : Made) × (made_in (book_of texts shelf (copies newest_format texts shelf bodies m)) ≡ Some k) × IsCompacted m k

-- What records make is this book with another file, which begins with the same setup and tells the next number, and the same states were told
-- of its pages.
pub record IsMigrated (m k : Made) : Type 0 where
  pub book : k.book ≡ record m.book { length = k.book.length; file = k.book.file; follows = false }
  pub first : k.book.file.scripts ≡ m.book.file.scripts
  pub drawn : k.book.file.drawn ≡ Some m.book.logged
  pub states : SameStates m.book.instances m.earlier k.earlier

-- each page of the book has a state that was told, which fits the page's script and has a spelling
abbrev pub HasStored : Made → Type 0
HasStored m =
    (k n : ℕ) (i : Instance) (p : Page) → instance_at k m.book.instances ≡ Some i → page_at n i.pages ≡ Some p
    → (d : Suspended) × ((state_at n m.earlier.states ≡ Some d) × IsStored (arena_of i.script.script) d)

-- What is asked of a file whose states are written anew: each of them fits its script and has a spelling; and where its scripts made them, these
-- can be run.
pub record IsToldAnew (format : ℕ) (m : Made) : Type 0 where
  pub stored : nat_lt format 3 ≡ true → HasStored m
  pub whole : format ≡ 1 → AreWhole m.book.scripts

-- The bodies of a file of any format that stay, written in the newest one, make the book of the file again, whoever wrote it, where a journal has
-- room for them.
abbrev pub MigrationsMakeTheBook : Type 0
MigrationsMakeTheBook =
    (format : ℕ) (texts : Texts) (shelf : ℕ) (bodies : List (List ℕ)) (m : Made) → is_format format ≡ true
    → IsToldAnew format m → AreAllBytes bodies → made_in (book_of_format format texts shelf bodies) ≡ Some m → m.book.follows ≡ false
    → length (at_rest (copies format texts shelf bodies m)) ≤ 2 ^ 30
    → (k : Made) × (made_in (book_of texts shelf (copies format texts shelf bodies m)) ≡ Some k) × IsMigrated m k
