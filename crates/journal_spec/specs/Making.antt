-- What the records of a journal's file make of a shelf.
use Rattle.std.specs.Prelude.{ℕ, ◌+◌, ◌==◌, Bool, true, false, List, [], ◌∷◌, length, Option, Some, None, nat_lt, if◌then◌else◌}
use Rattle.script_nodes.specs.Setup.{Named}
use Rattle.replay_spec.specs.Book.{Change, opens}
use Rattle.replay_spec.specs.Rules.{first_file}
use Rattle.replay_spec.specs.Recovery as recovery
use Rattle.replay_spec.specs.Recovery.{first_of, resettled}
use Rattle.machine_states.specs.Machine.{inside_of}
use Rattle.journal_records.specs.Records.{Record, begins, changes, renews, draws, follows, promotes}
use Rattle.journal_records.specs.Reading.{read_record}
use Rattle.journal_spec.specs.Before.{Earlier, nothing_told, Made, plain}
use Rattle.journal_spec.specs.Retaking.{Told, unread, misread, told, told_in, landing, retaken}

-- How names and texts are read as scripts: none where they are no setup.
abbrev pub Texts : Type 0
Texts = List (List ℕ × List ℕ) → Option (List Named)

-- What records make: nothing, where there are none; a shelf of this number that follows another one's journal, and knows of no record of
-- that; no more than that the shelf followed so, and follows no longer; the book of the record that a journal begins with, where none
-- stands after it; a book, as after a crash; damage, where at this place stands no record that a shelf writes there; or the journal is of
-- another shelf.
pub data Making : Type 0 where
  nothing waited : Making
  waits : (shelf : ℕ) → Making
  begun made : Made → Making
  damaged other : (place : ℕ) → Making

-- a start is of one of so many scripts
abbrev pub has_script : (count : ℕ) → Change → Bool
has_script count (opens o) = nat_lt o.script count
has_script count _ = true

-- a book that records made, with what they told
abbrev pub beside : Earlier → recovery.Made → Made
beside earlier m = record { book = m.book; earlier = earlier }

-- what was made, in a file that is so long and tells so whether the shelf follows another one's journal
abbrev pub in_file : (fed : Bool) → (length : ℕ) → Made → Made
in_file fed n m = record m { book = record m.book { length = n; follows = fed } }

-- The shelf that follows another one's journal, and knows of no record of that: its file tells that alone, and is 15 bytes long.
abbrev pub waiting : (shelf : ℕ) → Made
waiting shelf = in_file true 15 (beside nothing_told (first_of shelf (first_file 0 [])))

-- The book that a file of this setup alone makes. The gate of the record of the setup, whose body is so long, is at this place: four bytes
-- of length stand after it, and another gate after the body. Where it is the first record 8 bytes stand before it.
abbrev pub began : (fed : Bool) → (shelf place length : ℕ) → List Named → Made
began fed shelf place n scripts = in_file fed (place + 6 + n) (beside nothing_told (first_of shelf (first_file (14 + n) scripts)))

-- what the record of the setup makes, whose gate is at this place, for the shelf that it names and what its names and texts are read as
abbrev pub first_setup : (fed : Bool) → (shelf place length s : ℕ) → Option (List Named) → Making
first_setup fed shelf place n s None = damaged place
first_setup fed shelf place n s (Some scripts) = if s == shelf then begun (began fed shelf place n scripts) else other place

-- what the record makes that a journal begins with, whose gate is at this place and whose body is so long
abbrev pub first_by : Texts → (fed : Bool) → (shelf place length : ℕ) → Option Record → Making
first_by texts fed shelf place n (Some (begins s named)) = first_setup fed shelf place n s (texts named)
first_by texts fed shelf place n _ = damaged place

-- what the first record of a file makes, which alone may tell that the shelf follows another one's journal
abbrev pub start_by : Texts → (shelf place length : ℕ) → Option Record → Making
start_by texts shelf place n (Some follows) = waits shelf
start_by texts shelf place n r = first_by texts false shelf place n r

-- what a record makes directly after that
abbrev pub fed_by : Texts → (shelf place length : ℕ) → Option Record → Making
fed_by texts shelf place n (Some promotes) = waited
fed_by texts shelf place n r = first_by texts true shelf place n r

-- what a later record of this length makes, whose page's state is told so
abbrev pub told_next : (place length : ℕ) → Made → Change → Told → Making
told_next place n m c unread = made (retaken n c (landing m c []) unread m)
told_next place n m c misread = damaged place
told_next place n m c (told d) = made (retaken n c (landing m c (inside_of d.frames)) (told d) m)

-- what a record of another setup makes, for what its names and texts are read as
abbrev pub next_setup : (place length : ℕ) → Made → Option (List Named) → Making
next_setup place n m None = damaged place
next_setup place n m (Some scripts) = made (beside m.earlier (resettled n scripts (plain m)))

-- the book of a shelf that followed, and follows no longer, after the record of this length that tells so
abbrev pub promoted : (length : ℕ) → Made → Made
promoted n m = in_file false (m.book.length + (n + 5)) m

-- what that record makes, whose gate is at this place: a shelf that does not follow has none
abbrev pub promoted_by : (place length : ℕ) → Made → (fed : Bool) → Making
promoted_by place n m true = made (promoted n m)
promoted_by place n m false = damaged place

-- what a later record of this length makes, whose gate is at this place
abbrev pub next_by : Texts → (place length : ℕ) → Made → Option Record → Making
next_by texts place n m (Some (changes c state)) =
    if has_script (length m.book.scripts) c then told_next place n m c (told_in m.earlier m.book c state) else damaged place
next_by texts place n m (Some (renews named)) = next_setup place n m (texts named)
next_by texts place n m (Some promotes) = promoted_by place n m m.book.follows
next_by texts place n m _ = damaged place

-- the book of a file that was compacted, where this number is one more than the greatest in a record before
abbrev pub with_drawn : (number : ℕ) → Made → Made
with_drawn n m = in_file m.book.follows (m.book.length + 14) (beside m.earlier (first_of m.book.shelf (record m.book.file { drawn = Some n })))

-- what the record directly after the one of the setup makes, which alone may tell of a compaction
abbrev pub second_by : Texts → (place length : ℕ) → Made → Option Record → Making
second_by texts place n m (Some (draws number)) = made (with_drawn number m)
second_by texts place n m r = next_by texts place n m r

-- what records make with one body more, whose gate is at this place
abbrev pub with_body : Texts → (shelf place : ℕ) → List ℕ → Making → Making
with_body texts shelf place body nothing = start_by texts shelf place (length body) (read_record body)
with_body texts shelf place body (waits s) = fed_by texts shelf place (length body) (read_record body)
with_body texts shelf place body waited = first_by texts false shelf place (length body) (read_record body)
with_body texts shelf place body (begun m) = second_by texts place (length body) m (read_record body)
with_body texts shelf place body (made m) = next_by texts place (length body) m (read_record body)
with_body texts shelf place body (damaged p) = damaged p
with_body texts shelf place body (other p) = other p

-- what records make with these bodies more, the gate of the first at this place
abbrev pub with_bodies : Texts → (shelf place : ℕ) → List (List ℕ) → Making → Making
with_bodies texts shelf place [] m = m
with_bodies texts shelf place (body ∷ bodies) m =
    with_bodies texts shelf (place + 5 + length body) bodies (with_body texts shelf place body m)

-- What the bodies of a file make for a shelf of this number. The first gate is at 8.
abbrev pub book_of : Texts → (shelf : ℕ) → List (List ℕ) → Making
book_of texts shelf bodies = with_bodies texts shelf 8 bodies nothing

-- the book that records make, if they make one
abbrev pub made_in : Making → Option Made
made_in nothing = None
made_in waited = None
made_in (waits shelf) = Some (waiting shelf)
made_in (begun m) = Some m
made_in (made m) = Some m
made_in (damaged place) = None
made_in (other place) = None
