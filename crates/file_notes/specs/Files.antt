-- The file that is known of, and what is known of it.
use Rattle.std.specs.Prelude.{◌≡◌, ℕ, ◌+◌, ◌≤◌, ◌<◌, Bool, true, false, List, [], map, length, filter, is_some, Some, vec_capacity}
use Rattle.std.specs.List.{AllByRecursion}
use Rattle.std.specs.Global.{Vec}
use Rattle.script_nodes.specs.Setup.{Named, Library}
use Rattle.script_nodes.specs.Views.{scripts_of, library_of}
use Rattle.replay_spec.specs.Book.{Instance, changed, renewed, sweeps, File}
use Rattle.replay_spec.specs.Rules.{first_file}
use Rattle.replay_spec.specs.Change.{with_line}
use Rattle.replay_spec.specs.Compaction.{stays, last_sweeps}
use Rattle.journal_records.specs.Records.{Record, changes}
use Rattle.journal_records.specs.Views.{logged_of}
use Rattle.instance_book.specs.declared.book.Book.{Book}
use Rattle.instance_book.specs.Views.{instances_of}
use Rattle.instance_book.specs.Changes.{change_of}
use Rattle.file_notes.specs.declared.note.Note.{Note}
use Rattle.file_notes.specs.declared.notes.FileNotes.{FileNotes}
use Rattle.file_notes.specs.declared.past.FilePast.{FilePast, Nothing, Begun, Drawn', Read', Visited', Swept', Renewed', Compacted'}
use Rattle.file_notes.specs.Notes.{note_of, length_in, all_lengths, is_told, stays_note, plan_in, picked}

-- the file that tells this number after its first record
abbrev pub with_drawn : (number : ℕ) → File → File
with_drawn n f = record f { drawn = Some n }

-- the file with one record more that was read, if it is one of a change and lands
abbrev pub with_read : (lands : Bool) → Record → (length : ℕ) → File → File
with_read true (changes c state) n f = with_line (changed c n) f
with_read _ r n f = f

-- whether recovery takes a record that was read
abbrev pub with_mark : (lands : Bool) → Record → Bool
with_mark true (changes c state) = true
with_mark _ r = false

-- the file with the records that stay in the compacted file of a book with these instances, which tells this number
abbrev pub compacted_by : List Instance → (logged : ℕ) → File → File
compacted_by is logged f = record f { drawn = Some logged; lines = last_sweeps (filter (stays is) f.lines) }

-- the compacted file of a book with these scripts
abbrev pub compacted_of : Library → Book → File → File
compacted_of library b f = compacted_by (instances_of library.all b.instances) b.logged f

-- the file of these records
abbrev pub file_of : FilePast → File
file_of Nothing = first_file 0 []
file_of (Begun setup head) = first_file head (scripts_of setup.value)
file_of (Drawn' m before number) = with_drawn number (file_of before)
file_of (Read' m before logged length) = with_read true (logged_of logged.value) length (file_of before)
file_of (Visited' m before change length) = with_line (changed (change_of change.value) length) (file_of before)
file_of (Swept' m before tick length) = with_line (changed (sweeps tick) length) (file_of before)
file_of (Renewed' m before setup length) = with_line (renewed (scripts_of setup.value) length) (file_of before)
file_of (Compacted' m before book library) = compacted_of (library_of library.value) book.value (file_of before)

-- the file that is known of
abbrev pub file_in : FileNotes → File
file_in s = file_of s.past

-- what is known is of the compacted file of this book, with these scripts
abbrev pub IsCompactedFrom : Library → Book → (old new : FileNotes) → Type 0
IsCompactedFrom library b old new = file_in new ≡ compacted_of library b (file_in old)

-- which of the records after the first one, and the number, recovery takes
abbrev pub marks_in : FileNotes → List Bool
marks_in s = map is_told s.notes.items

-- how long the record of a number is, if one is told
abbrev pub drawn_length : Bool → ℕ
drawn_length true = 14
drawn_length false = 0

-- how long the file is, with the records that recovery passes over, and without those in front of its first one
abbrev pub total_in : FileNotes → ℕ
total_in s = (s.head + drawn_length s.drawn) + all_lengths s.notes.items

-- What is known of a file is so: each record that recovery takes is a line of the file.
pub record IsNoted (s : FileNotes) : Type 0 where
  pub lines : filter is_told s.notes.items ≡ map note_of (file_in s).lines
  pub head : s.head ≡ (file_in s).head
  pub drawn : s.drawn ≡ is_some (file_in s).drawn

-- there is room for one more
abbrev pub HasRoom : Vec Note → Type 0
HasRoom notes = length notes.items < vec_capacity notes

-- what is noted of a file stays as it was
pub record StaysAsTold (old new : FileNotes) : Type 0 where
  pub file : file_in new ≡ file_in old
  pub notes : new.notes.items ≡ old.notes.items
  pub head : new.head ≡ old.head
  pub drawn : new.drawn ≡ old.drawn

-- the record stays in the compacted file of this book, sweeps that stand together aside
abbrev pub StaysIn : Book → Note → Bool → Type 0
StaysIn b n t = (all : List Named) → t ≡ stays_note (instances_of all b.instances) n

-- these are the records that stay in the compacted file of this book
abbrev pub IsPlanned : Book → List Note → List Bool → Type 0
IsPlanned b notes plan = (all : List Named) → plan ≡ plan_in (instances_of all b.instances) notes

-- this list tells which records stay in the compacted file of this book
abbrev pub IsPlan : Book → List Note → Vec Bool → Type 0
IsPlan b notes plan = IsPlanned b notes plan.items

-- no body is longer, nor that of a number
pub record IsLonger (notes : List Note) (longest : ℕ) : Type 0 where
  pub drawn : 9 ≤ longest
  pub all : AllByRecursion (λ n. length_in n ≤ longest) notes

-- what is known of the compacted file is what was known of the records that stay, all of which recovery takes
pub record IsPicked (plan : List Bool) (old new : FileNotes) : Type 0 where
  pub notes : new.notes.items ≡ picked plan old.notes.items
  pub told : AllByRecursion (λ n. is_told n ≡ true) new.notes.items
  pub head : new.head ≡ old.head
  pub drawn : new.drawn ≡ true
