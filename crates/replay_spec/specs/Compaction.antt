-- What becomes of a journal's file: it is compacted, or goes on with another setup.
use Rattle.std.specs.Prelude.{ℕ, ◌+◌, ◌==◌, ◌&&◌, Bool, true, false, List, [], ◌∷◌, filter, Option, Some, None, if◌then◌else◌}
use Rattle.script_nodes.specs.Setup.{Named}
use Rattle.replay_spec.specs.Book.{Instance, Change, opens, extends, ends, finishes, sweeps, Work, landing, compacting, Line, changed, renewed, File, Book, reopened, are_same}
use Rattle.replay_spec.specs.Rules.{Journal, Rules}
use Rattle.replay_spec.specs.Change.{with_line, land}

-- whether an instance of this number stands
abbrev pub is_there : ℕ → List Instance → Bool
is_there n [] = false
is_there n (i ∷ is) = if i.number == n then true else is_there n is

-- whether a change stays in the compacted file of a book with these instances: a page of one of them was shown or answered, or time went on
abbrev pub stays_in : List Instance → Change → Bool
stays_in is (opens o) = is_there o.number is
stays_in is (extends x) = is_there x.instance is
stays_in is (ends e) = is_there e.instance is
stays_in is (finishes f) = false
stays_in is (sweeps tick) = true

-- whether a record stays in the compacted file of a book with these instances, as every setup does
abbrev pub stays : List Instance → Line → Bool
stays is (changed c n) = stays_in is c
stays is (renewed scripts n) = true

-- whether a record tells that time went on
abbrev pub is_sweep : Line → Bool
is_sweep (changed (sweeps tick) n) = true
is_sweep _ = false

-- a record before others, where of two sweeps that stand together the later one is left
abbrev pub ahead_of : Line → List Line → List Line
ahead_of l [] = l ∷ []
ahead_of l (m ∷ ms) = if is_sweep l && is_sweep m then m ∷ ms else l ∷ m ∷ ms

-- records, where of sweeps that stand together the last one is left
abbrev pub last_sweeps : List Line → List Line
last_sweeps [] = []
last_sweeps (l ∷ ls) = ahead_of l (last_sweeps ls)

-- The compacted file of a book: the setup that the file began with, the next number, and of the records that stay the last sweep of
-- each run of sweeps and all others.
abbrev pub compaction : Book → File
compaction b = record b.file { drawn = Some b.logged; lines = last_sweeps (filter (stays b.instances) b.file.lines) }

-- how long the body of a record is
abbrev pub line_length : Line → ℕ
line_length (changed c n) = n
line_length (renewed scripts n) = n

-- how long records are in a file: each has a gate and four bytes of length
abbrev pub lines_length : List Line → ℕ
lines_length [] = 0
lines_length (l ∷ ls) = (line_length l + 5) + lines_length ls

-- how long the record is that tells a number, whose body has 9 bytes, where there is one
abbrev pub drawn_length : Option ℕ → ℕ
drawn_length None = 0
drawn_length (Some n) = 14

-- how long a file is
abbrev pub file_length : File → ℕ
file_length f = (f.head + drawn_length f.drawn) + lines_length f.lines

-- how long a book's file is once it is compacted; without a journal it stays as it is
abbrev pub compacted_length : Option Journal → Book → ℕ
compacted_length None b = b.length
compacted_length (Some j) b = file_length (compaction b)

-- a book's file once it is compacted; without a journal it stays as it is
abbrev pub compacted_file : Option Journal → Book → File
compacted_file None b = b.file
compacted_file (Some j) b = compaction b

-- the book after its file is compacted, which then does not tell that the shelf follows another one's journal
abbrev pub rewritten : Rules → Book → Book
rewritten rules b = record b { length = compacted_length rules.journal b; file = compacted_file rules.journal b; follows = false }

-- the book after this work is done
abbrev pub worked : Rules → Work → Book → Book
worked rules (landing c inside) b = land rules c inside b
worked rules compacting b = rewritten rules b

-- how long a file of this length is with a record of another setup
abbrev pub renewed_length : Option Journal → List Named → ℕ → ℕ
renewed_length None scripts n = n
renewed_length (Some j) scripts n = n + (j.renewed scripts + 5)

-- the file with a record of another setup
abbrev pub renewed_file : Option Journal → List Named → File → File
renewed_file None scripts f = f
renewed_file (Some j) scripts f = with_line (renewed scripts (j.renewed scripts)) f

-- the setup with which a shelf goes on that is opened with this one: a shelf that follows another one's journal keeps the one that was told last
abbrev pub setup_for : Book → List Named → List Named
setup_for b scripts = if b.follows then b.scripts else scripts

-- the book of a shelf that goes on with this setup, which a record tells where its names and texts are others than before
abbrev pub going_on_with : Option Journal → List Named → Book → Book
going_on_with journal scripts b = record (reopened b) {
  scripts = scripts;
  length = if are_same scripts b.scripts then b.length else renewed_length journal scripts b.length;
  file = if are_same scripts b.scripts then b.file else renewed_file journal scripts b.file;
}

-- The book of a shelf that is opened again with this setup. A shelf that follows another one's journal is told none.
abbrev pub reopened_with : Option Journal → List Named → Book → Book
reopened_with journal scripts b = going_on_with journal (setup_for b scripts) b
