-- What the shelves of one program run under.
use Rattle.std.specs.Prelude.{ℕ, false, List, [], Option, Some, None}
use Rattle.script_nodes.specs.Setup.{Named}
use Rattle.replay_spec.specs.Book.{Change, File, Book}

-- how long a journal's file is with this setup alone, and how long the body is of a record of another setup, and of a change on a book
pub record Journal : Type 0 where
  pub begun : List Named → ℕ
  pub renewed : List Named → ℕ
  pub length_of : Book → Change → ℕ

-- The most that a segment may cost; how long a page can be answered; the most live instances of a shelf, and the most
-- pages of an instance that are not evicted; and the journal, if changes are recorded.
pub record Rules : Type 0 where
  pub fuel : ℕ
  pub life : ℕ
  pub instances : ℕ
  pub pages : ℕ
  pub journal : Option Journal

-- how long a file is with this setup alone; without a journal nothing
abbrev pub begun_length : Option Journal → List Named → ℕ
begun_length None scripts = 0
begun_length (Some j) scripts = j.begun scripts

-- the file with this setup alone, which is so long
abbrev pub first_file : (head : ℕ) → List Named → File
first_file head scripts = record { scripts = scripts; head = head; drawn = None; lines = [] }

-- the book of a shelf on which nothing has happened
abbrev pub empty_book : Rules → List Named → (shelf : ℕ) → Book
empty_book rules scripts shelf = record {
  shelf = shelf;
  scripts = scripts;
  clock = 0;
  drawn = 0;
  logged = 0;
  length = begun_length rules.journal scripts;
  file = first_file (begun_length rules.journal scripts) scripts;
  out = [];
  down = None;
  follows = false;
  instances = [];
}
