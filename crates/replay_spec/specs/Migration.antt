-- A file that was read in an older format, and goes on in the one that is written.
use Rattle.std.specs.Prelude.{◌≡◌, false, List, [], ◌∷◌}
use Rattle.replay_spec.specs.Book.{Line, changed, renewed, Book, reopened}
use Rattle.replay_spec.specs.Rules.{Journal}
use Rattle.replay_spec.specs.Change.{record_length}
use Rattle.replay_spec.specs.Compaction.{compaction, file_length}
use Rattle.replay_spec.specs.Recovery.{Made, then_line, first_of, made_of_file}
use Rattle.replay_spec.specs.Remade.{AreTaken, IsFiled}

-- records, each with the length that it has in the format that is written
abbrev pub remeasured : Journal → List Line → Made → List Line
remeasured j [] m = []
remeasured j (changed c n ∷ ls) m = changed c (record_length j m.book c) ∷ remeasured j ls (then_line (changed c n) m)
remeasured j (renewed scripts n ∷ ls) m = renewed scripts (j.renewed scripts) ∷ remeasured j ls (then_line (renewed scripts n) m)

-- the book with its file in the format that is written
abbrev pub in_format : Journal → Book → Book
in_format j b = record b { file = record b.file { head = j.begun b.file.scripts; lines = remeasured j b.file.lines (first_of b.shelf b.file) } }

-- A book is told by its file in the format that is written. That file compacted makes the same book, as after a crash, but for its length
-- and file, and passes over no record. It does not tell that the shelf follows another one's journal.
abbrev pub MigrationKeepsTheBook : Type 0
MigrationKeepsTheBook =
    (j : Journal) (b : Book) → IsFiled b
    → let c = compaction (in_format j b) in
    IsFiled (in_format j b)
    × ((made_of_file b.shelf c).book ≡ record (reopened b) { length = file_length c; file = c; follows = false })
    × AreTaken c.lines (first_of b.shelf c)
