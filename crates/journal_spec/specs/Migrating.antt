-- A file of an older format is written in format 6.
use Rattle.std.specs.Prelude.{◌<◌, ◌^◌, List, [], ◌∷◌, length, ⊤}
use Rattle.replay_spec.specs.Book.{Line, changed, renewed, Book}
use Rattle.replay_spec.specs.Recovery.{Made, then_line, first_of}
use Rattle.replay_spec.specs.Remade.{IsFiled}
use Rattle.replay_spec.specs.Migration.{in_format}
use Rattle.journal_records.specs.Records.{IsInGrammar, begin_of}
use Rattle.journal_spec.specs.Lengths.{own_body, journal_rules}
use Rattle.journal_spec.specs.Making.{Texts}
use Rattle.journal_spec.specs.Whole.{CanBeWritten}
use Rattle.journal_spec.specs.Files.{IsDrawn, IsWritten}
use Rattle.journal_spec.specs.Events.{IsGiven}

-- each of these lines can be written in format 6, on the book that those before it make
abbrev pub CanAllBeWritten : Texts → List Line → Made → Type 0
CanAllBeWritten texts [] m = ⊤
CanAllBeWritten texts (changed c n ∷ ls) m =
    (CanBeWritten m.book c × (length (own_body m.book c) < 2 ^ 63)) × CanAllBeWritten texts ls (then_line (changed c n) m)
CanAllBeWritten texts (renewed scripts n ∷ ls) m = IsGiven texts scripts × CanAllBeWritten texts ls (then_line (renewed scripts n) m)

-- The file of a book, with its records measured as format 6 spells them, can be written, whatever bodies told it.
abbrev pub MigrationIsWritten : Type 0
MigrationIsWritten =
    (texts : Texts) (b : Book) → IsFiled b → CanAllBeWritten texts b.file.lines (first_of b.shelf b.file)
    → IsGiven texts b.file.scripts → IsInGrammar (begin_of b.shelf b.file.scripts) → IsDrawn b.file.drawn
    → IsWritten texts b.shelf (in_format (journal_rules b.shelf) b).file
