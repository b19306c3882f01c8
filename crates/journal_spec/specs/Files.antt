-- The bodies of a file make its book.
use Rattle.std.specs.Prelude.{◌≡◌, ◌<◌, ◌+◌, ℕ, List, [], ◌∷◌, length, Option, Some, None, ⊤}
use Rattle.replay_spec.specs.Book.{Line, changed, renewed, File, Book}
use Rattle.replay_spec.specs.Compaction.{compaction}
use Rattle.replay_spec.specs.Recovery as recovery
use Rattle.replay_spec.specs.Recovery.{then_line, first_of, made_of_file}
use Rattle.replay_spec.specs.Remade.{AreTaken, IsFiled}
use Rattle.journal_records.specs.Fields.{numbers_end}
use Rattle.journal_records.specs.Records.{IsInGrammar, begin_of, renewal_of, texts_of, begun_length, renewed_length}
use Rattle.journal_spec.specs.Before.{plain}
use Rattle.journal_spec.specs.Lengths.{own_body}
use Rattle.journal_spec.specs.Making.{Texts, Making, begun, made, book_of}
use Rattle.journal_spec.specs.Bodies.{bodies_of}
use Rattle.journal_spec.specs.Whole.{AreWhole, CanBeWritten, HasOwnStates}

-- Each of these lines can be written on the book that those before it make, and is as long as it says. A setup is what its texts are
-- read as, and its scripts can be run.
abbrev pub AreWritten : Texts → List Line → recovery.Made → Type 0
AreWritten texts [] m = ⊤
AreWritten texts (changed c n ∷ ls) m = CanBeWritten m.book c × (n ≡ length (own_body m.book c)) × AreWritten texts ls (then_line (changed c n) m)
AreWritten texts (renewed scripts n ∷ ls) m =
    IsInGrammar (renewal_of scripts) × (n ≡ renewed_length scripts) × (texts (texts_of scripts) ≡ Some scripts) × AreWhole scripts
    × AreWritten texts ls (then_line (renewed scripts n) m)

-- the number that a compacted file tells, if this is one, can be written
abbrev pub IsDrawn : Option ℕ → Type 0
IsDrawn None = ⊤
IsDrawn (Some n) = n < numbers_end + 1

-- a file can be written, record by record, and its lengths are those of the bodies
pub record IsWritten (texts : Texts) (shelf : ℕ) (f : File) : Type 0 where
  pub begins : IsInGrammar (begin_of shelf f.scripts)
  pub read : texts (texts_of f.scripts) ≡ Some f.scripts
  pub whole : AreWhole f.scripts
  pub head : f.head ≡ begun_length shelf f.scripts
  pub drawn : IsDrawn f.drawn
  pub lines : AreWritten texts f.lines (first_of shelf f)

-- what bodies make is this book with these numbers, and the states that they told are those of the pages' chains
abbrev pub IsMade : Making → recovery.Made → Type 0
IsMade (begun m) k = (plain m ≡ k) × HasOwnStates m.earlier m.book
IsMade (made m) k = (plain m ≡ k) × HasOwnStates m.earlier m.book
IsMade _ k = ⊥

-- The bodies of a file that passes over no record make what the file makes.
abbrev pub FilesAreMade : Type 0
FilesAreMade =
    (texts : Texts) (shelf : ℕ) (f : File) → AreTaken f.lines (first_of shelf f) → IsWritten texts shelf f
    → IsMade (book_of texts shelf (bodies_of shelf f)) (made_of_file shelf f)

-- The compacted file of a book whose file can be written can be written too.
abbrev pub CompactionIsWritten : Type 0
CompactionIsWritten =
    (texts : Texts) (b : Book) → IsFiled b → IsWritten texts b.shelf b.file → b.logged < numbers_end + 1 → IsWritten texts b.shelf (compaction b)
