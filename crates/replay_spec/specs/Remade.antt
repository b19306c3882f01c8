-- What holds of the records that events leave, and of the books that records make.
use Rattle.std.specs.Prelude.{◌≡◌, ◌≤◌, ◌<◌, ℕ, List, [], ◌∷◌, length, Option, Some, None, true, false, slice_get, ⊤}
use Rattle.script_value.specs.Val.{Val}
use Rattle.script_value.specs.declared.outcome.TxName.{TxName}
use Rattle.instance_cells.specs.Cells.{Holds}
use Rattle.script_nodes.specs.Core.{AllOnCells}
use Rattle.script_nodes.specs.Setup.{Script, Named, trees_of}
use Rattle.replay_spec.specs.Tape.{present, Answer}
use Rattle.replay_spec.specs.Book.{Instance, Change, Work, landing, compacting, Doubt, Line, changed, renewed, File, Book, instance_at, reopened, are_same}
use Rattle.replay_spec.specs.Rules.{Journal, Rules, empty_book}
use Rattle.replay_spec.specs.Change.{instances_by}
use Rattle.replay_spec.specs.Compaction.{compaction, file_length}
use Rattle.replay_spec.specs.Admission.{or_else}
use Rattle.replay_spec.specs.Next.{Ticket}
use Rattle.replay_spec.specs.Step.{Event, crash, Fate, Reply, Decision, replies, records, compacts, unless, too_long, full_journal, publish_comes, step}
use Rattle.replay_spec.specs.Recovery.{remade, Made, nothing_made, taken_in, redo, then_line, lines_after, first_of, made_of_file}
use Rattle.replay_spec.specs.Invariant.{Among, Unused, AreOrderly, IsOrderly, IsSound}
use Rattle.replay_spec.specs.Laws.{ArePast, run_behind, IsLawful, Moment, then_book, book_after, AreLawful}
use Rattle.server_limits.specs.Limits.{most_fuel}

-- The effects of a run hold over the cells that it ran over.
abbrev pub EffectsHold : Type 0
EffectsHold =
    (s : Script) (past : List Answer) (a : Answer) → ArePast past → (fuel : ℕ) (cells : List Val)
    → Holds (run_behind s past a (present cells fuel)).effects cells

-- what a decision comes to once its record is measured
abbrev pub through : Option Journal → Book → Decision → Decision
through journal b (replies r) = replies r
through journal b (compacts r) = compacts r
through journal b (records r c inside) = unless (or_else (too_long journal b c) (full_journal journal b c)) (records r c inside)

-- The journal is asked last: a publish is decided as on a shelf without one, and then its record is measured.
abbrev pub JournalIsLast : Type 0
JournalIsLast =
    (rules : Rules) (b : Book) (t : Ticket)
    → publish_comes rules b t ≡ through rules.journal b (publish_comes (record rules { journal = None }) b t)

-- The record of the change is none that is passed over, and lands as the change itself, whose page is inside these
-- transactions.
abbrev pub IsRemade : Book → Change → (inside : List TxName) → Type 0
IsRemade b c inside =
    (names : List TxName) × ((remade b c ≡ Some names) × (instances_by b.scripts c names b.instances ≡ instances_by b.scripts c inside b.instances))

-- the work that is in doubt would be made again from its record
abbrev pub IsRemadeWork : Book → Work → Type 0
IsRemadeWork b (landing c inside) = IsRemade b c inside
IsRemadeWork b compacting = ⊤

-- what is in doubt, if anything is, would be made again from its record
abbrev pub IsRemadeDoubt : Book → Option Doubt → Type 0
IsRemadeDoubt b None = ⊤
IsRemadeDoubt b (Some doubt) = IsRemadeWork b doubt.work

-- a script names cells that it has
abbrev pub NamesItsCells : Named → Type 0
NamesItsCells s = AllOnCells (length s.script.web) (length s.script.cells) (trees_of s.script)

-- the scripts of the setup and of the instances name cells that they have
pub record NameTheirCells (b : Book) : Type 0 where
  pub setup : (k : ℕ) (s : Named) → slice_get b.scripts k ≡ Some s → NamesItsCells s
  pub instances : (k : ℕ) (i : Instance) → instance_at k b.instances ≡ Some i → NamesItsCells i.script

-- the scripts of a setup that is given at a crash name cells that they have
abbrev pub GivesNamed : Event → Type 0
GivesNamed (crash scripts) = (k : ℕ) (s : Named) → slice_get scripts k ≡ Some s → NamesItsCells s
GivesNamed _ = ⊤

-- Scripts go on to name cells that they have.
abbrev pub CellsStayNamed : Type 0
CellsStayNamed =
    ((rules : Rules) (scripts : List Named) (shelf : ℕ) → ((k : ℕ) (s : Named) → slice_get scripts k ≡ Some s → NamesItsCells s)
    → NameTheirCells (empty_book rules scripts shelf))
    × ((b : Book) (m : Moment) → IsOrderly b → NameTheirCells b → GivesNamed m.event → NameTheirCells (then_book m b))

-- What a publish records would be made again from its record, over the book that it was decided on.
abbrev pub DecisionsAreRemade : Type 0
DecisionsAreRemade =
    (rules : Rules) (b : Book) (t : Ticket) → rules.fuel ≤ most_fuel → IsOrderly b → NameTheirCells b
    → (r : Reply) (c : Change) (inside : List TxName) → publish_comes rules b t ≡ records r c inside → IsRemade b c inside

-- the numbers that were seen are used
abbrev pub AreUsed : List ℕ → Book → Type 0
AreUsed seen b = (n : ℕ) → Among n seen → Unused b n → ⊥

-- the record of a change is not passed over
abbrev pub IsTakenIn : Made → Change → Type 0
IsTakenIn m c = (inside : List TxName) × (taken_in m c ≡ Some inside)

-- a record of a file is not passed over
abbrev pub IsTakenLine : Made → Line → Type 0
IsTakenLine m (changed c n) = IsTakenIn m c
IsTakenLine m (renewed scripts n) = ⊤

-- none of these records of a file is passed over
abbrev pub AreTaken : List Line → Made → Type 0
AreTaken [] m = ⊤
AreTaken (l ∷ ls) m = IsTakenLine m l × AreTaken ls (then_line l m)

-- two books are of the same shelf and setup, at the same time, with the same instances
pub record IsLike (b c : Book) : Type 0 where
  pub shelf : b.shelf ≡ c.shelf
  pub scripts : b.scripts ≡ c.scripts
  pub clock : b.clock ≡ c.clock
  pub instances : b.instances ≡ c.instances

-- A book's file tells it: none of its records is passed over, and they make the book but for the next number and the length, which records
-- that were passed over may have raised.
pub record IsFiled (b : Book) : Type 0 where
  pub taken : AreTaken b.file.lines (first_of b.shelf b.file)
  pub made : IsLike (made_of_file b.shelf b.file).book b
  pub logged : (made_of_file b.shelf b.file).book.logged ≤ b.logged
  pub used : AreUsed (made_of_file b.shelf b.file).seen b

-- a book's file tells it, with the next number and the length: no record was passed over since the file was begun, and none made the shelf
-- follow another one's journal
pub record IsExact (b : Book) : Type 0 where
  pub filed : IsFiled b
  pub follows : b.follows ≡ false
  pub logged : (made_of_file b.shelf b.file).book.logged ≡ b.logged
  pub length : (made_of_file b.shelf b.file).book.length ≡ b.length

-- the setup that a crash gives is the same where its names and texts are
abbrev pub GivesByText : Event → Book → Type 0
GivesByText (crash scripts) b = are_same scripts b.scripts ≡ true → scripts ≡ b.scripts
GivesByText _ b = ⊤

-- The file of an empty book tells it. Where the file of a book tells it, it does so after each event, a compaction and a crash with another
-- setup too, and what is then in doubt would be made again from its record; and an exact one stays so.
abbrev pub EventsAreFiled : Type 0
EventsAreFiled =
    ((rules : Rules) (scripts : List Named) (shelf : ℕ) → IsFiled (empty_book rules scripts shelf))
    × ((rules : Rules) (b : Book) (nonce : ℕ) (event : Event) (fate : Fate) (j : Journal) → rules.journal ≡ Some j → rules.fuel ≤ most_fuel
    → IsSound b → NameTheirCells b → IsRemadeDoubt b b.down → IsFiled b → IsLawful event b → GivesByText event b
    → let d = (step rules b nonce event fate).1 in IsFiled d × IsRemadeDoubt d d.down × (IsExact b → IsExact d))

-- each event of a run is under no more fuel than recovery has, and under rules of this journal; and each setup that it gives is told by its
-- names and texts
abbrev pub AreUnder : Journal → List Moment → Book → Type 0
AreUnder j [] b = ⊤
AreUnder j (m ∷ ms) b =
    (m.rules.fuel ≤ most_fuel) × (m.rules.journal ≡ Some j) × (GivesByText m.event b × GivesNamed m.event) × AreUnder j ms (then_book m b)

-- The file tells the book after any run, and where it was exact at first it makes the book itself, as after a crash. Fuel, life and limits
-- may change at each opening, and so may the setup. The transactions that a new page is inside are no part of its record: its script is
-- run again.
abbrev pub FilesSuffice : Type 0
FilesSuffice =
    ((rules : Rules) (scripts : List Named) (shelf : ℕ) → IsExact (empty_book rules scripts shelf))
    × ((j : Journal) (ms : List Moment) (b : Book) → IsSound b → NameTheirCells b → IsRemadeDoubt b b.down → IsFiled b → AreLawful ms b → AreUnder j ms b
    → let c = book_after ms b in IsFiled c × (IsExact b → (made_of_file c.shelf c.file).book ≡ reopened c))

-- Whatever the records of a file tell, the book that they make is told by those of them that were not passed over.
abbrev pub RecordsMakeFiledBooks : Type 0
RecordsMakeFiledBooks = (shelf : ℕ) (f : File) (ls : List Line) → IsFiled (lines_after ls (first_of shelf f)).book

-- A file that is compacted again is the same.
abbrev pub CompactedTwice : Type 0
CompactedTwice = (b : Book) → compaction (record b { file = compaction b }) ≡ compaction b

-- The compacted file of a book makes the same book, as after a crash, but for its length and file, and passes over no record. It does not
-- tell that the shelf follows another one's journal.
abbrev pub CompactionKeepsTheBook : Type 0
CompactionKeepsTheBook =
    (b : Book) → IsFiled b
    → ((made_of_file b.shelf (compaction b)).book ≡ record (reopened b) { length = file_length (compaction b); file = compaction b; follows = false })
    × AreTaken (compaction b).lines (first_of b.shelf (compaction b))

-- What was made of records, whatever they tell, is as after a crash, with orderly instances of the numbers that were
-- seen, each counted.
pub record IsOrderlyMade (m : Made) : Type 0 where
  pub instances : AreOrderly (λ n. Among n m.seen → ⊥) m.book.instances
  pub counted : (n : ℕ) → Among n m.seen → n < m.book.logged
  pub again : m.book ≡ reopened m.book

-- The book that any records make of an empty one is orderly.
abbrev pub RecordsMakeOrderlyBooks : Type 0
RecordsMakeOrderlyBooks =
    (rules : Rules)
    → ((scripts : List Named) (shelf : ℕ) → IsOrderlyMade (nothing_made rules scripts shelf))
    × ((c : Change) (m : Made) → IsOrderlyMade m → IsOrderlyMade (redo rules c m))
    × ((m : Made) → IsOrderlyMade m → IsOrderly m.book)
