-- What events do to the bodies of a file.
use Rattle.std.specs.Prelude.{◌≡◌, ◌≤◌, ◌<◌, ◌+◌, ◌^◌, ℕ, List, [], ◌∷◌, ◌++◌, length, Option, Some, None, ⊤}
use Rattle.script_value.specs.declared.outcome.TxName.{TxName}
use Rattle.script_nodes.specs.Setup.{Named}
use Rattle.replay_spec.specs.Book.{Change, Line, File, Book, reopened}
use Rattle.replay_spec.specs.Rules.{Journal, Rules, empty_book}
use Rattle.replay_spec.specs.Change.{with_line, land}
use Rattle.replay_spec.specs.Compaction.{reopened_with}
use Rattle.replay_spec.specs.Step.{Event, publish, crash, Fate, Decision, records, publish_comes, step}
use Rattle.replay_spec.specs.Runs.{lands}
use Rattle.replay_spec.specs.Recovery.{made_of_file}
use Rattle.replay_spec.specs.Laws.{Moment, then_book, book_after, AreLawful}
use Rattle.replay_spec.specs.Remade.{IsFiled}
use Rattle.server_limits.specs.Limits.{most_fuel}
use Rattle.journal_records.specs.Fields.{numbers_end}
use Rattle.journal_records.specs.Records.{IsInGrammar, begin_of, renewal_of, texts_of}
use Rattle.journal_spec.specs.Lengths.{state_by, own_before, own_body, journal_rules}
use Rattle.journal_spec.specs.Making.{Texts, book_of}
use Rattle.journal_spec.specs.Bodies.{spelled, bodies_of}
use Rattle.journal_spec.specs.Opening.{opening_bodies}
use Rattle.journal_spec.specs.Whole.{AreWhole, CanBeWritten}
use Rattle.journal_spec.specs.Files.{IsWritten, IsMade}
use Rattle.journal_spec.specs.Spelling.{PartsFit, AreLimits, GivesTick, StateFits}

-- One line more is one body more. A change that lands adds the body that it leaves on the book before; a crash with another setup adds
-- the body that tells it, and a crash with the same one adds none, as on a shelf that follows another one's journal.
abbrev pub BodiesGrow : Type 0
BodiesGrow =
    ((shelf : ℕ) (l : Line) (f : File)
    → bodies_of shelf (with_line l f) ≡ bodies_of shelf f ++ spelled (made_of_file shelf f).book l ∷ [])
    × ((rules : Rules) (j : Journal) (b : Book) (c : Change) (inside : List TxName) → rules.journal ≡ Some j → IsFiled b
    → bodies_of b.shelf (land rules c inside b).file ≡ bodies_of b.shelf b.file ++ own_body b c ∷ [])
    × ((j : Journal) (scripts : List Named) (b : Book)
    → bodies_of b.shelf (reopened_with (Some j) scripts b).file
    ≡ bodies_of b.shelf b.file ++ opening_bodies scripts b)

-- a setup that is what its texts are read as, and can be run and written
pub record IsGiven (texts : Texts) (scripts : List Named) : Type 0 where
  pub read : texts (texts_of scripts) ≡ Some scripts
  pub whole : AreWhole scripts
  pub renews : IsInGrammar (renewal_of scripts)

-- an event that gives a setup gives one that is what its texts are read as, and can be run and written
abbrev pub Gives : Texts → Event → Type 0
Gives texts (crash scripts) = IsGiven texts scripts
Gives texts _ = ⊤

-- what lands, if anything does, can be written with the state that its script leaves
abbrev pub CanLand : Book → Option Change → Type 0
CanLand b None = ⊤
CanLand b (Some c) = CanBeWritten b c × (length (own_body b c) < 2 ^ 63)

-- a book whose file can be written, and whose setup is given
pub record IsSpelled (texts : Texts) (b : Book) : Type 0 where
  pub file : IsWritten texts b.shelf b.file
  pub given : IsGiven texts b.scripts

-- The file of an empty book can be written, and each event keeps that: a compaction and a crash with another setup too.
abbrev pub EventsAreWritten : Type 0
EventsAreWritten =
    ((texts : Texts) (rules : Rules) (scripts : List Named) (shelf : ℕ) → rules.journal ≡ Some (journal_rules shelf) → IsGiven texts scripts
    → IsInGrammar (begin_of shelf scripts) → IsSpelled texts (empty_book rules scripts shelf))
    × ((texts : Texts) (rules : Rules) (b : Book) (nonce : ℕ) (event : Event) (fate : Fate) → rules.journal ≡ Some (journal_rules b.shelf)
    → IsFiled b → b.logged < numbers_end + 1 → CanLand b (lands rules b event fate) → Gives texts event → IsSpelled texts b
    → let d = (step rules b nonce event fate).1 in (d.shelf ≡ b.shelf) × IsSpelled texts d)

-- what the program's types say of what a publish records: of the parts of the change, and of the state of its page
abbrev pub IsTypedDecision : Book → Decision → Type 0
IsTypedDecision b (records r c inside) = PartsFit c × StateFits (own_before b c) (state_by b c)
IsTypedDecision b _ = ⊤

-- what the program's types say of a publish: its nonce has 64 bits, and what it records is such as they give
abbrev pub IsTyped : Rules → Book → Event → Type 0
IsTyped rules b (publish t) = (t.nonce < 2 ^ 64) × IsTypedDecision b (publish_comes rules b t)
IsTyped rules b _ = ⊤

-- An event is under rules of this journal and under limits that a shelf may have. Its tick and its setup can be told, and what it
-- publishes is such as the program's types give.
pub record IsMet (texts : Texts) (shelf : ℕ) (m : Moment) (b : Book) : Type 0 where
  pub fuel : m.rules.fuel ≤ most_fuel
  pub journal : m.rules.journal ≡ Some (journal_rules shelf)
  pub limits : AreLimits m.rules b.scripts
  pub tick : GivesTick m.event
  pub setup : Gives texts m.event
  pub typed : IsTyped m.rules b m.event

-- each event of a run is under rules of this journal, can be told, and publishes what the program's types give
abbrev pub AreMet : Texts → (shelf : ℕ) → List Moment → Book → Type 0
AreMet texts shelf [] b = ⊤
AreMet texts shelf (m ∷ ms) b = IsMet texts shelf m b × AreMet texts shelf ms (then_book m b)

-- The bodies of a fresh shelf's file after any run, with compactions and setups that change, make the run's last book as after a crash,
-- and tell each page's state as its chain leaves it.
abbrev pub FreshFilesSuffice : Type 0
FreshFilesSuffice =
    (texts : Texts) (rules : Rules) (scripts : List Named) (shelf : ℕ) (ms : List Moment) → rules.journal ≡ Some (journal_rules shelf)
    → IsGiven texts scripts → IsInGrammar (begin_of shelf scripts)
    → let b = empty_book rules scripts shelf in AreLawful ms b → AreMet texts shelf ms b
    → let c = book_after ms b in
    IsMade (book_of texts shelf (bodies_of shelf c.file)) (made_of_file shelf c.file) × ((made_of_file shelf c.file).book ≡ reopened c)
