-- Journals that are answered yes: those of runs, and what is copied of others that are.
use Rattle.std.specs.Prelude.{◌≡◌, ◌≤◌, ℕ, List, [], ◌∷◌, ◌++◌, length, Some, None, ⊤, false}
use Rattle.script_nodes.specs.Setup.{Named}
use Rattle.replay_spec.specs.Book.{Book}
use Rattle.replay_spec.specs.Rules.{Rules, empty_book}
use Rattle.replay_spec.specs.Laws.{Moment, book_after, AreLawful}
use Rattle.server_limits.specs.Limits.{most_fuel, IsLife}
use Rattle.journal_records.specs.Old.{newest_format}
use Rattle.journal_records.specs.Records.{IsInGrammar, begin_of}
use Rattle.journal_spec.specs.Before.{Made}
use Rattle.journal_spec.specs.Lengths.{journal_rules}
use Rattle.journal_spec.specs.Making.{Texts, made_in}
use Rattle.journal_spec.specs.Bodies.{bodies_of}
use Rattle.journal_spec.specs.Old.{book_of_format}
use Rattle.journal_spec.specs.Events.{IsGiven, AreMet}
use Rattle.journal_spec.specs.Reading.{AreAllBytes}
use Rattle.journal_spec.specs.Keeping.{KeepsDoubt, bodies_left, AreAppended}
use Rattle.journal_spec.specs.Copying.{copies}
use Rattle.journal_spec.specs.OwnCopies.{CanBeCopied}
use Rattle.audit_spec.specs.Findings.{yes, audited}

-- an audit finds nothing in these bodies, and counts each of them
abbrev pub FindsNothing : (format : ℕ) → Texts → List (List ℕ) → Type 0
FindsNothing format texts bodies = audited format texts bodies ≡ yes (length bodies)

-- under the rules of each event of a run a page can be answered for a second at least
abbrev pub AreLasting : List Moment → Type 0
AreLasting [] = ⊤
AreLasting (m ∷ ms) = (1 ≤ m.rules.life) × AreLasting ms

-- The file of a fresh shelf passes after any run, whatever its events and their fates: with compactions, with crashes that give another setup
-- and keep or lose what is in doubt, and under fuel, life and limits that change.
abbrev pub HonestJournalsPass : Type 0
HonestJournalsPass =
    (texts : Texts) (rules : Rules) (scripts : List Named) (shelf : ℕ) (ms : List Moment) → rules.journal ≡ Some (journal_rules shelf)
    → IsGiven texts scripts → IsInGrammar (begin_of shelf scripts)
    → let b = empty_book rules scripts shelf in AreLawful ms b → AreMet texts shelf ms b → AreLasting ms
    → FindsNothing newest_format texts (bodies_of shelf (book_after ms b).file)

-- each event of a run is under rules whose fuel and life a shelf may have
abbrev pub AreBound : List Moment → Type 0
AreBound [] = ⊤
AreBound (m ∷ ms) = (m.rules.fuel ≤ most_fuel) × IsLife m.rules.life × AreBound ms

-- A journal that passes goes on to pass with the bodies that a run adds to it, whoever wrote the first ones: so it is of one that was compacted
-- or written anew. Nothing is in doubt at first.
abbrev pub AddedRecordsPass : Type 0
AddedRecordsPass =
    (texts : Texts) (shelf : ℕ) (bodies : List (List ℕ)) (ms : List Moment) (b : Book) → AreLawful ms b → AreAppended texts shelf ms b → AreBound ms
    → KeepsDoubt texts shelf bodies b → b.down ≡ None → FindsNothing newest_format texts bodies
    → FindsNothing newest_format texts (bodies ++ bodies_left ms b)

-- Of a file of any format that passes, the bodies that stay when it is compacted pass too, in the format that is written.
abbrev pub CompactedJournalsPass : Type 0
CompactedJournalsPass =
    (format : ℕ) (texts : Texts) (shelf : ℕ) (bodies : List (List ℕ)) (m : Made) → CanBeCopied format texts shelf bodies m
    → AreAllBytes bodies → made_in (book_of_format format texts shelf bodies) ≡ Some m → m.book.follows ≡ false
    → FindsNothing format texts bodies → FindsNothing newest_format texts (copies format texts shelf bodies m)
