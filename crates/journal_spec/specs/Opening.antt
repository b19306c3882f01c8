-- Setups that texts are read as, and what a shelf goes on with that is opened with one.
use Rattle.std.specs.Prelude.{◌≡◌, ℕ, false, List, ◌∷◌, [], length, Option, Some, None, if◌then◌else◌}
use Rattle.script_nodes.specs.Setup.{Named}
use Rattle.replay_spec.specs.Book.{Book, are_same}
use Rattle.replay_spec.specs.Compaction.{setup_for, reopened_with}
use Rattle.journal_records.specs.Records.{body_of, begin_of, renewal_of, texts_of}
use Rattle.journal_spec.specs.Before.{Made}
use Rattle.journal_spec.specs.Lengths.{journal_rules}
use Rattle.journal_spec.specs.Making.{Texts, Making, nothing, waits, waited, begun, made, damaged, other, waiting, began}
use Rattle.journal_spec.specs.Whole.{AreWhole}

-- a setup is what its names and texts are read as
abbrev pub IsRead : Texts → List Named → Type 0
IsRead texts scripts = texts (texts_of scripts) ≡ Some scripts

-- the setup of a book is what its names and texts are read as, where the shelf does not follow another one's journal
abbrev pub IsReadUnlessFed : Texts → Book → Type 0
IsReadUnlessFed texts b = b.follows ≡ false → IsRead texts b.scripts

-- each setup has the names and texts that it was read from
abbrev pub ReadsAsTold : Texts → Type 0
ReadsAsTold texts = (named : List (List ℕ × List ℕ)) (scripts : List Named) → texts named ≡ Some scripts → texts_of scripts ≡ named

-- each setup that is read can be run
abbrev pub ReadsWhole : Texts → Type 0
ReadsWhole texts = (named : List (List ℕ × List ℕ)) (scripts : List Named) → texts named ≡ Some scripts → AreWhole scripts

-- the body of a journal's first record
abbrev pub first_body : List Named → (shelf : ℕ) → List ℕ
first_body scripts shelf = body_of (begin_of shelf scripts)

-- the body of the record that tells another setup
abbrev pub renewal_body : List Named → List ℕ
renewal_body scripts = body_of (renewal_of scripts)

-- the body that tells this setup after that one, if it has other names or texts
abbrev pub renewal_bodies : (scripts before : List Named) → List (List ℕ)
renewal_bodies scripts before = if are_same scripts before then [] else renewal_body scripts ∷ []

-- the body that tells this setup in the file of a book, if it has other names or texts; a shelf that follows another one's journal is told none
abbrev pub opening_bodies : (scripts : List Named) → Book → List (List ℕ)
opening_bodies scripts b = renewal_bodies (setup_for b scripts) b.scripts

-- the book of the shelf of this number that is opened again with this setup
abbrev pub opened_book : (shelf : ℕ) → List Named → Book → Book
opened_book shelf scripts b = reopened_with (Some (journal_rules shelf)) scripts b

-- What a shelf goes on with that is opened with this setup. Where no record tells a setup it writes the one that a journal begins with;
-- where the setup has other names or texts than the last one that was told, it writes those. A shelf that follows another one's journal
-- writes nothing.
abbrev pub opened_on : (shelf : ℕ) → List Named → Making → Option Made
opened_on shelf scripts nothing = Some (began false shelf 8 (length (first_body scripts shelf)) scripts)
opened_on shelf scripts waited = Some (began false shelf 20 (length (first_body scripts shelf)) scripts)
opened_on shelf scripts (waits s) = Some (waiting s)
opened_on shelf scripts (begun m) = Some (record m { book = opened_book shelf scripts m.book })
opened_on shelf scripts (made m) = Some (record m { book = opened_book shelf scripts m.book })
opened_on shelf scripts (damaged place) = None
opened_on shelf scripts (other place) = None
