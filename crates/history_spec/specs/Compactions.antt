-- Worked rows of files that are compacted, where pages went, setups changed, and numbers are out.
use Rattle.std.specs.Prelude.{◌≡◌, ℕ, ◌+◌, ◌*◌, List, [], ◌∷◌, ◌++◌, Some, codes, refl}
use Rattle.page_names.specs.Names.{start}
use Rattle.script_nodes.specs.Setup.{Named}
use Rattle.replay_spec.specs.Book.{Change, sweeps, Book}
use Rattle.replay_spec.specs.Rules.{Rules}
use Rattle.replay_spec.specs.Compaction.{compaction, file_length}
use Rattle.replay_spec.specs.Recovery.{made_of_file}
use Rattle.replay_spec.specs.Runs.{after}
use Rattle.replay_spec.specs.Step.{Event, sweep, compact, crash, Fate, plain, lost, step}
use Rattle.replay_spec.specs.Samples.{name, script, rules, opened, counted, at, takes, get, nothing, says, link, fin}

-- in these rows the body of a tick's record has 9 bytes, and each other one 50
abbrev body_of : Change → ℕ
body_of (sweeps tick) = 9
body_of _ = 50

-- rules of a journal whose file has 100 bytes with its first setup alone, and 40 bytes of body more by each other one
abbrev sized : Rules
sized = record rules { journal = Some (record { begun = λ ss. 100; renewed = λ ss. 40; length_of = λ b c. body_of c }) }

-- a script of a question and an end
abbrev asks : Named
asks = script [] [] (link (codes "1") ∷ says (codes "2") ∷ [])

-- a script of two questions and an end
abbrev twice : Named
twice = script [] [] (link (codes "1") ∷ link (codes "2") ∷ says (codes "3") ∷ [])

-- the book that is made of a book's compacted file
abbrev again : Book → Book
again b = (made_of_file 0 (compaction b)).book

-- a book whose first page went for the second one
abbrev went : Book
went = (after counted (get (start name) nothing 0 ++ get (at 0 0 0) nothing 1) (opened (record sized { pages = 1 }) twice)).book

-- the compacted file has the records of the setup and of both pages, also of the one that went
pub length_went : file_length (compaction went) ≡ 100 + 14 + 2 * 55
unfolding step
length_went = refl

-- a page that went is kept in the compacted file, as the ancestor of one that is left
pub pages_went : (again went).instances ≡ went.instances
unfolding step
pages_went = refl

-- a book whose first page is expired and whose second one is not
abbrev expired : Book
expired =
    (after counted (get (start name) nothing 0 ++ (sweep 50, plain) ∷ get (at 0 0 0) nothing 1 ++ (sweep 100, plain) ∷ [])
    (opened (record sized { life = 100 }) twice)).book

-- the compacted file has the records of both pages and of both sweeps
pub length_expired : file_length (compaction expired) ≡ 100 + 14 + 2 * 55 + 2 * 14
unfolding step
length_expired = refl

-- a page that is expired is kept in the compacted file, as the ancestor of one that is not, and so is the sweep between them
pub pages_expired : (again expired).instances ≡ expired.instances
unfolding step
pages_expired = refl

-- the script of a question and an end, with this text
abbrev settled : (text : List ℕ) → Named
settled words = record asks { text = words }

-- the shelf is opened again with the setup of this script alone
abbrev tells : Named → List (Event × Fate)
tells s = (crash (s ∷ []), lost) ∷ []

-- a book whose journal tells four setups: pages stand of the first and the third
abbrev settles : Book
settles =
    (after counted
    (get (start name) nothing 0 ++ tells (settled (codes "b")) ++ tells (settled (codes "c")) ++ get (start name) nothing 1 ++ tells (settled (codes "d")))
    (opened sized asks)).book

-- the compacted file has both pages, and each setup that was told, also one of which no instance stands
pub length_settles : file_length (compaction settles) ≡ 100 + 14 + 2 * 55 + 3 * 45
unfolding step
length_settles = refl

-- the compacted file makes both instances again
pub instances_settle : (again settles).instances ≡ settles.instances
unfolding step
instances_settle = refl

-- the setup that the compacted file ends with is the one that was told last
pub setup_settles : (again settles).scripts ≡ settled (codes "d") ∷ []
unfolding step
setup_settles = refl

-- a book with one number in a record, and one that is out
abbrev takes_one : Book
takes_one = (after counted (get (start name) nothing 0 ++ takes (start name) nothing ∷ []) (opened sized asks)).book

-- two numbers were drawn, of which one is out
pub number_drawn : takes_one.drawn ≡ 2
unfolding step
number_drawn = refl

-- the number that a compacted file tells is one more than the greatest in a record: one that is out is drawn again
pub number_told : (again takes_one).drawn ≡ 1
unfolding step
number_told = refl

-- a book of two instances that finished, with a compaction between them
abbrev finished_twice : Book
finished_twice =
    (after counted
    (get (start name) nothing 0 ++ get (at 0 0 0) nothing 1 ++ (compact, plain) ∷ get (start name) nothing 2 ++ get (at 2 2 2) nothing 3)
    (opened sized fin)).book

-- the compacted file has no record of a page
pub length_finished : file_length (compaction finished_twice) ≡ 100 + 14
unfolding step
length_finished = refl

-- where no record of a page is left the next number is told, and of two compactions the later one tells it
pub number_finished : (again finished_twice).drawn ≡ 4
unfolding step
number_finished = refl
