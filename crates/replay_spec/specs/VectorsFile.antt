-- Worked rows of files: they are compacted, tell another setup, and are read again.
use Rattle.std.specs.Prelude.{◌≡◌, ℕ, ◌+◌, ◌*◌, ◌-◌, ◌^◌, false, List, [], ◌∷◌, ◌++◌, Option, Some, None, codes, refl}
use Rattle.script_value.specs.Val.{Val, text}
use Rattle.script_nodes.specs.PageNames.Names.{start}
use Rattle.script_nodes.specs.Setup.{Named}
use Rattle.replay_spec.specs.Book.{Page, Instance, Change, opens, extends, ends, sweeps, Line, changed, Book, reopened}
use Rattle.replay_spec.specs.Rules.{Rules}
use Rattle.replay_spec.specs.Compaction.{compaction, file_length}
use Rattle.replay_spec.specs.Recovery.{made_of_file}
use Rattle.replay_spec.specs.Runs.{after}
use Rattle.replay_spec.specs.Step.{Event, sweep, compact, crash, Fate, plain, no_memory, disk_fault, lost, kept, Reply, taken, ended, memory, disk_failed, down, journal_full, compacted, swept, live, step}
use Rattle.replay_spec.specs.Samples.{name, script, rules, opened, counted, Answers, at, link_to, get, nothing, plain_page, plain_start, plain_answer, says, link, hotel}

-- in these rows the body of a tick's record has 9 bytes, and each other one 50
abbrev body_of : Change → ℕ
body_of (sweeps tick) = 9
body_of _ = 50

-- rules of a journal whose file is so long with its first setup alone, and 40 bytes of body longer by each other one
abbrev sized : (head : ℕ) → Rules
sized head = record rules { journal = Some (record { begun = λ ss. head; renewed = λ ss. 40; length_of = λ b c. body_of c }) }

-- a script of two questions and an end
abbrev twice : Named
twice = script [] [] (link (codes "1") ∷ link (codes "2") ∷ says (codes "7") ∷ [])

-- a visitor answers both pages, and the script ends
abbrev through : List (Event × Fate)
through = get (start name) nothing 0 ++ get (at 0 0 0) nothing 1 ++ get (at 0 1 1) nothing 2

-- the replies to a visitor who goes through to the end
abbrev went : List Reply
went = taken 0 0 ∷ link_to (codes "1") 0 0 ∷ taken 1 1 ∷ link_to (codes "2") 0 1 ∷ taken 2 2 ∷ ended (codes "7") ∷ []

-- of an instance that was freed a compaction leaves the next number alone: 14 bytes between the first record and the last sweep
pub freed_and_compacted :
    Answers (opened (sized 302) twice)
    (through ++ (sweep 4000, plain) ∷ (compact, plain) ∷ (crash (twice ∷ []), lost) ∷ get (start name) nothing 3)
    (went ++ swept 1 ∷ compacted 330 ∷ live 0 ∷ taken 3 3 ∷ link_to (codes "1") 3 3 ∷ [])
unfolding step
freed_and_compacted = refl

-- visits of an instance that stands, with two ticks before each
abbrev live_on : List (Event × Fate)
live_on = (sweep 5, plain) ∷ (sweep 6, plain) ∷ get (start name) nothing 0 ++ (sweep 7, plain) ∷ (sweep 8, plain) ∷ get (at 0 0 0) nothing 1

-- a page that this answer to its parent showed, and that waits until this time
abbrev shown_page : (n deadline : ℕ) → Option ℕ → Val → Page
shown_page n deadline parent answer = record plain_page { number = n; nonce = n; parent = parent; answer = answer; deadline = deadline }

-- the instance of a start and of this answer to its page, with the time until which each page waits, and the last use of the second one
abbrev of_two : Named → (deadline later : ℕ) → Val → (last : ℕ) → Instance
of_two s deadline later answer last = record {
  number = 0;
  script = s;
  cells = [];
  closed = [];
  revoked = [];
  used = record { page = 0; last = 1 } ∷ record { page = 1; last = last } ∷ [];
  evicted = [];
  pages = shown_page 0 deadline None nothing ∷ shown_page 1 later (Some 0) answer ∷ [];
}

-- the record of a start whose page has this deadline, as a line of the file
abbrev opened_so : (deadline : ℕ) → Line
opened_so deadline = changed (opens (record plain_start { deadline = deadline })) 50

-- the record of this answer to the start's page, where the page that it shows has this deadline, as a line of the file
abbrev extended_so : (deadline : ℕ) → Val → Line
extended_so deadline answer = changed (extends (record plain_answer { answer = answer; deadline = deadline })) 50

-- the record of this tick, as a line of the file
abbrev swept_to : (tick : ℕ) → Line
swept_to tick = changed (sweeps tick) 9

-- the book after `live_on`: an instance with two pages, and a file with four records of ticks and two of pages
abbrev lived : Book
lived = record {
  shelf = 0;
  scripts = twice ∷ [];
  clock = 8;
  drawn = 2;
  logged = 2;
  length = 266;
  file = record {
    scripts = twice ∷ [];
    head = 100;
    drawn = None;
    lines = swept_to 5 ∷ swept_to 6 ∷ opened_so 3606 ∷ swept_to 7 ∷ swept_to 8 ∷ extended_so 3608 nothing ∷ [];
  };
  out = [];
  down = None;
  follows = false;
  instances = of_two twice 3606 3608 nothing 1 ∷ [];
}

-- the events of `live_on` make this book
pub lives_so : (after counted live_on (opened (sized 100) twice)).book ≡ lived
unfolding step
lives_so = refl

-- the file before a compaction has its first record, four records of ticks and two of pages
pub length_before : lived.length ≡ 100 + 4 * 14 + 2 * 55
length_before = refl

-- the compacted file has its first record, the next number, two ticks and both pages
pub length_behind : file_length (compaction lived) ≡ 100 + 14 + 2 * 14 + 2 * 55
length_behind = refl

-- a file makes the book that it was written from, as after a crash
pub file_makes_the_book : (made_of_file 0 lived.file).book ≡ reopened lived
file_makes_the_book = refl

-- the compacted file makes the same book, with its own length
pub compaction_makes_the_book : (made_of_file 0 (compaction lived)).book ≡ record (reopened lived) { length = 252; file = compaction lived }
compaction_makes_the_book = refl

-- a compaction that is in doubt until a crash with this fate
abbrev doubted : Fate → List (Event × Fate)
doubted fate = live_on ++ (compact, disk_fault 1) ∷ (compact, plain) ∷ (crash (twice ∷ []), fate) ∷ []

-- the disk fails in a compaction: where it is kept at the crash, the file has the new length
pub compaction_kept : (after counted (doubted kept) (opened (sized 100) twice)).book.length ≡ 252
unfolding step
compaction_kept = refl

-- the disk fails in a compaction: where it is lost at the crash, the file has the old length
pub compaction_lost : (after counted (doubted lost) (opened (sized 100) twice)).book.length ≡ 266
unfolding step
compaction_lost = refl

-- a shelf with a compaction in doubt is down until the crash
pub down_while_in_doubt :
    Answers (opened (sized 100) twice) ((compact, disk_fault 1) ∷ (compact, plain) ∷ (compact, no_memory) ∷ (crash (twice ∷ []), lost) ∷ (compact, plain) ∷ [])
    (disk_failed 1 ∷ down 1 ∷ memory ∷ live 0 ∷ compacted 114 ∷ [])
unfolding step
down_while_in_doubt = refl

-- a compaction of which the file would be too long is refused, also where the disk would fail
pub too_long_a_file : Answers (opened (sized (2 ^ 30 - 13)) twice) ((compact, plain) ∷ (compact, disk_fault 1) ∷ []) (journal_full 1073741825 ∷ journal_full 1073741825 ∷ [])
unfolding step
too_long_a_file = refl

-- the script of another text, which ends with `v2`
abbrev renewed : Named
renewed = record (script [] [] (says (codes "v2") ∷ [])) { text = codes "v2" }

-- a page is answered, the setup changes twice to the same one, and an instance of the new script is begun
abbrev edited : List (Event × Fate)
edited = get (start name) nothing 0 ++ get (at 0 0 0) (text (codes "A")) 1 ++ (crash (renewed ∷ []), lost) ∷ (crash (renewed ∷ []), lost) ∷ get (start name) nothing 2 ++ get (at 0 1 1) nothing 3

-- an instance goes on with its own script where the setup changes, and a start is of the new one
pub edited_answers :
    Answers (opened (sized 100) hotel) edited
    (taken 0 0 ∷ link_to (codes "list") 0 0 ∷ taken 1 1 ∷ link_to (codes "confirm") 0 1 ∷ live 1 ∷ live 1 ∷ taken 2 2 ∷ ended (codes "v2") ∷ taken 3 3 ∷ ended (codes "A") ∷ [])
unfolding step
edited_answers = refl

-- the book after `edited`: an instance with two pages, and a file with one record of the changed setup
abbrev behind_edits : Book
behind_edits = record {
  shelf = 0;
  scripts = renewed ∷ [];
  clock = 0;
  drawn = 4;
  logged = 4;
  length = 310;
  file = record {
    scripts = hotel ∷ [];
    head = 100;
    drawn = None;
    lines =
        opened_so 3600 ∷ extended_so 3600 (text (codes "A")) ∷ Line.renewed (renewed ∷ []) 40
        ∷ changed (ends (record { number = 3; instance = 0; page = 1; answer = nothing; effects = []; left = [] })) 50 ∷ [];
  };
  out = [];
  down = None;
  follows = false;
  instances = of_two hotel 3600 3600 (text (codes "A")) 3 ∷ [];
}

-- the events of `edited` make this book
pub edited_so : (after counted edited (opened (sized 100) hotel)).book ≡ behind_edits
unfolding step
edited_so = refl

-- a file with another setup has one record more, for both times that it was told
pub edited_length : behind_edits.length ≡ 100 + 3 * 55 + 45
edited_length = refl

-- a file with another setup makes the book that it was written from, as after a crash
pub edited_file : (made_of_file 0 behind_edits.file).book ≡ reopened behind_edits
edited_file = refl

-- the compacted file with another setup makes the same book, where each instance goes on with its own script
pub edited_compaction :
    (made_of_file 0 (compaction behind_edits)).book ≡ record (reopened behind_edits) { length = 324; file = compaction behind_edits }
edited_compaction = refl

-- a file that is compacted again is the same
pub twice_compacted : compaction (record behind_edits { file = compaction behind_edits }) ≡ compaction behind_edits
twice_compacted = refl
