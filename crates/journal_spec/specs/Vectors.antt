-- Worked rows of files without pages.
use Rattle.std.specs.Prelude.{◌≡◌, ℕ, ◌+◌, ◌-◌, ◌^◌, true, false, List, [], ◌∷◌, Some, None, codes, refl}
use Rattle.script_value.specs.Val.{text, symbol, list, vals_of, no_vals}
use Rattle.script_nodes.specs.Core.{lit, no_cores}
use Rattle.script_nodes.specs.Setup.{Named}
use Rattle.replay_spec.specs.Book.{Change, opens, ends, sweeps, changed, renewed, Book}
use Rattle.replay_spec.specs.Compaction.{file_length}
use Rattle.replay_spec.specs.Samples.{plain_start}
use Rattle.value_bytes.specs.Reading.{read_within}
use Rattle.journal_records.specs.Records.{begins, changes, draws, renews, follows, promotes, begin_of, renewal_of, body_of}
use Rattle.journal_records.specs.Old.{newest_format, read_record_in}
use Rattle.journal_records.specs.Reading.{read_record}
use Rattle.journal_spec.specs.Before.{nothing_told, Made}
use Rattle.journal_spec.specs.Making.{Texts, nothing, waits, waited, begun, made, damaged, other, in_file, waiting, began, made_in, book_of}
use Rattle.journal_spec.specs.Opening.{opened_on}
use Rattle.journal_spec.specs.Copying.{copies}

-- the script `ten`, whose one page is a paragraph
abbrev ten : Named
ten = record {
  name = codes "ten";
  text = codes "'(p \"12345\")";
  script = record { web = []; cells = []; tasks = no_cores; body = lit (list (vals_of (symbol (codes "p") ∷ text (codes "12345") ∷ []))) };
}

-- another script of the name `ten`
abbrev eleven : Named
eleven = record { name = codes "ten"; text = codes "1"; script = record { web = []; cells = []; tasks = no_cores; body = lit (text (codes "1")) } }

-- the setup of one script for its text, which has one byte only where it is the second script's
abbrev by_text : List ℕ → List Named
by_text [] = ten ∷ []
by_text (b ∷ []) = eleven ∷ []
by_text (b ∷ c ∷ bytes) = ten ∷ []

-- how names and texts are read as scripts in these rows: an empty list is no setup
abbrev texts : Texts
texts [] = None
texts (x ∷ xs) = Some (by_text x.1)

-- the first record of shelf 0 with the script `ten`
abbrev begin_ten : List ℕ
begin_ten = body_of (begin_of 0 (ten ∷ []))

-- the body of a tick's record
abbrev sweep_to : ℕ → List ℕ
sweep_to tick = body_of (changes (sweeps tick) None)

-- the first record alone makes a book whose file is 46 bytes long
first_alone : book_of texts 0 (begin_ten ∷ []) ≡ begun (began false 0 8 32 (ten ∷ []))
unfolding read_record
first_alone = refl

-- the book that the first record alone makes
abbrev begun_ten : Book
begun_ten = (began false 0 8 32 (ten ∷ [])).book

-- the first record alone makes a book whose journal is 46 bytes long
its_length : begun_ten.length ≡ 46
its_length = refl

-- the book after a tick to 50, whose file is 60 bytes long
abbrev at_50 : Book
at_50 = record begun_ten { clock = 50; length = 60; file = record begun_ten.file { lines = changed (sweeps 50) 9 ∷ [] } }

-- a tick after the first record sets the clock of the book
tick_50 : book_of texts 0 (begin_ten ∷ sweep_to 50 ∷ []) ≡ made (record { book = at_50; earlier = nothing_told })
unfolding read_record
tick_50 = refl

-- the book of a compacted file, which tells the next number directly after its first record
abbrev compacted : Book
compacted = record at_50 { drawn = 3; logged = 3; length = 74; file = record at_50.file { drawn = Some 3 } }

-- drawn numbers that are told after the first record are those of the book
drawn_is_told : book_of texts 0 (begin_ten ∷ body_of (draws 3) ∷ sweep_to 50 ∷ []) ≡ made (record { book = compacted; earlier = nothing_told })
unfolding read_record
drawn_is_told = refl

-- a compacted file with one tick is 74 bytes long
compacted_length : file_length compacted.file ≡ 74
compacted_length = refl

-- drawn numbers that are told elsewhere than directly after the first record are damage
drawn_later : book_of texts 0 (begin_ten ∷ sweep_to 50 ∷ body_of (draws 3) ∷ []) ≡ damaged 59
unfolding read_record
drawn_later = refl

-- drawn numbers that are told twice are damage
drawn_twice : book_of texts 0 (begin_ten ∷ body_of (draws 3) ∷ body_of (draws 3) ∷ []) ≡ damaged 59
unfolding read_record
drawn_twice = refl

-- the book after a record of another setup
abbrev edited : Book
edited = record begun_ten {
  scripts = eleven ∷ [];
  length = 46 + 22;
  file = record begun_ten.file { lines = renewed (eleven ∷ []) 17 ∷ [] };
}

-- another setup that is told is that of the book
setup_changes : book_of texts 0 (begin_ten ∷ body_of (renewal_of (eleven ∷ [])) ∷ []) ≡ made (record { book = edited; earlier = nothing_told })
unfolding read_record
setup_changes = refl

-- names and texts that are no setup are damage, also where the shelf is another one
no_setup : book_of texts 1 (body_of (begins 0 []) ∷ []) ≡ damaged 8
unfolding read_record
no_setup = refl

-- a setup that is told without a script is damage
no_setup_later : book_of texts 0 (begin_ten ∷ body_of (renews []) ∷ []) ≡ damaged 45
unfolding read_record
no_setup_later = refl

-- the file of another shelf is none of this shelf
another_shelf : book_of texts 1 (begin_ten ∷ []) ≡ other 8
unfolding read_record
another_shelf = refl

-- a start of the script at this place, for which these pages went
abbrev opening : (place : ℕ) → (gone : List ℕ) → Change
opening k gone = opens (record plain_start { nonce = 5; script = k; evicted = gone })

-- a start of a script that is not of the setup is damage
no_such_script : book_of texts 0 (begin_ten ∷ body_of (changes (opening 1 []) (Some [])) ∷ []) ≡ damaged 45
unfolding read_record read_within
no_such_script = refl

-- a start whose bytes are no state of its script is damage
no_state : book_of texts 0 (begin_ten ∷ body_of (changes (opening 0 []) (Some (9 ∷ []))) ∷ []) ≡ damaged 45
unfolding read_record read_within
no_state = refl

-- a first record in the midst of others is damage, and so is any other record in its place
begins_twice : book_of texts 0 (begin_ten ∷ sweep_to 50 ∷ begin_ten ∷ []) ≡ damaged 59
unfolding read_record
begins_twice = refl

-- a file whose first record is another one is damaged there
no_begin : book_of texts 0 (sweep_to 50 ∷ begin_ten ∷ []) ≡ damaged 8
unfolding read_record
no_begin = refl

-- a file whose first body is no record is damaged there
no_record : book_of texts 0 ((6 ∷ []) ∷ []) ≡ damaged 8
unfolding read_record
no_record = refl

-- the first fault is told, by its place
other_first : book_of texts 1 (begin_ten ∷ (6 ∷ []) ∷ []) ≡ other 8
unfolding read_record
other_first = refl

-- of two bodies that are no records the first is told
the_first_damage : book_of texts 0 (begin_ten ∷ (6 ∷ []) ∷ [] ∷ []) ≡ damaged 45
unfolding read_record
the_first_damage = refl

-- an answer to a page of no instance, of the segment of this number
abbrev lost_end : ℕ → List ℕ
lost_end n = body_of (changes (ends (record { number = n; instance = 7; page = 7; answer = list no_vals; effects = []; left = [] })) None)

-- a record that is passed over counts for the next number and for the length, and is no line of the file
the_greatest_number :
    book_of texts 0 (begin_ten ∷ lost_end (2 ^ 62 - 1) ∷ [])
    ≡ made (record {
      book = record begun_ten { drawn = 2 ^ 62; logged = 2 ^ 62; length = 46 + 5 + 38 };
      earlier = record { seen = (2 ^ 62 - 1) ∷ []; states = [] };
    })
unfolding read_record read_within
the_greatest_number = refl

-- a record of a number past the last is damage
one_more : book_of texts 0 (begin_ten ∷ lost_end (2 ^ 62) ∷ []) ≡ damaged 45
unfolding read_record
one_more = refl

-- a shelf that is opened with the setup that it has goes on as it was
opened_as_before : opened_on 0 (ten ∷ []) (made (record { book = at_50; earlier = nothing_told })) ≡ Some (record { book = at_50; earlier = nothing_told })
opened_as_before = refl

-- opened with another setup, a shelf goes on with what its records and that setup make
opened_with_another : opened_on 0 (eleven ∷ []) (begun (began false 0 8 32 (ten ∷ []))) ≡ Some (record { book = edited; earlier = nothing_told })
opened_with_another = refl

-- opened where there is no record, a shelf goes on with what the first record of its setup makes
opened_on_nothing : opened_on 0 (ten ∷ []) nothing ≡ Some (began false 0 8 32 (ten ∷ []))
opened_on_nothing = refl

-- a shelf is not opened on another one's file
not_opened : opened_on 0 (ten ∷ []) (other 8) ≡ None
not_opened = refl

-- the book after two ticks, with a record between them that was passed over
abbrev at_60 : Made
at_60 = record {
  book = record begun_ten {
    clock = 60;
    drawn = 3;
    logged = 3;
    length = 46 + 14 + 43 + 14;
    file = record begun_ten.file { lines = changed (sweeps 50) 9 ∷ changed (sweeps 60) 9 ∷ [] };
  };
  earlier = record { seen = 2 ∷ []; states = [] };
}

-- records with two ticks, and one between them that is passed over, make this book
ticks_60 : book_of texts 0 (begin_ten ∷ sweep_to 50 ∷ lost_end 2 ∷ sweep_to 60 ∷ []) ≡ made at_60
unfolding read_record read_within
ticks_60 = refl

-- a compacted file has the first record, the next number and the last tick; the record that was passed over is gone
ticks_copied : copies newest_format texts 0 (begin_ten ∷ sweep_to 50 ∷ lost_end 2 ∷ sweep_to 60 ∷ []) at_60 ≡ begin_ten ∷ body_of (draws 3) ∷ sweep_to 60 ∷ []
unfolding read_record_in read_within
ticks_copied = refl

-- the book after two ticks with another setup between them
abbrev edited_at_60 : Made
edited_at_60 = record {
  book = record edited { clock = 60; length = 46 + 14 + 22 + 14; file = record begun_ten.file { lines = changed (sweeps 50) 9 ∷ renewed (eleven ∷ []) 17 ∷ changed (sweeps 60) 9 ∷ [] } };
  earlier = nothing_told;
}

-- a setup that changes between two ticks makes this book
edited_ticks : book_of texts 0 (begin_ten ∷ sweep_to 50 ∷ body_of (renewal_of (eleven ∷ [])) ∷ sweep_to 60 ∷ []) ≡ made edited_at_60
unfolding read_record
edited_ticks = refl

-- a setup that changed between two ticks is copied, with both ticks
edits_are_copied :
    copies newest_format texts 0 (begin_ten ∷ sweep_to 50 ∷ body_of (renewal_of (eleven ∷ [])) ∷ sweep_to 60 ∷ []) edited_at_60
    ≡ begin_ten ∷ body_of (draws 0) ∷ sweep_to 50 ∷ body_of (renewal_of (eleven ∷ [])) ∷ sweep_to 60 ∷ []
unfolding read_record_in
edits_are_copied = refl

-- a compacted file that is compacted again is the same
number_copied : copies newest_format texts 0 (begin_ten ∷ body_of (draws 3) ∷ sweep_to 50 ∷ []) (record { book = compacted; earlier = nothing_told }) ≡ begin_ten ∷ body_of (draws 3) ∷ sweep_to 50 ∷ []
unfolding read_record_in
number_copied = refl

-- ---- files of shelves that follow another one's journal, or followed one

-- the body of the record that a shelf follows another one's journal
abbrev follow : List ℕ
follow = body_of follows

-- the body of the record that a shelf follows no longer
abbrev promoted : List ℕ
promoted = body_of promotes

-- the record that a shelf follows, alone, makes a shelf that waits for its first record
follow_alone : book_of texts 0 (follow ∷ []) ≡ waits 0
unfolding read_record
follow_alone = refl

-- the file of a shelf that waits is 15 bytes long
waits_long : (waiting 0).book.length ≡ 15
waits_long = refl

-- the book of a shelf that waits follows
waits_follows : (waiting 0).book.follows ≡ true
waits_follows = refl

-- a shelf that waits is told no setup where it is opened with one
waits_opened : opened_on 0 (ten ∷ []) (waits 0) ≡ Some (waiting 0)
waits_opened = refl

-- after the record that a shelf follows, the record of the first setup makes a book that follows
follow_begin : book_of texts 0 (follow ∷ begin_ten ∷ []) ≡ begun (began true 0 14 32 (ten ∷ []))
unfolding read_record
follow_begin = refl

-- with its first setup alone, the file of a shelf that follows is 6 bytes longer than another
follow_begin_long : (began true 0 14 32 (ten ∷ [])).book.length ≡ 52
follow_begin_long = refl

-- a tick that a shelf was fed makes the book that it makes elsewhere, in a longer file, and it follows
follow_tick : book_of texts 0 (follow ∷ begin_ten ∷ sweep_to 50 ∷ []) ≡ made (in_file true 66 (record { book = at_50; earlier = nothing_told }))
unfolding read_record
follow_tick = refl

-- the records of a compacted file that a shelf was fed make the book that they make elsewhere, in a longer file, and it follows
follow_drawn : book_of texts 0 (follow ∷ begin_ten ∷ body_of (draws 3) ∷ sweep_to 50 ∷ []) ≡ made (in_file true 80 (record { book = compacted; earlier = nothing_told }))
unfolding read_record
follow_drawn = refl

-- a shelf that follows is opened with the setup that its records told, whatever it is given
follows_on : opened_on 0 (eleven ∷ []) (begun (began true 0 14 32 (ten ∷ []))) ≡ Some (began true 0 14 32 (ten ∷ []))
follows_on = refl

-- the record that a shelf follows no longer makes the same book, in a file that is 6 bytes longer, and it does not follow
promoted_tick : book_of texts 0 (follow ∷ begin_ten ∷ sweep_to 50 ∷ promoted ∷ []) ≡ made (in_file false 72 (record { book = at_50; earlier = nothing_told }))
unfolding read_record
promoted_tick = refl

-- the records that a shelf follows, and follows no longer, make no book where no other stands after them
promoted_alone : book_of texts 0 (follow ∷ promoted ∷ []) ≡ waited
unfolding read_record
promoted_alone = refl

-- where a file has these two records alone, there is no book yet
no_book_yet : made_in waited ≡ None
no_book_yet = refl

-- after the records that a shelf follows, and follows no longer, its first setup makes a book that does not follow
promoted_begin : book_of texts 0 (follow ∷ promoted ∷ begin_ten ∷ []) ≡ begun (began false 0 20 32 (ten ∷ []))
unfolding read_record
promoted_begin = refl

-- opened where it follows no longer and has no setup, a shelf goes on with what the first record of its own makes, 12 bytes later
promoted_opened : opened_on 0 (ten ∷ []) waited ≡ Some (began false 0 20 32 (ten ∷ []))
promoted_opened = refl

-- after the record that a shelf follows, the first setup of another shelf is told from its place
other_behind_follow : book_of texts 1 (follow ∷ begin_ten ∷ []) ≡ other 14
unfolding read_record
other_behind_follow = refl

-- after the record that a shelf follows no longer, the first setup of another shelf is told from its place
other_behind_both : book_of texts 1 (follow ∷ promoted ∷ begin_ten ∷ []) ≡ other 20
unfolding read_record
other_behind_both = refl

-- a second record that the shelf follows no longer is damage
promoted_twice : book_of texts 0 (follow ∷ begin_ten ∷ promoted ∷ promoted ∷ []) ≡ damaged 57
unfolding read_record
promoted_twice = refl

-- a second record that the shelf follows no longer is damage, also where no setup stands before it
promoted_twice_alone : book_of texts 0 (follow ∷ promoted ∷ promoted ∷ []) ≡ damaged 20
unfolding read_record
promoted_twice_alone = refl

-- the record that a shelf follows no longer is damage in the file of one that never followed
promoted_no_follower : book_of texts 0 (begin_ten ∷ promoted ∷ []) ≡ damaged 45
unfolding read_record
promoted_no_follower = refl

-- the record that a shelf follows no longer is damage at the front of a file
promoted_first : book_of texts 0 (promoted ∷ begin_ten ∷ []) ≡ damaged 8
unfolding read_record
promoted_first = refl

-- the record that a shelf follows is damage after a setup
follow_later : book_of texts 0 (begin_ten ∷ follow ∷ []) ≡ damaged 45
unfolding read_record
follow_later = refl

-- a second record that the shelf follows is damage
follow_twice : book_of texts 0 (follow ∷ follow ∷ begin_ten ∷ []) ≡ damaged 14
unfolding read_record
follow_twice = refl

-- a compacted file tells neither
marks_are_not_copied :
    copies newest_format texts 0 (follow ∷ begin_ten ∷ sweep_to 50 ∷ lost_end 2 ∷ promoted ∷ sweep_to 60 ∷ []) (in_file false (at_60.book.length + 12) at_60)
    ≡ begin_ten ∷ body_of (draws 3) ∷ sweep_to 60 ∷ []
unfolding read_record_in read_within
marks_are_not_copied = refl
