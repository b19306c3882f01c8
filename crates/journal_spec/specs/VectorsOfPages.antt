-- Worked rows of files with pages.
use Rattle.std.specs.Prelude.{◌≡◌, false, ℕ, ◌+◌, List, [], ◌∷◌, ◌++◌, Some, codes, refl}
use Rattle.script_value.specs.Val.{text}
use Rattle.script_nodes.specs.declared.script.SendKind.TheVariants.{Suspend}
use Rattle.script_nodes.specs.Core.{lit, send, no_cores}
use Rattle.script_nodes.specs.Setup.{Named}
use Rattle.wire_bytes.specs.Spelling.{byte_string, u64_bytes}
use Rattle.replay_spec.specs.Book.{Page, Instance, Change, opens, extends, changed, Book}
use Rattle.replay_spec.specs.Samples.{plain_page, plain_start, plain_answer}
use Rattle.machine_states.specs.Machine.{Suspended}
use Rattle.kept_states.specs.FrameCodec.Spelling.{state_bytes}
use Rattle.kept_states.specs.FrameCodec.Forms.{form_bytes}
use Rattle.value_bytes.specs.Reading.{read_within}
use Rattle.journal_records.specs.Fields.{start, origin_bytes}
use Rattle.journal_records.specs.Records.{changes, draws, begin_of, body_of, effects_bytes, names_bytes}
use Rattle.journal_records.specs.Reading.{read_record}
use Rattle.journal_records.specs.Old.{read_record_in}
use Rattle.journal_spec.specs.Making.{Texts, made, damaged, began, book_of}
use Rattle.journal_spec.specs.Old.{book_of_format}
use Rattle.journal_spec.specs.Copying.{copies}

-- a script that shows a page and waits
abbrev waiting : Named
waiting = record {
  name = codes "waiting";
  text = codes "(send/suspend (lambda (k) \"go\"))";
  script = record { web = []; cells = []; tasks = no_cores; body = send Suspend (lit (text (codes "go"))) };
}

-- in these rows all names and texts are read as the script that waits
abbrev texts : Texts
texts named = Some (waiting ∷ [])

-- the first record of shelf 3 with the script that waits
abbrev begin_waiting : List ℕ
begin_waiting = body_of (begin_of 3 (waiting ∷ []))

-- the state of a page with no variable, no frame and no binding
abbrev bare : Suspended
bare = record { env = []; frames = []; shadows = [] }

-- the bytes of a state with no variable, no frame and no binding
abbrev bare_bytes : List ℕ
bare_bytes = 0 ∷ 0 ∷ 0 ∷ 0 ∷ 0 ∷ 0 ∷ 0 ∷ 0 ∷ 0 ∷ 0 ∷ 0 ∷ 0 ∷ []

-- a state with nothing in it has these bytes
bare_is_spelled : state_bytes bare ≡ bare_bytes
bare_is_spelled = refl

-- the bare state, written by itself
abbrev flat : List ℕ
flat = 0 ∷ bare_bytes

-- the bare state, written after the same state
abbrev as_before : List ℕ
as_before = 1 ∷ 0 ∷ 0 ∷ 0 ∷ 0 ∷ 0 ∷ 0 ∷ 0 ∷ 0 ∷ 0 ∷ 0 ∷ 0 ∷ 0 ∷ 0 ∷ 0 ∷ 0 ∷ 0 ∷ 0 ∷ 0 ∷ 0 ∷ 0 ∷ []

-- a state that is the one before has these bytes as a delta
as_before_is_spelled : form_bytes (Some bare) bare ≡ as_before
as_before_is_spelled = refl

-- a start of the script at a place, of the segment of this number
abbrev opening : (number place : ℕ) → Change
opening n k = opens (record plain_start { number = n; nonce = 5; script = k })

-- an answer to a page of an instance, of the segment of this number, for whose page these went
abbrev answering : (number instance page : ℕ) → (gone : List ℕ) → Change
answering n i p gone = extends (record plain_answer { number = n; nonce = 6; instance = i; page = p; evicted = gone })

-- the body of a start of the script of this place, with these bytes of a state
abbrev start_body : (number place : ℕ) → (state : List ℕ) → List ℕ
start_body n k state = body_of (changes (opening n k) (Some state))

-- the body of an answer to a page for which these pages went, with these bytes of a state
abbrev answer_body : (number instance page : ℕ) → (gone state : List ℕ) → List ℕ
answer_body n i p gone state = body_of (changes (answering n i p gone) (Some state))

-- the first page of the instance
abbrev root : Page
root = record plain_page { nonce = 5 }

-- the page that answers the first one, of the segment of this number
abbrev second : ℕ → Page
second n = record plain_page { number = n; nonce = 6; parent = Some 0 }

-- the instance with its first page, which was used by the segment of this number at last
abbrev first_instance : (last : ℕ) → Instance
first_instance n = record {
  number = 0;
  script = waiting;
  cells = [];
  closed = [];
  revoked = [];
  used = record { page = 0; last = n } ∷ [];
  evicted = [];
  pages = root ∷ [];
}

-- the book that the first record alone makes
abbrev begun_waiting : Book
begun_waiting = (began false 3 8 56 (waiting ∷ [])).book

-- the book after a start, where the file is this long
abbrev started : (length : ℕ) → Book
started size = record begun_waiting {
  drawn = 1;
  logged = 1;
  length = size;
  file = record begun_waiting.file { lines = changed (opening 0 0) 62 ∷ [] };
  instances = first_instance 0 ∷ [];
}

-- the record of a start makes an instance with its page, and tells the page's state
a_start :
    book_of texts 3 (begin_waiting ∷ start_body 0 0 flat ∷ [])
    ≡ made (record { book = started 137; earlier = record { seen = 0 ∷ []; states = (0, bare) ∷ [] } })
unfolding read_record read_within
a_start = refl

-- a record that repeats a number is passed over: the file is longer by it, and has no line of it
a_number_twice :
    book_of texts 3 (begin_waiting ∷ start_body 0 0 flat ∷ start_body 0 0 flat ∷ [])
    ≡ made (record { book = started 204; earlier = record { seen = 0 ∷ 0 ∷ []; states = (0, bare) ∷ [] } })
unfolding read_record read_within
a_number_twice = refl

-- bytes that are no state of the script are damage, also where the number was there before
no_state : book_of texts 3 (begin_waiting ∷ start_body 0 0 [] ∷ []) ≡ damaged 69
unfolding read_record read_within
no_state = refl

-- a record that repeats a number and has no state of its script is damage
no_state_again : book_of texts 3 (begin_waiting ∷ start_body 0 0 flat ∷ start_body 0 0 (9 ∷ []) ∷ []) ≡ damaged 136
unfolding read_record read_within
no_state_again = refl

-- of an answer to a page of no instance, what it has for a state is not read
no_state_is_read :
    book_of texts 3 (begin_waiting ∷ start_body 0 0 flat ∷ answer_body 1 0 7 [] (9 ∷ []) ∷ [])
    ≡ made (record {
      book = record (started 207) { drawn = 2; logged = 2 };
      earlier = record { seen = 1 ∷ 0 ∷ []; states = (0, bare) ∷ [] };
    })
unfolding read_record read_within
no_state_is_read = refl

-- an answer to a page that stands has to have a state of its script
no_state_of_a_page : book_of texts 3 (begin_waiting ∷ start_body 0 0 flat ∷ answer_body 1 0 0 [] (9 ∷ []) ∷ []) ≡ damaged 136
unfolding read_record read_within
no_state_of_a_page = refl

-- the book after an answer whose page's state is written as a delta from that of the page before
abbrev answered_once : Book
answered_once = record (started 227) {
  drawn = 2;
  logged = 2;
  file = record begun_waiting.file { lines = changed (opening 0 0) 62 ∷ changed (answering 1 0 0 []) 85 ∷ [] };
  instances = record (first_instance 1) { used = record { page = 0; last = 1 } ∷ record { page = 1; last = 1 } ∷ []; pages = root ∷ second 1 ∷ [] } ∷ [];
}

-- the state of an answer's page is read as a delta from that of the page before
behind_the_page :
    book_of texts 3 (begin_waiting ∷ start_body 0 0 flat ∷ answer_body 1 0 0 [] as_before ∷ [])
    ≡ made (record { book = answered_once; earlier = record { seen = 1 ∷ 0 ∷ []; states = (1, bare) ∷ (0, bare) ∷ [] } })
unfolding read_record read_within
behind_the_page = refl

-- the state of an answer's page is not read by itself
not_by_itself : book_of texts 3 (begin_waiting ∷ start_body 0 0 flat ∷ answer_body 1 0 0 [] flat ∷ []) ≡ damaged 136
unfolding read_record read_within
not_by_itself = refl

-- the state of a start's page is written by itself
not_behind : book_of texts 3 (begin_waiting ∷ start_body 0 0 as_before ∷ []) ≡ damaged 69
unfolding read_record read_within
not_behind = refl

-- a start of a script that is not of the setup is damage
no_such_script : book_of texts 3 (begin_waiting ∷ start_body 0 1 flat ∷ []) ≡ damaged 69
unfolding read_record read_within
no_such_script = refl

-- the book after an answer for whose page the first one went
abbrev evicted_once : Book
evicted_once = record (started 235) {
  drawn = 2;
  logged = 2;
  file = record begun_waiting.file { lines = changed (opening 0 0) 62 ∷ changed (answering 1 0 0 (0 ∷ [])) 93 ∷ [] };
  instances = record (first_instance 1) {
    used = record { page = 1; last = 1 } ∷ [];
    evicted = record { page = 0; by = 1 } ∷ [];
    pages = root ∷ second 1 ∷ [];
  } ∷ [];
}

-- a page that went for another is told by that page's record, and its state is still told
a_page_that_went :
    book_of texts 3 (begin_waiting ∷ start_body 0 0 flat ∷ answer_body 1 0 0 (0 ∷ []) as_before ∷ [])
    ≡ made (record { book = evicted_once; earlier = record { seen = 1 ∷ 0 ∷ []; states = (1, bare) ∷ (0, bare) ∷ [] } })
unfolding read_record read_within
a_page_that_went = refl

-- a record that evicts a page that is not there, one that went before, or one twice, is passed over
none_there :
    book_of texts 3 (begin_waiting ∷ start_body 0 0 flat ∷ answer_body 1 0 0 (7 ∷ []) as_before ∷ [])
    ≡ made (record {
      book = record (started 235) { drawn = 2; logged = 2 };
      earlier = record { seen = 1 ∷ 0 ∷ []; states = (0, bare) ∷ [] };
    })
unfolding read_record read_within
none_there = refl

-- an answer for which a page goes that went before is passed over
gone_before :
    book_of texts 3 (begin_waiting ∷ start_body 0 0 flat ∷ answer_body 1 0 0 (0 ∷ []) as_before ∷ answer_body 2 0 0 (0 ∷ []) as_before ∷ [])
    ≡ made (record {
      book = record evicted_once { drawn = 3; logged = 3; length = 333 };
      earlier = record { seen = 2 ∷ 1 ∷ 0 ∷ []; states = (1, bare) ∷ (0, bare) ∷ [] };
    })
unfolding read_record read_within
gone_before = refl

-- an answer for which a page goes twice is passed over
gone_twice :
    book_of texts 3 (begin_waiting ∷ start_body 0 0 flat ∷ answer_body 1 0 0 (0 ∷ 0 ∷ []) as_before ∷ [])
    ≡ made (record {
      book = record (started 243) { drawn = 2; logged = 2 };
      earlier = record { seen = 1 ∷ 0 ∷ []; states = (0, bare) ∷ [] };
    })
unfolding read_record read_within
gone_twice = refl

-- the body of a start in the formats before 6, with these bytes for the page's state
abbrev old_start : (state : List ℕ) → List ℕ
old_start state =
    2 ∷ (u64_bytes 0 ++ (u64_bytes 5 ++ (origin_bytes (start 0) ++ (effects_bytes [] ++ (names_bytes [] ++ (0 ∷ (u64_bytes 3600 ++ byte_string state)))))))

-- the book after a start whose record's body is this long
abbrev started_by : (length : ℕ) → Book
started_by n = record (started (75 + n)) { file = record begun_waiting.file { lines = changed (opening 0 0) n ∷ [] } }

-- in format 2 a record has the bytes of the state alone, and in formats 3 to 5 the form and the bytes
in_format_2 :
    book_of_format 2 texts 3 (begin_waiting ∷ old_start bare_bytes ∷ [])
    ≡ made (record { book = started_by 57; earlier = record { seen = 0 ∷ []; states = (0, bare) ∷ [] } })
unfolding read_record_in read_within
in_format_2 = refl

-- a start of format 3 makes the book that one of the newest format makes
in_format_3 :
    book_of_format 3 texts 3 (begin_waiting ∷ old_start flat ∷ [])
    ≡ made (record { book = started_by 58; earlier = record { seen = 0 ∷ []; states = (0, bare) ∷ [] } })
unfolding read_record_in read_within
in_format_3 = refl

-- in format 2 a state with the byte of its form is damage
no_form_in_2 : book_of_format 2 texts 3 (begin_waiting ∷ old_start flat ∷ []) ≡ damaged 69
unfolding read_record_in read_within
no_form_in_2 = refl

-- in format 3 a state without the byte of its form is damage
a_form_in_3 : book_of_format 3 texts 3 (begin_waiting ∷ old_start bare_bytes ∷ []) ≡ damaged 69
unfolding read_record_in read_within
a_form_in_3 = refl

-- a start of format 2, and one of format 3, is written in the newest format with the form of its state and a list of no pages that went
start_of_2_now :
    copies 2 texts 3 (begin_waiting ∷ old_start bare_bytes ∷ []) (record { book = started_by 57; earlier = record { seen = 0 ∷ []; states = (0, bare) ∷ [] } })
    ≡ begin_waiting ∷ body_of (draws 1) ∷ start_body 0 0 flat ∷ []
unfolding read_record_in read_within
start_of_2_now = refl

-- a start of format 3 is copied in the newest one, after the next number
start_of_3_now :
    copies 3 texts 3 (begin_waiting ∷ old_start flat ∷ []) (record { book = started_by 58; earlier = record { seen = 0 ∷ []; states = (0, bare) ∷ [] } })
    ≡ begin_waiting ∷ body_of (draws 1) ∷ start_body 0 0 flat ∷ []
unfolding read_record_in read_within
start_of_3_now = refl
