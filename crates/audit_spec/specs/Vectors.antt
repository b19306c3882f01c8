-- What an audit answers to small files: each word, and a yes.
use Rattle.std.specs.Prelude.{◌≡◌, ℕ, List, [], ◌∷◌, ◌++◌, Some, None, codes, refl}
use Rattle.std.specs.Str.{is_utf8, chars}
use Rattle.std.proofs.Math.Utf8.{encode}
use Rattle.script_value.specs.Val.{Val, text, list, no_vals}
use Rattle.script_nodes.specs.declared.script.SendKind.{SendKind}
use Rattle.script_nodes.specs.declared.script.SendKind.TheVariants.{Suspend, Forward}
use Rattle.script_nodes.specs.Core.{Core, lit, seq, send, cores_of, no_cores}
use Rattle.script_nodes.specs.Setup.{Named}
use Rattle.instance_cells.specs.Cells.{Effect, read}
use Rattle.wire_bytes.specs.Spelling.{u64_bytes}
use Rattle.value_bytes.specs.Reading.{read_within}
use Rattle.replay_spec.specs.Book.{Opening, opens, ends, finishes, sweeps}
use Rattle.replay_spec.specs.Samples.{plain_start}
use Rattle.machine_states.specs.Machine.{Suspended, in_seq}
use Rattle.frame_codec.specs.Forms.{form_bytes}
use Rattle.journal_records.specs.Fields.{name_bytes, Origin, start, answered, origin_bytes, send_byte}
use Rattle.journal_records.specs.Records.{changes, draws, follows, promotes, begin_of, renewal_of, body_of, effects_bytes, names_bytes}
use Rattle.journal_records.specs.Old.{read_record_in}
use Rattle.journal_spec.specs.Making.{Texts}
use Rattle.audit_spec.specs.declared.word.Word.TheVariants as word
use Rattle.audit_spec.specs.Findings.{yes, no, is_damaged, audited}

-- an expression that shows a page of these words and waits
abbrev shows_page : List ℕ → Core
shows_page words = send Suspend (lit (text words))

-- a script that shows two pages, and ends with the answer to the second
abbrev pub asking : Named
asking = record {
  name = codes "asking";
  text = codes "(begin (send/suspend (lambda (u) \"one\")) (send/suspend (lambda (u) \"two\")))";
  script = record { web = []; cells = []; tasks = no_cores; body = seq (cores_of (shows_page (codes "one") ∷ shows_page (codes "two") ∷ [])) };
}

-- in these rows all names and texts are read as the script that asks twice
abbrev pub texts : Texts
texts named = Some (asking ∷ [])

-- the first record, of shelf 3; the gate after it is at 111
abbrev pub begin_asking : List ℕ
begin_asking = body_of (begin_of 3 (asking ∷ []))

-- the body of a tick's record
abbrev sweep_to : ℕ → List ℕ
sweep_to tick = body_of (changes (sweeps tick) None)

-- ---- files without pages

-- empty disks are answered yes, and so is a first record alone, whichever shelf it names
nothing_there : audited 6 texts [] ≡ yes 0
nothing_there = refl

-- the first record alone, of the shelf that it names, is counted as one
begun_alone : audited 6 texts (begin_asking ∷ []) ≡ yes 1
unfolding read_record_in
begun_alone = refl

-- a sweep raises the clock
a_sweep : audited 6 texts (begin_asking ∷ body_of (draws 3) ∷ sweep_to 50 ∷ body_of (renewal_of (asking ∷ [])) ∷ sweep_to 51 ∷ []) ≡ yes 5
unfolding read_record_in
a_sweep = refl

-- a sweep to the clock is found at fault
sweep_at_the_clock : audited 6 texts (begin_asking ∷ sweep_to 50 ∷ sweep_to 50 ∷ []) ≡ no (record { place = 125; word = word.Sweep })
unfolding read_record_in
sweep_at_the_clock = refl

-- a sweep to a time before the clock is found at fault
sweep_below_the_clock : audited 6 texts (begin_asking ∷ sweep_to 50 ∷ sweep_to 49 ∷ []) ≡ no (record { place = 125; word = word.Sweep })
unfolding read_record_in
sweep_below_the_clock = refl

-- of two findings in a journal the first is told
first_of_two : audited 6 texts (begin_asking ∷ sweep_to 0 ∷ sweep_to 0 ∷ []) ≡ no (record { place = 111; word = word.Sweep })
unfolding read_record_in
first_of_two = refl

-- damage anywhere in a journal is told before any other finding
damage_behind : audited 6 texts (begin_asking ∷ sweep_to 0 ∷ (6 ∷ []) ∷ []) ≡ is_damaged 125
unfolding read_record_in
damage_behind = refl

-- a file whose first record is a tick's is damaged there
no_begin : audited 6 texts (sweep_to 50 ∷ []) ≡ is_damaged 8
unfolding read_record_in
no_begin = refl

-- ---- starts that have a word, in the newest format

-- a start that the script comes to
abbrev pub first : Opening
first = record plain_start { nonce = 5 }

-- the state of the first page
abbrev pub first_state : Suspended
first_state = record { env = []; frames = in_seq 0 0 ∷ []; shadows = [] }

-- the state of the second page
abbrev pub second_state : Suspended
second_state = record { env = []; frames = in_seq 0 1 ∷ []; shadows = [] }

-- the body of a start whose page has this state
abbrev pub start_with : Opening → Suspended → List ℕ
start_with o d = body_of (changes (opens o) (Some (form_bytes None d)))

-- a start that was forwarded, where the script suspends, was not written by its visit
another_kind : audited 6 texts (begin_asking ∷ start_with (record first { kind = Forward }) first_state ∷ []) ≡ no (record { place = 111; word = word.Run })
unfolding read_record_in read_within is_utf8 chars encode
another_kind = refl

-- a start that left a transaction, where the script enters none, was not written by its visit
something_left :
    audited 6 texts (begin_asking ∷ start_with (record first { left = record { ticket = 0; entry = 0 } ∷ [] }) first_state ∷ [])
    ≡ no (record { place = 111; word = word.Run })
unfolding read_record_in read_within is_utf8 chars encode name_bytes
something_left = refl

-- a start for which a page went, where none stands, was not written by its visit
one_goes : audited 6 texts (begin_asking ∷ start_with (record first { evicted = 0 ∷ [] }) first_state ∷ []) ≡ no (record { place = 111; word = word.Evicted })
unfolding read_record_in read_within is_utf8 chars encode
one_goes = refl

-- the deadline of a page is no life of a page away, where it is at the clock or farther above it than a life reaches
no_life : audited 6 texts (begin_asking ∷ sweep_to 3600 ∷ start_with first first_state ∷ []) ≡ no (record { place = 125; word = word.Deadline })
unfolding read_record_in read_within is_utf8 chars encode
no_life = refl

-- the deadline of a page is farther away than a life may be
too_long_a_life :
    audited 6 texts (begin_asking ∷ start_with (record first { deadline = 2147483649 }) first_state ∷ []) ≡ no (record { place = 111; word = word.Deadline })
unfolding read_record_in read_within is_utf8 chars encode
too_long_a_life = refl

-- where a record has several faults, the first word in the order of the tests is told
several : audited 6 texts (begin_asking ∷ start_with (record first { kind = Forward; deadline = 0; evicted = 7 ∷ [] }) second_state ∷ []) ≡ no (record { place = 111; word = word.Run })
unfolding read_record_in read_within is_utf8 chars encode
several = refl

-- a page of no instance is answered
no_page :
    audited 6 texts (begin_asking ∷ body_of (changes (ends (record { number = 0; instance = 0; page = 0; answer = text []; effects = []; left = [] })) None) ∷ [])
    ≡ no (record { place = 111; word = word.Target })
unfolding read_record_in read_within is_utf8 chars encode
no_page = refl

-- ---- pages in format 1, whose records tell no states

-- the body of a page in format 1
abbrev page_of_1 : (number : ℕ) → Origin → SendKind → (deadline : ℕ) → List ℕ
page_of_1 n origin kind deadline =
    2 ∷ (u64_bytes n ++ (u64_bytes 5 ++ (origin_bytes origin ++ (effects_bytes [] ++ (names_bytes [] ++ (send_byte kind ∷ [] ++ u64_bytes deadline))))))

-- the body of a start in format 1, with this deadline
abbrev start_of_1 : (deadline : ℕ) → List ℕ
start_of_1 deadline = page_of_1 0 (start 0) Suspend deadline

-- the body of an answer to a page in format 1
abbrev answer_of_1 : (number page : ℕ) → List ℕ
answer_of_1 n page = page_of_1 n (answered 0 page (list no_vals)) Suspend 3600

-- the body of a last page, with this answer and these effects
abbrev ending : (number page : ℕ) → (answer : Val) → List Effect → List ℕ
ending n page answer effects =
    body_of (changes (ends (record { number = n; instance = 0; page = page; answer = answer; effects = effects; left = [] })) None)

-- a journal of both pages and the last one passes
all_of_it : audited 1 texts (begin_asking ∷ start_of_1 3600 ∷ answer_of_1 2 0 ∷ ending 1 2 (text (codes "bye")) [] ∷ []) ≡ yes 4
unfolding read_record_in read_within is_utf8 chars encode
all_of_it = refl

-- a journal in which the first page was answered twice passes
twice : audited 1 texts (begin_asking ∷ start_of_1 3600 ∷ answer_of_1 2 0 ∷ answer_of_1 1 0 ∷ []) ≡ yes 4
unfolding read_record_in read_within is_utf8 chars encode
twice = refl

-- a number that stands in an earlier record
number_again :
    audited 1 texts (begin_asking ∷ start_of_1 3600 ∷ answer_of_1 0 0 ∷ []) ≡ no (record { place = 157; word = word.Number })
unfolding read_record_in read_within is_utf8 chars encode
number_again = refl

-- a page that is not there
page_not_there :
    audited 1 texts (begin_asking ∷ start_of_1 3600 ∷ answer_of_1 1 7 ∷ []) ≡ no (record { place = 157; word = word.Target })
unfolding read_record_in read_within is_utf8 chars encode
page_not_there = refl

-- a page whose time is over, in an instance that has one that can be answered still
page_expired :
    audited 1 texts (begin_asking ∷ start_of_1 50 ∷ answer_of_1 1 0 ∷ sweep_to 50 ∷ answer_of_1 2 0 ∷ []) ≡ no (record { place = 232; word = word.Target })
unfolding read_record_in read_within is_utf8 chars encode
page_expired = refl

-- the script shows a second page, and does not end
no_end : audited 1 texts (begin_asking ∷ start_of_1 3600 ∷ ending 1 0 (text (codes "bye")) [] ∷ []) ≡ no (record { place = 157; word = word.Run })
unfolding read_record_in read_within is_utf8 chars encode
no_end = refl

-- an answer to the second page that is no page cannot end the script
no_last_page : audited 1 texts (begin_asking ∷ start_of_1 3600 ∷ answer_of_1 2 0 ∷ ending 1 2 (list no_vals) [] ∷ []) ≡ no (record { place = 218; word = word.Run })
unfolding read_record_in read_within is_utf8 chars encode
no_last_page = refl

-- a last page that tells a read, where the script reads no cell, was not written by its visit
nothing_read :
    audited 1 texts (begin_asking ∷ start_of_1 3600 ∷ answer_of_1 2 0 ∷ ending 1 2 (text (codes "bye")) (read 0 (text []) ∷ []) ∷ [])
    ≡ no (record { place = 218; word = word.Run })
unfolding read_record_in read_within is_utf8 chars encode
nothing_read = refl

-- a record that frees the instance, where the script ends without doing so, was not written by its visit
no_finish :
    audited 1 texts
    (begin_asking ∷ start_of_1 3600 ∷ answer_of_1 2 0
    ∷ body_of (changes (finishes (record { number = 1; instance = 0; page = 2; answer = text (codes "bye"); effects = [] })) None) ∷ [])
    ≡ no (record { place = 218; word = word.Run })
unfolding read_record_in read_within is_utf8 chars encode
no_finish = refl

-- ---- files of shelves that follow another one's journal, or did

-- the file of a shelf that waits to be fed passes
of_a_follower : audited 6 texts (body_of follows ∷ []) ≡ yes 1
unfolding read_record_in
of_a_follower = refl

-- the file of a shelf that follows passes with what it was fed
of_one_fed : audited 6 texts (body_of follows ∷ begin_asking ∷ sweep_to 50 ∷ []) ≡ yes 3
unfolding read_record_in
of_one_fed = refl

-- the file of a shelf that was promoted before it was fed passes with its own records
of_one_promoted_at_once : audited 6 texts (body_of follows ∷ body_of promotes ∷ begin_asking ∷ sweep_to 50 ∷ []) ≡ yes 4
unfolding read_record_in
of_one_promoted_at_once = refl

-- the file of a shelf that was fed, and promoted then, passes with its own records
of_one_promoted : audited 6 texts (body_of follows ∷ begin_asking ∷ body_of promotes ∷ sweep_to 50 ∷ []) ≡ yes 4
unfolding read_record_in
of_one_promoted = refl

-- a finding is where its record stands, six bytes further on
fed_below_the_clock : audited 6 texts (body_of follows ∷ begin_asking ∷ sweep_to 50 ∷ sweep_to 49 ∷ []) ≡ no (record { place = 131; word = word.Sweep })
unfolding read_record_in
fed_below_the_clock = refl

-- a shelf that does not follow is not promoted
promoted_alone : audited 6 texts (body_of promotes ∷ begin_asking ∷ []) ≡ is_damaged 8
unfolding read_record_in
promoted_alone = refl
