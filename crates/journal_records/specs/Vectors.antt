-- Worked rows.
use Rattle.std.specs.Prelude.{◌≡◌, ℕ, zero, suc, ◌-◌, ◌^◌, Bool, not, is_some, List, [], ◌∷◌, ◌++◌, length, map, pos, negsuc, true, false, Some, None, codes, refl}
use Rattle.std.specs.List.{list_all}
use Rattle.script_value.specs.Val.{Val, number, truth, list, no_vals, val}
use Rattle.instance_cells.specs.Cells.{read, set, add}
use Rattle.script_nodes.specs.declared.script.SendKind.TheVariants.{Suspend, Forward}
use Rattle.script_nodes.specs.Setup.{Script}
use Rattle.replay_spec.specs.Book.{Change, opens, extends, ends, finishes, sweeps}
use Rattle.value_bytes.specs.Reading.{read_within}
use Rattle.journal_records.specs.Fields.{name_bytes}
use Rattle.journal_records.specs.Records.{Record, begins, changes, renews, draws, follows, promotes, body_of, record_length, begun_length}
use Rattle.journal_records.specs.Reading.{read_record}

-- the fronts of these bytes, but for the whole
abbrev fronts : List ℕ → List (List ℕ)
fronts [] = []
fronts (b ∷ bytes) = [] ∷ map (λ front. b ∷ front) (fronts bytes)

-- whether each front is the body of no record
abbrev is_whole : List ℕ → Bool
is_whole bytes = list_all (λ front. not (is_some (read_record front))) (fronts bytes)

-- the body of the record of a tick to 50
abbrev sweep_body : List ℕ
sweep_body = 5 ∷ 50 ∷ 0 ∷ 0 ∷ 0 ∷ 0 ∷ 0 ∷ 0 ∷ 0 ∷ []

-- the record of a tick is written as these bytes
sweep : body_of (changes (sweeps 50) None) ≡ sweep_body
sweep = refl

-- the bytes of a tick's record are read as this record
sweep_is_read : read_record sweep_body ≡ Some (changes (sweeps 50) None)
unfolding read_record
sweep_is_read = refl

-- no front of the bytes of a tick's record is a record
short_sweep : is_whole sweep_body ≡ true
unfolding read_record
short_sweep = refl

-- the bytes of a tick's record and one more are no record
long_sweep : read_record (sweep_body ++ 0 ∷ []) ≡ None
unfolding read_record
long_sweep = refl

-- a clock of 2^62
late_sweep : read_record (5 ∷ 0 ∷ 0 ∷ 0 ∷ 0 ∷ 0 ∷ 0 ∷ 0 ∷ 64 ∷ []) ≡ None
unfolding read_record
late_sweep = refl

-- the greatest tick that a record tells is 2^62 - 1
last_sweep : read_record (5 ∷ 255 ∷ 255 ∷ 255 ∷ 255 ∷ 255 ∷ 255 ∷ 255 ∷ 63 ∷ []) ≡ Some (changes (sweeps (2 ^ 62 - 1)) None)
unfolding read_record
last_sweep = refl

-- one script, `ten`, with the text '(p "12345")
begin : length (body_of (begins 0 ((codes "ten", codes "'(p \"12345\")") ∷ []))) ≡ 32
begin = refl

-- a journal that has no more than the record of the script `ten` is 46 bytes long
begun : (s : Script) → begun_length 0 (record { name = codes "ten"; text = codes "'(p \"12345\")"; script = s } ∷ []) ≡ 46
begun s = refl

-- the body of the first record of a file with one script, `a`, whose text is 7
abbrev begin_body : List ℕ
begin_body = 1 ∷ 2 ∷ 0 ∷ 0 ∷ 0 ∷ 1 ∷ 0 ∷ 0 ∷ 0 ∷ 1 ∷ 0 ∷ 0 ∷ 0 ∷ 97 ∷ 1 ∷ 0 ∷ 0 ∷ 0 ∷ 55 ∷ []

-- the first record of a file is written as these bytes
short_begin_body : body_of (begins 2 ((codes "a", codes "7") ∷ [])) ≡ begin_body
short_begin_body = refl

-- the bytes of a file's first record are read as this record
begin_is_read : read_record begin_body ≡ Some (begins 2 ((codes "a", codes "7") ∷ []))
unfolding read_record
begin_is_read = refl

-- no front of the bytes of a file's first record is a record
short_begin : is_whole begin_body ≡ true
unfolding read_record
short_begin = refl

-- a start of the second script read cell 0, took one from cell 2, and showed a page, whose state has two bytes
abbrev start : Record
start = changes (opens (record {
  number = 3;
  nonce = 7;
  script = 1;
  effects = read 0 (truth true) ∷ add 2 (negsuc 0) ∷ [];
  left = [];
  kind = Suspend;
  deadline = 86400;
  evicted = [];
})) (Some (8 ∷ 9 ∷ []))

-- the body of a start's record
abbrev start_body : List ℕ
start_body =
    (2 ∷ 3 ∷ 0 ∷ 0 ∷ 0 ∷ 0 ∷ 0 ∷ 0 ∷ 0 ∷ 7 ∷ 0 ∷ 0 ∷ 0 ∷ 0 ∷ 0 ∷ 0 ∷ 0 ∷ 0 ∷ 1 ∷ 5 ∷ 0 ∷ 0 ∷ 0 ∷ 0 ∷ [])
    ++ (2 ∷ 0 ∷ 0 ∷ 0 ∷ 0 ∷ 0 ∷ 2 ∷ 2 ∷ 2 ∷ 255 ∷ 255 ∷ 255 ∷ 255 ∷ 255 ∷ 255 ∷ 255 ∷ 255 ∷ [])
    ++ (0 ∷ 0 ∷ 0 ∷ 0 ∷ 0 ∷ 128 ∷ 81 ∷ 1 ∷ 0 ∷ 0 ∷ 0 ∷ 0 ∷ 0 ∷ 0 ∷ 0 ∷ 0 ∷ 0 ∷ 2 ∷ 0 ∷ 0 ∷ 0 ∷ 8 ∷ 9 ∷ [])

-- the record of a start is written as these bytes
a_start : body_of start ≡ start_body
a_start = refl

-- the bytes of a start's record are read as this record
a_start_is_read : read_record start_body ≡ Some start
unfolding read_record read_within
a_start_is_read = refl

-- no front of the bytes of a start's record is a record
a_short_start : is_whole start_body ≡ true
unfolding read_record read_within
a_short_start = refl

-- the bytes of a start's record and one more are no record
a_long_start : read_record (start_body ++ 0 ∷ []) ≡ None
unfolding read_record read_within
a_long_start = refl

-- page 4 of instance 3 was answered with 1; cell 1 was set, one transaction was left, and a page was shown by a forward
abbrev answer : Record
answer = changes (extends (record {
  number = 5;
  nonce = 258;
  instance = 3;
  page = 4;
  answer = number (pos 1);
  effects = set 1 (truth false) ∷ [];
  left = record { ticket = 3; entry = 2 } ∷ [];
  kind = Forward;
  deadline = 1;
  evicted = 0 ∷ 4 ∷ [];
})) (Some [])

-- the body of the record of an answer that shows a page
abbrev answer_body : List ℕ
answer_body =
    (2 ∷ 5 ∷ 0 ∷ 0 ∷ 0 ∷ 0 ∷ 0 ∷ 0 ∷ 0 ∷ 2 ∷ 1 ∷ 0 ∷ 0 ∷ 0 ∷ 0 ∷ 0 ∷ 0 ∷ [])
    ++ (1 ∷ 3 ∷ 0 ∷ 0 ∷ 0 ∷ 0 ∷ 0 ∷ 0 ∷ 0 ∷ 4 ∷ 0 ∷ 0 ∷ 0 ∷ 0 ∷ 0 ∷ 0 ∷ 0 ∷ 0 ∷ 1 ∷ 0 ∷ 0 ∷ 0 ∷ 0 ∷ 0 ∷ 0 ∷ 0 ∷ [])
    ++ (1 ∷ 0 ∷ 0 ∷ 0 ∷ 1 ∷ 1 ∷ 1 ∷ [])
    ++ (1 ∷ 0 ∷ 0 ∷ 0 ∷ 3 ∷ 0 ∷ 0 ∷ 0 ∷ 0 ∷ 0 ∷ 0 ∷ 0 ∷ 2 ∷ 0 ∷ 0 ∷ 0 ∷ [])
    ++ (1 ∷ 1 ∷ 0 ∷ 0 ∷ 0 ∷ 0 ∷ 0 ∷ 0 ∷ 0 ∷ [])
    ++ (2 ∷ 0 ∷ 0 ∷ 0 ∷ 0 ∷ 0 ∷ 0 ∷ 0 ∷ 0 ∷ 0 ∷ 0 ∷ 0 ∷ 4 ∷ 0 ∷ 0 ∷ 0 ∷ 0 ∷ 0 ∷ 0 ∷ 0 ∷ [])
    ++ (0 ∷ 0 ∷ 0 ∷ 0 ∷ [])

-- the record of an answer that shows a page is written as these bytes
an_answer : body_of answer ≡ answer_body
unfolding name_bytes
an_answer = refl

-- the bytes of the record of an answer are read as this record
an_answer_is_read : read_record answer_body ≡ Some answer
unfolding read_record read_within
an_answer_is_read = refl

-- no front of the bytes of the record of an answer is a record
a_short_answer : is_whole answer_body ≡ true
unfolding read_record read_within
a_short_answer = refl

-- a start has the empty list for an answer, and no other
an_answered_start : read_record (
    (2 ∷ 3 ∷ 0 ∷ 0 ∷ 0 ∷ 0 ∷ 0 ∷ 0 ∷ 0 ∷ 7 ∷ 0 ∷ 0 ∷ 0 ∷ 0 ∷ 0 ∷ 0 ∷ 0 ∷ 0 ∷ 1 ∷ 1 ∷ 0 ∷ 0 ∷ 0 ∷ 0 ∷ 0 ∷ 0 ∷ 0 ∷ 0 ∷ [])
    ++ (0 ∷ 128 ∷ 81 ∷ 1 ∷ 0 ∷ 0 ∷ 0 ∷ 0 ∷ 0 ∷ 0 ∷ 0 ∷ 0 ∷ 0 ∷ [])
    ) ≡ None
unfolding read_record read_within
an_answered_start = refl

-- an answer with a last page, which left a transaction
abbrev ending : Change
ending = ends (record { number = 5; instance = 3; page = 4; answer = truth true; effects = []; left = record { ticket = 3; entry = 2 } ∷ [] })

-- the body of the record of an answer with a last page
abbrev ending_body : List ℕ
ending_body =
    (3 ∷ 5 ∷ 0 ∷ 0 ∷ 0 ∷ 0 ∷ 0 ∷ 0 ∷ 0 ∷ 3 ∷ 0 ∷ 0 ∷ 0 ∷ 0 ∷ 0 ∷ 0 ∷ 0 ∷ 4 ∷ 0 ∷ 0 ∷ 0 ∷ 0 ∷ 0 ∷ 0 ∷ 0 ∷ 2 ∷ [])
    ++ (0 ∷ 0 ∷ 0 ∷ 0 ∷ 1 ∷ 0 ∷ 0 ∷ 0 ∷ 3 ∷ 0 ∷ 0 ∷ 0 ∷ 0 ∷ 0 ∷ 0 ∷ 0 ∷ 2 ∷ 0 ∷ 0 ∷ 0 ∷ [])

-- the record of an answer with a last page is written as these bytes
an_ending : body_of (changes ending None) ≡ ending_body
unfolding name_bytes
an_ending = refl

-- the bytes of the record of an answer with a last page are read as this record
an_ending_is_read : read_record ending_body ≡ Some (changes ending None)
unfolding read_record read_within
an_ending_is_read = refl

-- no front of the bytes of the record of an answer with a last page is a record
a_short_ending : is_whole ending_body ≡ true
unfolding read_record read_within
a_short_ending = refl

-- the body of the record of an answer with a last page has 46 bytes
its_length : record_length ending None ≡ 46
unfolding name_bytes
its_length = refl

-- an answer after which the instance is freed
abbrev finish : Change
finish = finishes (record { number = 5; instance = 3; page = 4; answer = truth true; effects = [] })

-- the body of the record of an answer that frees its instance
abbrev finish_body : List ℕ
finish_body =
    4 ∷ 5 ∷ 0 ∷ 0 ∷ 0 ∷ 0 ∷ 0 ∷ 0 ∷ 0 ∷ 3 ∷ 0 ∷ 0 ∷ 0 ∷ 0 ∷ 0 ∷ 0 ∷ 0 ∷ 4 ∷ 0 ∷ 0 ∷ 0 ∷ 0 ∷ 0 ∷ 0 ∷ 0 ∷ 2 ∷ 0 ∷ 0 ∷ 0 ∷ 0 ∷ []

-- the record of an answer that frees its instance is written as these bytes
a_finish : body_of (changes finish None) ≡ finish_body
a_finish = refl

-- the bytes of the record of an answer that frees its instance are read as this record
a_finish_is_read : read_record finish_body ≡ Some (changes finish None)
unfolding read_record read_within
a_finish_is_read = refl

-- no front of the bytes of the record of an answer that frees its instance is a record
a_short_finish : is_whole finish_body ≡ true
unfolding read_record read_within
a_short_finish = refl

-- bytes without a kind, or with one that is none, are no record
kind_none : read_record [] ≡ None
unfolding read_record
kind_none = refl

-- no record has the kind 0
kind_0 : read_record (0 ∷ 0 ∷ 0 ∷ 0 ∷ 0 ∷ 0 ∷ 0 ∷ 0 ∷ 0 ∷ []) ≡ None
unfolding read_record
kind_0 = refl

-- a record of another setup is none where bytes stand after its scripts
kind_6 : read_record (6 ∷ 0 ∷ 0 ∷ 0 ∷ 0 ∷ 0 ∷ 0 ∷ 0 ∷ 0 ∷ []) ≡ None
unfolding read_record
kind_6 = refl

-- there is no record of kind 10
kind_10 : read_record (10 ∷ []) ≡ None
unfolding read_record
kind_10 = refl

-- the record that a shelf follows another one's journal is written as this byte
a_follow : body_of follows ≡ 8 ∷ []
a_follow = refl

-- the byte 8 is read as the record that a shelf follows another one's journal
a_follow_is_read : read_record (8 ∷ []) ≡ Some follows
unfolding read_record
a_follow_is_read = refl

-- the byte 8 and one more are no record
long_follow : read_record (8 ∷ 0 ∷ []) ≡ None
unfolding read_record
long_follow = refl

-- the record that a shelf follows no longer is written as this byte
a_promoted : body_of promotes ≡ 9 ∷ []
a_promoted = refl

-- the byte 9 is read as the record that a shelf follows no longer
a_promoted_is_read : read_record (9 ∷ []) ≡ Some promotes
unfolding read_record
a_promoted_is_read = refl

-- the byte 9 and one more are no record
long_promoted : read_record (9 ∷ 0 ∷ []) ≡ None
unfolding read_record
long_promoted = refl

-- the body of the record that numbers up to 2 were drawn before a compaction
abbrev drawn_body : List ℕ
drawn_body = 7 ∷ 3 ∷ 0 ∷ 0 ∷ 0 ∷ 0 ∷ 0 ∷ 0 ∷ 0 ∷ []

-- the record of drawn numbers is written as these bytes
a_drawn : body_of (draws 3) ≡ drawn_body
a_drawn = refl

-- the bytes of the record of drawn numbers are read as this record
a_drawn_is_read : read_record drawn_body ≡ Some (draws 3)
unfolding read_record
a_drawn_is_read = refl

-- the greatest number that a record of drawn numbers tells is 2^62
last_drawn : read_record (7 ∷ 0 ∷ 0 ∷ 0 ∷ 0 ∷ 0 ∷ 0 ∷ 0 ∷ 64 ∷ []) ≡ Some (draws (2 ^ 62))
unfolding read_record
last_drawn = refl

-- a record of more drawn numbers than 2^62 is none
late_drawn : read_record (7 ∷ 1 ∷ 0 ∷ 0 ∷ 0 ∷ 0 ∷ 0 ∷ 0 ∷ 64 ∷ []) ≡ None
unfolding read_record
late_drawn = refl

-- another setup of one script named `a` with the text `7`
a_renewal : read_record (6 ∷ 1 ∷ 0 ∷ 0 ∷ 0 ∷ 1 ∷ 0 ∷ 0 ∷ 0 ∷ 97 ∷ 1 ∷ 0 ∷ 0 ∷ 0 ∷ 55 ∷ []) ≡ Some (renews ((codes "a", codes "7") ∷ []))
unfolding read_record
a_renewal = refl

-- a page without the bytes of its state has no length of its own
no_state : record_length (opens (record { number = 3; nonce = 7; script = 1; effects = []; left = []; kind = Suspend; deadline = 1; evicted = [] })) None ≡ 2 ^ 63
no_state = refl

-- the length of a start's record counts the bytes of its page's state
a_state : record_length (opens (record { number = 3; nonce = 7; script = 1; effects = []; left = []; kind = Suspend; deadline = 1; evicted = [] })) (Some (8 ∷ 9 ∷ [])) ≡ 51
a_state = refl

-- a value that nests so many levels deep
abbrev nested : ℕ → Val
nested zero = truth true
nested (suc n) = list (val (nested n) no_vals)

-- a record of a value that is one level too deep has no length of its own
deep_finish : record_length (finishes (record { number = 5; instance = 3; page = 4; answer = nested 201; effects = [] })) None ≡ 2 ^ 63
deep_finish = refl

-- a record with an effect whose value nests too deep to be written counts as 2^63 bytes
deep_effect : record_length (finishes (record { number = 5; instance = 3; page = 4; answer = truth true; effects = set 1 (nested 201) ∷ [] })) None ≡ 2 ^ 63
deep_effect = refl

-- a value that nests as deep as it may has 5 bytes a level
deepest_finish : record_length (finishes (record { number = 5; instance = 3; page = 4; answer = nested 200; effects = [] })) None ≡ 1030
deepest_finish = refl
