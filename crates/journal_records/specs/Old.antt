-- How bodies are read in each of the formats 1 to 6. Format 6 is the one that is written; the older ones are only read.
-- A page tells its state from format 2 on, and the pages that went for it from format 6 on. Another setup is told from format 4 on,
-- numbers that were drawn before a compaction from format 5 on, and whether the shelf follows another one's journal from format 6 on.
use Rattle.std.specs.Prelude.{◌≡◌, ℕ, ◌==◌, ◌&&◌, Bool, true, List, [], ◌∷◌, ◌++◌, Option, Some, None, nat_lt, if◌then◌else◌, refl}
use Rattle.script_nodes.specs.declared.script.SendKind.TheVariants.{Suspend}
use Rattle.value_bytes.specs.Reading.{Reader, seen_as, read_list, read_within}
use Rattle.wire_bytes.specs.Spelling.{u64_bytes}
use Rattle.replay_spec.specs.Book.{opens}
use Rattle.script_value.specs.Pieces.{◌>>=◌}
use Rattle.wire_bytes.specs.Reading.{read_u8, read_bytes}
use Rattle.journal_records.specs.Fields.{start, origin_bytes}
use Rattle.journal_records.specs.Records.{Page, Record, changes, renews, draws, follows, promotes, body_of, effects_bytes, names_bytes}
use Rattle.journal_records.specs.Reading.{read_number, read_page_with, page_change, read_kind, alone}

-- the number of the format that is written
abbrev pub newest_format : ℕ
newest_format = 6

-- the list of pages that went for a page, which is empty before format 6
abbrev pub read_gone : (format : ℕ) → Reader (List ℕ)
read_gone format bytes = if nat_lt format 6 then Some ([], bytes) else read_list read_number bytes

-- the bytes of a page's state, which are none in format 1
abbrev pub read_state : (format : ℕ) → Reader (List ℕ)
read_state format bytes = if format == 1 then Some ([], bytes) else read_bytes bytes

-- a page in this format
abbrev pub read_page_in : (format : ℕ) → Reader Page
read_page_in format bytes = read_page_with (read_gone format) (read_state format) bytes

-- a page in this format, as a record
abbrev pub read_shown : (format : ℕ) → Reader Record
read_shown format rest = seen_as (λ p. changes (page_change p) (Some p.state)) (read_page_in format rest)

-- whether this is the kind of a record that tells whether the shelf follows another one's journal
abbrev pub is_role_kind : ℕ → Bool
is_role_kind kind = if kind == 8 then true else kind == 9

-- whether this format has no records of this kind, though the newest one has
abbrev pub lacks : (format kind : ℕ) → Bool
lacks format kind =
    if nat_lt format 4 && (kind == 6) then true else
    (if nat_lt format 5 && (kind == 7) then true else nat_lt format 6 && is_role_kind kind)

-- whether this is the kind of a page, and the format tells less of one than the newest does
abbrev pub is_older_page : (format kind : ℕ) → Bool
is_older_page format kind = nat_lt format 6 && (kind == 2)

-- a record of this kind in this format, where the format has the kind
abbrev pub read_kind_in : (format kind : ℕ) → Reader Record
read_kind_in format kind rest =
    if lacks format kind then None else (if is_older_page format kind then read_shown format rest else read_kind kind rest)

-- the record at the front in this format
abbrev pub read_front_in : (format : ℕ) → Reader Record
read_front_in format bytes = do
  kind ← read_u8 bytes
  read_kind_in format kind.0 kind.1

-- the record whose body this is in this format
unfoldable pub read_record_in : (format : ℕ) → List ℕ → Option Record
read_record_in format bytes = alone (read_front_in format bytes)

-- the fields of a start up to its deadline, which the formats share
abbrev start_front : List ℕ
start_front = 2 ∷ (u64_bytes 0 ++ (u64_bytes 5 ++ (origin_bytes (start 0) ++ (effects_bytes [] ++ (names_bytes [] ++ (0 ∷ u64_bytes 3600))))))

-- the start that they tell in each format, with a state of no bytes and no page that went
abbrev started : Record
started = changes (opens (record { number = 0; nonce = 5; script = 0; effects = []; left = []; kind = Suspend; deadline = 3600; evicted = [] })) (Some [])

-- in format 1 the fields of a start are read without the bytes of a state
in_1 : read_record_in 1 start_front ≡ Some started
unfolding read_record_in read_within
in_1 = refl

-- in format 3 the bytes of a state follow the fields of a start
in_3 : read_record_in 3 (start_front ++ 0 ∷ 0 ∷ 0 ∷ 0 ∷ []) ≡ Some started
unfolding read_record_in read_within
in_3 = refl

-- in format 6 the pages that went follow the fields of a start, and then the bytes of a state
in_6 : read_record_in 6 (start_front ++ 0 ∷ 0 ∷ 0 ∷ 0 ∷ 0 ∷ 0 ∷ 0 ∷ 0 ∷ []) ≡ Some started
unfolding read_record_in read_within
in_6 = refl

-- in format 6 a start is no record that lacks one of both
not_in_6 : read_record_in 6 (start_front ++ 0 ∷ 0 ∷ 0 ∷ 0 ∷ []) ≡ None
unfolding read_record_in read_within
not_in_6 = refl

-- another setup is no record of format 3, nor are numbers that were drawn one of format 4
no_texts_in_3 : read_record_in 3 (body_of (renews [])) ≡ None
unfolding read_record_in
no_texts_in_3 = refl

-- in format 4 numbers that were drawn are no record
no_drawn_in_4 : read_record_in 4 (body_of (draws 3)) ≡ None
unfolding read_record_in
no_drawn_in_4 = refl

-- in format 5 numbers that were drawn are a record
drawn_in_5 : read_record_in 5 (body_of (draws 3)) ≡ Some (draws 3)
unfolding read_record_in
drawn_in_5 = refl

-- that a shelf follows another one's journal is no record of format 5
no_follow_in_5 : read_record_in 5 (body_of follows) ≡ None
unfolding read_record_in
no_follow_in_5 = refl

-- that a shelf follows no longer is no record of format 5
no_promoted_in_5 : read_record_in 5 (body_of promotes) ≡ None
unfolding read_record_in
no_promoted_in_5 = refl

-- that a shelf follows another one's journal is a record of format 6
follow_in_6 : read_record_in 6 (body_of follows) ≡ Some follows
unfolding read_record_in
follow_in_6 = refl

-- that a shelf follows no longer is a record of format 6
promoted_in_6 : read_record_in 6 (body_of promotes) ≡ Some promotes
unfolding read_record_in
promoted_in_6 = refl
