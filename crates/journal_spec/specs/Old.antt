-- What the records of a file make in each of the formats 1 to 6. Format 6 is the one that is written.
use Rattle.std.proofs.Common.{◌≡◌, refl, ap, ◌∙◌}
use Rattle.std.specs.Prelude.{ℕ, ◌+◌, ◌==◌, Bool, true, false, List, [], ◌∷◌, length, Option, Some, None, is_some, if◌then◌else◌}
use Rattle.std.specs.List.{list_all}
use Rattle.script_value.specs.Val.{Val}
use Rattle.script_value.specs.declared.outcome.TxName.{TxName}
use Rattle.web_cells.specs.Shadows.{binding}
use Rattle.replay_spec.specs.Book.{Change, Book}
use Rattle.replay_spec.specs.Admission.{◌>>=◌, when}
use Rattle.replay_spec.specs.Recovery.{taken_in}
use Rattle.script_nodes.specs.Arena.{Arena}
use Rattle.script_nodes.specs.Setup.{Named}
use Rattle.machine_states.specs.Machine.{Suspended, inside_of}
use Rattle.kept_states.specs.FrameCodec.Reading.{read_state}
use Rattle.journal_records.specs.Records.{Record, begins, changes, renews, draws, follows, promotes}
use Rattle.journal_records.specs.Reading.{read_record}
use Rattle.journal_records.specs.Old.{read_record_in}
use Rattle.journal_spec.specs.Before.{Earlier, Made, plain, before_told}
use Rattle.journal_spec.specs.Retaking.{arena_of, Told, unread, misread, told, told_as, script_for, told_in, landing, retaken}
use Rattle.journal_spec.specs.Lengths.{own_told}
use Rattle.journal_spec.specs.Making.{Texts, Making, nothing, waits, waited, begun, made, damaged, other, has_script, told_next, next_setup, first_by, start_by, fed_by, promoted_by, with_drawn, next_by, second_by, with_body, with_bodies, book_of}

-- whether a state binds each web cell that the state before it binds, if there is one: as each run of a script does that goes on from it
abbrev pub binds_before : (before : Option Suspended) → Suspended → Bool
binds_before None d = true
binds_before (Some p) d = list_all (λ (s : ℕ × Val). is_some (binding s.0 d.shadows)) p.shadows

-- the state that these bytes spell by itself, if it is one that can be written after this state
abbrev pub read_alone : Arena → (before : Option Suspended) → List ℕ → Option Suspended
read_alone a before bytes = do
  d ← read_state a bytes
  when (binds_before before d) d

-- what the bytes of a state tell of a page of this script, where they are the state's alone, and it is to be written after that one
abbrev pub told_alone : (before : Option Suspended) → Option Named → Option (List ℕ) → Told
told_alone before None state = unread
told_alone before (Some s) None = misread
told_alone before (Some s) (Some bytes) = told_as (read_alone (arena_of s.script) before bytes)

-- What is told of the state of a record's page in this format. In format 2 it is the state's bytes alone; later formats tell the form too,
-- and write a state after that of the page before.
abbrev pub told_at : (format : ℕ) → Earlier → Book → Change → Option (List ℕ) → Told
told_at format earlier b c state =
    if format == 2 then told_alone (before_told earlier b c) (script_for b c) state else told_in earlier b c state

-- What is told of a record's page in any format. In format 1 it is the state that its script leaves.
abbrev pub told_of : (format : ℕ) → Made → Change → Option (List ℕ) → Told
told_of format m c state = if format == 1 then own_told m.book c else told_at format m.earlier m.book c state

-- what a record lands with, of whose page this is told: none where it is passed over, or where the bytes are no state
abbrev pub landing_told : Made → Change → Told → Option (List TxName)
landing_told m c unread = landing m c []
landing_told m c misread = None
landing_told m c (told d) = landing m c (inside_of d.frames)

-- what a record of this format lands with, of whose page this is told: in format 1 what its script comes to again
abbrev pub landing_of : (format : ℕ) → Made → Change → Told → Option (List TxName)
landing_of format m c x = if format == 1 then taken_in (plain m) c else landing_told m c x

-- What the record of a change makes in this format. In format 1 it lands with what its script comes to again, and its page has the state
-- that its script leaves.
abbrev pub change_next : (format : ℕ) → (place length : ℕ) → Made → Change → Option (List ℕ) → Making
change_next format place n m c state =
    if format == 1 then made (retaken n c (taken_in (plain m) c) (own_told m.book c) m) else told_next place n m c (told_at format m.earlier m.book c state)

-- what a later record of this length makes in this format, whose gate is at this place
abbrev pub next_at : (format : ℕ) → Texts → (place length : ℕ) → Made → Option Record → Making
next_at format texts place n m (Some (changes c state)) =
    if has_script (length m.book.scripts) c then change_next format place n m c state else damaged place
next_at format texts place n m (Some (renews named)) = next_setup place n m (texts named)
next_at format texts place n m (Some promotes) = promoted_by place n m m.book.follows
next_at format texts place n m _ = damaged place

-- what the record directly after the one of the setup makes in this format
abbrev pub second_at : (format : ℕ) → Texts → (place length : ℕ) → Made → Option Record → Making
second_at format texts place n m (Some (draws number)) = made (with_drawn number m)
second_at format texts place n m r = next_at format texts place n m r

-- what records make in this format with one body more, whose gate is at this place
abbrev pub with_body_at : (format : ℕ) → Texts → (shelf place : ℕ) → List ℕ → Making → Making
with_body_at format texts shelf place body nothing = start_by texts shelf place (length body) (read_record_in format body)
with_body_at format texts shelf place body (waits s) = fed_by texts shelf place (length body) (read_record_in format body)
with_body_at format texts shelf place body waited = first_by texts false shelf place (length body) (read_record_in format body)
with_body_at format texts shelf place body (begun m) = second_at format texts place (length body) m (read_record_in format body)
with_body_at format texts shelf place body (made m) = next_at format texts place (length body) m (read_record_in format body)
with_body_at format texts shelf place body (damaged p) = damaged p
with_body_at format texts shelf place body (other p) = other p

-- what records make in this format with these bodies more, the gate of the first at this place
abbrev pub with_bodies_at : (format : ℕ) → Texts → (shelf place : ℕ) → List (List ℕ) → Making → Making
with_bodies_at format texts shelf place [] m = m
with_bodies_at format texts shelf place (body ∷ bodies) m =
    with_bodies_at format texts shelf (place + 5 + length body) bodies (with_body_at format texts shelf place body m)

-- What the bodies of a file of this format make for a shelf of this number. The first gate is at 8.
abbrev pub book_of_format : (format : ℕ) → Texts → (shelf : ℕ) → List (List ℕ) → Making
book_of_format format texts shelf bodies = with_bodies_at format texts shelf 8 bodies nothing

-- in format 6 a file makes what it makes as it is written
next_now : (texts : Texts) (place n : ℕ) (m : Made) (r : Option Record) → next_at 6 texts place n m r ≡ next_by texts place n m r
next_now texts place n m None = refl
next_now texts place n m (Some (begins s named)) = refl
next_now texts place n m (Some (changes c state)) = refl
next_now texts place n m (Some (renews named)) = refl
next_now texts place n m (Some (draws number)) = refl
next_now texts place n m (Some follows) = refl
next_now texts place n m (Some promotes) = refl

-- the record after the first means in the newest format what it means where no format is named
second_now : (texts : Texts) (place n : ℕ) (m : Made) (r : Option Record) → second_at 6 texts place n m r ≡ second_by texts place n m r
second_now texts place n m None = refl
second_now texts place n m (Some (begins s named)) = refl
second_now texts place n m (Some (changes c state)) = refl
second_now texts place n m (Some (renews named)) = refl
second_now texts place n m (Some (draws number)) = refl
second_now texts place n m (Some follows) = refl
second_now texts place n m (Some promotes) = refl

-- one more record means in the newest format what it means where no format is named
body_now : (texts : Texts) (shelf place : ℕ) (body : List ℕ) (m : Making) → with_body_at 6 texts shelf place body m ≡ with_body texts shelf place body m
unfolding read_record_in read_record
body_now texts shelf place body nothing = refl
body_now texts shelf place body (waits s) = refl
body_now texts shelf place body waited = refl
body_now texts shelf place body (begun m) = second_now texts place (length body) m (read_record body)
body_now texts shelf place body (made m) = next_now texts place (length body) m (read_record body)
body_now texts shelf place body (damaged p) = refl
body_now texts shelf place body (other p) = refl

-- more records mean in the newest format what they mean where no format is named
bodies_now : (texts : Texts) (shelf place : ℕ) (bodies : List (List ℕ)) (m : Making) → with_bodies_at 6 texts shelf place bodies m ≡ with_bodies texts shelf place bodies m
bodies_now texts shelf place [] m = refl
bodies_now texts shelf place (body ∷ bodies) m =
    ap (λ (x : Making). with_bodies_at 6 texts shelf (place + 5 + length body) bodies x) (body_now texts shelf place body m)
    ∙ bodies_now texts shelf (place + 5 + length body) bodies (with_body texts shelf place body m)

-- a file of the newest format makes the book that its records make
pub format_of_now : (texts : Texts) (shelf : ℕ) (bodies : List (List ℕ)) → book_of_format 6 texts shelf bodies ≡ book_of texts shelf bodies
format_of_now texts shelf bodies = bodies_now texts shelf 8 bodies nothing
