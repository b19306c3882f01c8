-- How long the record of a change is: that of a page has its state, which is the one that its script leaves.
use Rattle.std.specs.Prelude.{ℕ, ◌&&◌, Bool, true, List, [], ◌∷◌, map, Option, Some, None, slice_get, if◌then◌else◌}
use Rattle.std.specs.List.{list_all}
use Rattle.script_value.specs.Val.{Val}
use Rattle.instance_cells.specs.Cells.{reads_of}
use Rattle.script_nodes.specs.Arena.{Arena}
use Rattle.script_nodes.specs.Setup.{Script}
use Rattle.replay_spec.specs.Tape.{recorded, Tape, shows, Outcome, paged}
use Rattle.replay_spec.specs.Book.{Page, Change, opens, extends, Book, chain}
use Rattle.replay_spec.specs.Rules.{Journal}
use Rattle.replay_spec.specs.Admission.{◌>>=◌, Place}
use Rattle.replay_spec.specs.Next.{Home, home, past, answered, tape_for}
use Rattle.replay_spec.specs.Recovery.{page_of_numbers, opening_visit, extension_visit}
use Rattle.machine_states.specs.Machine.{Frame, in_binding, in_operand, in_turn, in_call, in_task, Suspended}
use Rattle.machine_states.specs.Laws.{started, Stops}
use Rattle.machine_states.proofs.Halting.{stop_over}
use Rattle.kept_states.specs.FrameCodec.Forms.{form_bytes}
use Rattle.journal_records.specs.Fields.{is_shallow}
use Rattle.journal_records.specs.Records.{changes, body_of, record_length, begun_length, renewed_length}
use Rattle.journal_spec.specs.Before.{before_by}
use Rattle.journal_spec.specs.Retaking.{arena_of, Told, unread, told}

-- the state that is kept where a page waits for an answer; none elsewhere
abbrev pub kept_at : Outcome → Suspended → Option Suspended
kept_at (paged (shows kind) bytes) d = Some d
kept_at _ d = None

-- the state that is kept where a script's run stops with a page that waits for an answer; none elsewhere
abbrev pub kept_by : {a : Arena} {t : Tape} → Stops a (started a t) → Option Suspended
kept_by s = kept_at s.outcome s.kept

-- the state that is kept where the script shows a page over the tape; none where it does not
unfoldable pub state_over : Script → Tape → Option Suspended
state_over s t = stop_over (arena_of s) t >>= kept_by

-- the state of the page that a change shows
abbrev pub state_by : Book → Change → Option Suspended
state_by b (opens o) = do
  s ← slice_get b.scripts o.script
  state_over s.script (tape_for (opening_visit b o s) (recorded (reads_of o.effects)))
state_by b (extends x) = do
  at ← page_of_numbers b x.instance x.page
  state_over at.instance.script.script (tape_for (extension_visit b x at) (recorded (reads_of x.effects)))
state_by b _ = None

-- the tape over which the last of these pages was shown, which follow one another from a root
abbrev pub chain_tape : Home → List Page → Option Tape
chain_tape h [] = None
chain_tape h (p ∷ ps) = Some (record { first = past h p; later = map (answered h) ps })

-- the state that a page's script left there
abbrev pub own_state : (shelf : ℕ) → Place → Option Suspended
own_state shelf at = do
  t ← chain_tape (home at.instance.script shelf at.instance.number) (chain at.instance.pages at.page)
  state_over at.instance.script.script t

-- the state that a change's page is written after, where each page has the one that its script left
abbrev pub own_before : Book → Change → Option Suspended
own_before b c = before_by (own_state b.shelf) b c

-- whether the values of a frame nest no deeper than one may that is written
abbrev pub is_shallow_frame : Frame → Bool
is_shallow_frame (in_binding n done) = list_all is_shallow done
is_shallow_frame (in_operand n done) = list_all is_shallow done
is_shallow_frame (in_turn n turns done) = list_all is_shallow done
is_shallow_frame (in_call n done) = list_all is_shallow done
is_shallow_frame (in_task n k outer) = list_all is_shallow outer
is_shallow_frame _ = true

-- whether the values of a state nest no deeper than one may that is written
abbrev pub is_shallow_state : Suspended → Bool
is_shallow_state d =
    list_all is_shallow d.env && (list_all is_shallow_frame d.frames && list_all (λ (s : ℕ × Val). is_shallow s.1) d.shadows)

-- the bytes of a state after another one; none where a value nests too deep for a record to tell it
abbrev pub told_bytes : (before : Option Suspended) → Suspended → Option (List ℕ)
told_bytes before d = if is_shallow_state d then Some (form_bytes before d) else None

-- the bytes of the state of the page that a change shows; none where a record can't tell it
abbrev pub state_told : Book → Change → Option (List ℕ)
state_told b c = state_by b c >>= told_bytes (own_before b c)

-- what is told of a page that has this state, or none
abbrev pub told_own : Option Suspended → Told
told_own None = unread
told_own (Some d) = told d

-- what is told of a change's page, where that is the state that its script leaves
abbrev pub own_told : Book → Change → Told
own_told b c = told_own (state_by b c)

-- the body that a change leaves whose page has the state that its script leaves
abbrev pub own_body : Book → Change → List ℕ
own_body b c = body_of (changes c (state_told b c))

-- how long the first record, one of another setup and one of a change are, in the journal of a shelf
abbrev pub journal_rules : (shelf : ℕ) → Journal
journal_rules shelf =
    record { begun = λ scripts. begun_length shelf scripts; renewed = λ scripts. renewed_length scripts; length_of = λ b c. record_length c (state_told b c) }
