-- What a record of a page tells of its state, and what a record lands with.
use Rattle.std.specs.Prelude.{◌≡◌, ℕ, ◌&&◌, List, [], ◌∷◌, length, Option, Some, None, nat_lt, slice_get, if◌then◌else◌}
use Rattle.script_value.specs.Val.{Val}
use Rattle.script_value.specs.declared.outcome.TxName.{TxName}
use Rattle.instance_cells.specs.Cells.{Effect}
pub use Rattle.script_nodes.specs.Arena.{arena_of}
use Rattle.script_nodes.specs.Setup.{Named}
use Rattle.replay_spec.specs.Book.{Change, opens, extends, ends, finishes, sweeps, Book, reopened}
use Rattle.replay_spec.specs.Admission.{◌>>=◌, when}
use Rattle.replay_spec.specs.Recovery.{are_on, hold_over, if_can_go, of_length, page_of_numbers, number_in, is_repeated, with_number, redone}
use Rattle.machine_states.specs.Machine.{Suspended, inside_of}
use Rattle.kept_states.specs.FrameCodec.Forms.{read_form}
use Rattle.journal_spec.specs.Before.{States, Earlier, Made, before_told}

-- the script of the page that a record tells of: of a start's place, or of the instance whose page was answered; none where there
-- is none, or where no page is shown
abbrev pub script_for : Book → Change → Option Named
script_for b (opens o) = slice_get b.scripts o.script
script_for b (extends x) = do
  at ← page_of_numbers b x.instance x.page
  Some at.instance.script
script_for b _ = None

-- what is told of the state of a record's page: nothing that is read, or bytes that are no state of its script, or this state
pub data Told : Type 0 where
  unread misread : Told
  told : Suspended → Told

-- the state that bytes told, or that they are no state of the script
abbrev pub told_as : Option Suspended → Told
told_as None = misread
told_as (Some d) = told d

-- what these bytes tell of the state of a page of this script, which is written after that state
abbrev pub told_by : (before : Option Suspended) → Option Named → Option (List ℕ) → Told
told_by before None state = unread
told_by before (Some s) None = misread
told_by before (Some s) (Some bytes) = told_as (read_form (arena_of s.script) before bytes)

-- what a record tells of the state of its page, where records told this earlier
abbrev pub told_in : Earlier → Book → Change → Option (List ℕ) → Told
told_in earlier b c state = told_by (before_told earlier b c) (script_for b c) state

-- these names, where the effects are on the cells and hold over them; else none
abbrev pub if_held : List Effect → (cells : List Val) → List TxName → Option (List TxName)
if_held effects cells inside = when (are_on (length cells) effects && hold_over effects cells) inside

-- The names that the page of a record is inside, where these are those of its state. None where the record can't be of this book:
-- there is no such script, instance or page; it evicts a page that is not there or that was evicted; the effects do not hold; or the
-- tick is over.
abbrev pub held : Book → Change → (inside : List TxName) → Option (List TxName)
held b (opens o) inside = do
  s ← slice_get b.scripts o.script
  if_can_go o.evicted [] (if_held o.effects s.script.cells inside)
held b (extends x) inside = do
  at ← page_of_numbers b x.instance x.page
  if_can_go x.evicted at.instance.used (if_held x.effects at.instance.cells inside)
held b (ends e) inside = do
  at ← page_of_numbers b e.instance e.page
  if_held e.effects at.instance.cells []
held b (finishes f) inside = do
  at ← page_of_numbers b f.instance f.page
  if_held f.effects at.instance.cells []
held b (sweeps tick) inside = when (nat_lt b.clock tick) []

-- what a record lands with: none where it is passed over, since it repeats a number or can't be of this book
abbrev pub landing : Made → Change → (inside : List TxName) → Option (List TxName)
landing m c inside = if is_repeated (number_in c) m.earlier.seen then None else held m.book c inside

-- a record lands, where this is told of its page's state
abbrev pub IsLanded : Made → Change → Told → Type 0
IsLanded m c unread = landing m c [] ≡ Some []
IsLanded m c misread = ⊥
IsLanded m c (told d) = landing m c (inside_of d.frames) ≡ Some (inside_of d.frames)

-- the states that records told, with that of a page that was shown
abbrev pub with_state : Option ℕ → Told → States → States
with_state (Some n) (told d) ss = (n, d) ∷ ss
with_state _ _ ss = ss

-- the states that are told with one record more, which lands with these names or is passed over, where this is told of its page's state
abbrev pub states_with : Option (List TxName) → Option ℕ → Told → States → States
states_with None number x ss = ss
states_with (Some names) number x ss = with_state number x ss

-- what is told with one record more, which lands with these names or is passed over, where this is told of its page's state
abbrev pub then_told : Change → Option (List TxName) → Told → Earlier → Earlier
then_told c names x earlier = record {
  seen = with_number (number_in c) earlier.seen;
  states = states_with names (number_in c) x earlier.states;
}

-- what records make with one more of this length, which lands with these names or is passed over
abbrev pub retaken : (length : ℕ) → Change → Option (List TxName) → Told → Made → Made
retaken n c names x m =
    record { book = reopened (redone (of_length n) c names m.book); earlier = then_told c names x m.earlier }
