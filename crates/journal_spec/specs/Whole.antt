-- Scripts that can be run, changes that can be written, and states that records told.
use Rattle.std.specs.Prelude.{◌≡◌, ℕ, List, Option, Some, None, slice_get, ⊤}
use Rattle.script_nodes.specs.Arena.{IsScript, script_of}
use Rattle.script_nodes.specs.Setup.{Named}
use Rattle.replay_spec.specs.Book.{Page, Instance, Change, Book, instance_at, page_at}
use Rattle.machine_states.specs.Machine.{Suspended}
use Rattle.kept_states.specs.FrameCodec.Spelling.{StateHasBytes}
use Rattle.journal_records.specs.Records.{changes, IsInGrammar}
use Rattle.journal_spec.specs.Before.{Earlier, state_at}
use Rattle.journal_spec.specs.Retaking.{arena_of}
use Rattle.journal_spec.specs.Lengths.{state_by, state_told, own_state}

-- a script can be run: it is what its nodes in pre-order mean, and they are a script
pub record IsWhole (s : Named) : Type 0 where
  pub script : IsScript (arena_of s.script)
  pub means : s.script ≡ script_of (arena_of s.script)

-- each script of a setup can be run
abbrev pub AreWhole : List Named → Type 0
AreWhole scripts = (k : ℕ) (s : Named) → slice_get scripts k ≡ Some s → IsWhole s

-- each script of the setup and of the instances of a book can be run
pub record HasWholeScripts (b : Book) : Type 0 where
  pub setup : AreWhole b.scripts
  pub instances : (k : ℕ) (i : Instance) → instance_at k b.instances ≡ Some i → IsWhole i.script

-- a state, if there is one, has a spelling
abbrev pub IsSpelledState : Option Suspended → Type 0
IsSpelledState None = ⊤
IsSpelledState (Some d) = StateHasBytes d

-- a change can be written with the state that its script leaves
pub record CanBeWritten (b : Book) (c : Change) : Type 0 where
  pub body : IsInGrammar (changes c (state_told b c))
  pub state : IsSpelledState (state_by b c)

-- the state that records told of each page that stands is the one that its script left there
abbrev pub HasOwnStates : Earlier → Book → Type 0
HasOwnStates earlier b =
    (k n : ℕ) (i : Instance) (p : Page) → instance_at k b.instances ≡ Some i → page_at n i.pages ≡ Some p
    → state_at n earlier.states ≡ own_state b.shelf (record { instance = i; page = p })
