-- Writing and reading undo each other, so a state has one spelling.
use Rattle.std.specs.Prelude.{◌≡◌, ℕ, List, Some}
use Rattle.script_nodes.specs.Arena.{Arena, IsScript}
use Rattle.machine_states.specs.ReplaySpec.Tape.{Tape}
use Rattle.value_bytes.specs.Laws.{AreBytes, HasNoPrefix}
use Rattle.machine_states.specs.Machine.{Suspended}
use Rattle.machine_states.specs.Laws.{IsStateOf}
use Rattle.frame_codec.specs.Spelling.{state_bytes, StateHasBytes}
use Rattle.frame_codec.specs.Stored.{IsStored}
use Rattle.frame_codec.specs.Reading.{read_state}

-- these bytes spell a state, which fits the script
pub record SpellsState (a : Arena) (bytes : List ℕ) (d : Suspended) : Type 0 where
  pub whole : bytes ≡ state_bytes d
  pub stored : IsStored a d

-- no state that fits the script is spelled by these bytes
abbrev pub HasNone : Arena → List ℕ → Type 0
HasNone a bytes = (d : Suspended) → IsStored a d → ¬ (bytes ≡ state_bytes d)

-- What is written of a state is read back; what is read is spelled so, and fits; no spelling is the front of another one.
pub record AreStatesExact : Type 0 where
  pub back : (a : Arena) (d : Suspended) → IsStored a d → read_state a (state_bytes d) ≡ Some d
  pub exact : (a : Arena) (bytes : List ℕ) (d : Suspended) → AreBytes bytes → read_state a bytes ≡ Some d → SpellsState a bytes d
  pub prefix : (a : Arena) → HasNoPrefix state_bytes (IsStored a)

-- What is kept of a script at a page fits it, with its bindings: where it has a spelling, it is read back.
abbrev pub EachKeptIsStored : Type 0
EachKeptIsStored = (a : Arena) → IsScript a → (t : Tape) (d : Suspended) → IsStateOf a t d → StateHasBytes d → IsStored a d
