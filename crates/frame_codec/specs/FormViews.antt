-- What the program reads and writes of states and differences that are written after another state.
use Rattle.std.specs.Prelude.{◌≡◌, ℕ, List, Option, option_map}
use Rattle.std.specs.Borrow.{Bor}
use Rattle.script_nodes.specs.Arena.{Arena}
use Rattle.machine_states.specs.Machine.{Suspended}
use Rattle.machine_states.specs.Views.{suspended_of}
use Rattle.machine_states.specs.declared.frame.Suspended as stored
use Rattle.frame_codec.specs.Stored.{IsStored}
use Rattle.frame_codec.specs.Deltas.{joined}
use Rattle.frame_codec.specs.DeltaViews.{delta_of}
use Rattle.frame_codec.specs.Difference.{read_difference}
use Rattle.frame_codec.specs.Forms.{read_form}
use Rattle.frame_codec.specs.declared.difference.Delta.{Delta}

-- the state that another one is written after, if there is one
abbrev pub before_of : Option (Bor stored.Suspended) → Option Suspended
before_of before = option_map (λ p. suspended_of p.now) before

-- this is the state that bytes spell in the form that is due
abbrev pub ReadsForm : Arena → Option (Bor stored.Suspended) → List ℕ → Option stored.Suspended → Type 0
ReadsForm a before bytes found = option_map suspended_of found ≡ read_form a (before_of before) bytes

-- this is the state that bytes spell after its parent's
abbrev pub ReadsBehind : Arena → (parent : stored.Suspended) → List ℕ → Option stored.Suspended → Type 0
ReadsBehind a p bytes found =
    option_map suspended_of found ≡ option_map (joined (suspended_of p)) (read_difference a (suspended_of p) bytes)

-- this is the difference that bytes spell, where the state that they are written after fits the script
abbrev pub ReadsDifference : Arena → (parent : stored.Suspended) → List ℕ → Option Delta → Type 0
ReadsDifference a p bytes found =
    IsStored a (suspended_of p) → option_map delta_of found ≡ read_difference a (suspended_of p) bytes
