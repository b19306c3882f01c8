-- What a difference of the program stands for.
use Rattle.std.specs.Prelude.{◌≡◌, ℕ, List, map, Option, option_map, IfSome, IsNone}
use Rattle.script_nodes.specs.Arena.{Arena}
use Rattle.machine_states.specs.Views.{frame_of, suspended_of}
use Rattle.machine_states.specs.declared.frame.Suspended as stored
use Rattle.frame_codec.specs.Deltas as spec
use Rattle.frame_codec.specs.Difference.{difference}
use Rattle.frame_codec.specs.declared.difference.Delta.{Delta}

-- what differs between two states, as the program's delta says it
abbrev pub delta_of : Delta → spec.Delta
delta_of d = record {
  env_shared = d.env_shared;
  env = d.env;
  frames_shared = d.frames_shared;
  frames = map frame_of d.frames.items;
  shadows = d.shadows;
}

-- the parts of a difference: how many variables and frames are shared, the others, and the bindings of web cells
abbrev pub parts_of_delta : Delta → spec.DeltaParts
parts_of_delta d = (d.env_shared, (d.env, (d.frames_shared, (map frame_of d.frames.items, d.shadows))))

-- this is what differs between a state and its parent's
abbrev pub Differs : (parent state : stored.Suspended) → Delta → Type 0
Differs p s d = spec.IsDelta (suspended_of p) (suspended_of s) (delta_of d)

-- a difference is the one that is computed of a state and its parent's
abbrev pub IsComputed : (parent state : stored.Suspended) → Delta → Type 0
IsComputed p s d = delta_of d ≡ difference (suspended_of p) (suspended_of s)

-- the parent's state with this difference is the state again, where the state goes on from the parent's
abbrev pub JoinsBack : (parent state : stored.Suspended) → Delta → Type 0
JoinsBack p s d =
    spec.GoesOnFrom (suspended_of p) (suspended_of s) → spec.joined (suspended_of p) (delta_of d) ≡ suspended_of s

-- this state is the parent's with a difference from it
abbrev pub IsJoined : (parent : stored.Suspended) → Delta → stored.Suspended → Type 0
IsJoined p d s = suspended_of s ≡ spec.joined (suspended_of p) (delta_of d)

-- what bytes say of a difference, whether a state has it or not
abbrev pub SaysDelta : Arena → List ℕ → Option Delta → Type 0
SaysDelta a bytes found = option_map delta_of found ≡ spec.read_delta a bytes

-- a difference that is found is spelled by the bytes, and is that of a state that fits the script and has a spelling
abbrev pub FindsDelta : Arena → (parent : stored.Suspended) → List ℕ → Option Delta → Type 0
FindsDelta a p bytes found = IfSome found (λ d. spec.SpellsDelta a (suspended_of p) bytes (delta_of d))

-- no difference is found only where the bytes spell that of no state that fits, has a spelling and binds what its parent binds
abbrev pub MissesNoDelta : Arena → (parent : stored.Suspended) → List ℕ → Option Delta → Type 0
MissesNoDelta a p bytes found = IsNone found → spec.HasNoDelta a (suspended_of p) bytes

-- a difference is found just where the bytes spell that of a state that fits, has a spelling and binds what its parent binds
abbrev pub DecidesDelta : Arena → (parent : stored.Suspended) → List ℕ → Option Delta → Type 0
DecidesDelta a p bytes found = FindsDelta a p bytes found × MissesNoDelta a p bytes found
