-- What the program reads of fronts of states.
use Rattle.std.specs.Prelude.{◌≡◌, ℕ, List, map, Option, option_map}
use Rattle.std.specs.Global.{Vec}
use Rattle.script_nodes.specs.Arena.{Arena}
use Rattle.machine_states.specs.Machine as machine
use Rattle.machine_states.specs.Views.{frame_of, suspended_of}
use Rattle.machine_states.specs.declared.frame.Frame.{Frame}
use Rattle.machine_states.specs.declared.frame.Suspended.{Suspended}
use Rattle.frame_codec.specs.DeltaViews.{delta_of}
use Rattle.frame_codec.specs.PartedViews.{parted_of}
use Rattle.frame_codec.specs.Fronts.{front, read_front, read_delta_front}
use Rattle.frame_codec.specs.declared.difference.Delta.{Delta}
use Rattle.frame_codec.specs.declared.need.Need.{Need}
use Rattle.frame_codec.specs.declared.parted.Parted.{Parted}

-- how many frames are shared with the parent's state, and the others
abbrev pub shared_and_own : ℕ × Vec Frame → ℕ × List machine.Frame
shared_and_own x = (x.0, map frame_of x.1.items)

-- this copy is so much of a state as is needed
abbrev pub IsFrontOf : Need → Suspended → (copy : Suspended) → Type 0
IsFrontOf need d copy = suspended_of copy ≡ front need (suspended_of d)

-- what the parts of a state's spelling say of a front of it
abbrev pub SaysFront : Arena → Need → Parted → Option Suspended → Type 0
SaysFront a need parts found = option_map suspended_of found ≡ read_front a need (parted_of parts)

-- what the parts of a difference's spelling say of a front
abbrev pub SaysDeltaFront : Arena → Need → Parted → Option Delta → Type 0
SaysDeltaFront a need parts found = option_map delta_of found ≡ read_delta_front a need (parted_of parts)
