-- What the program's values stand for.
use Rattle.std.specs.Prelude.{◌≡◌, ℕ, Bool, List, [], ◌∷◌, map, Option, Some, option_map, IfSome}
use Rattle.std.specs.Global.{Vec}
use Rattle.std.specs.List.{flat_map}
use Rattle.script_value.specs.Val.{Val}
use Rattle.script_value.specs.Views.{meaning}
use Rattle.script_value.specs.declared.value.Value.{Value}
use Rattle.web_cells.specs.Views.{pair_of}
use Rattle.web_cells.specs.declared.shades.Shadow.{Shadow}
use Rattle.script_nodes.specs.Arena.{Arena}
use Rattle.value_bytes.specs.Spelling.{list_bytes}
use Rattle.machine_states.specs.Machine as machine
use Rattle.machine_states.specs.Views.{frame_of, suspended_of}
use Rattle.machine_states.specs.declared.frame.Frame.{Frame}
use Rattle.machine_states.specs.declared.frame.Suspended.{Suspended}
use Rattle.frame_codec.specs.Spelling.{frame_bytes, let_bytes, shadow_bytes}
use Rattle.frame_codec.specs.Reading.{fitting, read_state}
use Rattle.frame_codec.specs.Laws.{SpellsState}
use Rattle.frame_codec.specs.Walk as spec
use Rattle.frame_codec.specs.declared.fit.Place.{Place}
use Rattle.frame_codec.specs.declared.read.Parts.{Parts}

-- a place in a script, with how many variables it is within, as the program's value says it
abbrev pub place_of : Place → spec.Place
place_of p = record { node = p.node; scope = p.scope }

-- the frames of a state, as the program's list has them
abbrev pub frames_of : Vec Frame → List machine.Frame
frames_of fs = map frame_of fs.items

-- the bindings of web cells, each the number of a cell and its value
abbrev pub shadows_of : Vec Shadow → List (ℕ × Val)
shadows_of ss = map pair_of ss.items

-- the parts of a state: the variables, the frames and the bindings of web cells
abbrev pub parts_of : Parts → List Val × (List machine.Frame × List (ℕ × Val))
parts_of x = (x.env, (map frame_of x.frames.items, map pair_of x.shadows.items))

-- ---- how it is written

-- the bytes of a part of a Let, with the values of the bindings that are done
abbrev pub let_with : (node part : ℕ) → (done : List Value) → List ℕ
let_with n k done = 1 ∷ let_bytes n k (map meaning done)

-- the bytes of a part of a call, with the values of the operands that are done, or the variables of the caller
abbrev pub call_with : (node part : ℕ) → List Value → List ℕ
call_with n k values = 10 ∷ let_bytes n k (map meaning values)

-- the bytes of frames, one after the other
abbrev pub each_frame : List Frame → List ℕ
each_frame fs = flat_map frame_bytes (map frame_of fs)

-- the bytes of a list of frames: how many, and each of them
abbrev pub frames_bytes : List Frame → List ℕ
frames_bytes fs = list_bytes frame_bytes (map frame_of fs)

-- the bytes of bindings of web cells, one after the other
abbrev pub each_shadow : List Shadow → List ℕ
each_shadow ss = flat_map shadow_bytes (map pair_of ss)

-- the bytes of a list of bindings of web cells: how many, and each of them
abbrev pub shadows_bytes : List Shadow → List ℕ
shadows_bytes ss = list_bytes shadow_bytes (map pair_of ss)

-- ---- whether it fits

-- the variables of what frames stand in, the outermost frame first
abbrev pub IsAround : (env : List Value) → List Frame → (around : List Value) → Type 0
IsAround env fs around = map meaning around ≡ spec.env_of (map meaning env) (map frame_of fs)

-- the place that is left to what stands in a frame, if there is one
abbrev pub Enters : Arena → (env : List Value) → Place → Frame → Option Place → Type 0
Enters a env p f next = option_map place_of next ≡ spec.enters a (map meaning env) (place_of p) (frame_of f)

-- the place after frames from the outermost on, if there is one
abbrev pub WalksTo : Arena → (env : List Value) → List Frame → Option Place → Type 0
WalksTo a env fs last = option_map place_of last ≡ spec.walk a (map meaning env) spec.outermost (map frame_of fs)

-- whether frames work on a node that sends a page
abbrev pub TellsFit : Arena → (env : List Value) → List Frame → Bool → Type 0
TellsFit a env fs fit = fit ≡ spec.frames_fit a (map meaning env) (map frame_of fs)

-- ---- how states are read

-- the state of these parts, where it fits the script
abbrev pub IsOfParts : Arena → Parts → Option Suspended → Type 0
IsOfParts a parts found = option_map suspended_of found ≡ fitting a (Some (parts_of parts, []))

-- the state that bytes spell, where it fits the script
abbrev pub ReadsState : Arena → List ℕ → Option Suspended → Type 0
ReadsState a bytes found = option_map suspended_of found ≡ read_state a bytes

-- a state that is found is spelled by the bytes, and fits the script
abbrev pub FindsSpelled : Arena → List ℕ → Option Suspended → Type 0
FindsSpelled a bytes found = IfSome found (λ d. SpellsState a bytes (suspended_of d))
