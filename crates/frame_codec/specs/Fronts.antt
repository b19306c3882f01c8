-- Fronts of states: so many of the variables and frames, from the outermost on, and all bindings of web cells.
use Rattle.std.specs.Prelude.{◌≡◌, ℕ, ◌-◌, min, List, [], take, drop, reverse, Option, Some, Result, Ok, Err}
use Rattle.script_value.specs.Pieces.{◌>>=◌}
use Rattle.web_cells.specs.Shadows.{all_bound}
use Rattle.script_nodes.specs.Arena.{Arena}
use Rattle.wire_bytes.specs.Reading.{read_u32, value_of}
use Rattle.value_bytes.specs.Reading.{Reader, read_several, read_list, read_value}
use Rattle.value_bytes.specs.Views.{Stops}
use Rattle.value_bytes.specs.declared.unread.Unread.{Unread}
use Rattle.machine_states.specs.Machine.{Frame, Suspended}
use Rattle.frame_codec.specs.Reading.{read_frame, read_shadow}
use Rattle.frame_codec.specs.Stored.{IsStored}
use Rattle.frame_codec.specs.Deltas.{Delta, IsDelta, GoesOnFrom, DeltaHasBytes, joined}
use Rattle.frame_codec.specs.Parted.{Parted, state_parts, delta_parts}
use Rattle.frame_codec.specs.declared.need.Need.{Need}

-- the front of a state: so many of its variables and frames, and all its bindings of web cells
abbrev pub front : Need → Suspended → Suspended
front n d = record {
  env = take n.variables d.env;
  frames = reverse (take n.frames (reverse d.frames));
  shadows = d.shadows;
}

-- what a difference has of the front of its state, and how much of the parent's state that shares
abbrev pub delta_front : Need → Delta → Delta
delta_front n x = record {
  env_shared = min n.variables x.env_shared;
  env = take (n.variables - x.env_shared) x.env;
  frames_shared = min n.frames x.frames_shared;
  frames = take (n.frames - x.frames_shared) x.frames;
  shadows = x.shadows;
}

-- how much of the parent's state a difference goes on from
abbrev pub shared_need : Delta → Need
shared_need x = record { variables = x.env_shared; frames = x.frames_shared }

-- The front of a state is that of the parent's state, as far as it is shared, with what the difference has of it.
abbrev pub FrontsJoin : Type 0
FrontsJoin =
    (n : Need) (p d : Suspended) (x : Delta) → GoesOnFrom p d → IsDelta p d x
    → joined (front (shared_need (delta_front n x)) p) (delta_front n x) ≡ front n d

-- ---- how they are read

-- reads the first so many items of a list, or all where there are fewer
abbrev pub read_first : {A : Type 0} → Reader A → (most : ℕ) → Reader (List A)
read_first read most bytes = do
  count ← read_u32 bytes
  read_several read (min most count.0) count.1

-- reads the first so many frames of a list, or all where there are fewer
abbrev pub read_first_frames : Arena → (most : ℕ) → Reader (List Frame)
read_first_frames a most bytes = read_first (read_frame a) most bytes

-- reads a shared count, and of the list after it what of the first so many is not shared
abbrev pub read_behind : {A : Type 0} → Reader A → (most : ℕ) → Reader (ℕ × List A)
read_behind read most bytes = do
  shared ← read_u32 bytes
  own ← read_first read (most - shared.0) shared.1
  Some ((min most shared.0, own.0), own.1)

-- what bytes say of the first so many of a list after a shared count
abbrev pub told_behind : {A : Type 0} → Reader A → (most : ℕ) → List ℕ → Option (ℕ × List A)
told_behind read most bytes = value_of (read_behind read most bytes)

-- what the parts of a state's spelling say of a front of it
abbrev pub read_front : Arena → Need → Parted → Option Suspended
read_front a n x = do
  env ← value_of (read_first read_value n.variables (drop 1 x.env))
  frames ← value_of (read_first (read_frame a) n.frames x.frames)
  shadows ← value_of (read_list read_shadow x.shadows)
  Some (record { env = env; frames = reverse frames; shadows = all_bound shadows [] })

-- what the parts of a difference's spelling say of a front
abbrev pub read_delta_front : Arena → Need → Parted → Option Delta
read_delta_front a n x = do
  env ← value_of (read_behind read_value n.variables (drop 1 x.env))
  frames ← value_of (read_behind (read_frame a) n.frames x.frames)
  shadows ← value_of (read_list read_shadow x.shadows)
  Some (record { env_shared = env.0; env = env.1; frames_shared = frames.0; frames = frames.1; shadows = shadows })

-- What is written of a state that fits the script, or of the difference of one, says each front of it.
pub record AreFrontsRead : Type 0 where
  pub state : (a : Arena) (n : Need) (d : Suspended) → IsStored a d → read_front a n (state_parts d) ≡ Some (front n d)
  pub delta :
      (a : Arena) (n : Need) (p d : Suspended) (x : Delta) → IsStored a d → IsDelta p d x → DeltaHasBytes x
      → read_delta_front a n (delta_parts x) ≡ Some (delta_front n x)

-- what a reader of the program gives of bytes that it needs not read to their end
abbrev pub Tells : {X Y : Type 0} → (X → Y) → Result X Unread → Option Y → Type 0
Tells view (Ok x) said = said ≡ Some (view x)
Tells view (Err e) said = Stops e said
