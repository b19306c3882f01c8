-- States and differences as a record has them, in three parts, of which each can be read without the others.
use Rattle.std.specs.Prelude.{ℕ, List, ◌∷◌, ◌++◌, reverse}
use Rattle.machine_states.specs.Machine.{Suspended}
use Rattle.wire_bytes.specs.Spelling.{u32_bytes}
use Rattle.value_bytes.specs.Spelling.{values_bytes, list_bytes}
use Rattle.frame_codec.specs.Spelling.{frame_bytes, shadow_bytes}
use Rattle.frame_codec.specs.Deltas.{Delta}

-- the byte of the form with the bytes of the variables, the bytes of the frames, and those of the bindings of web cells
pub record Parted : Type 0 where
  pub env : List ℕ
  pub frames : List ℕ
  pub shadows : List ℕ

-- the bytes of the three parts, one after the other
abbrev pub whole_of : Parted → List ℕ
whole_of x = x.env ++ (x.frames ++ x.shadows)

-- the parts of a state that is written by itself
abbrev pub state_parts : Suspended → Parted
state_parts d = record {
  env = 0 ∷ values_bytes d.env;
  frames = list_bytes frame_bytes (reverse d.frames);
  shadows = list_bytes shadow_bytes d.shadows;
}

-- the parts of a difference: each shared count with what stands after it, and the bindings
abbrev pub delta_parts : Delta → Parted
delta_parts d = record {
  env = 1 ∷ (u32_bytes d.env_shared ++ values_bytes d.env);
  frames = u32_bytes d.frames_shared ++ list_bytes frame_bytes d.frames;
  shadows = list_bytes shadow_bytes d.shadows;
}
