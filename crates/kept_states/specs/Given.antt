-- What is found of a front of a state.
use Rattle.std.specs.Prelude.{◌≡◌, Option, Some, None, option_map}
use Rattle.web_cells.specs.Shadows.{Rise}
use Rattle.frame_codec.specs.ScriptNodes.Arena.{Arena}
use Rattle.frame_codec.specs.MachineStates.Machine.{Suspended}
use Rattle.frame_codec.specs.MachineStates.Fits.{Fits}
use Rattle.frame_codec.specs.MachineStates.Views.{suspended_of}
use Rattle.frame_codec.specs.MachineStates.declared.frame.Suspended as stored
use Rattle.frame_codec.specs.Stored.{ShadowsFit}
use Rattle.frame_codec.specs.Deltas.{joined}
use Rattle.frame_codec.specs.DeltaViews.{delta_of}
use Rattle.frame_codec.specs.Fronts.{front, shared_need}
use Rattle.frame_codec.specs.declared.need.Need.{Need}
use Rattle.kept_states.specs.Kept.{Form, IsAlone, IsBehind}
use Rattle.kept_states.specs.declared.form.Found.{Found}
use Rattle.kept_states.specs.declared.form.Found.TheVariants as found

-- a state fits the script, with its bindings of web cells; it may have no spelling
pub record FitsScript (a : Arena) (d : Suspended) : Type 0 where
  pub fits : Fits a d
  pub shadows : ShadowsFit a d.shadows

-- each state that fits the script, of which this is kept by itself, has the front that is found
abbrev pub GivesAlone : Arena → Need → Form → Option stored.Suspended → Type 0
GivesAlone a n f o = (d : Suspended) → FitsScript a d → IsAlone d f → option_map suspended_of o ≡ Some (front n d)

-- what is found is the front of a state, or makes it of the front of the parent's state that is shared
abbrev pub Makes : Need → (parent d : Suspended) → Option Found → Type 0
Makes n p d None = ⊥
Makes n p d (Some (found.Front e)) = suspended_of e ≡ front n d
Makes n p d (Some (found.Difference x)) = joined (front (shared_need (delta_of x)) p) (delta_of x) ≡ front n d

-- each state that fits the script, of which this is kept after its parent's, has the front that is found
abbrev pub GivesBehind : Arena → Need → Form → Option Found → Type 0
GivesBehind a n f o = (p d : Suspended) → Rise p.shadows → FitsScript a d → IsBehind p d f → Makes n p d o
