-- Which states are kept as bytes.
use Rattle.std.specs.Prelude.{ℕ, ◌<◌, List, length}
use Rattle.std.specs.List.{AllByRecursion}
use Rattle.script_value.specs.Val.{Val}
use Rattle.web_cells.specs.Shadows.{Rise}
use Rattle.script_nodes.specs.Arena.{Arena}
use Rattle.machine_states.specs.Machine.{Suspended}
use Rattle.machine_states.specs.Fits.{Fits}
use Rattle.frame_codec.specs.Spelling.{StateHasBytes}

-- the bindings name web cells of the script, the cells rising, each once
pub record ShadowsFit (a : Arena) (shadows : List (ℕ × Val)) : Type 0 where
  pub rise : Rise shadows
  pub named : AllByRecursion (λ s. s.0 < length a.web) shadows

-- a state that fits the script and has a spelling
pub record IsStored (a : Arena) (d : Suspended) : Type 0 where
  pub fits : Fits a d
  pub shadows : ShadowsFit a d.shadows
  pub bytes : StateHasBytes d
