-- What is kept of a state that bytes tell.
use Rattle.std.specs.Prelude.{◌≡◌, ℕ, List, ◌∷◌, Option, Some, option_map, IfSome}
use Rattle.std.specs.Borrow.{Bor}
use Rattle.web_cells.specs.Own.{BindsAllOf}
use Rattle.frame_codec.specs.ScriptNodes.Arena.{Arena}
use Rattle.frame_codec.specs.MachineStates.Machine.{Suspended}
use Rattle.frame_codec.specs.MachineStates.Views.{suspended_of}
use Rattle.frame_codec.specs.MachineStates.declared.frame.Suspended as stored
use Rattle.frame_codec.specs.Stored.{IsStored}
use Rattle.frame_codec.specs.Deltas.{IsDelta, joined, delta_bytes}
use Rattle.frame_codec.specs.DeltaViews.{delta_of}
use Rattle.frame_codec.specs.Forms.{read_form}
use Rattle.frame_codec.specs.FormViews.{before_of}
use Rattle.frame_codec.specs.declared.difference.Delta.{Delta}
use Rattle.kept_states.specs.Kept.{Form, bytes_of, IsFormed, form_of, kept_of}
use Rattle.kept_states.specs.declared.form.ToldForm.{ToldForm}
use Rattle.kept_states.specs.declared.state.ToldState.{ToldState}

-- a state of this script that is written after that one has these bytes, and is kept as they are
pub record IsKeptAsTold (a : Arena) (before : Option Suspended) (bytes : List ℕ) (d : Suspended) (f : Form) : Type 0 where
  pub stored : IsStored a d
  pub formed : IsFormed before d f
  pub bytes_are : bytes_of f ≡ Some bytes

-- what is found makes of the parent's state what these bytes tell after it
abbrev pub TellsDelta : Arena → (parent : stored.Suspended) → (bytes : List ℕ) → Option Delta → Type 0
TellsDelta a p bytes found =
    let before = suspended_of p in option_map (λ x. joined before (delta_of x)) found ≡ read_form a (Some before) bytes

-- the bytes are those of a difference, and of the state that it makes of the parent's, which binds what that binds
pub record IsDeltaTold (a : Arena) (p : stored.Suspended) (bytes : List ℕ) (x : Delta) : Type 0 where
  pub whole : bytes ≡ 1 ∷ delta_bytes (delta_of x)
  pub is : IsDelta (suspended_of p) (joined (suspended_of p) (delta_of x)) (delta_of x)
  pub stored : IsStored a (joined (suspended_of p) (delta_of x))
  pub binds : BindsAllOf (suspended_of p).shadows (joined (suspended_of p) (delta_of x)).shadows

-- what is found is the state that these bytes tell after that one
abbrev pub TellsForm : Arena → (before : Option Suspended) → (bytes : List ℕ) → Option ToldForm → Type 0
TellsForm a before bytes found = option_map (λ x. suspended_of x.state) found ≡ read_form a before bytes

-- what is found is kept as these bytes
abbrev pub KeepsForm : Arena → (before : Option Suspended) → (bytes : List ℕ) → Option ToldForm → Type 0
KeepsForm a before bytes found = IfSome found (λ x. IsKeptAsTold a before bytes (suspended_of x.state) (form_of x.form))

-- what is found is the state that these bytes tell after that one
abbrev pub TellsState : Arena → Option (Bor stored.Suspended) → (bytes : List ℕ) → Option ToldState → Type 0
TellsState a before bytes found = option_map (λ x. suspended_of x.state) found ≡ read_form a (before_of before) bytes

-- what is kept of a state that was told: so many links, and its bytes as they are
pub record IsTold (a : Arena) (before : Option Suspended) (links : ℕ) (bytes : List ℕ) (x : ToldState) : Type 0 where
  pub links_are : x.kept.links ≡ links
  pub kept : IsKeptAsTold a before bytes (suspended_of x.state) (kept_of x.kept).form

-- what is found is kept as these bytes
abbrev pub KeepsTold : Arena → Option (Bor stored.Suspended) → (links : ℕ) → (bytes : List ℕ) → Option ToldState → Type 0
KeepsTold a before links bytes found = IfSome found (IsTold a (before_of before) links bytes)
