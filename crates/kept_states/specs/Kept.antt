-- What is kept of the state of a page.
use Rattle.std.specs.Prelude.{◌≡◌, ℕ, zero, suc, List, Option, Some, None}
use Rattle.web_cells.specs.Own.{BindsAllOf}
use Rattle.frame_codec.specs.MachineStates.Machine.{Suspended}
use Rattle.frame_codec.specs.MachineStates.Views.{origin_of, suspended_of}
use Rattle.frame_codec.specs.MachineStates.declared.segment.Origin.{Origin}
use Rattle.frame_codec.specs.MachineStates.declared.frame.Suspended as stored
use Rattle.frame_codec.specs.Spelling.{StateHasBytes}
use Rattle.frame_codec.specs.Deltas.{Delta, IsDelta}
use Rattle.frame_codec.specs.Forms.{form_bytes}
use Rattle.frame_codec.specs.Parted.{Parted, whole_of, state_parts, delta_parts}
use Rattle.frame_codec.specs.PartedViews.{parted_of}
use Rattle.kept_states.specs.Links.{behind_at}
use Rattle.kept_states.specs.declared.form.Form as declared
use Rattle.kept_states.specs.declared.form.Form.TheVariants.{Spelled, Whole}
use Rattle.kept_states.specs.declared.state.KeptState.{KeptState}

-- how a state is kept: as the bytes that a record has of it, in parts of which each can be read without the others, or as the state itself
pub data Form : Type 0 where
  spelled : Parted → Form
  whole : Suspended → Form

-- the bytes that a record has of a state, where it is kept as bytes
abbrev pub bytes_of : Form → Option (List ℕ)
bytes_of (spelled parts) = Some (whole_of parts)
bytes_of (whole d) = None

-- what is kept of a page's state: its links to a page whose state is kept by itself, and its form
pub record Kept : Type 0 where
  pub links : ℕ
  pub form : Form

-- the state is kept by itself: in its spelling, where it has one
abbrev pub IsAlone : Suspended → Form → Type 0
IsAlone d (spelled parts) = StateHasBytes d × (parts ≡ state_parts d)
IsAlone d (whole e) = ¬ StateHasBytes d × (e ≡ d)

-- a state can be kept as what differs from its parent's: it has a spelling, and binds what its parent binds
abbrev pub CanDiffer : (parent d : Suspended) → Type 0
CanDiffer p d = StateHasBytes d × BindsAllOf p.shadows d.shadows

-- the state is kept as what differs from its parent's, where it can be
abbrev pub IsBehind : (parent d : Suspended) → Form → Type 0
IsBehind p d (spelled parts) = CanDiffer p d × ((x : Delta) × (IsDelta p d x × (parts ≡ delta_parts x)))
IsBehind p d (whole e) = ¬ CanDiffer p d × (e ≡ d)

-- at no links a state is kept by itself, and else as what differs from its parent's
abbrev pub IsKeptBy : (parent : Option Suspended) → (links : ℕ) → Suspended → Form → Type 0
IsKeptBy None links d f = IsAlone d f
IsKeptBy (Some p) zero d f = IsAlone d f
IsKeptBy (Some p) (suc n) d f = IsBehind p d f

-- what is kept of the state of a page that is so many links from one kept by itself: these links, and the form for them
pub record IsKeptFrom (parent : Option Suspended) (links : ℕ) (d : Suspended) (k : Kept) : Type 0 where
  pub links_are : k.links ≡ links
  pub form : IsKeptBy parent links d k.form

-- what a form of the program stands for
abbrev pub form_of : declared.Form → Form
form_of (Spelled parts) = spelled (parted_of parts)
form_of (Whole d) = whole (suspended_of d)

-- what is kept of a page's state: its form, and how many deltas lie between it and a whole one
abbrev pub kept_of : KeptState → Kept
kept_of k = record { links = k.links; form = form_of k.form }

-- what the program keeps of the state of a page that is so many links from one kept by itself, by the origin of its segment
abbrev pub IsKeptAfter : Origin → (links : ℕ) → Suspended → KeptState → Type 0
IsKeptAfter before links d k = IsKeptFrom (origin_of before) links d (kept_of k)

-- this form of the program keeps the state by itself
abbrev pub IsFormAlone : stored.Suspended → declared.Form → Type 0
IsFormAlone d form = IsAlone (suspended_of d) (form_of form)

-- this form of the program keeps the state as what differs from its parent's, where it can be
abbrev pub IsFormBehind : (parent d : stored.Suspended) → declared.Form → Type 0
IsFormBehind p d form = IsBehind (suspended_of p) (suspended_of d) (form_of form)

-- a state is kept in the form in which it is written after this one: by itself after none
abbrev pub IsFormed : (before : Option Suspended) → Suspended → Form → Type 0
IsFormed None d f = IsAlone d f
IsFormed (Some p) d f = IsBehind p d f

-- What is kept as bytes of a state so many links from one by itself is what a record has of it.
abbrev pub KeptAreWritten : Type 0
KeptAreWritten =
    (before : Option Suspended) (links : ℕ) (d : Suspended) (f : Form) (bytes : List ℕ) → IsKeptBy before links d f → bytes_of f ≡ Some bytes
    → bytes ≡ form_bytes (behind_at links before) d
