-- What is kept of a state gives back its fronts.
use Rattle.std.proofs.Common.{◌≡◌, ◌∙◌, ap, Some, None}
use Rattle.std.proofs.lemmas.Option.{same_Some, none-some}
use Rattle.web_cells.specs.Shadows.{Rise}
use Rattle.frame_codec.specs.ScriptNodes.Arena.{Arena, IsScript}
use Rattle.frame_codec.specs.ReplaySpec.Tape.{Tape}
use Rattle.frame_codec.specs.MachineStates.Machine.{Suspended}
use Rattle.frame_codec.specs.MachineStates.Laws.{IsStateOf}
use Rattle.frame_codec.specs.Spelling.{StateHasBytes}
use Rattle.frame_codec.specs.Stored.{IsStored}
use Rattle.frame_codec.specs.Deltas.{Delta, IsDelta, joined}
use Rattle.frame_codec.specs.Parted.{Parted, state_parts, delta_parts}
use Rattle.frame_codec.specs.Fronts.{front, delta_front, shared_need, read_front, read_delta_front}
use Rattle.frame_codec.specs.declared.need.Need.{Need}
use Rattle.frame_codec.proofs.Differences.{each_has_bytes}
use Rattle.frame_codec.proofs.Firsts.{front_back, delta_front_back, fronts_join}
use Rattle.frame_codec.proofs.Kept.{each_kept}
use Rattle.kept_states.specs.Kept.{CanDiffer}
use Rattle.kept_states.specs.Given.{FitsScript}

-- what is kept of a script at a page fits it
pub of_script : (a : Arena) → IsScript a → (t : Tape) (d : Suspended) → IsStateOf a t d → StateHasBytes d → IsStored a d
of_script a script t d is has = each_kept a script t d is has

-- its web cells rise
pub rises : (a : Arena) (d : Suspended) → IsStored a d → Rise d.shadows
rises a d of = of.shadows.rise

-- it fits its script, and with a spelling such a state is stored
pub fits_script : (a : Arena) (d : Suspended) → IsStored a d → FitsScript a d
fits_script a d of = record { fits = of.fits; shadows = of.shadows }

stored : (a : Arena) (d : Suspended) → FitsScript a d → StateHasBytes d → IsStored a d
stored a d of has = record { fits = of.fits; shadows = of.shadows; bytes = has }

-- by itself
pub alone_back : (a : Arena) (n : Need) (d : Suspended) (parts : Parted) → FitsScript a d → StateHasBytes d → parts ≡ state_parts d
    → read_front a n parts ≡ Some (front n d)
alone_back a n d parts of has whole = ap (λ (x : Parted). read_front a n x) whole ∙ front_back a n d (stored a d of has)

-- the difference is what the bytes say
said : (a : Arena) (n : Need) (p d : Suspended) (parts : Parted) (x : Delta) → FitsScript a d → CanDiffer p d → IsDelta p d x → parts ≡ delta_parts x
    → read_delta_front a n parts ≡ Some (delta_front n x)
said a n p d parts x of can is whole =
    ap (λ (y : Parted). read_delta_front a n y) whole ∙ delta_front_back a n p d x (stored a d of can.0) is (each_has_bytes p d x can.0 is)

-- after its parent's
pub behind_back : (a : Arena) (n : Need) (p d : Suspended) (parts : Parted) (x e : Delta) → Rise p.shadows → FitsScript a d → CanDiffer p d → IsDelta p d x
    → parts ≡ delta_parts x → Some e ≡ read_delta_front a n parts → joined (front (shared_need e) p) e ≡ front n d
behind_back a n p d parts x e rise of can is whole read =
    let same : e ≡ delta_front n x = same_Some e (delta_front n x) (read ∙ said a n p d parts x of can is whole) in
    ap (λ (y : Delta). joined (front (shared_need y) p) y) same
    ∙ fronts_join n p d x (record { rises = rise; rise = of.shadows.rise; all = can.1 }) is

-- and they say something
pub behind_found : (a : Arena) (n : Need) (p d : Suspended) (parts : Parted) (x : Delta) → FitsScript a d → CanDiffer p d → IsDelta p d x
    → parts ≡ delta_parts x → None ≡ read_delta_front a n parts → ⊥
behind_found a n p d parts x of can is whole none = none-some (delta_front n x) (none ∙ said a n p d parts x of can is whole)
