-- What is kept of a state is written so.
use Rattle.std.proofs.Common.{◌≡◌, ◌∙◌, ℕ, zero, suc, List, ◌∷◌, Some, None, sym, ap}
use Rattle.std.proofs.lemmas.Option.{same_Some}
use Rattle.frame_codec.specs.MachineStates.Machine.{Suspended}
use Rattle.frame_codec.specs.Spelling.{state_bytes}
use Rattle.frame_codec.specs.Deltas.{Delta, delta_bytes}
use Rattle.frame_codec.specs.Difference.{difference}
use Rattle.frame_codec.specs.Parted.{whole_of}
use Rattle.frame_codec.proofs.Parts.{delta_whole}
use Rattle.frame_codec.proofs.Computed.{are_computed}
use Rattle.kept_states.specs.Kept.{Form, spelled, whole, bytes_of, IsAlone, IsBehind, KeptAreWritten}

alone : (d : Suspended) (f : Form) (bytes : List ℕ) → IsAlone d f → bytes_of f ≡ Some bytes → bytes ≡ 0 ∷ state_bytes d
alone d (spelled parts) bytes is e = sym (same_Some (whole_of parts) bytes e) ∙ ap whole_of is.1
alone d (whole x) bytes is e = absurd (let no : ⊥ = cc in no)

behind : (p d : Suspended) (f : Form) (bytes : List ℕ) → IsBehind p d f → bytes_of f ≡ Some bytes → bytes ≡ 1 ∷ delta_bytes (difference p d)
behind p d (spelled parts) bytes is e =
    let x = is.1.0 in
    sym (same_Some (whole_of parts) bytes e) ∙ (delta_whole parts x is.1.1.1 ∙ ap (λ (y : Delta). 1 ∷ delta_bytes y) ((are_computed.one p d x).0 is.1.1.0))
behind p d (whole x) bytes is e = absurd (let no : ⊥ = cc in no)

pub are_written : KeptAreWritten
are_written None zero d f bytes is e = alone d f bytes is e
are_written None (suc n) d f bytes is e = alone d f bytes is e
are_written (Some p) zero d f bytes is e = alone d f bytes is e
are_written (Some p) (suc n) d f bytes is e = behind p d f bytes is e
