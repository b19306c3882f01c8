-- The frame of the body of a Let has no value that is done.
use Rattle.std.proofs.Common.{◌≡◌, ℕ, List, [], ◌∷◌, Some, None, refl}
use Rattle.script_value.specs.Val.{Val}
use Rattle.machine_states.specs.Machine.{in_body}
use Rattle.frame_codec.specs.Reading.{body_frame}

pub a_body : (n bound : ℕ) (done : List Val) → done ≡ [] → body_frame n bound done ≡ Some (in_body n bound)
a_body n bound [] e = refl
a_body n bound (v ∷ vs) e = absurd cc

pub no_body : (n bound : ℕ) (done : List Val) → ¬ (done ≡ []) → body_frame n bound done ≡ None
no_body n bound [] other = absurd (other refl)
no_body n bound (v ∷ vs) other = refl
