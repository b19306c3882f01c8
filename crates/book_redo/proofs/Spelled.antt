-- Which bytes a record of the newest format has of a state that is kept.
use Rattle.std.proofs.Common.{◌≡◌, ℕ, zero, suc, List, Option, Some, None}
use Rattle.machine_states.specs.Machine.{Suspended}
use Rattle.frame_codec.specs.Spelling.{StateHasBytes}
use Rattle.frame_codec.specs.Forms.{form_bytes, BindsBefore}
use Rattle.instance_book.specs.KeptStates.Kept.{Form, spelled, whole, bytes_of, Kept, IsKeptBy, IsKeptFrom, KeptAreWritten}
use Rattle.instance_book.specs.KeptStates.Links.{behind_at}

-- what is kept as bytes has a spelling, and binds what is bound before
has_spelling : (parent : Option Suspended) (links : ℕ) (d : Suspended) (f : Form) (bytes : List ℕ) → IsKeptBy parent links d f → bytes_of f ≡ Some bytes
    → StateHasBytes d × BindsBefore (behind_at links parent) d
has_spelling None zero d (spelled parts) bytes h e = (h.0, tt)
has_spelling None (suc n) d (spelled parts) bytes h e = (h.0, tt)
has_spelling None links d (whole x) bytes h e = absurd (let no : ⊥ = cc in no)
has_spelling (Some p) zero d (spelled parts) bytes h e = (h.0, tt)
has_spelling (Some p) (suc n) d (spelled parts) bytes h e = (h.0.0, h.0.1)
has_spelling (Some p) links d (whole x) bytes h e = absurd (let no : ⊥ = cc in no)

pub spelled_some : KeptAreWritten → (parent : Option Suspended) (links : ℕ) (d : Suspended) (k : Kept) (bytes : List ℕ) → IsKeptFrom parent links d k → bytes_of k.form ≡ Some bytes
    → (bytes ≡ form_bytes (behind_at links parent) d) × StateHasBytes d × BindsBefore (behind_at links parent) d
spelled_some law parent links d k bytes h e =
    let has = has_spelling parent links d k.form bytes h.form e in (law parent links d k.form bytes h.form e, has.0, has.1)

-- what is kept as it is has no spelling, or leaves unbound what is bound before
no_spelling : (parent : Option Suspended) (links : ℕ) (d : Suspended) (f : Form) → IsKeptBy parent links d f → bytes_of f ≡ None
    → ¬ (StateHasBytes d × BindsBefore (behind_at links parent) d)
no_spelling parent links d (spelled parts) h e = absurd (let no : ⊥ = cc in no)
no_spelling None links d (whole x) h e = λ has. h.0 has.0
no_spelling (Some p) zero d (whole x) h e = λ has. h.0 has.0
no_spelling (Some p) (suc n) d (whole x) h e = λ has. h.0 (has.0, has.1)

pub spelled_none : (parent : Option Suspended) (links : ℕ) (d : Suspended) (k : Kept) → IsKeptFrom parent links d k → bytes_of k.form ≡ None
    → ¬ (StateHasBytes d × BindsBefore (behind_at links parent) d)
spelled_none parent links d k h e = no_spelling parent links d k.form h.form e
