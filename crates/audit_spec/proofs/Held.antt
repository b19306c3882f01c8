-- Records that are not damaged, and what stands in front of a journal in them.
use Rattle.std.proofs.Common.{◌≡◌, ℕ, List, Option, Some, None, refl, subst}
use Rattle.std.specs.Prelude.{⊤}
use Rattle.journal_records.specs.Records.{Record, begins, changes, renews, draws, follows, promotes}
use Rattle.journal_spec.specs.Before.{Made}
use Rattle.journal_spec.specs.Making.{Texts, Making, nothing, waits, waited, begun, made, damaged, other, fed_by, made_in}
use Rattle.journal_spec.specs.Old.{with_bodies_at}
use Rattle.journal_spec.proofs.Copying.{other_stays}
use Rattle.journal_spec.proofs.Walking.{damaged_stays}
use Rattle.audit_spec.specs.Findings.{fault_of}

-- no damage
abbrev pub IsHeld : Making → Type 0
IsHeld (damaged place) = ⊥
IsHeld (other place) = ⊥
IsHeld _ = ⊤

pub held_before : (format : ℕ) (texts : Texts) (shelf place : ℕ) (bodies : List (List ℕ)) (x : Making) → IsHeld (with_bodies_at format texts shelf place bodies x) → IsHeld x
held_before format texts shelf place bodies nothing h = tt
held_before format texts shelf place bodies (waits s) h = tt
held_before format texts shelf place bodies waited h = tt
held_before format texts shelf place bodies (begun m) h = tt
held_before format texts shelf place bodies (made m) h = tt
held_before format texts shelf place bodies (damaged p) h = subst IsHeld (damaged_stays format texts shelf place bodies p) h
held_before format texts shelf place bodies (other p) h = subst IsHeld (other_stays format texts shelf place bodies p) h

-- what makes a book is not damaged
pub made_held : (x : Making) (m : Made) → made_in x ≡ Some m → IsHeld x
made_held nothing m e = tt
made_held (waits s) m e = tt
made_held waited m e = tt
made_held (begun k) m e = tt
made_held (made k) m e = tt
made_held (damaged p) m e = absurd (let never : ⊥ = cc in never)
made_held (other p) m e = absurd (let never : ⊥ = cc in never)

-- no change stands directly after the record that tells of following
pub fed_clear : (format : ℕ) (texts : Texts) (shelf place n : ℕ) (k : Made) (r : Option Record) → IsHeld (fed_by texts shelf place n r) → fault_of format k r ≡ None
fed_clear format texts shelf place n k None h = refl
fed_clear format texts shelf place n k (Some (begins s named)) h = refl
fed_clear format texts shelf place n k (Some (changes c state)) h = absurd h
fed_clear format texts shelf place n k (Some (renews named)) h = refl
fed_clear format texts shelf place n k (Some (draws number)) h = refl
fed_clear format texts shelf place n k (Some follows) h = refl
fed_clear format texts shelf place n k (Some promotes) h = refl
