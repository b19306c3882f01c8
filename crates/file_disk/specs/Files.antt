-- What contracts see of a file, which does not tell its bytes.
use Rattle.std.specs.Prelude.{◌≡◌, ℕ, ◌-◌, ◌≤◌, ◌^◌, [], Bool, false, ◌||◌, IsTrue, Result, is_err}
use Rattle.web_outside.specs.Causes.{Rose}
use Rattle.web_disk.specs.View.{View}
use Rattle.web_disk.specs.Repeated.{faults_after}
use Rattle.file_disk.specs.declared.file.FileDisk.{FileDisk}

-- a view that tells no bytes: a count of faults, and so much room
abbrev pub untold : (faults ready end left : ℕ) → View
untold faults ready end left = record {
  seen = [];
  images = λ image. ⊥;
  moment = 0;
  since = λ t image. ⊥;
  faults = faults;
  ready = ready;
  end = end;
  left = left;
}

-- the view of a file, which always has room
abbrev pub file_view : {F : Type 0} → FileDisk F → View
file_view disk = untold disk.faults 8 (2 ^ 64 - 1) (2 ^ 64 - 1)

-- the count has risen, or stands at the type's end
pub record HasRisen (before now : ℕ) : Type 0 where
  pub later : before ≤ now
  pub rose : Rose before now

-- nothing but the count of faults may change
abbrev pub Counts : {F T E : Type 0} → FileDisk F → FileDisk F → Result T E → Type 0
Counts old new result = new ≡ record old { faults = faults_after result old.faults }

-- once a sync has failed, none succeeds
abbrev pub lost_after : {T E : Type 0} → Result T E → Bool → Bool
lost_after result lost = lost || is_err result

-- a file that tells no bytes promises nothing of them
pub nothing_told : IsTrue false → ⊥
nothing_told told = cc
