-- What contracts see of a rack that does not tell what its disks hold.
use Rattle.std.specs.Prelude.{◌≡◌, ◌≢◌, ℕ, Bool, true, ◌==◌, Result}
use Rattle.std.specs.List.{list_any}
use Rattle.web_disk.specs.View.{RackView}
use Rattle.web_disk.specs.Asked.{asked_in}
use Rattle.web_disk.specs.Failures.{failed_in}
use Rattle.web_disk.specs.Racks.{faults_after_take}
use Rattle.web_disk.specs.Takes.{failed_after}
use Rattle.web_disk.specs.declared.rack.RackFault.{RackFault}
use Rattle.file_disk.specs.declared.lending.Lending.{Lending}

-- the disk of this number was taken and not given back
abbrev pub is_out : Lending → ℕ → Bool
is_out lending number = list_any (λ n. n == number) lending.out.items

-- which disks are out, which were asked for, and the counts of faults
abbrev pub lending_view : Lending → RackView
lending_view lending = record {
  holds = λ number image. ⊥;
  out = is_out lending;
  faults = lending.faults;
  failed = failed_in lending.failed;
  asked = asked_in lending.asked;
}

-- the disks that are out are as they were, but for this one, which is out
pub record Lends (old new : Lending) (number : ℕ) : Type 0 where
  pub out : is_out new number ≡ true
  pub others : (n : ℕ) → n ≢ number → is_out new n ≡ is_out old n

-- the disks that are out are as they were
abbrev pub SameOut : Lending → Lending → Type 0
SameOut old new = (n : ℕ) → is_out new n ≡ is_out old n

-- other numbers have failed as often as before
abbrev pub SameOthers : (old new : Lending) → (number : ℕ) → Type 0
SameOthers old new number = (n : ℕ) → n ≢ number → failed_in new.failed n ≡ failed_in old.failed n

-- a take with this answer is counted, of this number alone
pub record CountsTake {D : Type 0} (old new : Lending) (number : ℕ) (result : Result D RackFault) : Type 0 where
  pub all : new.faults ≡ faults_after_take result old.faults
  pub here : failed_in new.failed number ≡ failed_after result (failed_in old.failed number)
  pub others : SameOthers old new number
