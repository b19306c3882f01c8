-- What contracts see of a disk of a repeated block.
use Rattle.std.specs.Prelude.{◌≡◌, ℕ, ◌+◌, ◌-◌, ◌*◌, ◌^◌, min, Bool, false, ◌&&◌, not, nat_le, List, ◌++◌, length, IsTrue, Result, Ok, Err, OnErr, is_err, vec_capacity}
use Rattle.std.specs.List.{repeat}
use Rattle.web_disk.specs.View.{View}
use Rattle.web_disk.specs.declared.repeated.RepeatDisk.{RepeatDisk}

-- the bytes in front of the last part of a disk of a repeated block
abbrev pub front_of : RepeatDisk → List ℕ
front_of disk = disk.first.items ++ repeat disk.times disk.block.items

-- all the bytes of a disk of a repeated block
abbrev pub bytes_of : RepeatDisk → List ℕ
bytes_of disk = front_of disk ++ disk.last.items

-- where the last part of a disk of a repeated block begins
abbrev pub start_of : RepeatDisk → ℕ
start_of disk = length disk.first.items + disk.times * length disk.block.items

-- what a read gives of a disk of a repeated block, and the count of faults; there is always room for calls, up to the room of the last part
abbrev pub repeat_view : RepeatDisk → View
repeat_view disk = record {
  seen = bytes_of disk;
  images = λ image. ⊥;
  moment = 0;
  since = λ t image. ⊥;
  faults = disk.faults;
  ready = 8;
  end = start_of disk + vec_capacity disk.last;
  left = 2 ^ 64 - 1;
}

-- a place of the last part, or its end
abbrev pub is_in_last : RepeatDisk → ℕ → Bool
is_in_last disk place = nat_le (start_of disk) place && nat_le place (start_of disk + length disk.last.items)

-- so many bytes stand from this place on
abbrev pub is_there : RepeatDisk → ℕ → ℕ → Bool
is_there disk place size = nat_le (place + size) (start_of disk + length disk.last.items)

-- the count of faults after a call: one more where it failed, up to the type's end
abbrev pub faults_after : {T E : Type 0} → Result T E → ℕ → ℕ
faults_after (Ok x) faults = faults
faults_after (Err e) faults = min (faults + 1) (2 ^ 64 - 1)

-- nothing but the count of faults may change
abbrev pub OnlyCounts : {T E : Type 0} → RepeatDisk → RepeatDisk → Result T E → Type 0
OnlyCounts old new result = new ≡ record old { faults = faults_after result old.faults }

-- a call on the last part fails exactly where this is not met, and then nothing but the count changes; the last part begins where it did
pub record Serves {T E : Type 0} (met : Bool) (old new : RepeatDisk) (result : Result T E) : Type 0 where
  pub fails : is_err result ≡ not met
  pub failed : OnErr result (OnlyCounts old new result)
  pub faults : new.faults ≡ faults_after result old.faults
  pub start : start_of new ≡ start_of old

-- a disk that tells no bytes promises nothing of them
pub nothing_told : IsTrue false → ⊥
nothing_told told = cc
