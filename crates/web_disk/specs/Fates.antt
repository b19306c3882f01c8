-- Which calls of an object in memory fail.
use Rattle.std.specs.Prelude.{◌≡◌, ℕ, ◌+◌, ◌-◌, ◌^◌, min, Bool, true, false, Option, Some, None, nat_le, if◌then◌else◌}
use Rattle.web_outside.specs.Views.{is_listed}
use Rattle.web_disk.specs.declared.plan.Plan.{Plan}
use Rattle.web_disk.specs.declared.plan.Fate.{Fate}
use Rattle.web_disk.specs.declared.plan.Fate.TheVariants.{Done, Fails, Stopped}

-- so many calls were made that this one fails, like each later one
abbrev pub has_stopped : Option ℕ → ℕ → Bool
has_stopped None made = false
has_stopped (Some stop) made = nat_le stop made

-- what becomes of the next call
abbrev pub fate_of : Plan → Fate
fate_of plan = if has_stopped plan.stop plan.made then Stopped else (if is_listed plan.made plan.failing.items then Fails else Done)

-- whether a call of this fate fails
abbrev pub fails : Fate → Bool
fails Done = false
fails Fails = true
fails Stopped = true

-- the count of faults after a call of this fate
abbrev pub faults_after : Fate → ℕ → ℕ
faults_after Done faults = faults
faults_after Fails faults = min (faults + 1) (2 ^ 64 - 1)
faults_after Stopped faults = min (faults + 1) (2 ^ 64 - 1)

-- a plan counted one call more, of which this became
pub record Counts (old new : Plan) (this : Fate) : Type 0 where
  pub fate : this ≡ fate_of old
  pub faults : new.faults ≡ faults_after this old.faults
  pub made : new.made ≡ min (old.made + 1) (2 ^ 64 - 1)
  pub failing : new.failing.items ≡ old.failing.items
  pub stop : new.stop ≡ old.stop
