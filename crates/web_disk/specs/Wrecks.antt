-- What a chosen crash leaves of a disk in memory.
use Rattle.std.specs.Prelude.{◌≡◌, ℕ, zero, suc, ◌+◌, ◌<◌, Bool, true, false, ◌&&◌, List, length, slice_get, Some, nat_le, if◌then◌else◌}
use Rattle.web_disk.specs.Change.{is_touched}
use Rattle.web_disk.specs.declared.trace.Span.{Span}
use Rattle.web_disk.specs.declared.wreck.Wreck.{Wreck}

-- this place holds no longer what was written there
abbrev pub is_lost : Wreck → List Span → ℕ → Bool
is_lost wreck touched k = is_touched touched k && nat_le wreck.reached k

-- the lost places hold the byte, and all others what they held
pub record IsFilled (wreck : Wreck) (touched : List Span) (old new : List ℕ) : Type 0 where
  pub long : length new ≡ length old
  pub lost : (k : ℕ) → k < length old → is_lost wreck touched k ≡ true → slice_get new k ≡ Some wreck.fill
  pub kept : (k : ℕ) → is_lost wreck touched k ≡ false → slice_get new k ≡ slice_get old k

-- how many places there are up to the last of so many that is not lost
abbrev pub sound_end : Wreck → List Span → ℕ → ℕ
sound_end wreck touched zero = 0
sound_end wreck touched (suc n) = if is_lost wreck touched n then sound_end wreck touched n else n + 1

-- how many of so many places a chosen crash leaves
abbrev pub end_of : Wreck → List Span → ℕ → ℕ
end_of wreck touched len = if wreck.short then sound_end wreck touched len else len

-- the new bytes are what a chosen crash leaves of the old ones
pub record IsLeft (wreck : Wreck) (touched : List Span) (old new : List ℕ) : Type 0 where
  pub long : length new ≡ end_of wreck touched (length old)
  pub lost : (k : ℕ) → k < length new → is_lost wreck touched k ≡ true → slice_get new k ≡ Some wreck.fill
  pub kept : (k : ℕ) → k < length new → is_lost wreck touched k ≡ false → slice_get new k ≡ slice_get old k
