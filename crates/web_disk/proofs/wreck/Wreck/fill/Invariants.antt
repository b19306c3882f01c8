use Rattle.std.proofs.Common.{◌≡◌, ◌<◌, ◌≤◌, ℕ, length, slice_get, Some, true, false}
use Rattle.web_disk.specs.Wrecks.{is_lost}
use Rattle.web_disk.proofs.wreck.Wreck.fill.Given as goal

abbrev pub invariant-loop-i : goal.invariant-loop-i
invariant-loop-i l = record {
  long : length l.bytes.items ≡ length l.fn.bytes.items;
  lost : (k : ℕ) → k < l.i → is_lost l.self l.touched k ≡ true → slice_get l.bytes.items k ≡ Some l.self.fill;
  ahead : (k : ℕ) → l.i ≤ k → slice_get l.bytes.items k ≡ slice_get l.fn.bytes.items k;
  kept : (k : ℕ) → is_lost l.self l.touched k ≡ false → slice_get l.bytes.items k ≡ slice_get l.fn.bytes.items k;
}
