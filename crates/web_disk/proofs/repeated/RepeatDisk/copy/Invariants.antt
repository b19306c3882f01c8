use Rattle.std.proofs.Common.{◌≡◌, ◌+◌, ◌<◌, ℕ, slice_get}
use Rattle.web_disk.specs.Repeated.{bytes_of}
use Rattle.web_disk.proofs.repeated.RepeatDisk.copy.Given as goal

abbrev pub invariant-loop-i : goal.invariant-loop-i
invariant-loop-i l = (k : ℕ) → k < l.i → slice_get l.buf k ≡ slice_get (bytes_of l.self) (l.place + k)
