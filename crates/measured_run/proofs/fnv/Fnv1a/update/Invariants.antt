use Rattle.std.proofs.Common.{◌≡◌, take}
use Rattle.measured_run.specs.Fnv.{goes_on}
use Rattle.measured_run.proofs.fnv.Fnv1a.update.Given as goal

-- the hash went on over the bytes that were passed
abbrev pub invariant-loop-byte : goal.invariant-loop-byte
invariant-loop-byte l = l.self-inside.hash ≡ goes_on l.initial.self-inside.hash (take l.byte-index l.bytes)
