use Rattle.std.proofs.Common.{◌≡◌, ◌≤◌, ◌+◌, drop}
use Rattle.play_steps.specs.Step as spec
use Rattle.play_steps.proofs.step.newlines.Given as goal

abbrev pub invariant-loop-byte : goal.invariant-loop-byte
invariant-loop-byte l = record {
  counted : spec.newlines l.bytes ≡ l.count + spec.newlines (drop l.byte-index l.bytes);
  few : l.count ≤ l.byte-index;
}
