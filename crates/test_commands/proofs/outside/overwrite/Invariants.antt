use Rattle.std.proofs.Common.{◌≡◌, length}
use Rattle.test_commands.proofs.outside.overwrite.Given as goal

abbrev pub invariant-loop-place : goal.invariant-loop-place
invariant-loop-place g l = length l.bytes.items ≡ l.place-end
