use Rattle.std.proofs.Common.{rules}
use Rattle.std.proofs.lemmas.Nat.{le_bytes_8}
use Rattle.wire_bytes.proofs.number.u64_from_wire.Goals as goal

pub returns-clause-spelled : goal.returns-clause-spelled
returns-clause-spelled c = le_bytes_8 c.args.bytes _ (search rules) (search rules) c.from_le_bytes.ensures
