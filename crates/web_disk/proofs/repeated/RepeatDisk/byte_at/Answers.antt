use Rattle.std.proofs.Common.{rules, arith}
use Rattle.web_disk.proofs.Repeats.{byte_of_block, byte_of_last}
use Rattle.web_disk.proofs.repeated.RepeatDisk.byte_at.Goals as goal

pub returns-then-place-start : goal.returns-then-place-start
returns-then-place-start c = byte_of_block c.args.self.now c.args.place _ _ (omega arith) (omega arith) (search rules) (search rules) c.index-then-place-start.ensures

pub returns : goal.returns
returns c = byte_of_last c.args.self.now c.args.place _ _ (omega arith) (omega arith) c.index-2.ensures
