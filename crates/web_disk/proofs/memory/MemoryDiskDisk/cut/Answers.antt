use Rattle.std.proofs.Common.{arith}
use Rattle.web_disk.specs.Change.{CutTo}
use Rattle.web_disk.proofs.Images.{cut_cuts, torn_cuts}
use Rattle.web_disk.proofs.Traces.{call_same, call_more}
use Rattle.web_disk.proofs.memory.MemoryDiskDisk.cut.Goals as goal

pub returns-in-Done-clause-images : goal.returns-in-Done-clause-images
returns-in-Done-clause-images c = cut_cuts c.args.len c.args.self.now.trace c.cut.new.self 0 0 c.cut.ensures.adds

pub returns-in-Done-clause-call : goal.returns-in-Done-clause-call
returns-in-Done-clause-call c = call_more (CutTo c.args.len) c.args.self.now.trace c.cut.new.self _ _ 0 0 _ c.cut.ensures.adds c.cut.ensures.room (omega arith) c.count_call.ensures.later tt

pub returns-in-Fails-clause-images : goal.returns-in-Fails-clause-images
returns-in-Fails-clause-images c = torn_cuts c.args.len _ c.args.self.now.trace c.spoil.new.self 0 0 c.spoil.ensures.adds

pub returns-in-Fails-clause-call : goal.returns-in-Fails-clause-call
returns-in-Fails-clause-call c = call_more _ c.args.self.now.trace c.spoil.new.self _ _ 0 0 _ c.spoil.ensures.adds c.spoil.ensures.room (omega arith) c.count_call.ensures.later (c.count_call.ensures.rose (λ done. cc (c.in-Fails.is, done)))

pub returns-in-Stopped-clause-call : goal.returns-in-Stopped-clause-call
returns-in-Stopped-clause-call c = call_same c.args.self.now.trace _ _ 0 _ c.count_call.ensures.later (c.count_call.ensures.rose (λ done. cc (c.in-Stopped.is, done)))
