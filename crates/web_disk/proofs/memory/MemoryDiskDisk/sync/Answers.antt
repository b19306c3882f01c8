use Rattle.std.proofs.Common.{arith}
use Rattle.web_disk.specs.Change.{Synced}
use Rattle.web_disk.proofs.Images.{synced_only, synced_no_new}
use Rattle.web_disk.proofs.Traces.{call_same, call_more}
use Rattle.web_disk.proofs.memory.MemoryDiskDisk.sync.Goals as goal

pub returns-in_default-clause-call : goal.returns-in_default-clause-call
returns-in_default-clause-call c = call_same c.args.self.now.trace _ _ 0 _ c.count_call.ensures.later (c.count_call.ensures.rose c.in_default.not-Done)

pub returns-in-Done-clause-durable : goal.returns-in-Done-clause-durable
returns-in-Done-clause-durable c = synced_only c.args.self.now.trace c.sync.new.self c.count_call.new.self.faults c.sync.ensures.adds c.args.self.now.same

pub returns-in-Done-clause-images : goal.returns-in-Done-clause-images
returns-in-Done-clause-images c = synced_no_new c.args.self.now.trace c.sync.new.self 0 0 c.sync.ensures.adds

pub returns-in-Done-clause-call : goal.returns-in-Done-clause-call
returns-in-Done-clause-call c = call_more Synced c.args.self.now.trace c.sync.new.self _ _ 0 0 _ c.sync.ensures.adds c.sync.ensures.room (omega arith) c.count_call.ensures.later tt
