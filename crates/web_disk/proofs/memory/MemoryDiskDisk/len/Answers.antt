use Rattle.web_disk.proofs.Traces.{call_same}
use Rattle.web_disk.proofs.memory.MemoryDiskDisk.len.Goals as goal

pub returns-in_default-clause-call : goal.returns-in_default-clause-call
returns-in_default-clause-call c = call_same c.args.self.now.trace _ _ 0 _ c.count_call.ensures.later (c.count_call.ensures.rose c.in_default.not-Done)
