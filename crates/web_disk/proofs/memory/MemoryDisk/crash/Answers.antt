use Rattle.std.proofs.Common.{rules}
use Rattle.web_disk.specs.Memory.{content_of}
use Rattle.web_disk.specs.Wrecks.{IsLeft}
use Rattle.web_disk.proofs.Wrecks.{left_is_image}
use Rattle.web_disk.proofs.memory.MemoryDisk.crash.Goals as goal

pub returns-clause-image : goal.returns-clause-image
returns-clause-image c =
    let trace = c.args.self.trace in
    let left : IsLeft c.args.wreck trace.touched.items trace.bytes.items c.leave.new.bytes.items = search rules in
    left_is_image c.args.wreck (content_of trace) trace.touched.items trace.bytes.items _ c.args.self.touched c.args.self.same left
