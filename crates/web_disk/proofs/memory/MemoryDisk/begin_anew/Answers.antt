use Rattle.std.proofs.Common.{rules}
use Rattle.web_disk.specs.Memory.{content_of}
use Rattle.web_disk.specs.Wrecks.{IsLeft}
use Rattle.web_disk.proofs.Wrecks.{left_is_image}
use Rattle.web_disk.proofs.memory.MemoryDisk.begin_anew.Goals as goal

pub returns-clause-image : goal.returns-clause-image
returns-clause-image c =
    let trace = c.args.self.now.trace in
    let left : IsLeft c.args.wreck trace.touched.items trace.bytes.items c.in_ok-self.field-0.bytes.items = search rules in
    left_is_image c.args.wreck (content_of trace) trace.touched.items trace.bytes.items _ c.args.self.now.touched c.args.self.now.same left
