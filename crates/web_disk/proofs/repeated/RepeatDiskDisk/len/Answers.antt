use Rattle.std.proofs.Common.{◌∙◌, sym}
use Rattle.web_disk.proofs.Repeats.{bytes_length}
use Rattle.web_disk.proofs.repeated.RepeatDiskDisk.len.Goals as goal

pub returns-clause-len : goal.returns-clause-len
returns-clause-len c = c.end.ensures ∙ sym (bytes_length c.args.self.now)
