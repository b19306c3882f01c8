use Rattle.std.proofs.Common.{rules}
use Rattle.web_disk.specs.Repeated.{front_of, start_of}
use Rattle.web_disk.proofs.Repeats.{front_length, cut_behind}
use Rattle.web_disk.proofs.repeated.RepeatDiskDisk.cut.Goals as goal

pub returns-clause-cut : goal.returns-clause-cut
returns-clause-cut c =
    let disk = c.args.self.now in
    cut_behind (front_of disk) disk.last.items _ (start_of disk) c.args.len (front_length disk) (search rules) (search rules)
