use Rattle.std.proofs.Common.{rules}
use Rattle.web_disk.specs.Repeated.{front_of, start_of}
use Rattle.web_disk.proofs.Repeats.{front_length, holds_behind}
use Rattle.web_disk.proofs.repeated.RepeatDiskDisk.write_at.Goals as goal

pub returns-clause-written : goal.returns-clause-written
returns-clause-written c =
    let disk = c.args.self.now in
    holds_behind (front_of disk) disk.last.items c.args.piece.now _ (start_of disk) c.args.place (front_length disk) (search rules) (search rules)
