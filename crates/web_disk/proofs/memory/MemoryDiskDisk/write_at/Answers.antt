use Rattle.std.proofs.Common.{◌+◌, length, arith}
use Rattle.web_disk.specs.Change.{Put}
use Rattle.web_disk.proofs.Images.{put_spoils, torn_spoils}
use Rattle.web_disk.proofs.Traces.{call_same, call_more}
use Rattle.web_disk.proofs.memory.MemoryDiskDisk.write_at.Goals as goal

pub returns-in-Done-clause-images : goal.returns-in-Done-clause-images
returns-in-Done-clause-images c = put_spoils c.args.place c.args.piece.now c.args.self.now.trace c.write.new.self 0 0 c.write.ensures.adds c.args.self.now.same (c.requires.inside)

pub returns-in-Done-clause-call : goal.returns-in-Done-clause-call
returns-in-Done-clause-call c =
    call_more (Put c.args.place c.args.piece.now) c.args.self.now.trace c.write.new.self _ _ (length c.args.piece.now) (length c.args.piece.now) _ c.write.ensures.adds c.write.ensures.room (omega arith) c.count_call.ensures.later tt

pub returns-in-Fails-clause-images : goal.returns-in-Fails-clause-images
returns-in-Fails-clause-images c = torn_spoils c.args.place (c.args.place + length c.args.piece.now) c.args.self.now.trace c.spoil.new.self 0 0 c.spoil.ensures.adds

pub returns-in-Fails-clause-call : goal.returns-in-Fails-clause-call
returns-in-Fails-clause-call c =
    call_more _ c.args.self.now.trace c.spoil.new.self _ _ 0 (length c.args.piece.now) _ c.spoil.ensures.adds c.spoil.ensures.room (omega arith) c.count_call.ensures.later (c.count_call.ensures.rose (λ done. cc (c.in-Fails.is, done)))

pub returns-in-Stopped-clause-call : goal.returns-in-Stopped-clause-call
returns-in-Stopped-clause-call c = call_same c.args.self.now.trace _ _ (length c.args.piece.now) _ c.count_call.ensures.later (c.count_call.ensures.rose (λ done. cc (c.in-Stopped.is, done)))
