use Rattle.std.proofs.Common.{rules, ◌≡◌, ◌≤◌, ◌+◌, ◌++◌, Err, length, take, sym, subst, arith}
use Rattle.std.proofs.lemmas.List.{length-take}
use Rattle.shelf.proofs.WebOutside.Consumed.{consumes_then}
use Rattle.page_follower.specs.Reading.{Gathers}
use Rattle.page_follower.specs.declared.fault.FeedFault.TheVariants as fault
use Rattle.page_follower.proofs.Records.{no_body}
use Rattle.page_follower.proofs.reader.FeedReader.gather.Goals as goal

pub returns-in_err-count-clause-gathers : goal.returns-in_err-count-clause-gathers
returns-in_err-count-clause-gathers g c =
    let is : c.from_residual.result ≡ Err c.in_err-count.field-0.0 = search rules in
    let a = c.read.auto.buffer in
    let m = c.min-room.ensures in
    let n = c.len-in-loop-piece.ensures in
    let l = length-take c.min-room.result c.loop-piece.piece in
    let fits : length c.loop-piece.body.items + length c.read.new.buffer ≤ c.args.size = omega arith in
    subst (Gathers _ _ _ _ _ _) (sym is)
    (no_body _ _ _ _ _ c.args.size c.args.start _ c.loop-piece.body.items c.in_err-count.field-0.0 c.loop-piece.invariant.got fits c.in_err-count.ensures.reads)

pub returns-in_err-extend_from_slice-clause-gathers : goal.returns-in_err-extend_from_slice-clause-gathers
returns-in_err-extend_from_slice-clause-gathers g c =
    let is : c.from_residual-in_err-extend_from_slice.result ≡ Err fault.Memory = search rules in
    let gives = c.in_ok-count.ensures.reads.gives in
    subst (Gathers _ _ _ _ _ _) (sym is) (
      c.loop-piece.body.items ++ take c.in_ok-count.count c.read.new.buffer,
      consumes_then _ _ _ c.loop-piece.body.items (take c.in_ok-count.count c.read.new.buffer) c.loop-piece.invariant.got.consumed gives.got.consumed,
    )
