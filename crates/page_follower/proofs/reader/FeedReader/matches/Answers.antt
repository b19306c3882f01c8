use Rattle.std.proofs.Common.{rules, ◌≡◌, ◌≤◌, ◌+◌, Err, length, sym, subst, arith}
use Rattle.std.proofs.lemmas.List.{length-take, take-append-le}
use Rattle.page_follower.specs.Reading.{Matches}
use Rattle.page_follower.proofs.Comparing.{compared_next}
use Rattle.page_follower.proofs.Records.{no_body}
use Rattle.page_follower.proofs.reader.FeedReader.matches.Goals as goal

pub returns-in_err-count-clause-matches : goal.returns-in_err-count-clause-matches
returns-in_err-count-clause-matches g c =
    let here = c.loop-done.invariant in
    let is : c.from_residual.result ≡ Err c.in_err-count.field-0.0 = search rules in
    let a = c.read.auto.buffer in
    let m = c.min-room.ensures in
    let l = length-take c.min-room.result c.loop-done.piece in
    let k = here.count in
    let w = here.within in
    let fits : length here.came + length c.read.new.buffer ≤ c.args.size = omega arith in
    subst (Matches _ _ _ _ _ _ _) (sym is)
    (no_body _ _ _ _ _ c.args.size c.args.start _ here.came c.in_err-count.field-0.0 here.got fits c.in_err-count.ensures.reads)

pub loop-done-preserved : goal.loop-done-preserved
loop-done-preserved g c =
    let here = c.loop-done.invariant in
    let gives = c.in_ok-count.ensures.reads.gives in
    let a = c.read.auto.buffer in
    let m = c.min-room.ensures in
    let l = length-take c.min-room.result c.loop-done.piece in
    let w = gives.within in
    let v = here.within in
    let fits : c.loop-done.done + c.in_ok-count.count ≤ c.args.size = omega arith in
    compared_next _ _ _ _ _ _ c.args.size c.args.held.now c.read.new.buffer _ c.loop-done.done c.in_ok-count.count c.loop-done.same
    c.still_same-same.result here gives fits
    (take-append-le c.in_ok-count.count c.read.new.buffer _ w) c.still_same-same.ensures
