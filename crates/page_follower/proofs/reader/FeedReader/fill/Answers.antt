use Rattle.std.proofs.Common.{rules, ◌≡◌, Err, sym, subst}
use Rattle.page_follower.specs.Reading.{Fills}
use Rattle.page_follower.proofs.Filling.{filled_more, filled_no_more}
use Rattle.page_follower.proofs.reader.FeedReader.fill.Goals as goal

pub returns-in_err-count-clause-fills : goal.returns-in_err-count-clause-fills
returns-in_err-count-clause-fills g c =
    let is : c.from_residual.result ≡ Err c.in_err-count.field-0.0 = search rules in
    subst (Fills _ _ _ _ _) (sym is)
    (filled_no_more _ _ _ _ _ c.read.new.self.place c.loop-done.done c.loop-done.buffer c.read.new.buffer c.in_err-count.field-0.0
    c.loop-done.invariant.got c.loop-done.invariant.within c.read.auto.buffer c.in_err-count.ensures.reads)

pub loop-done-preserved : goal.loop-done-preserved
loop-done-preserved g c =
    let more = filled_more _ _ _ _ _ _ c.loop-done.done c.in_ok-count.count c.loop-done.buffer c.read.new.buffer c.loop-done.invariant.got
    c.loop-done.invariant.within c.read.auto.buffer c.in_ok-count.ensures.reads.gives in
    record { got = more.got; within = more.within }
