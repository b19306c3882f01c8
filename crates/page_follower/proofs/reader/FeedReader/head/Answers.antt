use Rattle.std.proofs.Common.{refl, arith}
use Rattle.page_follower.proofs.Heads.{other_head, head_cut, whole_head}
use Rattle.page_follower.proofs.reader.FeedReader.head.Goals as goal

pub returns-then-count-lt8-clause-heads : goal.returns-then-count-lt8-clause-heads
returns-then-count-lt8-clause-heads g c =
    let filled = c.in_ok-count.ensures.fills in
    let size = c.fill.auto.buffer in
    let few = c.if-count-lt8.true in (
      refl,
      head_cut _ _ _ _ c.fill.new.buffer _ c.in_ok-count.count c.goes_on.result filled.gives few refl c.goes_on.ensures c.if-goes_on.true
          (filled.end (omega arith)),
    )

pub returns-else-count-lt8-clause-heads : goal.returns-else-count-lt8-clause-heads
returns-else-count-lt8-clause-heads g c =
    whole_head _ _ _ _ c.fill.new.buffer _ c.in_ok-count.count c.goes_on.result c.in_ok-count.ensures.fills.gives c.if-count-lt8.false refl
    c.goes_on.ensures c.if-goes_on.true

pub returns-else-goes_on-clause-heads : goal.returns-else-goes_on-clause-heads
returns-else-goes_on-clause-heads g c =
    other_head _ _ _ _ c.fill.new.buffer _ c.in_ok-count.count c.goes_on.result c.in_ok-count.ensures.fills.gives c.fill.auto.buffer refl
    c.goes_on.ensures c.if-goes_on.false
