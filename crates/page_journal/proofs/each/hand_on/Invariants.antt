use Rattle.std.proofs.Common.{◌-◌, ◌≤◌, IsTrue, vec_capacity}
use Rattle.page_journal.specs.Scanned.{IsQuiet}
use Rattle.page_journal.proofs.Takings.{Taking, Handing}
use Rattle.page_journal.proofs.each.hand_on.Given as goal

abbrev pub invariant-gates : goal.invariant-gates
invariant-gates g l = record {
  taking : IsTrue g.D.Disk.tells → Taking g.T.Take.takes l.fn.taker (g.D.Disk.view l.fn.disk).seen l.place l.taker;
  handing : Handing g.T.Take.takes l.fn.taker l.place l.taker;
  ready : g.T.Take.ready l.taker l.place;
  quiet : IsQuiet (g.D.Disk.view l.fn.disk) (g.D.Disk.view l.disk);
  buffer : vec_capacity l.fn.buffer ≤ vec_capacity l.buffer;
}

abbrev pub decreases-gates : goal.decreases-gates
decreases-gates g l = l.fn.len - l.place
