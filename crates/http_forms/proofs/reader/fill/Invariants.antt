use Rattle.std.proofs.Common.{◌-◌, length}
use Rattle.http_forms.proofs.Pieces.{Came}
use Rattle.http_forms.proofs.reader.fill.Given as goal

abbrev pub invariant-loop-wanted : goal.invariant-loop-wanted
invariant-loop-wanted g l = Came (g.S.Source.view l.fn.source).left (g.S.Source.view l.source).left l.fn.bytes.items l.bytes.items
    l.scanner l.wanted (g.S.Source.view l.fn.source).faults (g.S.Source.view l.source).faults

abbrev pub decreases-loop-wanted : goal.decreases-loop-wanted
decreases-loop-wanted g l = 81920 - length l.bytes.items
