use Rattle.machine_outside.proofs.line.Line.close_gently.Given as goal

abbrev pub decreases-loop-left : goal.decreases-loop-left
decreases-loop-left g l = l.left
