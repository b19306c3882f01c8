use Rattle.site.proofs.Skips.{tick_skips}
use Rattle.site.proofs.running.RunningDisksAnswering.tick.Goals as goal

pub returns-clause-skip : goal.returns-clause-skip
returns-clause-skip g c = tick_skips _ _ _ _ _ _ _ _ c.requires.own c.tick.ensures.own c.tick.ensures.swept
