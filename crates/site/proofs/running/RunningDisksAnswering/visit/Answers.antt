use Rattle.script_value.specs.Views.{meaning}
use Rattle.page_names.specs.Views.{target_of}
use Rattle.site.proofs.Skips.{visits_skips}
use Rattle.site.proofs.running.RunningDisksAnswering.visit.Goals as goal

pub returns-clause-skips : goal.returns-clause-skips
returns-clause-skips g c = visits_skips _ _ _ _ _ (target_of c.args.target.now) (meaning c.args.answer) _ c.visit.ensures.visited
