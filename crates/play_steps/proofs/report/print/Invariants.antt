use Rattle.std.proofs.Common.{◌≡◌, ◌++◌, drop}
use Rattle.play_steps.specs.Texts as spec
use Rattle.play_steps.proofs.report.print.Given as goal

abbrev pub invariant-loop-report : goal.invariant-loop-report
invariant-loop-report l = spec.print l.reports ≡ l.text.items ++ spec.print (drop l.report-index l.reports)
