use Rattle.std.proofs.Common.{◌≡◌, ◌≤◌, take}
use Rattle.std.specs.Prelude.{count_by}
use Rattle.measured_run.specs.Tallies as spec
use Rattle.measured_run.proofs.tally.pages_in.Given as goal

abbrev pub invariant-loop-report : goal.invariant-loop-report
invariant-loop-report l = record {
  counted : l.count ≡ count_by spec.tells_page (take l.report-index l.told);
  few : l.count ≤ l.report-index;
}
