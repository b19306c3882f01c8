use Rattle.std.proofs.Common.{◌≡◌, drop}
use Rattle.measured_run.specs.Drawing.{learned_from}
use Rattle.measured_run.proofs.measuring.learn_all.Given as goal

abbrev pub invariant-loop-report : goal.invariant-loop-report
invariant-loop-report l = record {
  learned : learned_from l.told l.initial.generator ≡ learned_from (drop l.report-index l.told) l.generator;
  clock : l.generator.clock ≡ l.initial.generator.clock;
}
