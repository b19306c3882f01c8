-- What is counted of the transcript of a measured run.
use Rattle.std.specs.Prelude.{ℕ, List, count_by}
use Rattle.measured_run.specs.Fnv.{fnv1a}
use Rattle.play_steps.specs.Texts.{print}
use Rattle.play_steps.specs.declared.report.Report.{Report}
use Rattle.measured_run.specs.declared.tally.Tally.{Tally}
use Rattle.measured_run.specs.Tallies.{grown, tells_page, tells_refusal, summary_text}
use Rattle.measured_run.specs.declared.measuring.Measure.{Measure}

-- the counts of so many steps of which this was told
abbrev pub tally_of : (count : ℕ) → List Report → Tally
tally_of count told = record {
  steps = grown 0 count;
  pages = grown 0 (count_by tells_page told);
  refused = grown 0 (count_by tells_refusal told);
}

-- the counts of so many steps of which this was told, and the hash of what is printed of the reports
abbrev pub measure_of : (count : ℕ) → List Report → Measure
measure_of count told = record { tally = tally_of count told; hash = fnv1a (print told) }

-- the line that is printed of a measure
abbrev pub line_of : Measure → List ℕ
line_of measure = summary_text measure.tally measure.hash

-- the line that a run of so many steps prints, of which this was told
abbrev pub line_for : (count : ℕ) → List Report → List ℕ
line_for count told = line_of (measure_of count told)
