-- What a stage's events are told as.
use Rattle.std.specs.Prelude.{ℕ, Result, Ok, Err}
use Rattle.script_value.specs.declared.outcome.Reply.{Reply}
use Rattle.play_steps.specs.declared.report.Report.{Report}
use Rattle.play_steps.specs.declared.report.Report.TheVariants as report

-- a number that a worker took, or the reply in its place
abbrev pub take_report : (worker : ℕ) → Result ℕ Reply → Report
take_report worker (Ok number) = report.Taken worker number
take_report worker (Err reply) = report.Replied worker reply

-- how many instances went from a shelf, or the reply in its place
abbrev pub sweep_report : (shelf : ℕ) → Result ℕ Reply → Report
sweep_report shelf (Ok count) = report.Swept shelf count
sweep_report shelf (Err reply) = report.Unswept shelf reply

-- how long a shelf's file is that was compacted, or the reply in its place
abbrev pub compact_report : (shelf : ℕ) → Result ℕ Reply → Report
compact_report shelf (Ok length) = report.Compacted shelf length
compact_report shelf (Err reply) = report.Uncompacted shelf reply
