-- How it is told that a shelf was not opened, or that a run of steps ended.
use Rattle.std.specs.Prelude.{◌≡◌, ℕ, List, Option, Some, None, Result, Ok, Err, codes}
use Rattle.request_workers.specs.declared.tally.Tally.{Tally}
use Rattle.request_workers.specs.Tallies.{count_of}
use Rattle.play_steps.specs.declared.stage.Reopen.{Reopen}
use Rattle.play_steps.specs.declared.stage.Reopen.TheVariants as reopen
use Rattle.server_command.specs.declared.program.Status.{Status}
use Rattle.server_command.specs.declared.program.Status.TheVariants as status
use Rattle.server_command.specs.declared.serving.ServeFault.{ServeFault}
use Rattle.server_command.specs.declared.serving.ServeFault.TheVariants as fault
use Rattle.server_command.specs.Serving.{TellsCount}
use Rattle.server_command.specs.Auditing.{TellsEnd}
use Rattle.server_command.specs.Output.{memory_line, Sinks, PrintsTo}
use Rattle.server_command.specs.Racks.{not_empty, damaged, other, full, disk_line, unfit_line}

-- the line that names a shelf which was not opened for this cause; want of memory has a line of its own
abbrev pub unopened_line : (shelf : ℕ) → Reopen → Option (List ℕ)
unopened_line shelf reopen.Disk = Some (disk_line shelf)
unopened_line shelf reopen.NotEmpty = Some (unfit_line shelf not_empty)
unopened_line shelf (reopen.Damaged place) = Some (unfit_line shelf (damaged place))
unopened_line shelf (reopen.Other place) = Some (unfit_line shelf (other place))
unopened_line shelf (reopen.Full length) = Some (unfit_line shelf (full length))
unopened_line shelf reopen.Memory = None

-- the status of a shelf that was not opened for this cause
abbrev pub unopened_status : Reopen → Status
unopened_status reopen.Disk = status.Disk
unopened_status reopen.NotEmpty = status.Journal
unopened_status (reopen.Damaged place) = status.Journal
unopened_status (reopen.Other place) = status.Journal
unopened_status (reopen.Full length) = status.Journal
unopened_status reopen.Memory = status.Memory

-- the line that names this shelf, which was not opened for this cause, was told, or there was no memory for it
pub data TellsUnopened (shelf : ℕ) (why : Reopen) (s : Status) (out : Sinks) : Type 0 where
  told : (line : List ℕ) → unopened_line shelf why ≡ Some line → s ≡ unopened_status why → PrintsTo out line → TellsUnopened shelf why s out
  untold : s ≡ status.Memory → PrintsTo out memory_line → TellsUnopened shelf why s out

-- what a serving came to was told: its counts, or why there are none
abbrev pub TellsOutcome : Result Tally ServeFault → Status → Sinks → Type 0
TellsOutcome (Ok tally) s out = TellsCount (count_of tally) s out
TellsOutcome (Err fault.Key) s out = (s ≡ status.Key) × PrintsTo out (codes "error 14 key\n")
TellsOutcome (Err (fault.Shelf f)) s out = TellsUnopened f.shelf f.why s out
TellsOutcome (Err (fault.Audit end)) s out = TellsEnd end.shelf end.why s out
TellsOutcome (Err fault.Door) s out = (s ≡ status.Door) × PrintsTo out (codes "error 9 door\n")
TellsOutcome (Err fault.Memory) s out = (s ≡ status.Memory) × PrintsTo out memory_line
