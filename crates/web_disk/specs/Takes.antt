-- What a take counts.
use Rattle.std.specs.Prelude.{ℕ, ◌+◌, Result, Ok, Err}
use Rattle.web_disk.specs.declared.rack.RackFault.{RackFault}
use Rattle.web_disk.specs.declared.rack.RackFault.TheVariants.{Failed, Memory}

-- how often calls failed for the number of a disk, after a take of it with this answer
abbrev pub failed_after : {D : Type 0} → Result D RackFault → ℕ → ℕ
failed_after (Ok disk) failed = failed
failed_after (Err Failed) failed = failed + 1
failed_after (Err Memory) failed = failed
