-- How often calls failed for each number.
use Rattle.std.specs.Prelude.{ℕ, ◌==◌, if◌then◌else◌, sum_by}
use Rattle.ghost_history.specs.Entries.{entries}
use Rattle.web_disk.specs.declared.failures.Failure.{Failure}
use Rattle.web_disk.specs.declared.failures.Failures.{Failures}

-- how many calls failed for this number by one entry
abbrev pub of_number : (number : ℕ) → Failure → ℕ
of_number number failure = if failure.number == number then failure.count else 0

-- how often calls failed for the disk of this number
abbrev pub failed_in : Failures → (number : ℕ) → ℕ
failed_in failures number = sum_by (of_number number) (entries failures.past.value)
