-- Which disks were asked for.
use Rattle.std.specs.Prelude.{ℕ, List}
use Rattle.ghost_history.specs.Entries.{entries}
use Rattle.web_disk.specs.declared.asked.Asked.{Asked}

-- the numbers of the disks that were asked for, in order
abbrev pub asked_in : Asked → List ℕ
asked_in asked = entries asked.past.value
