-- Which entries of a history are counted as pages, and which as faults of a disk.
use Rattle.std.specs.Prelude.{ℕ, ◌+◌, List, [], ◌∷◌}
use Rattle.replay_spec.specs.Step.{Event, publish, Reply, shown, finished, ended, disk_failed}
use Rattle.history_spec.specs.Histories.{Entry}
use Rattle.site.specs.declared.entry.KeptEntry.{KeptEntry}
use Rattle.site.specs.Entries.{entries_of}

-- how many pages a reply is: one where a page was shown, or an instance finished or a visit ended with it, and else none
abbrev pub page_count : Reply → ℕ
page_count (shown page url) = 1
page_count (finished page) = 1
page_count (ended page) = 1
page_count _ = 0

-- how many pages an event was answered with: one where it is a publish whose reply is a page, and else none
abbrev pub pages_by : Event → Reply → ℕ
pages_by (publish t) reply = page_count reply
pages_by _ reply = 0

-- how many publishes of a history were answered with a page
abbrev pub pages_in : List Entry → ℕ
pages_in [] = 0
pages_in (e ∷ es) = pages_by e.event e.reply + pages_in es

-- how many publishes in the histories of all shelves were answered with a page
abbrev pub pages_of : List (List KeptEntry) → ℕ
pages_of [] = 0
pages_of (h ∷ histories) = pages_in (entries_of h) + pages_of histories

-- how many faults of a disk a reply tells
abbrev pub fault_count : Reply → ℕ
fault_count (disk_failed count) = 1
fault_count _ = 0

-- how many entries of a history were answered with a fault of the disk
abbrev pub faults_in : List Entry → ℕ
faults_in [] = 0
faults_in (e ∷ es) = fault_count e.reply + faults_in es

-- how many entries in the histories of all shelves were answered with a fault of the disk
abbrev pub faults_told : List (List KeptEntry) → ℕ
faults_told [] = 0
faults_told (h ∷ histories) = faults_in (entries_of h) + faults_told histories
