-- What contracts see of a disk in memory that is called as a file is.
use Rattle.std.specs.Prelude.{ℕ, ◌+◌, ◌-◌, ◌^◌, min}
use Rattle.web_disk.specs.View.{View}
use Rattle.web_disk.specs.Disks.{memory_view}
use Rattle.file_disk.specs.declared.memory_file.MemoryFile.{MemoryFile}
use Rattle.file_disk.specs.Files.{untold}

-- the count of faults of a disk that is called as a file is, with the calls that were refused
abbrev pub faults_of : MemoryFile → ℕ
faults_of file = min ((memory_view file.disk).faults + file.refused) (2 ^ 64 - 1)

-- what contracts see of a disk in memory that tells no bytes, as a file does not
abbrev pub memory_file_view : MemoryFile → View
memory_file_view file = untold (faults_of file) (memory_view file.disk).ready (memory_view file.disk).end (memory_view file.disk).left
