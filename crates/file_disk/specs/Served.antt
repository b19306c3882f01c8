-- What contracts see of a disk that a program is given.
use Rattle.std.specs.Prelude.{ℕ, List}
use Rattle.web_disk.specs.View.{View}
use Rattle.file_disk.specs.declared.served.ServedDisk.{ServedDisk}
use Rattle.file_disk.specs.declared.served.ServedDisk.TheVariants.{Memory, File}
use Rattle.file_disk.specs.Files.{file_view}
use Rattle.file_disk.specs.MemoryFiles.{memory_file_view}

-- what contracts see of a disk that a program is given, in memory or a file
abbrev pub served_view : {R : Type 0} → ServedDisk R → View
served_view (Memory disk) = memory_file_view disk
served_view (File file) = file_view file.disk

-- a disk that a program is given tells no images
pub no_image : {R : Type 0} (disk : ServedDisk R) (image : List ℕ) → (served_view disk).images image → ⊥
no_image (Memory disk) image left = left
no_image (File file) image left = left

-- a disk that a program is given tells no images of any moment
pub no_moment : {R : Type 0} (disk : ServedDisk R) (t : ℕ) (image : List ℕ) → (served_view disk).since t image → ⊥
no_moment (Memory disk) t image left = left
no_moment (File file) t image left = left
