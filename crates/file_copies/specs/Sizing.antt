-- How long the file of an older journal gets.
use Rattle.std.specs.Prelude.{◌≡◌, ◌≤◌, ℕ, ◌+◌, List, length}
use Rattle.page_journal.specs.Records.{frames}
use Rattle.page_journal.specs.Scanned.{NoLonger}
use Rattle.file_copies.specs.declared.older.Sizes.{Sizes}

-- these are the sizes of a file with records of these bodies more
pub record AreSizesWith (old : Sizes) (bodies : List (List ℕ)) (new : Sizes) : Type 0 where
  pub len : new.len ≡ old.len + length (frames bodies)
  pub longer : old.longest ≤ new.longest
  pub longest : NoLonger new.longest bodies
  pub low : old.longest ≤ old.len → new.longest ≤ new.len
