-- The uses of pages, as the program reads them off its marks.
use Rattle.std.specs.Prelude.{ℕ, max, ◌==◌, List, map, Option, Some, None, if◌then◌else◌}
use Rattle.replay_spec.specs.Book.{Use}
use Rattle.replay_spec.specs.Marks.{Mark, use_of}
use Rattle.book_visits.specs.declared.goes.PageUse.{PageUse}

-- what a use that was read stands for
abbrev pub read_use : PageUse → Use
read_use u = record { page = u.page; last = u.last }

-- the uses of pages that the program's list stands for
abbrev pub read_uses : List PageUse → List Use
read_uses us = map read_use us

-- the use of a page after a segment of this number answered the page of that number
abbrev pub used_one : (page number : ℕ) → Use → Use
used_one p n u = if u.page == p then record u { last = max u.last n } else u

-- the use of a page that did not go
abbrev pub unless_went : Option ℕ → Use → Option Use
unless_went None u = Some u
unless_went (Some by) u = None

-- the use that a mark tells after a segment of this number answered the page of that number, if its page did not go
abbrev pub use_after : (page number : ℕ) → Mark → Option Use
use_after p n m = unless_went m.gone (used_one p n (use_of m))
