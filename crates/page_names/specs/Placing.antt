-- Which shelf a destination is on.
use Rattle.std.specs.Prelude.{ℕ, ◌%◌}
use Rattle.page_names.specs.Names.{Destination, start, page}

-- The shelf of a destination, of so many: a page names its own, and a start is spread over them by its worker.
abbrev pub shelf_for : (count worker : ℕ) → Destination → ℕ
shelf_for count worker (start name) = worker % count
shelf_for count worker (page name n) = n.shelf
