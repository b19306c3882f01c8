-- What a shelf begins with, and what a sweep makes of its book.
use Rattle.std.specs.Prelude.{◌≡◌, ℕ, false, List, filter, Option, None, option_map}
use Rattle.script_value.specs.Val.{Val}
use Rattle.script_nodes.specs.Setup.{Named, Library}
use Rattle.journal_records.specs.ReplaySpec.Book as spec
use Rattle.journal_records.specs.ReplaySpec.Book.{at_number, is_live}
use Rattle.journal_records.specs.ReplaySpec.Rules.{Journal, Rules, begun_length, first_file, empty_book}
use Rattle.instance_book.specs.declared.book.Book.{Book}
use Rattle.instance_book.specs.Views.{Beside, book_of}

-- the book at this tick, without the instances whose pages are all expired or evicted
abbrev pub swept : ℕ → spec.Book → spec.Book
swept tick b = record b { clock = tick; instances = filter (is_live tick) b.instances }

-- the cells of the instance of a number, if there is one
abbrev pub cells_in : ℕ → spec.Book → Option (List Val)
cells_in n b = option_map (λ i. i.cells) (spec.instance_at n b.instances)

-- the cells that the program keeps of the instance of a number, if there is one
abbrev pub cells_at : ℕ → Book → Option (List Val)
cells_at n b = option_map (λ i. i.item.cells) (at_number (λ i. i.number) n b.instances.things.items)

-- beside a book with nothing in it: its journal has this setup alone
abbrev pub begun : Option Journal → List Named → Beside
begun journal scripts =
    let head = begun_length journal scripts in record { length = head; file = first_file head scripts; down = None; follows = false }

-- Beside a journal that has the setup alone, the book is that of a shelf with nothing in it.
abbrev pub IsEmpty : (shelf : ℕ) → Book → Type 0
IsEmpty shelf b =
    (library : Library) (rules : Rules) → book_of library (begun rules.journal library.setup) b ≡ empty_book rules library.setup shelf
