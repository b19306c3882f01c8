-- The pages of an instance of a book.
use Rattle.std.specs.Prelude.{ℕ, List, Option, option_map}
use Rattle.replay_spec.specs.Book as spec
use Rattle.replay_spec.specs.Book.{at_number}
use Rattle.instance_book.specs.declared.book.Book.{Book}
use Rattle.instance_book.specs.Views.{pages_of}

-- the pages that the program keeps of the instance of a number, if there is one
abbrev pub pages_at : ℕ → Book → Option (List spec.Page)
pages_at n b = option_map (λ i. pages_of i.item.pages) (at_number (λ i. i.number) n b.instances.things.items)
