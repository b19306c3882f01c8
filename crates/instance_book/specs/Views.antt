-- What the program's book stands for in the definitions.
use Rattle.std.specs.Prelude.{◌≡◌, ℕ, Bool, false, List, [], map, get_or, Option, Some, None}
use Rattle.script_value.specs.Val.{Val, list, no_vals}
use Rattle.script_value.specs.declared.outcome.TxName.{TxName}
use Rattle.script_nodes.specs.Core.{lit, no_cores}
use Rattle.script_nodes.specs.Setup.{Named, Library}
use Rattle.instance_cells.specs.Cells as spec_cells
use Rattle.instance_cells.specs.Cells.{reads_of}
use Rattle.instance_cells.specs.Views.{effect_of}
use Rattle.journal_records.specs.declared.records.PageRecord.{PageRecord}
use Rattle.journal_records.specs.ReplaySpec.Book as spec
use Rattle.journal_records.specs.ReplaySpec.Book.{at_number, Doubt, File}
use Rattle.journal_records.specs.ReplaySpec.Rules.{first_file}
use Rattle.journal_records.specs.ReplaySpec.Marks.{Mark, uses_of, evictions_of}
use Rattle.instance_book.specs.declared.numbered.Numbered.{Numbered}
use Rattle.instance_book.specs.declared.in_order.InOrder.{InOrder}
use Rattle.instance_book.specs.declared.page.KeptPage.{KeptPage}
use Rattle.instance_book.specs.declared.instance.KeptInstance.{KeptInstance}
use Rattle.instance_book.specs.declared.book.Book.{Book}
use Rattle.instance_book.specs.Orders.{numbers_of}
use Rattle.instance_book.specs.Lists.{HasRoom}

-- the page that the program's record of a page stands for
abbrev pub page_of : Numbered KeptPage → spec.Page
page_of p = record {
  number = p.number;
  nonce = p.item.nonce;
  parent = p.item.parent;
  answer = p.item.answer;
  reads = p.item.reads;
  inside = p.item.inside.items;
  deadline = p.item.deadline;
}

-- What the segment of a page did, as its record tells.
abbrev pub effects_in : PageRecord → List spec_cells.Effect
effects_in r = map effect_of r.effects.items

-- The page of a record, which answers this one, if any, with this answer, inside these transactions.
abbrev pub new_in : PageRecord → (parent : Option ℕ) → (answer : Val) → (inside : List TxName) → spec.Page
new_in r parent answer inside = record {
  number = r.ticket;
  nonce = r.nonce;
  parent = parent;
  answer = answer;
  reads = reads_of (effects_in r);
  inside = inside;
  deadline = r.deadline;
}

-- the pages that the program's row of pages stands for
abbrev pub pages_of : InOrder KeptPage → List spec.Page
pages_of ps = map page_of ps.things.items

-- the last use of a page, and the page for which it went
abbrev pub mark_of : Numbered KeptPage → Mark
mark_of p = record { number = p.number; last = p.item.last; gone = p.item.gone }

-- what a choice among an instance's pages looks at of each
abbrev pub marks_of : InOrder KeptPage → List Mark
marks_of ps = map mark_of ps.things.items

-- the uses of the pages that are not evicted
abbrev pub used_of : InOrder KeptPage → List spec.Use
used_of ps = uses_of (marks_of ps)

-- the evictions of the pages that were evicted
abbrev pub evicted_of : InOrder KeptPage → List spec.Eviction
evicted_of ps = evictions_of (marks_of ps)

-- a script that does nothing
abbrev pub no_script : Named
no_script = record { name = []; text = []; script = record { web = []; cells = []; tasks = no_cores; body = lit (list no_vals) } }

-- the script of a place among all that a journal told, and one that does nothing where there is no such place
abbrev pub script_in : List Named → ℕ → Named
script_in all place = get_or all place no_script

-- what is kept of an instance, under this number, where these are all scripts
abbrev pub instance_with : List Named → ℕ → KeptInstance → spec.Instance
instance_with all n i = record {
  number = n;
  script = script_in all i.script;
  cells = i.cells;
  closed = i.closed;
  revoked = numbers_of i.revoked.things.items;
  used = used_of i.pages;
  evicted = evicted_of i.pages;
  pages = pages_of i.pages;
}

-- the instance that the program's record stands for, with the script of its place among all
abbrev pub instance_of : List Named → Numbered KeptInstance → spec.Instance
instance_of all i = instance_with all i.number i.item

-- the instances that the program's row stands for, each with its script
abbrev pub instances_of : List Named → InOrder KeptInstance → List spec.Instance
instances_of all is = map (instance_of all) is.things.items

-- what stands beside a book: the length of its journal, its file, what is in doubt, and whether the shelf follows another one's journal
pub record Beside : Type 0 where
  pub length : ℕ
  pub file : File
  pub down : Option Doubt
  pub follows : Bool

-- beside a book that has no journal
abbrev pub no_journal : Beside
no_journal = record { length = 0; file = first_file 0 []; down = None; follows = false }

-- the book under this library, beside this
abbrev pub book_of : Library → Beside → Book → spec.Book
book_of library beside b = record {
  shelf = b.shelf;
  scripts = library.setup;
  clock = b.clock;
  drawn = b.drawn;
  logged = b.logged;
  length = beside.length;
  file = beside.file;
  out = b.out.items;
  down = beside.down;
  follows = beside.follows;
  instances = instances_of library.all b.instances;
}

-- there is room for one page more in the instance of a number
abbrev pub HasRoomAt : ℕ → InOrder KeptInstance → Type 0
HasRoomAt n is =
    (i : Numbered KeptInstance) → at_number (λ j. j.number) n is.things.items ≡ Some i → HasRoom i.item.pages
