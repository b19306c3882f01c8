-- What stands in a book under its numbers, and where each of it has its state.
use Rattle.std.specs.Prelude.{◌≡◌, ℕ, List, Option, Some, option_map, slice_get, ⊤, IfSome}
use Rattle.std.specs.Borrow.{Bor}
use Rattle.script_nodes.specs.Setup.{Named, Library}
use Rattle.script_nodes.specs.Views.{named_of}
use Rattle.script_nodes.specs.declared.setup.NamedScript.{NamedScript}
use Rattle.journal_records.specs.ReplaySpec.Book as book
use Rattle.journal_records.specs.ReplaySpec.Admission as spec
use Rattle.journal_records.specs.ReplaySpec.Recovery.{page_of_numbers}
use Rattle.journal_records.specs.ReplaySpec.Marks.{mark_at}
use Rattle.instance_book.specs.declared.numbered.Numbered.{Numbered}
use Rattle.instance_book.specs.declared.page.KeptPage.{KeptPage}
use Rattle.instance_book.specs.declared.instance.KeptInstance.{KeptInstance}
use Rattle.instance_book.specs.declared.book.Book.{Book}
use Rattle.instance_book.specs.declared.place.Place.{Place}
use Rattle.instance_book.specs.Views.{page_of, pages_of, mark_of, marks_of, instance_of, instances_of, no_journal, book_of}
use Rattle.instance_book.specs.Places.{Source, source_in, kept_at, shown_in, HasState, HaveStates}
use Rattle.instance_book.specs.Makes.{shelf_from, HasStatesFrom}

-- an instance and a page of it, as the program's place names them
abbrev pub place_of : List Named → Place → spec.Place
place_of all p = record { instance = instance_of all p.instance.now; page = page_of p.page.now }

-- the place's script is that of its instance
abbrev pub IsPlacedAt : List Named → Place → Type 0
IsPlacedAt all p = slice_get all p.instance.now.item.script ≡ Some (named_of p.script.now)

-- each page of the place's instance has its state, the place's page among them
pub record IsKeptAt (all : List Named) (shelf : Source ℕ) (p : Place) : Type 0 where
  pub pages :
      let s = named_of p.script.now in
      HaveStates s (source_in s shelf p.instance.now.number) (pages_of p.instance.now.item.pages) (shown_in p.instance.now.item.pages)
  pub state :
      let s = named_of p.script.now in
      HasState s (source_in s shelf p.instance.now.number) (pages_of p.instance.now.item.pages) (page_of p.page.now) (kept_at p.page.now)

-- the script that is lent, if one is
abbrev pub named_if : Option (Bor NamedScript) → Option Named
named_if s = option_map (λ n. named_of n.now) s

-- the script of the book's instance of this number, if there is one
abbrev pub script_at : List Named → (instance : ℕ) → Book → Option Named
script_at all n b = option_map (λ i. i.script) (book.instance_at n (instances_of all b.instances))

-- the script that is lent is that of the instance
abbrev pub IsScriptOf : List Named → Numbered KeptInstance → Option (Bor NamedScript) → Type 0
IsScriptOf all i s = named_if s ≡ Some (instance_of all i).script

-- where each page of the book has its state, so has each of the place's instance, if there is a place
abbrev pub IsKeptWhere : Library → Book → Option Place → Type 0
IsKeptWhere library b p =
    (source : Source ⊤) → HasStatesFrom source library.all b → IfSome p (IsKeptAt library.all (shelf_from source b.shelf))

-- the book under this library; admission looks at neither a journal nor a doubt
abbrev pub book_under : Library → Book → book.Book
book_under library b = book_of library no_journal b

-- what stands under these numbers in the book
abbrev pub IsPlaceOf : Library → Book → (instance page : ℕ) → Option Place → Type 0
IsPlaceOf library b instance page p =
    option_map (place_of library.all) p ≡ page_of_numbers (book_under library b) instance page

-- the script of a start stands at this place in the present setup, and at that one among all
pub record BeginsAt (library : Library) (start place : ℕ) (s : Named) : Type 0 where
  pub present : slice_get library.setup start ≡ Some s
  pub told : slice_get library.all place ≡ Some s

-- the page stands in the instance with its mark
abbrev pub IsMarkedIn : Numbered KeptInstance → Numbered KeptPage → Type 0
IsMarkedIn i p = mark_at p.number (marks_of i.item.pages) ≡ Some (mark_of p)

-- the place's page stands in its instance with its mark
abbrev pub HasItsMark : Place → Type 0
HasItsMark p = IsMarkedIn p.instance.now p.page.now
