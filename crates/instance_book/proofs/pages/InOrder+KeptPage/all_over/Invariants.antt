use Rattle.std.proofs.Common.{◌≡◌, map, drop}
use Rattle.std.specs.List.{list_all}
use Rattle.journal_records.specs.ReplaySpec.Book.{is_over}
use Rattle.instance_book.specs.Views.{page_of, evicted_of}
use Rattle.instance_book.proofs.pages.InOrder+KeptPage.all_over.Given as goal

abbrev pub invariant-loop-page : goal.invariant-loop-page
invariant-loop-page l =
    list_all (is_over l.tick (evicted_of l.self)) (map page_of l.self.things.items)
    ≡ list_all (is_over l.tick (evicted_of l.self)) (map page_of (drop l.page-index l.self.things.items))
