use Rattle.std.proofs.Common.{◌≡◌, map, take}
use Rattle.instance_book.specs.Views.{page_of, mark_of}
use Rattle.instance_book.specs.Places.{shown_of}
use Rattle.instance_book.proofs.copies.InOrder+KeptPage.try_clone.Given as goal

abbrev pub invariant-loop-page : goal.invariant-loop-page
invariant-loop-page l = record {
  pages : map page_of l.things.items ≡ map page_of (take l.page-index l.self.things.items);
  shown : map shown_of l.things.items ≡ map shown_of (take l.page-index l.self.things.items);
  marks : map mark_of l.things.items ≡ map mark_of (take l.page-index l.self.things.items);
}
