use Rattle.std.proofs.Common.{◌≡◌, drop}
use Rattle.journal_records.specs.ReplaySpec.Marks.{go_all}
use Rattle.instance_book.specs.Lists.{HasRoom}
use Rattle.instance_book.specs.Views.{pages_of, marks_of}
use Rattle.instance_book.specs.Places.{shown_in}
use Rattle.instance_book.proofs.pages.InOrder+KeptPage.evict_all.Given as goal

abbrev pub invariant-loop-page : goal.invariant-loop-page
invariant-loop-page l = record {
  pages : pages_of l.self ≡ pages_of l.initial.self;
  shown : shown_in l.self ≡ shown_in l.initial.self;
  marks : go_all l.number (drop l.page-index l.pages) (marks_of l.self) ≡ go_all l.number l.pages (marks_of l.initial.self);
  room : HasRoom l.initial.self → HasRoom l.self;
}
