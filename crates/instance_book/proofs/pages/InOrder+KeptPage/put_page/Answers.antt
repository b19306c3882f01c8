use Rattle.std.proofs.Common.{◌∙◌, ap, map}
use Rattle.instance_book.specs.Views.{page_of, mark_of}
use Rattle.instance_book.specs.Places.{shown_of}
use Rattle.instance_book.proofs.Seen.{page_put, shown_put, mark_put}
use Rattle.instance_book.proofs.pages.InOrder+KeptPage.put_page.Goals as goal

pub returns-clause-pages : goal.returns-clause-pages
returns-clause-pages c = ap (map page_of) c.put.ensures ∙ page_put c.args.page c.args.self.now.things.items

pub returns-clause-shown : goal.returns-clause-shown
returns-clause-shown c = ap (map shown_of) c.put.ensures ∙ shown_put c.args.page c.args.self.now.things.items

pub returns-clause-mark : goal.returns-clause-mark
returns-clause-mark c = ap (map mark_of) c.put.ensures ∙ mark_put c.args.page c.args.self.now.things.items
