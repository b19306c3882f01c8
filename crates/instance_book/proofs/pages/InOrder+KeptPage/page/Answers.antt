use Rattle.instance_book.proofs.Seen.{page_seen, shown_seen, mark_seen}
use Rattle.instance_book.proofs.pages.InOrder+KeptPage.page.Goals as goal

pub returns-clause-page : goal.returns-clause-page
returns-clause-page c = page_seen c.args.number c.args.self.now.things.items c.get.result c.get.ensures

pub returns-clause-shown : goal.returns-clause-shown
returns-clause-shown c = shown_seen c.args.number c.args.self.now.things.items c.get.result c.get.ensures

pub returns-clause-marked : goal.returns-clause-marked
returns-clause-marked c = mark_seen c.args.number c.args.self.now.things.items c.get.result c.get.ensures
