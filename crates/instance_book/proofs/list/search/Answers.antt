use Rattle.std.proofs.Common.{rules}
use Rattle.std.proofs.lemmas.List.Sorted.{answers_always}
use Rattle.instance_book.proofs.Orders.{searched_by}
use Rattle.instance_book.proofs.list.search.Goals as goal

pub returns : goal.returns
returns g c =
    let facts = c.binary_search_by_key.ensures in
    searched_by (λ thing. thing.number) c.args.things.now c.requires c.args.number c.binary_search_by_key.result facts.bound
    (facts.position (λ thing. thing.number) (answers_always _ _ _ (λ f a r k called. search rules)))
