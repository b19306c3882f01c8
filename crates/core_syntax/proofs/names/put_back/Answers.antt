use Rattle.std.proofs.Common.{None, Some}
use Rattle.std.proofs.lemmas.Map.Text.{btree_map_updates_str}
use Rattle.core_syntax.proofs.names.put_back.Goals as goal

pub returns-in-None : goal.returns-in-None
returns-in-None c = λ x. rw (← c.as_str.ensures, c.in-None.is) (btree_map_updates_str c.as_str.result.now c.args.newest.now c.remove.new.self None c.remove.ensures.updates x)

pub returns-in-Some-get_mut : goal.returns-in-Some-get_mut
returns-in-Some-get_mut c =
    let place = c.in-Some.place in
    let old = c.args.newest.now in
    λ x. rw (← c.as_str-in-Some.ensures, c.in-Some.is) (btree_map_updates_str c.as_str-in-Some.result.now old (c.get_mut.follows.lender place) (Some place) ((c.get_mut.follows.holds place).3 (rw c.as_str-in-Some.ensures c.requires)) x)
