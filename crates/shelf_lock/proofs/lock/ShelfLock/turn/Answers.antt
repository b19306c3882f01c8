use Rattle.std.proofs.Common.{subst}
use mathlib.Core.List.{IsPrefix}
use Rattle.shelf_lock.specs.Order.{MakesOne, MakesNone}
use Rattle.shelf_lock.specs.Turns.{Turned, FoundWorn}
use Rattle.shelf_lock.proofs.Turning.{match_map, match_same, turned_grows, turned_makes, worn_grows, worn_makes}
use Rattle.shelf_lock.proofs.lock.ShelfLock.turn.Goals as goal

pub returns-clause-grows : goal.returns-clause-grows
returns-clause-grows g c =
    let v = c.args.pass.now.seat.me.0 in
    let w = c.turn.new.seat.me.0 in
    match_same (λ a. Turned g.V.Kept g.F.FnOnce c.args.f v a w) (λ _. FoundWorn g.V.Kept v w) (IsPrefix v.seen w.seen)
    (turned_grows g.V.Kept g.F.FnOnce c.args.f v w) (λ _ t. worn_grows g.V.Kept v w t) c.turn.result c.turn.ensures.turned

pub returns-clause-made : goal.returns-clause-made
returns-clause-made g c =
    let v = c.args.pass.now.seat.me.0 in
    let w = c.turn.new.seat.me.0 in
    let caller = g.V.Kept.caller in
    let who = c.args.pass.now.caller in
    let is = c.args.pass.now.numbered in
    match_map (λ a. Turned g.V.Kept g.F.FnOnce c.args.f v a w) (λ _. MakesOne caller who v.seen w.seen) (λ _. FoundWorn g.V.Kept v w) (λ _. MakesNone caller who v.seen w.seen)
    (λ a t. subst (λ n. MakesOne caller n v.seen w.seen) is (turned_makes g.V.Kept g.F.FnOnce c.args.f v w a t))
    (λ _ t. subst (λ n. MakesNone caller n v.seen w.seen) is (worn_makes g.V.Kept v w t)) c.turn.result c.turn.ensures.turned
