use Rattle.std.proofs.Common.{◌≡◌, ◌∷◌, [], ◌<◌, length, ap}
use Rattle.shelf_lock.specs.Turns.{Turned, FoundWorn}
use Rattle.shelf_lock.proofs.Turning.{match_map, match_same}
use Rattle.lock_row.specs.Locks.{lock_home}
use Rattle.lock_row.specs.Spots.{home, At}
use Rattle.lock_row.proofs.Places.{own_at, spot_of, kept_own, goes_at}
use Rattle.lock_row.proofs.row.LockRow.turn.Goals as goal

own_here : (g : _) (c : goal.After-index_mut g) → (home c.index_mut.result.now.seat.table_id c.index_mut.result.now.seat.me.0.opening ≡ home c.index.result.now.board.shared.table_id (g.V.Kept.opening c.index.result.now.board.shared.key.value.value ∷ [])) × (c.args.place < length c.pass.inside.seats.items)
own_here g c =
    own_at (λ q. q.seat.table_id) (λ q. q.seat.me.0) (lock_home g.V.Kept) c.pass.inside.seats.items c.self.inside.locks.items c.args.pass.now c.args.self.now.homes
    c.args.place c.index_mut.result.now c.index.result.now c.pass.view_is (ap (λ r. r.homes) c.self.view_is) c.requires.own c.requires.place c.index_mut.ensures.value c.index.ensures

pub turn-requires-clause-own : goal.turn-requires-clause-own
turn-requires-clause-own g c = ap (λ z. z.table) (own_here g c).0

pub turn-requires-clause-callable : goal.turn-requires-clause-callable
turn-requires-clause-callable g c =
    c.requires.callable _ (spot_of (λ q. q.seat.table_id) (λ q. q.seat.me.0) c.pass.inside.seats.items c.args.pass.now c.args.place c.index_mut.result.now c.pass.view_is (own_here g c).1 c.index_mut.ensures.value)

pub turn-requires-clause-keeps : goal.turn-requires-clause-keeps
turn-requires-clause-keeps g c =
    c.requires.keeps _ (spot_of (λ q. q.seat.table_id) (λ q. q.seat.me.0) c.pass.inside.seats.items c.args.pass.now c.args.place c.index_mut.result.now c.pass.view_is (own_here g c).1 c.index_mut.ensures.value)

pub returns-clause-own : goal.returns-clause-own
returns-clause-own g c =
    let v = c.index_mut.result.now.seat.me.0 in
    let w = c.turn.new.pass.seat.me.0 in
    let opening : w.opening ≡ v.opening =
    match_same (λ a. Turned g.V.Kept g.F.FnOnce c.args.f v a w) (λ _. FoundWorn g.V.Kept v w) (w.opening ≡ v.opening)
    (λ a t. ap (λ u. u.opening) t.5) (λ _ t. ap (λ u. u.opening) t.5) c.turn.result c.turn.ensures.turned in
    kept_own (λ q. q.seat.table_id) (λ q. q.seat.me.0) c.pass.inside.seats.items c.args.pass.now c.args.self.now.homes c.args.place c.index_mut.result.now c.turn.new.pass c.pass.view_is c.requires.own c.index_mut.ensures.value c.turn.ensures.own.0.0 opening

pub returns-clause-turned : goal.returns-clause-turned
returns-clause-turned g c =
    let q = c.index_mut.result.now in
    let r = c.turn.new.pass in
    let lt = (let is = c.self.view_is in own_at (λ q. q.seat.table_id) (λ q. q.seat.me.0) (lock_home g.V.Kept) c.pass.inside.seats.items c.self.inside.locks.items c.args.pass.now c.args.self.now.homes
    c.args.place c.index_mut.result.now c.index.result.now c.pass.view_is (ap (λ r. r.homes) is) c.requires.own c.requires.place c.index_mut.ensures.value c.index.ensures) in
    match_map (λ a. Turned g.V.Kept g.F.FnOnce c.args.f q.seat.me.0 a r.seat.me.0)
    (λ a. At c.args.place (λ v w. Turned g.V.Kept g.F.FnOnce c.args.f v a w) c.args.pass.now _)
    (λ _. FoundWorn g.V.Kept q.seat.me.0 r.seat.me.0) (λ _. At c.args.place (λ v w. FoundWorn g.V.Kept v w) c.args.pass.now _)
    (λ a t. goes_at (λ q. q.seat.table_id) (λ q. q.seat.me.0) c.pass.inside.seats.items c.args.pass.now c.args.place q r (λ v w. Turned g.V.Kept g.F.FnOnce c.args.f v a w) c.pass.view_is lt.1 c.index_mut.ensures.value c.turn.ensures.own.0.0 t)
    (λ _ t. goes_at (λ q. q.seat.table_id) (λ q. q.seat.me.0) c.pass.inside.seats.items c.args.pass.now c.args.place q r (λ v w. FoundWorn g.V.Kept v w) c.pass.view_is lt.1 c.index_mut.ensures.value c.turn.ensures.own.0.0 t)
    c.turn.result c.turn.ensures.turned
