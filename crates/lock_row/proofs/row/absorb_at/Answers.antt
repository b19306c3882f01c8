use Rattle.std.proofs.Common.{◌≡◌, ◌∷◌, [], ◌<◌, length, refl, ap, sym, ◌∙◌, arith}
use Rattle.lock_row.specs.Locks.{lock_homes, lock_home}
use Rattle.lock_row.specs.Spots.{home}
use Rattle.lock_row.proofs.Places.{own_at, spot_of, one_of, kept_own, goes_at, map_length}
use Rattle.lock_row.proofs.row.absorb_at.Goals as goal

own_here : (g : _) (c : goal.After-index_mut g) → (home c.index_mut.result.now.seat.table_id c.index_mut.result.now.seat.me.0.opening ≡ home c.index-locks-place.result.board.shared.table_id (g.V.Kept.opening c.index-locks-place.result.board.shared.key.value.value ∷ [])) × (c.args.place < length c.pass.inside.seats.items)
own_here g c =
    let n = map_length (lock_home g.V.Kept) c.args.locks.now in
    let lt : c.args.place < length (lock_homes g.V.Kept c.args.locks.now) = (let within = c.requires.place in omega arith) in
    own_at (λ q. q.seat.table_id) (λ q. q.seat.me.0) (lock_home g.V.Kept) c.pass.inside.seats.items c.args.locks.now c.args.pass.now
    (lock_homes g.V.Kept c.args.locks.now)
    c.args.place c.index_mut.result.now c.index-locks-place.result c.pass.view_is refl c.requires.own lt c.index_mut.ensures.value c.index-locks-place.is

pub absorb-requires : goal.absorb-requires
absorb-requires g c =
    let n = c.requires.other in
    let own = ap (λ z. z.table) (own_here g c).0 in
    let same = one_of (sym n.1 ∙ spot_of (λ q. q.seat.table_id) (λ q. q.seat.me.0) c.pass.inside.seats.items c.args.pass.now c.args.place c.index_mut.result.now c.pass.view_is (own_here g c).1 c.index_mut.ensures.value) in
    record { own = (own, n.2 ∙ (ap (λ s. s.table) same ∙ own)) }

pub returns-clause-own : goal.returns-clause-own
returns-clause-own g c =
    kept_own (λ q. q.seat.table_id) (λ q. q.seat.me.0) c.pass.inside.seats.items c.args.pass.now
    (lock_homes g.V.Kept c.args.locks.now)
    c.args.place c.index_mut.result.now c.absorb.new.pass c.pass.view_is c.requires.own c.index_mut.ensures.value c.absorb.ensures.own.0.0
    (ap (λ v. v.opening) c.absorb.ensures.both)

pub returns-clause-both : goal.returns-clause-both
returns-clause-both g c =
    let n = map_length (lock_home g.V.Kept) c.args.locks.now in
    let lt : c.args.place < length (lock_homes g.V.Kept c.args.locks.now) = (let within = c.requires.place in omega arith) in
    let here = own_at (λ q. q.seat.table_id) (λ q. q.seat.me.0) (lock_home g.V.Kept) c.pass.inside.seats.items c.args.locks.now c.args.pass.now
    (lock_homes g.V.Kept c.args.locks.now)
    c.args.place c.index_mut.result.now c.index-locks-place.result c.pass.view_is refl c.requires.own lt c.index_mut.ensures.value c.index-locks-place.is in
    goes_at (λ q. q.seat.table_id) (λ q. q.seat.me.0) c.pass.inside.seats.items c.args.pass.now c.args.place c.index_mut.result.now c.absorb.new.pass _ c.pass.view_is here.1 c.index_mut.ensures.value c.absorb.ensures.own.0.0
    c.absorb.ensures.both
