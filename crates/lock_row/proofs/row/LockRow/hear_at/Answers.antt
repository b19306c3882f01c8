use Rattle.std.proofs.Common.{◌≡◌, ◌∷◌, [], ◌<◌, ℕ, length, ap, sym, ◌∙◌, subst}
use Rattle.shelf_lock.specs.Order.{GoesOn}
use Rattle.lock_row.specs.Locks.{lock_home}
use Rattle.lock_row.specs.Spots.{home}
use Rattle.lock_row.proofs.Places.{own_at, spot_of, kept_own, goes_at, one_of}
use Rattle.lock_row.proofs.row.LockRow.hear_at.Goals as goal

own_here : (g : _) (c : goal.After-index_mut g) → (home c.index_mut.result.now.seat.table_id c.index_mut.result.now.seat.me.0.opening ≡ home c.index.result.now.board.shared.table_id (g.V.Kept.opening c.index.result.now.board.shared.key.value.value ∷ [])) × (c.args.place < length c.pass.inside.seats.items)
own_here g c =
    own_at (λ q. q.seat.table_id) (λ q. q.seat.me.0) (lock_home g.V.Kept) c.pass.inside.seats.items c.self.inside.locks.items c.args.pass.now c.args.self.now.homes
    c.args.place c.index_mut.result.now c.index.result.now c.pass.view_is (ap (λ r. r.homes) c.self.view_is) c.requires.own c.requires.place c.index_mut.ensures.value c.index.ensures

pub join-requires : goal.join-requires
join-requires g c =
    let n = c.requires.note in
    let own = ap (λ z. z.table) (own_here g c).0 in
    let same = one_of (sym n.1 ∙ spot_of (λ q. q.seat.table_id) (λ q. q.seat.me.0) c.pass.inside.seats.items c.args.pass.now c.args.place c.index_mut.result.now c.pass.view_is (own_here g c).1 c.index_mut.ensures.value) in
    record { own = (own, n.2 ∙ (ap (λ s. s.table) same ∙ own)) }

pub returns-clause-own : goal.returns-clause-own
returns-clause-own g c =
    kept_own (λ q. q.seat.table_id) (λ q. q.seat.me.0) c.pass.inside.seats.items c.args.pass.now c.args.self.now.homes c.args.place c.index_mut.result.now c.join.new.pass c.pass.view_is c.requires.own c.index_mut.ensures.value c.join.ensures.own.0.0
    (ap (λ v. v.opening) c.join.ensures.seen)

pub returns-clause-heard : goal.returns-clause-heard
returns-clause-heard g c =
    let here = own_at (λ q. q.seat.table_id) (λ q. q.seat.me.0) (lock_home g.V.Kept) c.pass.inside.seats.items c.self.inside.locks.items c.args.pass.now c.args.self.now.homes
    c.args.place c.index_mut.result.now c.index.result.now c.pass.view_is (ap (λ r. r.homes) c.self.view_is) c.requires.own c.requires.place c.index_mut.ensures.value c.index.ensures in
    goes_at (λ q. q.seat.table_id) (λ q. q.seat.me.0) c.pass.inside.seats.items c.args.pass.now c.args.place c.index_mut.result.now c.join.new.pass _ c.pass.view_is here.1 c.index_mut.ensures.value c.join.ensures.own.0.0
    (c.join.ensures.seen, subst (λ (who : ℕ). GoesOn g.V.Kept who c.join.new.pass.seat.me.0.seen (c.index_mut.result.now.seat.me.0.seen ∷ c.args.note.seat.me.0.seen ∷ [])) (sym c.index_mut.result.now.numbered) c.join.ensures.one)
