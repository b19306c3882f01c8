use Rattle.std.proofs.Common.{◌≡◌, ◌∷◌, [], ◌<◌, length, ap, ◌∙◌}
use Rattle.lock_row.specs.Locks.{lock_home}
use Rattle.lock_row.specs.Spots.{spot, home}
use Rattle.lock_row.proofs.Places.{own_at, spot_of, spot_same}
use Rattle.lock_row.proofs.row.LockRow.note_at.Goals as goal

own_here : (g : _) (c : goal.After-index_mut g) → (home c.index_mut.result.now.seat.table_id c.index_mut.result.now.seat.me.0.opening ≡ home c.index.result.now.board.shared.table_id (g.V.Kept.opening c.index.result.now.board.shared.key.value.value ∷ [])) × (c.args.place < length c.pass.inside.seats.items)
own_here g c =
    own_at (λ q. q.seat.table_id) (λ q. q.seat.me.0) (lock_home g.V.Kept) c.pass.inside.seats.items c.self.inside.locks.items c.args.pass.now c.args.self.now.homes
    c.args.place c.index_mut.result.now c.index.result.now c.pass.view_is (ap (λ r. r.homes) c.self.view_is) c.requires.own c.requires.place c.index_mut.ensures.value c.index.ensures

pub split-requires : goal.split-requires
split-requires g c = record { own = ap (λ z. z.table) (own_here g c).0 }

pub returns-clause-same : goal.returns-clause-same
returns-clause-same g c =
    let e = c.split.ensures.own in
    spot_same (λ q. q.seat.table_id) (λ q. q.seat.me.0) c.pass.inside.seats.items c.args.place c.index_mut.result.now c.split.new.pass c.index_mut.ensures.value e.0.0 (ap (λ m. m.0) e.2) ∙ c.pass.view_is

pub returns-clause-note : goal.returns-clause-note
returns-clause-note g c =
    let q = c.index_mut.result.now in
    let here = own_at (λ q. q.seat.table_id) (λ q. q.seat.me.0) (lock_home g.V.Kept) c.pass.inside.seats.items c.self.inside.locks.items c.args.pass.now c.args.self.now.homes
    c.args.place c.index_mut.result.now c.index.result.now c.pass.view_is (ap (λ r. r.homes) c.self.view_is) c.requires.own c.requires.place c.index_mut.ensures.value c.index.ensures in (
      spot q.seat.table_id q.seat.me.0,
      spot_of (λ q. q.seat.table_id) (λ q. q.seat.me.0) c.pass.inside.seats.items c.args.pass.now c.args.place q c.pass.view_is here.1 c.index_mut.ensures.value,
      c.split.ensures.note,
    )
