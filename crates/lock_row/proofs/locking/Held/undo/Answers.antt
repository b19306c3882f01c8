use Rattle.std.proofs.Common.{slice_get, ap, sym, ◌∙◌, subst}
use Rattle.shelf_lock.specs.Order.{Told, MadeBelow}
use Rattle.lock_row.specs.Locks.{seat_spot}
use Rattle.lock_row.specs.Spots.{spot}
use Rattle.lock_row.proofs.Places.{map_get, get_map}
use Rattle.lock_row.proofs.Lockings.{undone}
use Rattle.lock_row.proofs.locking.Held.undo.Goals as goal

pub close-requires-clause-own : goal.close-requires-clause-own
close-requires-clause-own g c k p e =
    let view = c.self.view_is in
    let at = ap (λ h. slice_get h.spots k) (sym view) ∙ get_map seat_spot c.self.inside.seats.items k p e in
    ap (λ h. h.table) (c.requires.held.each k (spot p.seat.table_id p.seat.me.0) at).0 ∙ ap (λ h. h.table) (sym view)

pub returns : goal.returns
returns g c =
    let view = c.self.view_is in
    let e = c.close.ensures in
    let start = ap (λ h. h.start) view in
    undone g.V.Kept c.args.seats c.args.self c.close.result c.requires.held e.sound
    (e.opening ∙ ap (λ (s : _). g.V.Kept.opening s.value.value) start)
    (e.first ∙ ap (λ (s : _). g.V.Kept.first s.value.value) start)
    (subst (λ (s : _). MadeBelow g.V.Kept s.seats (g.V.Kept.history c.close.result)) start e.callers)
    (λ k s s_is.
    let q = map_get seat_spot c.self.inside.seats.items k s (ap (λ h. slice_get h.spots k) view ∙ s_is) in
    let told = (e.told k q.0 q.1).0 in
    subst (λ (z : _). Told g.V.Kept (g.V.Kept.history c.close.result) (z.known.caller, z.known.seen)) q.2
    (subst (λ (n : _). Told g.V.Kept (g.V.Kept.history c.close.result) (n, q.0.seat.me.0.seen)) (sym q.0.numbered) told))
