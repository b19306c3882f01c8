use Rattle.std.proofs.Common.{◌≡◌, ap, sym, subst, ◌∙◌}
use Rattle.shelf_lock.specs.Order.{Begins}
use Rattle.shelf_lock.proofs.Moves.{ends}
use Rattle.shelf_lock.proofs.lock.ShelfLock.close_with.Goals as goal

pub returns-clause-sound : goal.returns-clause-sound
returns-clause-sound g c = (ends g.V.Kept _ _ _ _ _ _ _ c.close_with-closed.ensures.values.2 (ap (λ m. m.0.role) c.shut.ensures.left) c.take-value.ensures.value).0

pub returns-clause-opening : goal.returns-clause-opening
returns-clause-opening g c = (ends g.V.Kept _ _ _ _ _ _ _ c.close_with-closed.ensures.values.2 (ap (λ m. m.0.role) c.shut.ensures.left) c.take-value.ensures.value).4

pub returns-clause-first : goal.returns-clause-first
returns-clause-first g c = (ends g.V.Kept _ _ _ _ _ _ _ c.close_with-closed.ensures.values.2 (ap (λ m. m.0.role) c.shut.ensures.left) c.take-value.ensures.value).5

pub returns-clause-within : goal.returns-clause-within
returns-clause-within g c = (ends g.V.Kept _ _ _ _ _ _ _ c.close_with-closed.ensures.values.2 (ap (λ m. m.0.role) c.shut.ensures.left) c.take-value.ensures.value).6

pub returns-clause-callers : goal.returns-clause-callers
returns-clause-callers g c = (ends g.V.Kept _ _ _ _ _ _ _ c.close_with-closed.ensures.values.2 (ap (λ m. m.0.role) c.shut.ensures.left) c.take-value.ensures.value).3

pub returns-clause-told : goal.returns-clause-told
returns-clause-told g c =
    let x = c.enter.ensures.has.0 in
    let h = c.enter.ensures.has.1 in
    let shut = c.shut.ensures.left in
    let e = ends g.V.Kept _ _ _ _ _ _ _ c.close_with-closed.ensures.values.2 (ap (λ m. m.0.role) shut) c.take-value.ensures.value in
    let seen : g.V.Kept.history c.take-value.result ≡ g.V.Kept.history x = e.2 ∙ (ap (λ m. m.0.seen) shut ∙ ap (λ m. m.0.seen) h.0) in
    subst (λ l. Begins g.V.Kept l c.args.pass.seat.me.0) (sym seen) h.3
