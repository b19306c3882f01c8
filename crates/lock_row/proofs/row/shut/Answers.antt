use Rattle.std.proofs.Common.{rules, ◌≡◌, ◌++◌, ◌∷◌, [], ◌∙◌, ap, sym, subst, map, reverse, arith, append_assoc}
use Rattle.std.proofs.lemmas.List.{reverse-append}
use Rattle.std.specs.List.{AllZip}
use Rattle.shelf_lock.specs.Order.{Begins}
use Rattle.lock_row.specs.Rows.{IsClosed}
use Rattle.lock_row.proofs.Places.{map_snoc}
use Rattle.lock_row.proofs.Ends.{same_fronts}
use Rattle.lock_row.proofs.row.shut.Goals as goal

pub loop-lock-preserved : goal.loop-lock-preserved
loop-lock-preserved g c =
    let i = c.loop-lock.invariant in
    let locks : c.loop-lock.locks.items ≡ c.pop.new.self.items ++ c.in-Some.lock ∷ [] = search rules in
    let seats : c.loop-lock.seats.items ≡ c.pop-in-Some.new.self.items ++ c.unwrap-seat.result ∷ [] = search rules in
    let pushed = c.push_reserved.ensures.items in
    let turned = ap reverse pushed ∙ reverse-append c.loop-lock.values.items (c.close_with.result ∷ []) in
    let closed = c.close_with.ensures in
    let both = (sym (map_snoc (λ p. p.seat.table_id) c.pop-in-Some.new.self.items c.unwrap-seat.result) ∙ ap (map (λ p. p.seat.table_id)) (sym seats)) ∙ (i.own ∙ (ap (map (λ k. k.board.shared.table_id)) locks ∙ map_snoc (λ k. k.board.shared.table_id) c.pop.new.self.items c.in-Some.lock)) in
    record {
      own = same_fronts _ _ _ _ both;
      room = search (rules, arith);
      told = (
        c.unwrap-seat.result ∷ i.told.0,
        i.told.1 ∙ (ap (λ l. l ++ i.told.0) seats ∙ append_assoc c.pop-in-Some.new.self.items (c.unwrap-seat.result ∷ []) i.told.0),
        subst (λ l. AllZip (λ p x. Begins g.V.Kept (g.V.Kept.history x) p.seat.me.0) (c.unwrap-seat.result ∷ i.told.0) l) (sym turned) (closed.told, i.told.2),
      );
      closed = (
        c.in-Some.lock ∷ i.closed.0,
        i.closed.1 ∙ (ap (λ l. l ++ i.closed.0) locks ∙ append_assoc c.pop.new.self.items (c.in-Some.lock ∷ []) i.closed.0),
        subst (λ l. AllZip (λ p x. IsClosed g.V.Kept p.board.shared.key x) (c.in-Some.lock ∷ i.closed.0) l) (sym turned) ((closed.sound, closed.opening, closed.callers), i.closed.2),
      );
    }
