use Rattle.std.proofs.Common.{rules, ◌≡◌, ◌++◌, ◌∷◌, [], suc, slice_get, ap, sym, subst, refl, ◌∙◌, arith, length, length-append, map}
use mathlib.Core.List.{IsPrefix}
use Rattle.std.proofs.lemmas.List.{append-nil}
use Rattle.std.proofs.lemmas.Option.{slice_get_within}
use Rattle.shelf_lock.proofs.Closings.{prefix_at, prefix_less}
use Rattle.shelf_lock.specs.Order.{both}
use Rattle.lock_row.specs.Locks.{seat_spot}
use Rattle.lock_row.specs.Spots.{spot, At}
use Rattle.lock_row.specs.Rows.{ZipsFrom, Absorbs}
use Rattle.lock_row.proofs.Places.{map_length, map_snoc, same_at}
use Rattle.lock_row.proofs.Loops.{absorbs_on}
use Rattle.lock_row.proofs.row.absorb.Goals as goal

pub loop-seat-init : goal.loop-seat-init
loop-seat-init g c =
    let view = c.other.view_is in
    let len = map_length seat_spot c.other.inside.seats.items in
    let len' = ap length view in (
      c.requires.own,
      ((λ k le a n a_is n_is. absurd (let within = slice_get_within c.args.other k n n_is in omega arith)), λ k lt. refl),
      ([], append-nil _ ∙ view),
    )

pub absorb_at-requires-clause-other : goal.absorb_at-requires-clause-other
absorb_at-requires-clause-other g c =
    let i = c.loop-seat.invariant in
    let f = map seat_spot in
    let items : c.loop-seat.seats.items ≡ c.pop.new.self.items ++ c.in-Some.seat ∷ [] = search rules in
    let before : IsPrefix (f c.pop.new.self.items ++ spot c.in-Some.seat.seat.table_id c.in-Some.seat.seat.me.0 ∷ []) c.args.other = subst (λ l. IsPrefix l c.args.other) (ap f items ∙ map_snoc seat_spot c.pop.new.self.items c.in-Some.seat) i.2 in
    let at = prefix_at (f c.pop.new.self.items) c.args.other (spot c.in-Some.seat.seat.table_id c.in-Some.seat.seat.me.0) before in
    let len : length (f c.pop.new.self.items) ≡ c.len.result = map_length seat_spot c.pop.new.self.items ∙ search rules in
    let s = same_at c.loop-seat.pass c.args.other c.len.result (spot c.in-Some.seat.seat.table_id c.in-Some.seat.seat.me.0) (i.0 ∙ sym c.requires.other) (ap (slice_get c.args.other) (sym len) ∙ at) in
    (s.0, s.1, ap (λ h. h.table) s.2)

pub loop-seat-preserved : goal.loop-seat-preserved
loop-seat-preserved g c =
    let i = c.loop-seat.invariant in
    let f = map seat_spot in
    let n = spot c.in-Some.seat.seat.table_id c.in-Some.seat.seat.me.0 in
    let items : c.loop-seat.seats.items ≡ c.pop.new.self.items ++ c.in-Some.seat ∷ [] = search rules in
    let before : IsPrefix (f c.pop.new.self.items ++ n ∷ []) c.args.other = subst (λ l. IsPrefix l c.args.other) (ap f items ∙ map_snoc seat_spot c.pop.new.self.items c.in-Some.seat) i.2 in
    let at = prefix_at (f c.pop.new.self.items) c.args.other n before in
    let len = map_length seat_spot c.pop.new.self.items in
    let len' : c.len.result ≡ length c.pop.new.self.items = search rules in
    let longer_by : length c.loop-seat.seats.items ≡ suc (length c.pop.new.self.items) = ap length items ∙ omega (arith, length-append c.pop.new.self.items (c.in-Some.seat ∷ [])) in (
      c.absorb_at.ensures.own,
      absorbs_on c.args.pass.now c.args.other c.loop-seat.pass c.absorb_at.new.pass (length c.pop.new.self.items) n
          (subst (λ m. ZipsFrom Absorbs m c.args.pass.now c.args.other c.loop-seat.pass) longer_by i.1)
          (ap (slice_get c.args.other) (sym len) ∙ at)
          (subst (λ m. At m (λ v w. w ≡ both v n.known) c.loop-seat.pass c.absorb_at.new.pass) len' c.absorb_at.ensures.both),
      prefix_less (f c.pop.new.self.items) c.args.other n before,
    )
