use Rattle.std.proofs.Common.{rules, ◌≡◌, ◌<◌, ◌++◌, ◌∷◌, [], ℕ, suc, Some, slice_get, set, get_or, length, length-append, length-set, refl, ap, sym, subst, ◌∙◌, arith, map}
use mathlib.Core.List.{IsPrefix}
use Rattle.std.proofs.lemmas.List.{append-nil}
use Rattle.std.proofs.lemmas.Option.{slice_get_within, slice_get_read}
use Rattle.shelf_lock.proofs.Closings.{prefix_at, prefix_less}
use Rattle.lock_row.specs.Locks.{seat_spot}
use Rattle.lock_row.specs.Spots.{spot}
use Rattle.lock_row.specs.Rows.{ZipsFrom}
use Rattle.lock_row.specs.Locking.{Extends}
use Rattle.lock_row.proofs.Places.{get_map, map_length}
use Rattle.lock_row.proofs.Loops.{zips_on, zips_first}
use Rattle.lock_row.proofs.locking.deal.Goals as goal

pub loop-seat-init : goal.loop-seat-init
loop-seat-init g c = (
  zips_first Extends c.args.columns.now.items (map seat_spot c.args.seats.items) (length c.args.seats.items) (sym (map_length seat_spot c.args.seats.items)),
  ([], append-nil _),
  refl,
)

pub push-requires : goal.push-requires
push-requires g c =
    let i = c.loop-seat.invariant in
    let items : c.loop-seat.seats.items ≡ c.pop.new.self.items ++ c.in-Some.seat ∷ [] = search rules in
    let before : IsPrefix (c.pop.new.self.items ++ c.in-Some.seat ∷ []) c.args.seats.items = subst (λ l. IsPrefix l c.args.seats.items) items i.1 in
    let at = prefix_at c.pop.new.self.items c.args.seats.items c.in-Some.seat before in
    let len : c.len.result ≡ length c.pop.new.self.items = search rules in
    let longer_by : length c.loop-seat.seats.items ≡ suc (length c.pop.new.self.items) = ap length items ∙ omega (arith, length-append c.pop.new.self.items (c.in-Some.seat ∷ [])) in
    let lt : length c.pop.new.self.items < length c.loop-seat.columns.items = (let a = slice_get_within c.args.seats.items (length c.pop.new.self.items) c.in-Some.seat at in let b = i.2 in let d = c.requires.len in omega arith) in
    let there : slice_get c.loop-seat.columns.items (length c.pop.new.self.items) ≡ Some c.index_mut.result.now =
    slice_get_read c.loop-seat.columns.items (length c.loop-seat.columns.items) (length c.pop.new.self.items) c.index_mut.result.now refl lt (c.index_mut.ensures.value ∙ ap (λ (k : ℕ). get_or c.loop-seat.columns.items k c.index_mut.result.now) len) in
    c.requires.room (length c.pop.new.self.items) c.index_mut.result.now (sym (i.0.1 (length c.pop.new.self.items) (omega arith)) ∙ there)

pub loop-seat-preserved : goal.loop-seat-preserved
loop-seat-preserved g c =
    let i = c.loop-seat.invariant in
    let items : c.loop-seat.seats.items ≡ c.pop.new.self.items ++ c.in-Some.seat ∷ [] = search rules in
    let before : IsPrefix (c.pop.new.self.items ++ c.in-Some.seat ∷ []) c.args.seats.items = subst (λ l. IsPrefix l c.args.seats.items) items i.1 in
    let at = prefix_at c.pop.new.self.items c.args.seats.items c.in-Some.seat before in
    let len : c.len.result ≡ length c.pop.new.self.items = search rules in
    let longer_by : length c.loop-seat.seats.items ≡ suc (length c.pop.new.self.items) = ap length items ∙ omega (arith, length-append c.pop.new.self.items (c.in-Some.seat ∷ [])) in
    let lt : length c.pop.new.self.items < length c.loop-seat.columns.items = (let a = slice_get_within c.args.seats.items (length c.pop.new.self.items) c.in-Some.seat at in let b = i.2 in let d = c.requires.len in omega arith) in
    let value = c.index_mut.ensures.value in
    let there : slice_get c.loop-seat.columns.items (length c.pop.new.self.items) ≡ Some c.index_mut.result.now =
    slice_get_read c.loop-seat.columns.items (length c.loop-seat.columns.items) (length c.pop.new.self.items) c.index_mut.result.now refl lt (value ∙ ap (λ (k : ℕ). get_or c.loop-seat.columns.items k c.index_mut.result.now) len) in (
      zips_on Extends c.args.columns.now.items (map seat_spot c.args.seats.items) c.loop-seat.columns.items (set c.loop-seat.columns.items c.len.result c.push.new.self) (length c.pop.new.self.items)
          (spot c.in-Some.seat.seat.table_id c.in-Some.seat.seat.me.0) c.index_mut.result.now c.push.new.self
          (subst (λ (n : ℕ). ZipsFrom Extends n c.args.columns.now.items (map seat_spot c.args.seats.items) c.loop-seat.columns.items) longer_by i.0)
          (get_map seat_spot c.args.seats.items (length c.pop.new.self.items) c.in-Some.seat at)
          there (ap (λ (k : ℕ). set c.loop-seat.columns.items k c.push.new.self) len) c.push.ensures,
      prefix_less c.pop.new.self.items c.args.seats.items c.in-Some.seat before,
      length-set c.loop-seat.columns.items c.len.result c.push.new.self ∙ i.2,
    )
