use Rattle.std.proofs.Common.{rules, ◌≡◌, ◌++◌, ◌∷◌, [], suc, slice_get, ap, sym, subst, refl, ◌∙◌, arith, length, length-append, map}
use mathlib.Core.List.{IsPrefix}
use Rattle.std.proofs.lemmas.List.{append-nil}
use Rattle.std.proofs.lemmas.Option.{slice_get_within}
use Rattle.shelf_lock.proofs.Closings.{prefix_at, prefix_less}
use Rattle.shelf_lock.specs.Order.{posed, longer, GoesOn}
use Rattle.shelf_lock.specs.declared.view.Role.TheVariants.{Outside}
use Rattle.lock_row.specs.Locks.{note_spot}
use Rattle.lock_row.specs.Spots.{spot, At}
use Rattle.lock_row.specs.Rows.{ZipsFrom, Hears}
use Rattle.lock_row.proofs.Places.{map_length, map_snoc, same_table, tables_of}
use Rattle.lock_row.proofs.Loops.{hears_on}
use Rattle.lock_row.proofs.row.LockRow.hear.Goals as goal

pub loop-note-init : goal.loop-note-init
loop-note-init g c =
    let view = c.note.view_is in
    let len = map_length note_spot c.note.inside.notes.items in
    let len' = ap length view in (
      c.requires.own.0,
      ((λ k le a n a_is n_is. absurd (let within = slice_get_within c.args.note k n n_is in omega arith)), λ k lt. refl),
      ([], append-nil _ ∙ view),
    )

pub hear_at-requires-clause-note : goal.hear_at-requires-clause-note
hear_at-requires-clause-note g c =
    let i = c.loop-note.invariant in
    let f = map note_spot in
    let items : c.loop-note.notes.items ≡ c.pop.new.self.items ++ c.in-Some.note ∷ [] = search rules in
    let before : IsPrefix (f c.pop.new.self.items ++ spot c.in-Some.note.seat.table_id c.in-Some.note.seat.me.0 ∷ []) c.args.note = subst (λ l. IsPrefix l c.args.note) (ap f items ∙ map_snoc note_spot c.pop.new.self.items c.in-Some.note) i.2 in
    let at = prefix_at (f c.pop.new.self.items) c.args.note (spot c.in-Some.note.seat.table_id c.in-Some.note.seat.me.0) before in
    let len : length (f c.pop.new.self.items) ≡ c.len.result = map_length note_spot c.pop.new.self.items ∙ search rules in
    let s = same_table c.loop-note.pass c.args.note c.len.result (spot c.in-Some.note.seat.table_id c.in-Some.note.seat.me.0) (tables_of c.loop-note.pass c.args.self.now.homes i.0 ∙ sym c.requires.own.1) (ap (slice_get c.args.note) (sym len) ∙ at) in
    (s.0, s.1, s.2)

pub loop-note-preserved : goal.loop-note-preserved
loop-note-preserved g c =
    let i = c.loop-note.invariant in
    let f = map note_spot in
    let n = spot c.in-Some.note.seat.table_id c.in-Some.note.seat.me.0 in
    let items : c.loop-note.notes.items ≡ c.pop.new.self.items ++ c.in-Some.note ∷ [] = search rules in
    let before : IsPrefix (f c.pop.new.self.items ++ n ∷ []) c.args.note = subst (λ l. IsPrefix l c.args.note) (ap f items ∙ map_snoc note_spot c.pop.new.self.items c.in-Some.note) i.2 in
    let at = prefix_at (f c.pop.new.self.items) c.args.note n before in
    let len = map_length note_spot c.pop.new.self.items in
    let len' : c.len.result ≡ length c.pop.new.self.items = search rules in
    let longer_by : length c.loop-note.notes.items ≡ suc (length c.pop.new.self.items) = ap length items ∙ omega (arith, length-append c.pop.new.self.items (c.in-Some.note ∷ [])) in (
      c.hear_at.ensures.own,
      hears_on g.V.Kept c.args.pass.now c.args.note c.loop-note.pass c.hear_at.new.pass (length c.pop.new.self.items) n
          (subst (λ m. ZipsFrom (Hears g.V.Kept) m c.args.pass.now c.args.note c.loop-note.pass) longer_by i.1)
          (ap (slice_get c.args.note) (sym len) ∙ at)
          (subst (λ m. At m (λ v w. (w ≡ posed Outside (longer v.seen n.known.seen) v) × GoesOn g.V.Kept v.caller w.seen (v.seen ∷ n.known.seen ∷ [])) c.loop-note.pass c.hear_at.new.pass) len' c.hear_at.ensures.heard),
      prefix_less (f c.pop.new.self.items) c.args.note n before,
    )
