use Rattle.std.proofs.Common.{◌++◌, ◌∷◌, [], subst}
use mathlib.Core.List.{IsPrefix}
use Rattle.std.proofs.lemmas.List.{append-nil}
use Rattle.shelf_lock.proofs.Closings.{prefix_at, prefix_less}
use Rattle.lock_row.proofs.locking.free_all.Goals as goal

pub loop-column-init : goal.loop-column-init
loop-column-init g c = ([], append-nil _)

pub free-requires : goal.free-requires
free-requires g c =
    let before : IsPrefix (c.pop.new.self.items ++ c.in-Some.column ∷ []) c.args.columns.items = subst (λ l. IsPrefix l c.args.columns.items) c.in-Some.ensures.items c.loop-column.invariant in
    c.requires _ _ (prefix_at _ _ _ before)

pub loop-column-preserved : goal.loop-column-preserved
loop-column-preserved g c =
    let before : IsPrefix (c.pop.new.self.items ++ c.in-Some.column ∷ []) c.args.columns.items = subst (λ l. IsPrefix l c.args.columns.items) c.in-Some.ensures.items c.loop-column.invariant in
    prefix_less _ _ _ before
