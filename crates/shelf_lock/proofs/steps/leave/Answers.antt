use Rattle.std.proofs.Common.{rules}
use Rattle.shelf_lock.proofs.Moves.{leaves_at}
use Rattle.shelf_lock.proofs.steps.leave.Goals as goal

pub store-requires : goal.store-requires
store-requires g c = let k = c.requires.kept in (
  search rules,
  search rules,
  leaves_at g.V.Kept _ _ _ _ _ k.0 k.1 c.requires.table.1.1 k.2 k.3 k.4 k.5 k.6 k.7,
)
