use Rattle.std.proofs.lemmas.Int.{to_z-of_z}
use Rattle.script_value.proofs.Folds.{items_of-vals_of}
use Rattle.prim_ops.proofs.lists.item_of.Goals as goal

pub returns-in-List : goal.returns-in-List
returns-in-List c =
    let fits = c.ranges.place in
    rw (c.in-List.is, items_of-vals_of) (simp to_z-of_z at c.item_at.ensures)
