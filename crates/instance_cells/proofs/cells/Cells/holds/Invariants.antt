use Rattle.std.proofs.Common.{ℕ, ◌<◌, map}
use Rattle.instance_cells.specs.Cells.{cell_at}
use Rattle.instance_cells.specs.Views.{effect_of}
use Rattle.instance_cells.specs.OneCell.{HoldsAt}
use Rattle.instance_cells.proofs.cells.Cells.holds.Given as goal

abbrev pub invariant-loop-cell : goal.invariant-loop-cell
invariant-loop-cell l = (c : ℕ) → c < l.cell → HoldsAt c (map effect_of l.effects) (cell_at l.self c)
