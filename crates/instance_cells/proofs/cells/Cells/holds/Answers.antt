use Rattle.std.proofs.Common.{ℕ, map, arith, below_more, subst, sym, refl}
use Rattle.script_value.specs.Val.{Val}
use Rattle.instance_cells.specs.Cells.{cell_at}
use Rattle.instance_cells.specs.Views.{effect_of}
use Rattle.instance_cells.specs.OneCell.{HoldsAt}
use Rattle.instance_cells.proofs.Each.{each_holds, all_hold}
use Rattle.instance_cells.proofs.cells.Cells.holds.Goals as goal

pub returns-then-not-holds_at : goal.returns-then-not-holds_at
returns-then-not-holds_at c = (
  λ t. absurd (cc),
  λ h. c.if-not-holds_at.ensures.1 (subst (λ (v : Val). HoldsAt c.loop-cell.cell (map effect_of c.args.effects.now) v) (sym c.at.ensures)
      (each_holds _ _ c.requires h c.loop-cell.cell)),
)

pub loop-cell-preserved : goal.loop-cell-preserved
loop-cell-preserved c =
    below_more (λ (d : ℕ). HoldsAt d (map effect_of c.args.effects.now) (cell_at c.args.self.now d)) _ c.loop-cell.invariant
    (subst (λ (v : Val). HoldsAt c.loop-cell.cell (map effect_of c.args.effects.now) v) c.at.ensures (c.if-not-holds_at.ensures.0 refl))

pub returns : goal.returns
returns c = (λ t. all_hold _ _ c.requires (λ d h. c.loop-cell.invariant d (omega arith)), λ h. refl)
