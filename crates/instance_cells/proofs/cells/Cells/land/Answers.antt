use Rattle.std.proofs.Common.{◌≡◌, Result, Err, sym, ap, ◌∙◌, slice_set, arith}
use Rattle.std.proofs.lemmas.Int.{to_z-of_z}
use Rattle.script_value.specs.Val.{Val}
use Rattle.script_value.specs.declared.outcome.Fault.{Fault}
use Rattle.instance_cells.specs.Cells.{cell_at, sum, value_or, landed}
use Rattle.instance_cells.specs.Views.{effect_of}
use Rattle.instance_cells.specs.declared.effect.Effect.{Effect}
use Rattle.instance_cells.proofs.Each.{kept}
use Rattle.instance_cells.proofs.cells.Cells.land.Goals as goal

pub returns-in-Read-clause-ok : goal.returns-in-Read-clause-ok
returns-in-Read-clause-ok c =
    kept c.args.self.now c.in-Read.field-0 ∙ sym (ap (λ (e : Effect). landed (effect_of e) c.args.self.now) c.in-Read.is)

-- a sum that faults leaves the cell
pub returns-in-Err-clause-ok : goal.returns-in-Err-clause-ok
returns-in-Err-clause-ok c =
    let w = cell_at c.args.self.now c.in-Add.cell in
    let e : sum w c.in-Add.n ≡ Err c.in-Err.field-0 = grind (arith, to_z-of_z, c.get.ensures, c.in-Err.ensures) in
    kept c.args.self.now c.in-Add.cell
    ∙ sym (ap (λ (r : Result Val Fault). slice_set c.args.self.now c.in-Add.cell (value_or w r)) e)
    ∙ sym (ap (λ (e : Effect). landed (effect_of e) c.args.self.now) c.in-Add.is)
