use Rattle.std.proofs.Common.{List, map, sym, ap, ◌∙◌}
use Rattle.std.specs.Prelude.{slice_set}
use Rattle.script_value.specs.Views.{meaning}
use Rattle.script_value.specs.declared.value.Value.{Value}
use Rattle.instance_cells.specs.Cells.{commit}
use Rattle.instance_cells.specs.Views.{effect_of}
use Rattle.instance_cells.specs.declared.effect.Effect.{Effect}
use Rattle.instance_cells.specs.declared.effect.Effect.TheVariants.{Set}
use Rattle.instance_cells.proofs.Applied.{applied_more}
use Rattle.instance_cells.proofs.trail.Trail.set.Goals as goal

pub invariant_of-self-2 : goal.invariant_of-self-2
invariant_of-self-2 c = record {
  applied = c.set.ensures
      ∙ ap (λ (v : Value). slice_set c.args.self.now.current c.args.cell (meaning v)) (sym c.in_ok-kept.ensures)
      ∙ applied_more c.args.self.now.effects.items (Set c.args.cell c.in_ok-kept.kept) c.args.self.now.start.now c.args.self.now.current c.args.self.now.applied
      ∙ sym (ap (λ (es : List Effect). commit (map effect_of es) c.args.self.now.start.now) c.in_ok-note.ensures.ok);
}
