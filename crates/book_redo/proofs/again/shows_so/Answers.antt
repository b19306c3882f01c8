use Rattle.std.proofs.Common.{◌∙◌, ap, sym, map}
use Rattle.instance_cells.specs.Views.{effect_of}
use Rattle.book_redo.proofs.Shown.{names_decide}
use Rattle.book_redo.proofs.again.shows_so.Goals as goal
use Rattle.book_redo.proofs.again.shows_so.Goals.{then-is_of_kind, else-is_of_kind}

pub returns-then-are_same_effects : goal.returns-then-are_same_effects
returns-then-are_same_effects c =
    elim c.if-is_of_kind.branch [
      | then-is_of_kind w ↦
          let effects = w.are_same_effects.ensures.0 (sym w.value-is ∙ c.if-are_same_effects.true) in
          let left = c.as_slice-then-are_same_effects.ensures.value in
          let right = c.as_slice-then-are_same_effects-2.ensures.value in
          let names = names_decide c.as_slice-then-are_same_effects.result.now c.as_slice-then-are_same_effects-2.result.now c.eq.result c.eq.ensures in (
            λ yes. record {
              kind = c.is_of_kind.ensures.0 w.if-is_of_kind.true;
              effects = ap (map effect_of) (sym w.as_slice.ensures.value) ∙ (effects ∙ ap (map effect_of) w.as_slice-then-is_of_kind.ensures.value);
              left = sym left ∙ (names.0 yes ∙ right);
            },
            λ so. names.1 (left ∙ (so.left ∙ sym right)),
          )
      | else-is_of_kind w ↦ absurd (let both = sym c.if-are_same_effects.true ∙ (w.value-is ∙ w.if-is_of_kind.false) in let no : ⊥ = cc in no)
    ]
