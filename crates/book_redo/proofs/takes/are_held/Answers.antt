use Rattle.std.proofs.Common.{◌≡◌, map, sym, true, false, refl}
use Rattle.instance_cells.specs.Views.{effect_of}
use Rattle.book_redo.proofs.Passed.{held_off, held_by}
use Rattle.book_redo.proofs.takes.are_held.Goals as goal

pub returns-then-not-are_on : goal.returns-then-not-are_on
returns-then-not-are_on c =
    sym (held_off (map effect_of c.args.effects.now) c.args.cells.now (λ on. let t : false ≡ true = c.if-not-are_on.ensures.1 on in absurd (let not : ⊥ = cc in not)))

pub returns : goal.returns
returns c = held_by (map effect_of c.args.effects.now) c.args.cells.now c.holds.result (c.if-not-are_on.ensures.0 refl) c.holds.ensures
