use Rattle.std.proofs.Common.{◌≡◌, ◌∙◌, ℕ, ap, sym, Bool, true, false, List, [], length}
use Rattle.std.specs.Prelude.{◌&&◌, ◌==◌}
use Rattle.instance_book.specs.Views.{effects_in}
use Rattle.book_redo.specs.Redo.{are_held}
use Rattle.book_redo.proofs.Landed.{nothing_goes}
use Rattle.book_redo.proofs.takes.can_open.Goals as goal

pub returns-else-is_empty : goal.returns-else-is_empty
returns-else-is_empty c =
    let ns = c.args.told.now.evicted.items in
    let full : ns ≡ [] → ⊥ = λ e. (let both : false ≡ true = c.if-is_empty.ensures ∙ ap (λ (n : ℕ). n == 0) (c.args.told.now.evicted.ok.0 ∙ ap (λ (l : List ℕ). length l) e) in let never : ⊥ = cc in never) in
    c.if-is_empty.false ∙ sym (ap (λ (t : Bool). t && are_held (effects_in c.args.told.now) c.args.cells.now) (nothing_goes ns full))
