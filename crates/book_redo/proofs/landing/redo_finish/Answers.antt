use Rattle.std.proofs.Common.{subst, refl, inl, inr, map, List, Option, Bor}
use Rattle.instance_cells.specs.Views.{effect_of}
use Rattle.instance_cells.specs.declared.effect.Effect.{Effect}
use Rattle.instance_book.specs.declared.numbered.Numbered.{Numbered}
use Rattle.instance_book.specs.declared.instance.KeptInstance.{KeptInstance}
use Rattle.replay_spec.specs.Book.{finishes}
use Rattle.journal_records.specs.Views.{finish_of}
use Rattle.book_redo.specs.Redo.{EndsIn}
use Rattle.book_redo.proofs.Redone.{plain_off, finish_lands}
use Rattle.book_redo.proofs.landing.redo_finish.Goals as goal

pub returns-then-again-clause-landed : goal.returns-then-again-clause-landed
returns-then-again-clause-landed c library =
    plain_off library (finishes (finish_of c.args.finish)) c.args.again c.args.finish.ticket c.args.book.now _ refl (λ earlier. refl) (inl c.if-again.true) c.pass_over.ensures.book
    c.pass_over.ensures.states

pub returns-in_default-clause-landed : goal.returns-in_default-clause-landed
returns-in_default-clause-landed c library =
    let r = c.args.finish in
    let none = subst (λ (o : Option (Bor (Numbered KeptInstance))). EndsIn c.args.book.now r.instance r.page (map effect_of r.effects.items) o) c.in_default.is
    (subst (λ (es : List Effect). EndsIn c.args.book.now r.instance r.page (map effect_of es) c.ended_in.result) c.deref.ensures.value c.ended_in.ensures) in
    plain_off library (finishes (finish_of r)) c.args.again r.ticket c.args.book.now _ refl (λ earlier. refl) (inr (none library)) c.pass_over-in_default.ensures.book c.pass_over-in_default.ensures.states

pub returns-clause-landed : goal.returns-clause-landed
returns-clause-landed c library =
    let r = c.args.finish in
    let i = c.in-Some._ended.now in
    let is = subst (λ (o : Option (Bor (Numbered KeptInstance))). EndsIn c.args.book.now r.instance r.page (map effect_of r.effects.items) o) c.in-Some.is
    (subst (λ (es : List Effect). EndsIn c.args.book.now r.instance r.page (map effect_of es) c.ended_in.result) c.deref.ensures.value c.ended_in.ensures) in
    finish_lands library c.args.again c.args.book.now _ r i c.if-again.false is c.land.ensures.book (λ source all has. c.land.ensures.states source all tt has)

pub returns-clause-placed : goal.returns-clause-placed
returns-clause-placed c all has = c.land.ensures.placed all tt has
