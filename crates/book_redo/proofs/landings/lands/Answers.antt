use Rattle.std.proofs.Common.{map, sym, subst, refl, List}
use Rattle.script_nodes.specs.Views.{library_of}
use Rattle.instance_cells.specs.Views.{effect_of}
use Rattle.instance_cells.specs.declared.effect.Effect.{Effect}
use Rattle.replay_spec.specs.Book.{ends, finishes}
use Rattle.journal_records.specs.Views.{ending_of, finish_of, logged_of}
use Rattle.journal_records.specs.declared.records.Logged.{Logged}
use Rattle.book_redo.specs.Redo.{EndsIn}
use Rattle.book_redo.specs.Lands.{TellsLanding}
use Rattle.book_redo.proofs.Held.{tells_ended}
use Rattle.book_redo.proofs.landings.lands.Goals as goal

pub returns-in-Ended : goal.returns-in-Ended
returns-in-Ended c =
    let l = library_of c.args.library.now in
    let b = c.args.book.now in
    let r = c.in-Ended.ended in
    let so = subst (λ (es : List Effect). EndsIn b r.instance r.page (map effect_of es) c.ended_in.result) c.deref.ensures.value c.ended_in.ensures in
    subst (λ (x : Logged). TellsLanding l b (logged_of x) c.args.again c.is_some.result) (sym c.in-Ended.is)
    (tells_ended l b (ends (ending_of r)) r.instance r.page (map effect_of r.effects.items) c.args.again c.is_some.result c.ended_in.result (λ x inside. refl) c.if-again.false so c.is_some.ensures)

pub returns-in-Finish : goal.returns-in-Finish
returns-in-Finish c =
    let l = library_of c.args.library.now in
    let b = c.args.book.now in
    let r = c.in-Finish.finish in
    let so =
    subst (λ (es : List Effect). EndsIn b r.instance r.page (map effect_of es) c.ended_in-in-Finish.result) c.deref-in-Finish.ensures.value c.ended_in-in-Finish.ensures in
    subst (λ (x : Logged). TellsLanding l b (logged_of x) c.args.again c.is_some-in-Finish.result) (sym c.in-Finish.is)
    (tells_ended l b (finishes (finish_of r)) r.instance r.page (map effect_of r.effects.items) c.args.again c.is_some-in-Finish.result c.ended_in-in-Finish.result (λ x inside. refl)
    c.if-again.false so c.is_some-in-Finish.ensures)
