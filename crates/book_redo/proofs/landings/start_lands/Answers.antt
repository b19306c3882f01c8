use Rattle.std.proofs.Common.{◌∙◌, ap, sym, subst, Option}
use Rattle.script_nodes.specs.Views.{library_of, named_of}
use Rattle.book_redo.specs.declared.landing.Beginning.{Beginning}
use Rattle.book_redo.specs.Redo.{IsBeginning}
use Rattle.book_redo.proofs.Landed.{on_by}
use Rattle.book_redo.proofs.Held.{no_start, a_start}
use Rattle.book_redo.proofs.landings.start_lands.Goals as goal

pub returns-in_default : goal.returns-in_default
returns-in_default c =
    let l = library_of c.args.library.now in
    no_start l c.args.script c.args.told.now (subst (λ (o : Option Beginning). IsBeginning l c.args.script o) c.in_default.is c.start_of.ensures)

pub returns : goal.returns
returns c =
    let l = library_of c.args.library.now in
    let s = named_of c.in-Some.begins.script.now in
    let r = c.args.told.now in
    let begins = subst (λ (o : Option Beginning). IsBeginning l c.args.script o) c.in-Some.is c.start_of.ensures in
    a_start l c.args.script r s c.can_open.result begins.present (on_by s r c.in_ok-cells.cells c.can_open.result (c.in_ok-cells.ensures ∙ (c.as_slice.ensures ∙ c.instance_defaults-defaults.ensures)) c.can_open.ensures)
