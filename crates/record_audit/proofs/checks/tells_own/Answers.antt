use Rattle.std.proofs.Common.{◌≡◌, ◌∙◌, ap, sym, subst, ◌==◌, false, Option, option_map, arith}
use Rattle.std.proofs.lemmas.Bool.Decides.{nat_tests}
use Rattle.script_nodes.specs.Views.{library_of}
use Rattle.book_redo.specs.MachineStates.Views.{suspended_of}
use Rattle.book_redo.specs.MachineStates.declared.frame.Suspended as stored
use Rattle.journal_records.specs.Views.{page_change}
use Rattle.book_redo.specs.JournalSpec.Retaking.{script_for}
use Rattle.book_redo.specs.Again.{ComesTo}
use Rattle.book_redo.specs.Told.{told_for}
use Rattle.record_audit.proofs.Pages.{is_page}
use Rattle.record_audit.proofs.Told.{none_told, some_told}
use Rattle.record_audit.proofs.checks.tells_own.Goals as goal

pub returns-in_default : goal.returns-in_default
returns-in_default c m beside made states =
    let library = library_of c.args.library.now in
    let ch = page_change c.args.page.now in
    let later : (c.args.format == 1) ≡ false = grind (arith, nat_tests, c.if-format-eq1.false) in
    let is = c.in_ok-told.ensures m beside 0 0 made states
    ∙ ap (λ (d : Option stored.Suspended). told_for (script_for m.book ch) (option_map suspended_of d)) c.in_default.is in
    sym (none_told c.args.format library c.args.book.now ch (is_page c.args.page.now) later c.requires.so m beside made c.args.state.now is)

pub returns-in-Some-2 : goal.returns-in-Some-2
returns-in-Some-2 c m beside made states =
    let library = library_of c.args.library.now in
    let ch = page_change c.args.page.now in
    let later : (c.args.format == 1) ≡ false = grind (arith, nat_tests, c.if-format-eq1.false) in
    let is = c.in_ok-told.ensures m beside 0 0 made states
    ∙ ap (λ (d : Option stored.Suspended). told_for (script_for m.book ch) (option_map suspended_of d)) c.in-Some.is in
    let left = subst (λ (d : Option stored.Suspended). ComesTo library c.args.book.now ch d) c.in-Some-2.is c.in_ok-left.ensures in
    some_told c.args.format library c.args.book.now ch (is_page c.args.page.now) later c.requires.so m beside made c.args.state.now c.in-Some.told c.in-Some-2.left c.is_same_state.result is
    left c.is_same_state.ensures
