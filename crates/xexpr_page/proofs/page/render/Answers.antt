use Rattle.std.proofs.Common.{◌≡◌, Some, None, rules}
use Rattle.std.specs.Prelude.{Ok, Err}
use Rattle.script_value.specs.Views.{meaning}
use Rattle.page_spec.specs.Page.{page_of}
use Rattle.xexpr_page.proofs.Grammar.{page_renders, answer_found}
use Rattle.xexpr_page.specs.declared.fault.RenderFault.TheVariants.{NotPage}
use Rattle.xexpr_page.proofs.Nested.{page_markup}
use Rattle.xexpr_page.proofs.page.render.Goals as goal

pub returns-in-Err-Memory-clause-found : goal.returns-in-Err-Memory-clause-found
returns-in-Err-Memory-clause-found c = answer_found (meaning c.args.value.now) (Err c.fault_of.result) c.fault_of.ensures.page

pub returns-in-Err-NotPage-clause-found : goal.returns-in-Err-NotPage-clause-found
returns-in-Err-NotPage-clause-found c =
    let none : page_of (meaning c.args.value.now) ≡ None = search rules in
    answer_found (meaning c.args.value.now) (Err NotPage) none

pub returns-in-Ok-clause-shown : goal.returns-in-Ok-clause-shown
returns-in-Ok-clause-shown c =
    let given : page_of (meaning c.args.value.now) ≡ Some c.in-Ok.page = search rules in
    page_renders (meaning c.args.value.now) c.in-Ok.page given

pub returns-in-Ok-clause-found : goal.returns-in-Ok-clause-found
returns-in-Ok-clause-found c =
    let given : page_of (meaning c.args.value.now) ≡ Some c.in-Ok.page = search rules in
    answer_found (meaning c.args.value.now) (Ok c.in-Ok.page) given

pub returns-in-Ok-clause-well_formed : goal.returns-in-Ok-clause-well_formed
returns-in-Ok-clause-well_formed c =
    let given : page_of (meaning c.args.value.now) ≡ Some c.in-Ok.page = search rules in
    page_markup (meaning c.args.value.now) c.in-Ok.page given
