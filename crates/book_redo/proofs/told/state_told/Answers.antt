use Rattle.std.proofs.Common.{◌≡◌, subst, refl, Option, Some, None, IfSome, option_map}
use Rattle.machine_states.specs.Views.{suspended_of}
use Rattle.frame_codec.specs.Forms.{read_form}
use Rattle.frame_codec.specs.FormViews.{before_of}
use Rattle.instance_book.specs.KeptStates.Told.{IsTold}
use Rattle.instance_book.specs.KeptStates.declared.state.ToldState.{ToldState}
use Rattle.book_redo.proofs.Passed.{read_again, state_told}
use Rattle.book_redo.proofs.told.state_told.Goals as goal

pub returns-in_default-clause-none : goal.returns-in_default-clause-none
returns-in_default-clause-none c =
    let a = c.args.script.now in
    let before = before_of c.args.before in
    let read : None ≡ read_form a before c.args.bytes = subst (λ (o : Option ToldState). option_map (λ x. suspended_of x.state) o ≡ read_form a before c.args.bytes) c.in_default.is c.in_ok-state.ensures.told in
    read_again a before c.args.bytes None c.root-root.ensures.script read

pub returns-clause-some : goal.returns-clause-some
returns-clause-some c =
    let a = c.args.script.now in
    let before = before_of c.args.before in
    let x = c.in-Some.field-0 in
    let read : Some (suspended_of x.state) ≡ read_form a before c.args.bytes = subst (λ (o : Option ToldState). option_map (λ y. suspended_of y.state) o ≡ read_form a before c.args.bytes) c.in-Some.is c.in_ok-state.ensures.told in
    let is : IsTold a before c.args.links c.args.bytes x = subst (λ (o : Option ToldState). IfSome o (IsTold a before c.args.links c.args.bytes)) c.in-Some.is c.in_ok-state.ensures.kept in
    state_told a before c.args.links c.args.bytes x _ c.root-root.ensures.script read is refl refl c.in_ok-inside.ensures
