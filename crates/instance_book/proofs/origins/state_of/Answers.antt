use Rattle.std.proofs.Common.{◌-◌, ◌<◌, ◌^◌, List, length, ap, subst, arith}
use Rattle.std.proofs.lemmas.List.{length-map}
use Rattle.script_value.specs.Val.{Val}
use Rattle.script_value.specs.Views.{meaning}
use Rattle.script_nodes.specs.Views.{named_of}
use Rattle.kept_states.specs.MachineStates.declared.frame.Frame.{Frame}
use Rattle.kept_states.specs.FrameCodec.Stored.{IsStored}
use Rattle.instance_book.proofs.Behind.{arena_again, is_of_script}
use Rattle.instance_book.proofs.Whole.{is_whole}
use Rattle.instance_book.proofs.origins.state_of.Goals as goal

pub returns-clause-stored : goal.returns-clause-stored
returns-clause-stored c =
    let law = c.each_page_has_one_state.ensures in
    let s = named_of c.args.script.now in
    let a = c.args.script.now.script in
    let script = c.root-root.ensures.script in
    let are = c.requires in
    let state = c.in_ok-state.state in
    let most = 2 ^ 64 - 1 in
    let few : length state.env < most =
    omega (arith, c.if-prove.false, ap (λ (l : List Val). length l) c.as_slice-variables.ensures, length-map c.as_slice-variables.result.now meaning) in
    let less : length state.frames.items < most = omega (arith, c.if-prove-2.false, ap (λ (l : List Frame). length l) c.as_slice-frames.ensures.value) in
    subst (IsStored a) (is_whole _ are.own.state state (c.in_ok-state.ensures are) few less)
    (is_of_script law s a script (arena_again a script) c.args.pages.now c.args.page.now are)

pub returns-clause-state : goal.returns-clause-state
returns-clause-state c =
    let state = c.in_ok-state.state in
    let most = 2 ^ 64 - 1 in
    let few : length state.env < most =
    omega (arith, c.if-prove.false, ap (λ (l : List Val). length l) c.as_slice-variables.ensures, length-map c.as_slice-variables.result.now meaning) in
    let less : length state.frames.items < most = omega (arith, c.if-prove-2.false, ap (λ (l : List Frame). length l) c.as_slice-frames.ensures.value) in
    λ are. is_whole _ are.own.state state (c.in_ok-state.ensures are) few less
