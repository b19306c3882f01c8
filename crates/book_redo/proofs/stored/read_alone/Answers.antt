use Rattle.std.proofs.Common.{◌≡◌, subst, sym, List, ℕ, Option, option_map}
use Rattle.machine_states.specs.Views.{suspended_of}
use Rattle.machine_states.specs.declared.frame.Suspended.{Suspended}
use Rattle.frame_codec.specs.Reading.{read_state}
use Rattle.frame_codec.specs.Views.{FindsSpelled}
use Rattle.book_redo.specs.Behind.{IsSpelledBehind}
use Rattle.book_redo.proofs.ToldState.{alone_none, alone_some, alone_never}
use Rattle.book_redo.proofs.stored.read_alone.Goals as goal

pub returns-in_default : goal.returns-in_default
returns-in_default c =
    let x = c.args.behind.now in
    let read = subst (λ (o : Option Suspended). option_map suspended_of o ≡ read_state x.script.now.script c.args.bytes.now) c.in_default.is c.in_ok-state.ensures.read in
    alone_none x c.args.bytes.now c.root-root.ensures.script (sym read)

pub returns-in-Some-2 : goal.returns-in-Some-2
returns-in-Some-2 c =
    let x = c.args.behind.now in
    let d = c.in-Some.state in
    let read = subst (λ (o : Option Suspended). option_map suspended_of o ≡ read_state x.script.now.script c.args.bytes.now) c.in-Some.is c.in_ok-state.ensures.read in
    let spelled = subst (λ (o : Option (List ℕ)). IsSpelledBehind x d o) c.in-Some-2.is c.in_ok-spelled.ensures in
    alone_some x c.args.bytes.now c.root-root.ensures.script d (sym read) _ spelled

pub returns-in-None : goal.returns-in-None
returns-in-None c =
    let x = c.args.behind.now in
    let d = c.in-Some.state in
    let read = subst (λ (o : Option Suspended). option_map suspended_of o ≡ read_state x.script.now.script c.args.bytes.now) c.in-Some.is c.in_ok-state.ensures.read in
    let spells = subst (λ (o : Option Suspended). FindsSpelled x.script.now.script c.args.bytes.now o) c.in-Some.is c.in_ok-state.ensures.spelled in
    let never = subst (λ (o : Option (List ℕ)). IsSpelledBehind x d o) c.in-None.is c.in_ok-spelled.ensures in
    alone_never x c.args.bytes.now c.root-root.ensures.script d (sym read) spells.stored never
