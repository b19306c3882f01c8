use Rattle.std.proofs.Common.{◌≡◌, ◌∙◌, ap, sym, subst, List, [], ℕ, Option, Some, option_map, refl, arith}
use Rattle.script_nodes.specs.Arena.{Arena}
use Rattle.script_nodes.specs.Views.{library_of}
use Rattle.journal_records.specs.Views.{page_change}
use Rattle.machine_states.specs.Views.{suspended_of}
use Rattle.machine_states.specs.declared.frame.Suspended.{Suspended}
use Rattle.frame_codec.specs.Stored.{IsStored}
use Rattle.frame_codec.specs.Reading.{read_state}
use Rattle.frame_codec.specs.Views.{FindsSpelled}
use Rattle.instance_book.proofs.Behind.{arena_again}
use Rattle.book_redo.specs.declared.behind.Behind.{Behind}
use Rattle.book_redo.specs.Behind.{TellsBehind, IsSpelledBehind}
use Rattle.journal_records.proofs.OtherStates.{change_with}
use Rattle.book_redo.proofs.Quiet.{told_if}
use Rattle.book_redo.proofs.Anew.{unread_is}
use Rattle.book_redo.proofs.Respelled.{unread_outside, untold_outside, told_anew}
use Rattle.book_redo.proofs.renew.respelled.Goals as goal

pub returns-in_default-clause-renewed : goal.returns-in_default-clause-renewed
returns-in_default-clause-renewed c =
    let l = library_of c.args.library.now in
    let b = c.args.book.now in
    let r = page_change c.args.page in
    let none = subst (λ (o : Option Behind). TellsBehind l b r o) c.in_default.is c.in_ok-behind.ensures.told in
    (Some c.args.state, (refl, unread_is l b r (Some c.args.state) none))

pub returns-in_default-2-clause-renewed : goal.returns-in_default-2-clause-renewed
returns-in_default-2-clause-renewed c =
    let l = library_of c.args.library.now in
    let b = c.args.book.now in
    let r = page_change c.args.page in
    let x = c.in-Some.behind in
    let tells = subst (λ (o : Option Behind). TellsBehind l b r o) c.in-Some.is c.in_ok-behind.ensures.told in
    let read = subst (λ (o : Option Suspended). option_map suspended_of o ≡ read_state x.script.now.script c.as_slice.result.now) c.in_default-2.is c.in_ok-state.ensures.read in
    unread_outside l b r x c.args.state c.root-root.ensures.script tells (sym (read ∙ ap (read_state x.script.now.script) c.as_slice.ensures))

pub returns-in-Some-3-clause-renewed : goal.returns-in-Some-3-clause-renewed
returns-in-Some-3-clause-renewed c =
    let l = library_of c.args.library.now in
    let b = c.args.book.now in
    let r = page_change c.args.page in
    let x = c.in-Some.behind in
    let a = x.script.now.script in
    let d = c.in-Some-2.state in
    let tells = subst (λ (o : Option Behind). TellsBehind l b r o) c.in-Some.is c.in_ok-behind.ensures.told in
    let read = subst (λ (o : Option Suspended). option_map suspended_of o ≡ read_state a c.as_slice.result.now) c.in-Some-2.is c.in_ok-state.ensures.read in
    let spells = subst (λ (o : Option Suspended). FindsSpelled a c.as_slice.result.now o) c.in-Some-2.is c.in_ok-state.ensures.spelled in
    let spelled = subst (λ (o : Option (List ℕ)). IsSpelledBehind x d o) c.in-Some-3.is c.in_ok-bytes.ensures in
    let stored = subst (λ (y : Arena). IsStored y (suspended_of d)) (sym (arena_again a c.root-root.ensures.script)) spells.stored in
    told_if 2 l b c.args.page c.in-Some-3.bytes (Some c.args.state) c.told.result
    (told_anew l b r x c.args.state c.root-root.ensures.script tells d c.in-Some-3.bytes (sym (read ∙ ap (read_state a) c.as_slice.ensures)) stored spelled) c.told.ensures.told

pub returns-in-None-clause-renewed : goal.returns-in-None-clause-renewed
returns-in-None-clause-renewed c =
    let l = library_of c.args.library.now in
    let b = c.args.book.now in
    let r = page_change c.args.page in
    let x = c.in-Some.behind in
    let a = x.script.now.script in
    let d = c.in-Some-2.state in
    let tells = subst (λ (o : Option Behind). TellsBehind l b r o) c.in-Some.is c.in_ok-behind.ensures.told in
    let read = subst (λ (o : Option Suspended). option_map suspended_of o ≡ read_state a c.as_slice.result.now) c.in-Some-2.is c.in_ok-state.ensures.read in
    let spells = subst (λ (o : Option Suspended). FindsSpelled a c.as_slice.result.now o) c.in-Some-2.is c.in_ok-state.ensures.spelled in
    let never = subst (λ (o : Option (List ℕ)). IsSpelledBehind x d o) c.in-None.is c.in_ok-bytes.ensures in
    untold_outside l b r x c.args.state c.root-root.ensures.script tells d (sym (read ∙ ap (read_state a) c.as_slice.ensures)) spells.stored never

pub told-requires : goal.told-requires
told-requires c = record { fits = change_with (page_change c.args.page) c.args.state [] c.requires.fits (omega arith) }
