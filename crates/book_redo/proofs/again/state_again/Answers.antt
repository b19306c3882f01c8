use Rattle.std.proofs.Common.{subst, List, ℕ, Option, IfSome, refl}
use Rattle.script_nodes.specs.Views.{library_of}
use Rattle.journal_records.specs.Views.{origin_of, page_change}
use Rattle.machine_states.specs.declared.frame.Suspended.{Suspended}
use Rattle.book_redo.specs.declared.behind.Behind.{Behind}
use Rattle.book_redo.specs.Again.{ComesTo}
use Rattle.book_redo.specs.Behind.{TellsBehind, GoesOnOwn, IsSpelledBehind}
use Rattle.book_redo.specs.Runs.{RunsFrom}
use Rattle.book_redo.proofs.Left.{comes_of, left_none, left_told}
use Rattle.book_redo.proofs.again.state_again.Goals as goal

pub returns-in_default : goal.returns-in_default
returns-in_default c =
    let l = library_of c.args.library.now in
    let b = c.args.book.now in
    let r = page_change c.args.page.now in
    left_none l b r (subst (λ (o : Option Behind). TellsBehind l b r o) c.in_default.is c.in_ok-behind.ensures.told)

pub left_again-requires : goal.left_again-requires
left_again-requires c =
    let l = library_of c.args.library.now in
    let b = c.args.book.now in
    let r = page_change c.args.page.now in
    let own = subst (λ (o : Option Behind). IfSome o (GoesOnOwn l b r)) c.in-Some.is (c.in_ok-behind.ensures.own c.requires.own) in
    own.stored

pub returns-in_default-2 : goal.returns-in_default-2
returns-in_default-2 c =
    let l = library_of c.args.library.now in
    let b = c.args.book.now in
    let p = c.args.page.now in
    let r = page_change p in
    let x = c.in-Some.behind in
    let own = subst (λ (o : Option Behind). IfSome o (GoesOnOwn l b r)) c.in-Some.is (c.in_ok-behind.ensures.own c.requires.own) in
    let runs = subst (λ (o : Option Suspended). RunsFrom x b p (origin_of p.origin) o) c.in_default-2.is c.in_ok-state.ensures in
    comes_of l b p (origin_of p.origin) x _ refl c.requires.runs own runs

pub returns-in-Some-3 : goal.returns-in-Some-3
returns-in-Some-3 c =
    let l = library_of c.args.library.now in
    let b = c.args.book.now in
    let p = c.args.page.now in
    let r = page_change p in
    let x = c.in-Some.behind in
    let tells = subst (λ (o : Option Behind). TellsBehind l b r o) c.in-Some.is c.in_ok-behind.ensures.told in
    let own = subst (λ (o : Option Behind). IfSome o (GoesOnOwn l b r)) c.in-Some.is (c.in_ok-behind.ensures.own c.requires.own) in
    let comes = comes_of l b p (origin_of p.origin) x c.in_ok-state.field-0 refl c.requires.runs own c.in_ok-state.ensures in
    let here = subst (λ (o : Option Suspended). ComesTo l b r o) c.in-Some-2.is comes in
    let spelled = subst (λ (o : Option (List ℕ)). IsSpelledBehind x c.in-Some-2.state o) c.in-Some-3.is c.in_ok-bytes.ensures in
    left_told l b r x c.in-Some-2.state c.in-Some-3.bytes tells own here spelled
