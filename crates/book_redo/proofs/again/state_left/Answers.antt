use Rattle.std.proofs.Common.{subst, Option, IfSome}
use Rattle.script_nodes.specs.Views.{library_of}
use Rattle.journal_records.specs.Views.{page_change}
use Rattle.book_redo.specs.declared.behind.Behind.{Behind}
use Rattle.book_redo.specs.Behind.{TellsBehind, IsStoredFrom, GoesOnOwn}
use Rattle.book_redo.proofs.Left.{comes_if, left_none}
use Rattle.book_redo.proofs.again.state_left.Goals as goal

pub returns-in-None : goal.returns-in-None
returns-in-None c =
    let l = library_of c.args.library.now in
    let b = c.args.book.now in
    let r = page_change c.args.page.now in
    left_none l b r (subst (λ (o : Option Behind). TellsBehind l b r o) c.in-None.is c.in_ok-behind.ensures.told)

pub left_again-requires : goal.left_again-requires
left_again-requires c = subst (λ (o : Option Behind). IfSome o IsStoredFrom) c.in-Some.is c.in_ok-behind.ensures.stored

pub returns-in-Some : goal.returns-in-Some
returns-in-Some c =
    let l = library_of c.args.library.now in
    let b = c.args.book.now in
    let p = c.args.page.now in
    let r = page_change p in
    let own = subst (λ (o : Option Behind). IfSome o (GoesOnOwn l b r)) c.in-Some.is (c.in_ok-behind.ensures.own c.requires.own) in
    comes_if l b p c.in-Some.behind c.left_again.result c.requires.runs own c.left_again.ensures
