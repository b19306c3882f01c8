use Rattle.std.proofs.Common.{subst, Option, IfSome}
use Rattle.script_nodes.specs.Views.{library_of}
use Rattle.journal_records.specs.Views.{page_change}
use Rattle.book_redo.specs.declared.behind.Behind.{Behind}
use Rattle.book_redo.specs.Behind.{TellsBehind, IsStoredFrom}
use Rattle.book_redo.proofs.ToldState.{read_there, read_nowhere}
use Rattle.book_redo.proofs.stored.is_told.Goals as goal

pub returns-in-None : goal.returns-in-None
returns-in-None c =
    let l = library_of c.args.library.now in
    let b = c.args.book.now in
    let r = page_change c.args.page.now in
    read_nowhere l b r c.args.state.now (subst (λ (o : Option Behind). TellsBehind l b r o) c.in-None.is c.in_ok-behind.ensures.told)

pub read_form-requires : goal.read_form-requires
read_form-requires c = subst (λ (o : Option Behind). IfSome o IsStoredFrom) c.in-Some.is c.in_ok-behind.ensures.stored

pub returns-in_ok-told-in-Some : goal.returns-in_ok-told-in-Some
returns-in_ok-told-in-Some c =
    let l = library_of c.args.library.now in
    let b = c.args.book.now in
    let r = page_change c.args.page.now in
    let tells = subst (λ (o : Option Behind). TellsBehind l b r o) c.in-Some.is c.in_ok-behind.ensures.told in
    read_there l b r c.args.state.now c.in-Some.behind c.in_ok-told-in-Some.told c.is_some.result c.is_some.ensures tells c.in_ok-told-in-Some.ensures
