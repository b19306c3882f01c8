use Rattle.std.proofs.Common.{subst, Option, IfSome}
use Rattle.script_nodes.specs.Views.{library_of}
use Rattle.journal_records.specs.Views.{page_change}
use Rattle.book_redo.specs.declared.behind.Behind.{Behind}
use Rattle.book_redo.specs.Behind.{TellsBehind, IsStoredFrom}
use Rattle.book_redo.proofs.ToldState.{told_none, told_if}
use Rattle.book_redo.proofs.stored.told_state.Goals as goal

pub returns-in-None : goal.returns-in-None
returns-in-None c =
    let l = library_of c.args.library.now in
    let b = c.args.book.now in
    let r = page_change c.args.page.now in
    told_none c.args.format l b r c.args.state.now (subst (λ (o : Option Behind). TellsBehind l b r o) c.in-None.is c.in_ok-behind.ensures.told)

pub read_at-requires : goal.read_at-requires
read_at-requires c = subst (λ (o : Option Behind). IfSome o IsStoredFrom) c.in-Some.is c.in_ok-behind.ensures.stored

pub returns-in-Some : goal.returns-in-Some
returns-in-Some c =
    let l = library_of c.args.library.now in
    let b = c.args.book.now in
    let r = page_change c.args.page.now in
    let tells = subst (λ (o : Option Behind). TellsBehind l b r o) c.in-Some.is c.in_ok-behind.ensures.told in
    told_if c.args.format l b r c.args.state.now c.in-Some.behind c.read_at.result tells c.read_at.ensures
