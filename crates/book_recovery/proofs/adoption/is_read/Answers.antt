use Rattle.std.proofs.Common.{List, ℕ, sym, subst, IfOk}
use Rattle.script_nodes.specs.Views.{library_of}
use Rattle.journal_records.specs.Views.{logged_of, page_change}
use Rattle.journal_records.specs.declared.records.Logged.{Logged}
use Rattle.book_redo.specs.Told.{IsReadThere}
use Rattle.book_recovery.specs.Adopting.{IsReadBehind}
use Rattle.book_recovery.proofs.adoption.is_read.Goals as goal

pub returns-in-Page : goal.returns-in-Page
returns-in-Page c =
    let l = library_of c.args.library.now in
    let b = c.args.book.now in
    let told : IfOk c.is_told.result (IsReadThere l b (page_change c.in-Page.page) c.in-Page.state) =
    subst (λ (bytes : List ℕ). IfOk c.is_told.result (IsReadThere l b (page_change c.in-Page.page) bytes)) c.as_slice.ensures c.is_told.ensures in
    subst (λ (x : Logged). IfOk c.is_told.result (IsReadBehind l b (logged_of x))) (sym c.in-Page.is) told
