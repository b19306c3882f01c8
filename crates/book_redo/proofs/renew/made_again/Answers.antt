use Rattle.std.proofs.Common.{subst, ℕ, List, Option, refl}
use Rattle.script_nodes.specs.Views.{library_of}
use Rattle.journal_records.specs.Views.{origin_of, page_change}
use Rattle.book_redo.specs.Again.{IsLeftBy}
use Rattle.book_redo.proofs.Comes.{comes_is}
use Rattle.book_redo.proofs.Over.{passed_again, page_number}
use Rattle.book_redo.proofs.Quiet.{again_told}
use Rattle.book_redo.proofs.renew.made_again.Goals as goal

pub returns-in-Some-clause-renewed : goal.returns-in-Some-clause-renewed
returns-in-Some-clause-renewed c =
    let l = library_of c.args.library.now in
    let b = c.args.book.now in
    let r = page_change c.args.page in
    let left = subst (λ (o : Option (List ℕ)). IsLeftBy l b r o) c.in-Some.is c.in_ok-bytes.ensures in
    again_told l b c.args.page c.in-Some.bytes c.told.result (λ state. comes_is l b r c.in-Some.bytes state c.requires.runs left) c.told.ensures.told

pub returns-in-None-clause-renewed : goal.returns-in-None-clause-renewed
returns-in-None-clause-renewed c state =
    let l = library_of c.args.library.now in
    let b = c.args.book.now in
    let p = c.args.page in
    let left = subst (λ (o : Option (List ℕ)). IsLeftBy l b (page_change p) o) c.in-None.is c.in_ok-bytes.ensures in
    ((p.ticket, page_number p (origin_of p.origin) refl), passed_again l b p (origin_of p.origin) state refl left)
