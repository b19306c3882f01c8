use Rattle.std.proofs.Common.{subst, Bool}
use Rattle.script_nodes.specs.Views.{library_of}
use Rattle.journal_records.specs.Views.{logged_of}
use Rattle.book_redo.specs.Redo.{IsLandedRecord}
use Rattle.book_redo.proofs.Redone.{misread_by, reopened_by}
use Rattle.book_redo.proofs.landing.redo.Goals as goal

pub returns-then-not-branch-clause-redone : goal.returns-then-not-branch-clause-redone
returns-then-not-branch-clause-redone c =
    let l = library_of c.args.library.now in
    misread_by l (logged_of c.args.logged) c.args.again c.args.book.now c.redo_record.new.book
    (subst (λ (t : Bool). IsLandedRecord l (logged_of c.args.logged) c.args.again t c.args.book.now c.redo_record.new.book) c.if-not-branch.true c.in_ok-redo_record.ensures.landed)

pub returns-clause-redone : goal.returns-clause-redone
returns-clause-redone c =
    let l = library_of c.args.library.now in
    reopened_by l (logged_of c.args.logged) c.args.again c.args.book.now c.redo_record.new.book _
    (subst (λ (t : Bool). IsLandedRecord l (logged_of c.args.logged) c.args.again t c.args.book.now c.redo_record.new.book) c.if-not-branch.false c.in_ok-redo_record.ensures.landed)
    c.reopen.ensures.book

pub returns-clause-placed : goal.returns-clause-placed
returns-clause-placed c = c.reopen.ensures.placed (library_of c.args.library.now).all c.in_ok-redo_record.ensures.placed
