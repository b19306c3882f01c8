use Rattle.std.proofs.Common.{◌≡◌, sym, ap, subst, Bool, true, false, None}
use Rattle.script_nodes.specs.Views.{library_of}
use Rattle.replay_spec.specs.Book.{sweeps}
use Rattle.journal_records.specs.Views.{logged_of}
use Rattle.journal_records.specs.declared.records.Logged.{Logged}
use Rattle.book_redo.specs.Redo.{number_by, IsLanded, IsLandedRecord}
use Rattle.book_redo.proofs.landing.redo_record.Goals as goal

pub returns-in-Ended-clause-landed : goal.returns-in-Ended-clause-landed
returns-in-Ended-clause-landed c =
    let l = library_of c.args.library.now in
    subst (λ (r : Logged). IsLandedRecord l (logged_of r) c.args.again true c.args.book.now c.redo_ending.new.book) (sym c.in-Ended.is) (c.in_ok-redo_ending-in-Ended.ensures.landed l)

pub returns-in-Ended-clause-placed : goal.returns-in-Ended-clause-placed
returns-in-Ended-clause-placed c = c.in_ok-redo_ending-in-Ended.ensures.placed (library_of c.args.library.now).all c.requires.placed

pub returns-in-Finish-clause-landed : goal.returns-in-Finish-clause-landed
returns-in-Finish-clause-landed c =
    let l = library_of c.args.library.now in
    subst (λ (r : Logged). IsLandedRecord l (logged_of r) c.args.again true c.args.book.now c.redo_finish.new.book) (sym c.in-Finish.is) (c.redo_finish.ensures.landed l)

pub returns-in-Finish-clause-placed : goal.returns-in-Finish-clause-placed
returns-in-Finish-clause-placed c = c.redo_finish.ensures.placed (library_of c.args.library.now).all c.requires.placed

pub returns-in-Sweep-clause-landed : goal.returns-in-Sweep-clause-landed
returns-in-Sweep-clause-landed c =
    let l = library_of c.args.library.now in
    let again_is : c.args.again ≡ false = c.requires.unnumbered (ap (λ (r : Logged). number_by (logged_of r)) c.in-Sweep.is) in
    subst (λ (r : Logged). IsLandedRecord l (logged_of r) c.args.again true c.args.book.now c.redo_sweep.new.book) (sym c.in-Sweep.is)
    (subst (λ (t : Bool). IsLanded l (sweeps c.in-Sweep.clock) None t true c.args.book.now c.redo_sweep.new.book) (sym again_is) (c.redo_sweep.ensures.landed l))

pub returns-in-Sweep-clause-placed : goal.returns-in-Sweep-clause-placed
returns-in-Sweep-clause-placed c = c.redo_sweep.ensures.placed (library_of c.args.library.now).all c.requires.placed

pub returns-in-Drawn-clause-placed : goal.returns-in-Drawn-clause-placed
returns-in-Drawn-clause-placed c = c.redo_drawn.ensures.placed (library_of c.args.library.now).all c.requires.placed
