use Rattle.std.proofs.Common.{◌≡◌, subst, None}
use Rattle.std.specs.Prelude.{slice_get}
use Rattle.script_nodes.specs.Views.{library_of, named_of}
use Rattle.frame_codec.specs.Forms.{read_form}
use Rattle.instance_book.specs.Places.{arena_of}
use Rattle.instance_book.specs.Standing.{BeginsAt}
use Rattle.book_redo.specs.Redo.{IsBeginning, IsStateTold}
use Rattle.book_redo.proofs.Passed.{of_some, of_none}
use Rattle.book_redo.proofs.Landed.{begins_low, opening_none, opening_bad, opening_seen, opening_lands}
use Rattle.book_redo.proofs.landing.redo_opening.Goals as goal

pub returns-in_default-clause-landed : goal.returns-in_default-clause-landed
returns-in_default-clause-landed c =
    let l = library_of c.args.library.now in
    let none : slice_get l.setup c.args.script ≡ None = subst (IsBeginning l c.args.script) c.in_default.is c.start_of.ensures in
    opening_none l c.args.book.now c.args.script c.args.told c.args.state c.args.again _ c.requires.start none c.pass_over.ensures.book c.pass_over.ensures.states

pub returns-in_default-clause-placed : goal.returns-in_default-clause-placed
returns-in_default-clause-placed c = c.pass_over.ensures.placed (library_of c.args.library.now).all c.requires.placed

pub returns-in_default-2-clause-landed : goal.returns-in_default-2-clause-landed
returns-in_default-2-clause-landed c =
    let l = library_of c.args.library.now in
    let x = c.in-Some.begins in
    let starts : BeginsAt l c.args.script x.place (named_of x.script.now) = subst (IsBeginning l c.args.script) c.in-Some.is c.start_of.ensures in
    opening_bad l c.args.book.now c.args.script c.args.told c.args.state c.args.again x.place (named_of x.script.now) starts c.requires.start
    (of_none _ (read_form (arena_of (named_of x.script.now).script) None c.args.state ≡ None) c.in_default-2.is c.in_ok-page.ensures.none)

pub returns-then-again-clause-landed : goal.returns-then-again-clause-landed
returns-then-again-clause-landed c =
    let l = library_of c.args.library.now in
    let x = c.in-Some.begins in
    let s = named_of x.script.now in
    let starts : BeginsAt l c.args.script x.place s = subst (IsBeginning l c.args.script) c.in-Some.is c.start_of.ensures in
    opening_seen l c.args.book.now c.args.script c.args.told c.args.state c.args.again x.place s starts c.in-Some-2.page
    (of_some _ c.in-Some-2.page (IsStateTold (arena_of s.script) None 0 c.args.state) c.in-Some-2.is c.in_ok-page.ensures.some) _ c.if-again.true
    c.requires.start c.pass_over-then-again.ensures.book c.pass_over-then-again.ensures.states

pub returns-then-again-clause-placed : goal.returns-then-again-clause-placed
returns-then-again-clause-placed c = c.pass_over-then-again.ensures.placed (library_of c.args.library.now).all c.requires.placed

pub returns-clause-landed : goal.returns-clause-landed
returns-clause-landed c =
    let l = library_of c.args.library.now in
    let x = c.in-Some.begins in
    let s = named_of x.script.now in
    let starts : BeginsAt l c.args.script x.place s = subst (IsBeginning l c.args.script) c.in-Some.is c.start_of.ensures in
    opening_lands l c.args.book.now c.args.script c.args.told c.args.state c.args.again x.place s starts c.in-Some-2.page
    (of_some _ c.in-Some-2.page (IsStateTold (arena_of s.script) None 0 c.args.state) c.in-Some-2.is c.in_ok-page.ensures.some) _ c.if-again.false
    c.requires.start c.in_ok-open.ensures.opens c.in_ok-open.ensures.states

pub returns-clause-placed : goal.returns-clause-placed
returns-clause-placed c =
    let l = library_of c.args.library.now in
    let x = c.in-Some.begins in
    let starts : BeginsAt l c.args.script x.place (named_of x.script.now) = subst (IsBeginning l c.args.script) c.in-Some.is c.start_of.ensures in
    c.in_ok-open.ensures.placed l.all (begins_low l c.args.script x.place (named_of x.script.now) starts) c.requires.placed
