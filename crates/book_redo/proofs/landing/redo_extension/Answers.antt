use Rattle.std.proofs.Common.{◌≤◌, ◌^◌, ℕ, subst, sym, ap, []}
use Rattle.replay_spec.specs.Book.{Book}
use Rattle.instance_book.specs.Views.{no_journal}
use Rattle.script_nodes.specs.Views.{library_of}
use Rattle.book_redo.specs.Redo.{IsAnswered}
use Rattle.book_redo.proofs.Landed.{extension_none, extension_bad, extension_passed, extension_fits, extension_lands}
use Rattle.book_redo.proofs.landing.redo_extension.Goals as goal

pub returns-in-Absent-clause-landed : goal.returns-in-Absent-clause-landed
returns-in-Absent-clause-landed c =
    let l = library_of c.args.library.now in
    let its = subst (IsAnswered l c.args.book.now c.args.instance c.args.page c.args.answer c.args.told c.args.state c.args.again) c.in-Absent.is c.in_ok-comes_to.ensures in
    extension_none l c.args.book.now c.args.instance c.args.page c.args.answer c.args.told c.args.state c.args.again _ c.requires.origin its c.pass_over.ensures.book c.pass_over.ensures.states

pub returns-in-Absent-clause-placed : goal.returns-in-Absent-clause-placed
returns-in-Absent-clause-placed c = c.pass_over.ensures.placed (library_of c.args.library.now).all c.requires.placed

pub returns-in-Misread-clause-landed : goal.returns-in-Misread-clause-landed
returns-in-Misread-clause-landed c =
    let l = library_of c.args.library.now in
    let its = subst (IsAnswered l c.args.book.now c.args.instance c.args.page c.args.answer c.args.told c.args.state c.args.again) c.in-Misread.is c.in_ok-comes_to.ensures in
    extension_bad l c.args.book.now c.args.instance c.args.page c.args.answer c.args.told c.args.state c.args.again c.requires.origin its

pub returns-in-Passed-clause-landed : goal.returns-in-Passed-clause-landed
returns-in-Passed-clause-landed c =
    let l = library_of c.args.library.now in
    let its = subst (IsAnswered l c.args.book.now c.args.instance c.args.page c.args.answer c.args.told c.args.state c.args.again) c.in-Passed.is c.in_ok-comes_to.ensures in
    extension_passed l c.args.book.now c.args.instance c.args.page c.args.answer c.args.told c.args.state c.args.again _ c.requires.origin its c.pass_over-in-Passed.ensures.book c.pass_over-in-Passed.ensures.states

pub returns-in-Passed-clause-placed : goal.returns-in-Passed-clause-placed
returns-in-Passed-clause-placed c = c.pass_over-in-Passed.ensures.placed (library_of c.args.library.now).all c.requires.placed

pub land-requires-clause-room : goal.land-requires-clause-room
land-requires-clause-room c =
    let l = library_of c.args.library.now in
    let x = c.in-Extends.extension in
    let its = subst (IsAnswered l c.args.book.now c.args.instance c.args.page c.args.answer c.args.told c.args.state c.args.again) c.in-Extends.is c.in_ok-comes_to.ensures in
    extension_fits l c.args.book.now c.args.instance c.args.page c.args.answer c.args.told c.args.state c.args.again x its (c.requires.free its.new) c.room_in.new.self c.in_ok-room_in-in-Extends.ensures.book c.in_ok-room_in-in-Extends.ensures.room

pub returns-in_ok-room_in-in-Extends-clause-landed : goal.returns-in_ok-room_in-in-Extends-clause-landed
returns-in_ok-room_in-in-Extends-clause-landed c =
    let l = library_of c.args.library.now in
    let x = c.in-Extends.extension in
    let its = subst (IsAnswered l c.args.book.now c.args.instance c.args.page c.args.answer c.args.told c.args.state c.args.again) c.in-Extends.is c.in_ok-comes_to.ensures in
    extension_lands l c.args.book.now c.args.instance c.args.page c.args.answer c.args.told c.args.state c.args.again x its (c.requires.free its.new) c.requires.origin c.room_in.new.self c.land.new.book
    c.in_ok-room_in-in-Extends.ensures.book c.in_ok-room_in-in-Extends.ensures.states c.land.ensures.book c.land.ensures.states

pub returns-in_ok-room_in-in-Extends-clause-placed : goal.returns-in_ok-room_in-in-Extends-clause-placed
returns-in_ok-room_in-in-Extends-clause-placed c =
    let all = (library_of c.args.library.now).all in
    c.land.ensures.placed all tt (c.in_ok-room_in-in-Extends.ensures.placed all c.requires.placed)

pub returns-in_ok-room_in-in-Extends-clause-low : goal.returns-in_ok-room_in-in-Extends-clause-low
returns-in_ok-room_in-in-Extends-clause-low c below =
    c.land.ensures.low (subst (λ (n : ℕ). n ≤ 2 ^ 62) (sym (ap (λ (b : Book). b.logged) (c.in_ok-room_in-in-Extends.ensures.book (record { all = []; setup = [] }) no_journal))) below)
