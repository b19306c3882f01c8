use Rattle.std.proofs.Common.{◌≡◌, ◌∙◌, ap, sym, ℕ, true, false, Some}
use Rattle.script_nodes.specs.Views.{library_of}
use Rattle.replay_spec.specs.Recovery.{number_in, is_repeated}
use Rattle.book_redo.specs.InstanceBook.Standing.{book_under}
use Rattle.journal_records.specs.Views.{page_change}
use Rattle.audit_spec.specs.Tests.{goes_on, is_admitted, runs_so, least_go, is_due, is_in_time, tells_own}
use Rattle.record_audit.proofs.Words.{at_run, at_evicted, at_deadline, at_state, at_none}
use Rattle.record_audit.proofs.Beside.{alike, repeated}
use Rattle.record_audit.proofs.Pages.{page_goes, page_time, its_number}
use Rattle.record_audit.proofs.fault.page_fault.Goals as goal

pub returns-then-not-branch : goal.returns-then-not-branch
returns-then-not-branch c m made =
    let library = library_of c.args.library.now in
    let seen = c.args.seen.now in
    let b = c.args.book.now in
    let page = c.args.page.now in
    let ch = page_change page in
    let state = Some c.args.state.now in
    let like = alike library seen b m ch made in
    let goes : goes_on m.book ch ≡ true = like.goes ∙ page_goes (book_under library b) page in
    let new : is_repeated (number_in ch) m.earlier.seen ≡ false = repeated library seen b m ch page.ticket false made (its_number page) (sym c.if-has.ensures) in
    let admitted : is_admitted m.book ch ≡ true = like.admitted ∙ sym c.if-not-is_admitted.ensures in
    let runs : runs_so m.book ch ≡ false = like.runs ∙ (sym c.in_ok-page_runs_so.ensures ∙ c.if-not-branch.true) in
    sym (at_run c.args.format m ch state goes new admitted runs)

pub returns-then-not-branch-2 : goal.returns-then-not-branch-2
returns-then-not-branch-2 c m made =
    let library = library_of c.args.library.now in
    let seen = c.args.seen.now in
    let b = c.args.book.now in
    let page = c.args.page.now in
    let ch = page_change page in
    let state = Some c.args.state.now in
    let like = alike library seen b m ch made in
    let goes : goes_on m.book ch ≡ true = like.goes ∙ page_goes (book_under library b) page in
    let new : is_repeated (number_in ch) m.earlier.seen ≡ false = repeated library seen b m ch page.ticket false made (its_number page) (sym c.if-has.ensures) in
    let admitted : is_admitted m.book ch ≡ true = like.admitted ∙ sym c.if-not-is_admitted.ensures in
    let runs : runs_so m.book ch ≡ true = like.runs ∙ (sym c.in_ok-page_runs_so.ensures ∙ c.if-not-branch.false) in
    let least : least_go m.book ch ≡ false = like.least ∙ (sym c.in_ok-least_go.ensures ∙ c.if-not-branch-2.true) in
    sym (at_evicted c.args.format m ch state goes new admitted runs least)

pub returns-then-not-is_due : goal.returns-then-not-is_due
returns-then-not-is_due c m made =
    let library = library_of c.args.library.now in
    let seen = c.args.seen.now in
    let b = c.args.book.now in
    let page = c.args.page.now in
    let ch = page_change page in
    let state = Some c.args.state.now in
    let like = alike library seen b m ch made in
    let goes : goes_on m.book ch ≡ true = like.goes ∙ page_goes (book_under library b) page in
    let new : is_repeated (number_in ch) m.earlier.seen ≡ false = repeated library seen b m ch page.ticket false made (its_number page) (sym c.if-has.ensures) in
    let admitted : is_admitted m.book ch ≡ true = like.admitted ∙ sym c.if-not-is_admitted.ensures in
    let runs : runs_so m.book ch ≡ true = like.runs ∙ (sym c.in_ok-page_runs_so.ensures ∙ c.if-not-branch.false) in
    let least : least_go m.book ch ≡ true = like.least ∙ (sym c.in_ok-least_go.ensures ∙ c.if-not-branch-2.false) in
    let time : is_in_time m.book ch ≡ false =
    like.time ∙ (page_time (book_under library b) page ∙ (ap (λ (n : ℕ). is_due n page.deadline) (sym c.clock.ensures.clock) ∙ sym c.if-not-is_due.ensures)) in
    sym (at_deadline c.args.format m ch state goes new admitted runs least time)

pub returns-then-not-branch-3 : goal.returns-then-not-branch-3
returns-then-not-branch-3 c m made =
    let library = library_of c.args.library.now in
    let seen = c.args.seen.now in
    let b = c.args.book.now in
    let page = c.args.page.now in
    let ch = page_change page in
    let state = Some c.args.state.now in
    let like = alike library seen b m ch made in
    let goes : goes_on m.book ch ≡ true = like.goes ∙ page_goes (book_under library b) page in
    let new : is_repeated (number_in ch) m.earlier.seen ≡ false = repeated library seen b m ch page.ticket false made (its_number page) (sym c.if-has.ensures) in
    let admitted : is_admitted m.book ch ≡ true = like.admitted ∙ sym c.if-not-is_admitted.ensures in
    let runs : runs_so m.book ch ≡ true = like.runs ∙ (sym c.in_ok-page_runs_so.ensures ∙ c.if-not-branch.false) in
    let least : least_go m.book ch ≡ true = like.least ∙ (sym c.in_ok-least_go.ensures ∙ c.if-not-branch-2.false) in
    let time : is_in_time m.book ch ≡ true =
    like.time ∙ (page_time (book_under library b) page ∙ (ap (λ (n : ℕ). is_due n page.deadline) (sym c.clock.ensures.clock) ∙ sym c.if-not-is_due.ensures)) in
    let tells : tells_own c.args.format m ch state ≡ false = sym (c.in_ok-tells_own.ensures m made.beside made.book made.states) ∙ c.if-not-branch-3.true in
    sym (at_state c.args.format m ch state goes new admitted runs least time tells)

pub returns : goal.returns
returns c m made =
    let library = library_of c.args.library.now in
    let seen = c.args.seen.now in
    let b = c.args.book.now in
    let page = c.args.page.now in
    let ch = page_change page in
    let state = Some c.args.state.now in
    let like = alike library seen b m ch made in
    let goes : goes_on m.book ch ≡ true = like.goes ∙ page_goes (book_under library b) page in
    let new : is_repeated (number_in ch) m.earlier.seen ≡ false = repeated library seen b m ch page.ticket false made (its_number page) (sym c.if-has.ensures) in
    let admitted : is_admitted m.book ch ≡ true = like.admitted ∙ sym c.if-not-is_admitted.ensures in
    let runs : runs_so m.book ch ≡ true = like.runs ∙ (sym c.in_ok-page_runs_so.ensures ∙ c.if-not-branch.false) in
    let least : least_go m.book ch ≡ true = like.least ∙ (sym c.in_ok-least_go.ensures ∙ c.if-not-branch-2.false) in
    let time : is_in_time m.book ch ≡ true =
    like.time ∙ (page_time (book_under library b) page ∙ (ap (λ (n : ℕ). is_due n page.deadline) (sym c.clock.ensures.clock) ∙ sym c.if-not-is_due.ensures)) in
    let tells : tells_own c.args.format m ch state ≡ true = sym (c.in_ok-tells_own.ensures m made.beside made.book made.states) ∙ c.if-not-branch-3.false in
    sym (at_none c.args.format m ch state goes new admitted runs least time tells)
