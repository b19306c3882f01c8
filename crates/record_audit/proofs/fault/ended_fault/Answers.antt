use Rattle.std.proofs.Common.{◌≡◌, ◌∙◌, sym, true, false, None, refl}
use Rattle.script_nodes.specs.Views.{library_of}
use Rattle.replay_spec.specs.Book.{ends}
use Rattle.replay_spec.specs.Recovery.{number_in, is_repeated}
use Rattle.journal_records.specs.Views.{ending_of}
use Rattle.audit_spec.specs.Tests.{is_admitted, runs_so}
use Rattle.record_audit.proofs.Words.{at_run, at_none}
use Rattle.record_audit.proofs.Beside.{alike, repeated}
use Rattle.record_audit.proofs.Pages.{no_state}
use Rattle.record_audit.proofs.fault.ended_fault.Goals as goal

pub returns-then-not-branch : goal.returns-then-not-branch
returns-then-not-branch c format m made =
    let library = library_of c.args.library.now in
    let seen = c.args.seen.now in
    let b = c.args.book.now in
    let told = c.args.ended.now in
    let ch = ends (ending_of told) in
    let like = alike library seen b m ch made in
    let new : is_repeated (number_in ch) m.earlier.seen ≡ false = repeated library seen b m ch told.ticket false made refl (sym c.if-has.ensures) in
    let admitted : is_admitted m.book ch ≡ true = like.admitted ∙ sym c.if-not-can_be_answered.ensures in
    let runs : runs_so m.book ch ≡ false = like.runs ∙ (sym c.in_ok-ended_runs_so.ensures ∙ c.if-not-branch.true) in
    sym (at_run format m ch None refl new admitted runs)

pub returns : goal.returns
returns c format m made =
    let library = library_of c.args.library.now in
    let seen = c.args.seen.now in
    let b = c.args.book.now in
    let told = c.args.ended.now in
    let ch = ends (ending_of told) in
    let like = alike library seen b m ch made in
    let new : is_repeated (number_in ch) m.earlier.seen ≡ false = repeated library seen b m ch told.ticket false made refl (sym c.if-has.ensures) in
    let admitted : is_admitted m.book ch ≡ true = like.admitted ∙ sym c.if-not-can_be_answered.ensures in
    let runs : runs_so m.book ch ≡ true = like.runs ∙ (sym c.in_ok-ended_runs_so.ensures ∙ c.if-not-branch.false) in
    sym (at_none format m ch None refl new admitted runs refl refl (no_state format m ch tt))
