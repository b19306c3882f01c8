use Rattle.std.proofs.Common.{◌≡◌, ◌∙◌, ap, sym, subst, ℕ, Some, option_map, IfOk}
use Rattle.script_nodes.specs.Views.{library_of}
use Rattle.replay_spec.specs.Invariant.{Among}
use Rattle.replay_spec.proofs.Stand.{orderly_less}
use Rattle.book_recovery.specs.InstanceBook.declared.in_order.InOrder.{InOrder}
use Rattle.book_recovery.specs.InstanceBook.Standing.{book_under}
use Rattle.journal_records.specs.Old.{read_record_in}
use Rattle.journal_records.specs.Views.{logged_of}
use Rattle.book_recovery.specs.JournalSpec.Before.{state_at}
use Rattle.book_recovery.specs.declared.found.Found.{Found}
use Rattle.book_recovery.specs.Reading.{seen_by, IsKept}
use Rattle.book_recovery.proofs.Took.{whole_by}
use Rattle.record_audit.specs.Faults.{IsFaultIn}
use Rattle.page_audit.proofs.Looking.{owns_if, word_if}
use Rattle.page_audit.proofs.auditor.Auditor.word.Goals as goal

pub fault_in-requires-clause-kept : goal.fault_in-requires-clause-kept
fault_in-requires-clause-kept c =
    let r = c.args.self.now.reader in
    let way = subst (λ (f : Found). IsKept r.shelf r.alone r.seen f) (sym c.found.ensures.found ∙ c.in-Made.is) c.found.ensures.sound.kept in
    ((λ n. state_at n way.tells.0.states), way.tells.1.states)

pub fault_in-requires-clause-runs : goal.fault_in-requires-clause-runs
fault_in-requires-clause-runs c =
    let r = c.args.self.now.reader in
    let way = subst (λ (f : Found). IsKept r.shelf r.alone r.seen f) (sym c.found.ensures.found ∙ c.in-Made.is) c.found.ensures.sound.kept in
    let l = library_of c.in-Made.library in
    record {
      whole = whole_by r.shelf r.alone r.seen c.in-Made.book l way;
      orderly = orderly_less (λ (n : ℕ). Among n (seen_by r.seen) → ⊥) (λ (n : ℕ). ⊥) (book_under l c.in-Made.book).instances (λ n no. absurd no) way.orderly.instances;
    }

pub returns-in-Some-clause-owns : goal.returns-in-Some-clause-owns
returns-in-Some-clause-owns c =
    let r = c.args.self.now.reader in
    let format = c.args.self.now.format in
    let reads : read_record_in format c.args.body.now ≡ Some (logged_of c.in-Some.logged) =
    sym c.in_ok-logged.ensures.read ∙ ap (option_map logged_of) c.in-Some.is in
    owns_if format r.shelf r.alone r.seen r.found c.args.body.now c.fault_in.result c.found.ensures.sound.kept
    (word_if format r.seen r.found c.in-Made.book c.in-Made.library c.args.body.now (logged_of c.in-Some.logged) c.fault_in.result (sym c.found.ensures.found ∙ c.in-Made.is) reads
    (subst (λ (seen : InOrder (Unit {0})). IfOk c.fault_in.result (IsFaultIn format (library_of c.in-Made.library) seen c.in-Made.book (logged_of c.in-Some.logged))) c.seen.ensures.seen
    c.fault_in.ensures))
