use Rattle.std.proofs.Common.{◌∙◌, ap, sym, Some}
use Rattle.script_nodes.specs.Views.{library_of}
use Rattle.journal_records.specs.Views.{logged_of}
use Rattle.journal_records.specs.declared.records.Logged.{Logged}
use Rattle.audit_spec.specs.Findings.{fault_of}
use Rattle.record_audit.proofs.fault.fault_in.Goals as goal

pub returns-in-Sweep : goal.returns-in-Sweep
returns-in-Sweep c m made =
    c.sweep_fault.ensures (library_of c.args.library.now) c.args.seen.now c.args.format m made
    ∙ ap (λ (l : Logged). fault_of c.args.format m (Some (logged_of l))) (sym c.in-Sweep.is)
