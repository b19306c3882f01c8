use Rattle.std.proofs.Common.{Err, rules, ◌≡◌, Some}
use Rattle.setup_reader.specs.Setup as spec
use Rattle.setup_reader.specs.Views.{piece_of}
use Rattle.setup_reader.proofs.Sections.{section_shorter}
use Rattle.setup_reader.specs.declared.fault.SetupFault.TheVariants.{Memory}
use Rattle.setup_reader.proofs.Standing.{has_text, same_error}
use Rattle.setup_reader.proofs.setup.script_at.Goals as goal

pub returns-clause-shorter : goal.returns-clause-shorter
returns-clause-shorter c =
    let found : spec.section_in c.args.rest.now ≡ Some (piece_of c.in-Some.section) = search rules in
    section_shorter c.args.rest.now (piece_of c.in-Some.section) found

pub returns-in_err-script-clause-memory : goal.returns-in_err-script-clause-memory
returns-in_err-script-clause-memory c = λ h.
    let found : spec.section_in c.args.rest.now ≡ Some (piece_of c.in-Some.section) = search rules in
    let told : c.from_residual.result ≡ Err c.in_err-script.field-0.0 = search rules in
    has_text c.args.rest.now (piece_of c.in-Some.section) found (c.in_err-script.ensures.memory (same_error c.in_err-script.field-0.0 Memory c.from_residual.result told h))
