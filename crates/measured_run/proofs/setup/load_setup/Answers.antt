use Rattle.std.proofs.Common.{◌≡◌, ◌∙◌, Err, rules}
use Rattle.setup_reader.specs.declared.setup.Ending.TheVariants.{Input}
use Rattle.setup_reader.specs.Setup.{setup_of}
use Rattle.setup_reader.specs.Views.{fault_of}
use Rattle.measured_run.proofs.Reading.{no_fault, read_scripts}
use Rattle.measured_run.proofs.setup.load_setup.Goals as goal

pub returns-in-Ok-clause-scripts : goal.returns-in-Ok-clause-scripts
returns-in-Ok-clause-scripts c = read_scripts _ _ (c.as_bytes.ensures.value ∙ c.in_ok-text.ensures) c.in-Ok.ensures.value

pub unreachable-requires : goal.unreachable-requires
unreachable-requires c =
    let is : setup_of Input c.as_bytes.result.now ≡ Err (fault_of c.in-Err-At.error) = search rules in
    no_fault _ _ (c.as_bytes.ensures.value ∙ c.in_ok-text.ensures) is
