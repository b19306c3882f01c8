use Rattle.std.proofs.Common.{◌≡◌, Err, Ok, inl, inr, refl, rules}
use Rattle.setup_reader.specs.declared.setup.Ending.TheVariants.{Input}
use Rattle.setup_reader.specs.Setup.{setup_of}
use Rattle.setup_reader.specs.Views.{fault_of, parsed_of}
use Rattle.server_command.proofs.serving.parse_setup.Goals as goal

pub returns-in-Ok-clause-setup : goal.returns-in-Ok-clause-setup
returns-in-Ok-clause-setup g c =
    let is : setup_of Input c.args.bytes.now ≡ Ok (parsed_of c.in-Ok.parsed) = search rules in
    (parsed_of c.in-Ok.parsed, is, refl)

pub returns-in-Err-At-clause-none : goal.returns-in-Err-At-clause-none
returns-in-Err-At-clause-none g c =
    let is : setup_of Input c.args.bytes.now ≡ Err (fault_of c.in-Err-At.error) = search rules in
    inl (fault_of c.in-Err-At.error, is, c.tell_fault.ensures.line)

pub returns-in-Err-Memory-clause-none : goal.returns-in-Err-Memory-clause-none
returns-in-Err-Memory-clause-none g c = inr (c.no_memory.ensures.status, c.no_memory.ensures.line)
