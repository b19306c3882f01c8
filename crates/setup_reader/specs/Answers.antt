-- That what is spelled is read, and what is wrong told.
use Rattle.std.specs.Prelude.{ℕ, List, Result, Ok, Err}
use Rattle.setup_reader.specs.declared.fault.SetupFault.{SetupFault}
use Rattle.setup_reader.specs.declared.setup.Ending.{Ending}
use Rattle.setup_reader.specs.declared.setup.Parsed.{Parsed}
use Rattle.setup_reader.specs.Sections.{IsSetup}
use Rattle.setup_reader.specs.Setup as spec
use Rattle.setup_reader.specs.Standing.{HasFault}
use Rattle.setup_reader.specs.Views.{Gives, parsed_of}

-- a setup that the input spells is the answer, unless memory ran out
abbrev pub FindsSpelled : Ending → List ℕ → Result Parsed SetupFault → Type 0
FindsSpelled ending input result = (wanted : spec.Parsed) → IsSetup ending input wanted → Gives parsed_of result (Ok wanted)

-- a fault that the input has first is the answer, unless memory ran out
abbrev pub TellsFirst : Ending → List ℕ → Result Parsed SetupFault → Type 0
TellsFirst ending input result = (wanted : spec.Fault) → HasFault ending input wanted → Gives parsed_of result (Err wanted)
