-- The scripts of a measured run.
use Rattle.std.specs.Prelude.{◌≡◌, List, [], Result, Ok, Err}
use Rattle.script_nodes.specs.Setup.{Named}
use Rattle.setup_reader.specs.declared.setup.Ending.TheVariants.{Input}
use Rattle.setup_reader.specs.Setup.{Parsed, Fault, setup_of}
use Rattle.measured_run.specs.Scripts.{setup_text}

-- the scripts of a setup that was read; none of one that has a fault
abbrev pub scripts_in : Result Parsed Fault → List Named
scripts_in (Ok setup) = setup.scripts
scripts_in (Err fault) = []

-- the scripts of the setup that the text of a measured run spells
unfoldable pub load_scripts : List Named
load_scripts = scripts_in (setup_of Input setup_text)

-- the text of a measured run is read as a setup, which the end of the input ends
abbrev pub IsSetup : Type 0
IsSetup = setup_of Input setup_text ≡ Ok (record { scripts = load_scripts; steps = [] })
