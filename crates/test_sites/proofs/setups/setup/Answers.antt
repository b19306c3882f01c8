use Rattle.std.proofs.Common.{◌∙◌, ap, sym, option_map}
use Rattle.script_nodes.specs.Views.{scripts_of}
use Rattle.setup_reader.proofs.Retold.{retold}
use Rattle.test_sites.proofs.setups.setup.Goals as goal

pub returns-in-Some : goal.returns-in-Some
returns-in-Some c = retold _ (scripts_of c.in-Some.setup) (sym c.in_ok-setup.ensures ∙ ap (option_map scripts_of) c.in-Some.is)
