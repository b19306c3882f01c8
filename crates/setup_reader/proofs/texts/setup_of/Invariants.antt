use Rattle.std.proofs.Common.{◌≡◌, drop, map}
use Rattle.script_nodes.specs.Views.{scripts_of}
use Rattle.setup_reader.specs.Texts.{setup_of_texts}
use Rattle.setup_reader.specs.Views.{told_of}
use Rattle.setup_reader.proofs.Retold.{read_behind}
use Rattle.setup_reader.proofs.texts.setup_of.Given as goal

abbrev pub invariant-loop-told : goal.invariant-loop-told
invariant-loop-told l = read_behind (scripts_of l.setup) (map told_of (drop l.told-index l.texts)) ≡ setup_of_texts (map told_of l.texts)
