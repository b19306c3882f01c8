use Rattle.std.proofs.Common.{map}
use Rattle.script_value.specs.Views.{meaning}
use Rattle.sexp_reader.proofs.Exact.{answer_spells, answer_found}
use Rattle.sexp_reader.proofs.reader.read_all.Goals as goal

pub returns-clause-spelled : goal.returns-clause-spelled
returns-clause-spelled c = answer_spells (λ vs. map meaning vs.items) c.args.text.now c.read_text.result c.read_text.ensures.value

pub returns-clause-found : goal.returns-clause-found
returns-clause-found c = answer_found (λ vs. map meaning vs.items) c.args.text.now c.read_text.result c.read_text.ensures.value
