use Rattle.script_value.specs.Views.{meaning}
use Rattle.core_syntax.specs.DefinitionsSeen.{cells_of}
use Rattle.core_syntax.proofs.Expanding.{made}
use Rattle.core_syntax.proofs.forms.lay_out.Goals as goal

pub returns-in-Ok-lay_script-clause-script : goal.returns-in-Ok-lay_script-clause-script
returns-in-Ok-lay_script-clause-script c =
    let stands = rw c.as_slice.ensures.value at c.in-Ok-lay_script.ensures in
    let all = made (cells_of c.args.defined.now) (meaning c.args.form.now) c.in-Ok.tree c.args.number c.new-nodes.result c.lay_script.new.nodes c.in-Ok-lay_script.starts
    c.requires c.in-Ok.ensures c.new-nodes.ensures stands in
    all.script

pub returns-in-Ok-lay_script-clause-table : goal.returns-in-Ok-lay_script-clause-table
returns-in-Ok-lay_script-clause-table c =
    let stands = rw c.as_slice.ensures.value at c.in-Ok-lay_script.ensures in
    let all = made (cells_of c.args.defined.now) (meaning c.args.form.now) c.in-Ok.tree c.args.number c.new-nodes.result c.lay_script.new.nodes c.in-Ok-lay_script.starts
    c.requires c.in-Ok.ensures c.new-nodes.ensures stands in
    all.table
