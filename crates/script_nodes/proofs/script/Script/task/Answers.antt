use Rattle.std.proofs.Common.{◌<◌, length}
use Rattle.std.proofs.lemmas.Option.{slice_get-get_or}
use Rattle.script_nodes.proofs.Scripts.{task_within}
use Rattle.script_nodes.proofs.script.Script.task.Goals as goal

pub returns-clause-within : goal.returns-clause-within
returns-clause-within c =
    let within : c.args.task < length c.self.inside.tasks = rw (← c.self.view_is) at c.requires in
    let here = slice_get-get_or c.self.inside.tasks c.args.task 0 within in
    rw (c.as_slice.ensures, ← c.self.view_is) (task_within _ c.self.invariant c.args.task _ here)
