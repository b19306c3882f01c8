use Rattle.std.proofs.Common.{◌<◌, length, refl, sym, arith}
use Rattle.std.proofs.lemmas.Bool.Decides.{nat_tests}
use Rattle.std.proofs.lemmas.Option.{slice_get_read}
use Rattle.core_syntax.proofs.Ahead.{task_at}
use Rattle.core_syntax.proofs.cell_names.parameters_at.Goals as goal

pub returns-in-Some : goal.returns-in-Some
returns-in-Some c =
    let found = c.in-Some.ensures.lookup in
    let test = found.0 in
    let within : c.args.place < length c.args.tasks.now = grind (arith, nat_tests, test) in
    sym (task_at c.args.tasks.now c.args.place c.in-Some.task.now (slice_get_read c.args.tasks.now (length c.args.tasks.now) c.args.place c.in-Some.task.now refl within found.1))
