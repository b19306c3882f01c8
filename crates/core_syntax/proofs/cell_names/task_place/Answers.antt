use Rattle.std.proofs.Common.{sym, ap, ◌∙◌}
use Rattle.std.specs.Str.{bytes_eq}
use Rattle.script_nodes.proofs.Places.{position_map}
use Rattle.core_syntax.specs.Names.{Task, place_in}
use Rattle.core_syntax.specs.TaskNames.{task_name}
use Rattle.core_syntax.proofs.Parts.{map_twice}
use Rattle.core_syntax.proofs.cell_names.task_place.Goals as goal

pub returns : goal.returns
returns c =
    c.first_task.ensures ∙ (sym (position_map (bytes_eq c.args.name.now) (λ t. t.name.now) c.args.tasks.now)
    ∙ ap (λ xs. place_in xs c.args.name.now) (sym (map_twice (λ (t : Task). t.name) task_name c.args.tasks.now)))
