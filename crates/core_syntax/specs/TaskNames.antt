-- What contracts see of the names of tasks, and of those that forms define.
use Rattle.std.specs.Prelude.{ℕ, List, map}
use Rattle.script_value.specs.Views.{meaning}
use Rattle.script_value.specs.declared.value.Value.{Value}
use Rattle.core_syntax.specs.declared.cell_names.TaskName.{TaskName}
use Rattle.core_syntax.specs.Names.{CellNames, Task}
use Rattle.core_syntax.specs.Headings.{names_defined}
use Rattle.core_syntax.specs.Definitions.{with_later}

-- a task with its name
abbrev pub task_name : TaskName → Task
task_name t = record { name = t.name.now; parameters = t.parameters }

-- the names that these forms define
abbrev pub names_in : List Value → List (List ℕ)
names_in forms = names_defined (map meaning forms)

-- the names of cells and tasks, with those that these forms define
abbrev pub with_forms : List Value → CellNames → CellNames
with_forms forms cells = with_later (names_in forms) cells
