-- How large a script may be.
use Rattle.std.specs.Prelude.{ℕ}

-- how many cells a script may have
abbrev pub most_cells : ℕ
most_cells = 64

-- how many tasks a script may have
abbrev pub most_tasks : ℕ
most_tasks = 16

-- how many parameters a task may have
abbrev pub most_parameters : ℕ
most_parameters = 16

-- how many nodes a script may have
abbrev pub most_nodes : ℕ
most_nodes = 16384

-- how deep the nodes of a script may nest
abbrev pub most_levels : ℕ
most_levels = 1024
