-- A whole script: definitions of cells and tasks, and then one expression.
use Rattle.std.specs.Prelude.{ℕ, ◌+◌, ◌||◌, Bool, List, [], ◌∷◌, ◌++◌, length, Option, Some, None, Result, Ok, Err, nat_le, nat_lt, codes, true, false, ⊤, if◌then◌else◌}
use Rattle.script_value.specs.Val.{Val, Vals, no_vals, val}
use Rattle.core_syntax.specs.declared.faults.SyntaxKind.{SyntaxKind}
use Rattle.core_syntax.specs.declared.faults.SyntaxKind.TheVariants.{Shape, Duplicate, TooMany}
use Rattle.core_syntax.specs.declared.heads.CellKind.{CellKind}
use Rattle.core_syntax.specs.declared.heads.CellKind.TheVariants.{Web, Instance}
use Rattle.core_syntax.specs.Limits.{most_cells, most_tasks, most_parameters, most_levels, most_nodes}
use Rattle.script_nodes.specs.Core.{Core, Cores, core, cores_of, count_all, height_all}
use Rattle.script_nodes.specs.Setup.{Script}
use Rattle.core_syntax.specs.Names.{◌>>=◌, CellNames, with_name, with_task_name, is_taken, repeats}
use Rattle.core_syntax.specs.Shapes.{is_headed, symbol_in}
use Rattle.core_syntax.specs.Headings.{Definition, definition_of, TaskForm, symbols_in, task_of, is_definition, names_defined}
use Rattle.core_syntax.specs.Forms.{core_of, body_of}
use Rattle.core_syntax.specs.Rows.{row_of, is_taken_name}

-- the names of the cells and tasks so far, what the cells begin with, and the bodies of the tasks
pub record Defined : Type 0 where
  pub names : CellNames
  pub web : List Val
  pub cells : List Val
  pub tasks : List Core

-- what is defined with one more cell of this kind, which begins with this value
abbrev pub with_value : CellKind → Val → Defined → Defined
with_value Web v d = record d { web = d.web ++ v ∷ [] }
with_value Instance v d = record d { cells = d.cells ++ v ∷ [] }

-- what is defined at the start of a script: no cell and no task
abbrev pub nothing_defined : Defined
nothing_defined = record { names = record { web = []; instance = []; tasks = []; later = [] }; web = []; cells = []; tasks = [] }

-- what is defined with one more cell, its name and its first value
abbrev pub with_cell : Definition → Defined → Defined
with_cell x d = with_value x.kind x.value (record d { names = with_name x.kind x.name d.names })

-- a cell that may be defined after what is defined, or the fault
abbrev pub definable : Option Definition → Defined → Result Definition SyntaxKind
definable None d = Err Shape
definable (Some x) d =
    if is_taken d.names x.name then Err Duplicate else
    if nat_le most_cells (length d.names.web + length d.names.instance) then Err TooMany else Ok x

-- what is defined with one more cell, where there is room for it, or the fault
abbrev pub defined : Option Definition → Defined → Result Defined SyntaxKind
defined o d = definable o d >>= (λ x. Ok (with_cell x d))

-- the names of cells and tasks, with those that are defined from here on
abbrev pub with_later : List (List ℕ) → CellNames → CellNames
with_later later names = record names { later = later }

-- whether one of these parameters has the name of a form, an operation, a cell or a task
abbrev pub parameters_taken : CellNames → Vals → Bool
parameters_taken names no_vals = false
parameters_taken names (val v vs) = is_taken_name names (symbol_in v) || parameters_taken names vs

-- a task whose names are free, where the later names are defined from it on, or the fault
abbrev pub task_definable : Option TaskForm → (later : List (List ℕ)) → Defined → Result TaskForm SyntaxKind
task_definable None later d = Err Shape
task_definable (Some t) later d = if is_taken d.names t.name || parameters_taken (with_later later d.names) t.parameters then Err Duplicate else Ok t

-- what is defined with one more task of so many parameters, and its body
abbrev pub with_task : List ℕ → (parameters : ℕ) → Core → Defined → Defined
with_task f n c d = record d { names = with_task_name f n d.names; tasks = d.tasks ++ c ∷ [] }

-- what is defined with a task of these parameters, the innermost first, which are all of its body's variables;
-- the body calls the tasks before it
abbrev pub task_within : (later scope : List (List ℕ)) → Defined → TaskForm → Result Defined SyntaxKind
task_within later scope d t =
    if repeats scope then Err Duplicate else
    if nat_le most_tasks (length d.names.tasks) || nat_lt most_parameters (length scope) then Err TooMany else
    body_of (with_later later d.names) scope false t.body >>= (λ c. Ok (with_task t.name (length scope) c d))

-- what is defined with a task of the parameters that its form gives, or the fault
abbrev pub task_read : (later : List (List ℕ)) → Defined → TaskForm → Result Defined SyntaxKind
task_read later d t = task_within later (symbols_in t.parameters []) d t

-- what is defined with one more task, where its names are free, or the fault
abbrev pub task_defined : Option TaskForm → (later : List (List ℕ)) → Defined → Result Defined SyntaxKind
task_defined o later d = task_definable o later d >>= task_read later d

-- what is defined with the definition that this form is, in front of these forms, or the fault
abbrev pub form_defined : Val → List Val → Defined → Result Defined SyntaxKind
form_defined v vs d =
    if is_headed (codes "define") v then defined (definition_of v) d else task_defined (task_of v) (names_defined (v ∷ vs)) d

-- whether trees have too many nodes, or one that is nested too deep
abbrev pub are_too_many : Cores → Bool
are_too_many cs = nat_lt most_nodes (count_all cs) || nat_lt most_levels (height_all cs)

-- a result whose fault is told with the number of its form
abbrev pub at_form : {A : Type 0} → ℕ → Result A SyntaxKind → Result A (SyntaxKind × ℕ)
at_form n (Ok x) = Ok x
at_form n (Err k) = Err (k, n)

-- the script of these cells and tasks and of this tree, or the fault where its nodes are too many or nest too deep
abbrev pub limited : Defined → Result Core SyntaxKind → Result Script SyntaxKind
limited d (Err k) = Err k
limited d (Ok c) =
    if are_too_many (core c (cores_of d.tasks)) then Err TooMany else Ok (record { web = d.web; cells = d.cells; tasks = cores_of d.tasks; body = c })

-- goes on with what a form gave, or stays at its fault
abbrev pub and_then : {A B : Type 0} → Result A (SyntaxKind × ℕ) → (A → Result B (SyntaxKind × ℕ)) → Result B (SyntaxKind × ℕ)
and_then (Ok x) f = f x
and_then (Err k) f = Err k

-- a form that is no definition: the expression, if it is the last
abbrev pub expression_at : ℕ → Defined → Val → List Val → Result Script (SyntaxKind × ℕ)
expression_at n d v [] = at_form n (limited d (core_of d.names [] false v))
expression_at n d v (w ∷ vs) = Err (Shape, n)

-- the script of the forms from the one of this number on, after what is defined, or the first fault
abbrev pub expanded_from : ℕ → Defined → List Val → Result Script (SyntaxKind × ℕ)
expanded_from n d [] = Err (Shape, n)
expanded_from n d (v ∷ vs) =
    if is_definition v then and_then (at_form n (form_defined v vs d)) (λ d. expanded_from (n + 1) d vs) else
    expression_at n d v vs

-- a script, or its first fault with the number of the form in which it stands
unfoldable pub expanded : List Val → Result Script (SyntaxKind × ℕ)
expanded vs = expanded_from 0 nothing_defined vs

-- whether no form is left
abbrev pub is_none_left : List Val → Bool
is_none_left [] = true
is_none_left (v ∷ vs) = false

-- whether there is a fault, and which, without what was read
abbrev pub told : {A : Type 0} → Result A SyntaxKind → Result ⊤ SyntaxKind
told (Ok x) = Ok tt
told (Err k) = Err k

-- what a definition tells before memory is taken
abbrev pub definition_seen : Val → List Val → Defined → Result ⊤ SyntaxKind
definition_seen v vs d =
    if is_headed (codes "define") v then told (definable (definition_of v) d) else told (task_definable (task_of v) (names_defined (v ∷ vs)) d)

-- what the first form tells before memory is taken: a cell, a task, or a row where it is the last
abbrev pub first_seen : Val → List Val → Result ⊤ SyntaxKind
first_seen v vs =
    if is_definition v then definition_seen v vs nothing_defined else
    if is_none_left vs then told (row_of nothing_defined.names [] false v) else Err Shape

-- what the first form tells before memory is taken, or the fault where there is no form
abbrev pub begins_well : List Val → Result ⊤ SyntaxKind
begins_well [] = Err Shape
begins_well (v ∷ vs) = first_seen v vs
