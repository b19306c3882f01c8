-- Names of variables, cells and tasks.
use Rattle.std.specs.Prelude.{ℕ, ◌||◌, ◌==◌, ◌++◌, refl, map, slice_get, unwrap_or, Bool, false, List, [], ◌∷◌, length, Option, Some, None, Result, Ok, Err, is_some, position, if◌then◌else◌}
use Rattle.std.specs.Str.{bytes_eq}
use Rattle.std.specs.Coded.{Coded, code_by, coded×, coded_list, coded_ℕ}
use Rattle.core_syntax.specs.declared.faults.SyntaxKind.{SyntaxKind}
use Rattle.core_syntax.specs.declared.faults.SyntaxKind.TheVariants.{Unbound, Arity, Duplicate}
use Rattle.core_syntax.specs.declared.heads.CellKind.{CellKind}
use Rattle.core_syntax.specs.declared.heads.CellKind.TheVariants.{Web, Instance}
use Rattle.core_syntax.specs.Heads.{head_of}

-- what comes after a result: a fault goes through
infixl 10 ◌>>=◌
abbrev pub ◌>>=◌ : {A B : Type 0} → Result A SyntaxKind → (A → Result B SyntaxKind) → Result B SyntaxKind
Ok x >>= f = f x
Err k >>= f = Err k

-- a value, or this fault where there is none
abbrev pub or_fault : {A : Type 0} → SyntaxKind → Option A → Result A SyntaxKind
or_fault k None = Err k
or_fault k (Some x) = Ok x

-- the place of the innermost variable of this name, the outermost being 0; the scope has the innermost first
abbrev pub place_of : List ℕ → List (List ℕ) → Option ℕ
place_of x [] = None
place_of x (y ∷ ys) = if bytes_eq x y then Some (length ys) else place_of x ys

-- whether a name is among these names
abbrev pub has_name : List ℕ → List (List ℕ) → Bool
has_name x xs = is_some (place_of x xs)

-- whether a name stands twice among these
abbrev pub repeats : List (List ℕ) → Bool
repeats [] = false
repeats (x ∷ xs) = has_name x xs || repeats xs

-- a task, and how many parameters it has
pub record Task : Type 0 where
  pub name : List ℕ
  pub parameters : ℕ

-- the names of a script's web cells, of its instance cells and of its tasks, each in the order of definition; and, where the body of a
-- task is read, the names that are defined from that task on
pub record CellNames : Type 0 where
  pub web : List (List ℕ)
  pub instance : List (List ℕ)
  pub tasks : List Task
  pub later : List (List ℕ)

-- the names of the cells of a kind
abbrev pub of_kind : CellKind → CellNames → List (List ℕ)
of_kind Web cells = cells.web
of_kind Instance cells = cells.instance

-- the names of cells with one more, after those of its kind
abbrev pub with_name : CellKind → List ℕ → CellNames → CellNames
with_name Web x cells = record cells { web = cells.web ++ x ∷ [] }
with_name Instance x cells = record cells { instance = cells.instance ++ x ∷ [] }

-- the names of tasks with one more, of so many parameters, after the others
abbrev pub with_task_name : List ℕ → ℕ → CellNames → CellNames
with_task_name x n cells = record cells { tasks = cells.tasks ++ record { name = x; parameters = n } ∷ [] }

-- the names of the tasks
abbrev pub names_of_tasks : CellNames → List (List ℕ)
names_of_tasks cells = map (λ t. t.name) cells.tasks

-- how many parameters each task has
abbrev pub parameters_in : CellNames → List ℕ
parameters_in cells = map (λ t. t.parameters) cells.tasks

-- the name of a task and how many parameters it has
abbrev split : Task → List ℕ × ℕ
split t = (t.name, t.parameters)

-- the task of this name and of so many parameters
abbrev united : List ℕ × ℕ → Task
united p = record { name = p.0; parameters = p.1 }

-- a code of tasks, by their names and counts of parameters
abbrev task_code : Coded Task
task_code = code_by (List ℕ × ℕ) (coded× (coded_list coded_ℕ) coded_ℕ) split united (λ _. refl)

-- names of web cells, of instance cells, of tasks, and of what is defined later on
abbrev Parts : Type 0
Parts = List (List ℕ) × (List (List ℕ) × (List Task × List (List ℕ)))

-- the four lists of names that a script has
abbrev parted : CellNames → Parts
parted cells = (cells.web, (cells.instance, (cells.tasks, cells.later)))

-- the names of a script, of four lists
abbrev joined : Parts → CellNames
joined p = record { web = p.0; instance = p.1.0; tasks = p.1.1.0; later = p.1.1.1 }

-- a code of lists of names
abbrev names_code : Coded (List (List ℕ))
names_code = coded_list (coded_list coded_ℕ)

-- a code of the names of a script
abbrev pub cell_names_code : Coded CellNames
cell_names_code = code_by Parts (coded× names_code (coded× names_code (coded× (coded_list task_code) names_code))) parted joined (λ _. refl)

-- the place of a name, the first being 0
abbrev pub place_in : List (List ℕ) → List ℕ → Option ℕ
place_in names x = position (bytes_eq x) names

-- the number of the cell of a name
abbrev pub cell_number : CellKind → CellNames → List ℕ → Result ℕ SyntaxKind
cell_number kind cells x = or_fault Unbound (place_in (of_kind kind cells) x)

-- whether a name stands among these
abbrev pub is_among : List ℕ → List (List ℕ) → Bool
is_among x [] = false
is_among x (y ∷ ys) = bytes_eq x y || is_among x ys

-- the task of a name that is called with so many operands
abbrev pub called : CellNames → List ℕ → (given : ℕ) → Result ℕ SyntaxKind
called cells f given =
    or_fault Unbound (place_in (names_of_tasks cells) f) >>= (λ k. if given == unwrap_or (slice_get (parameters_in cells) k) 0 then Ok k else Err Arity)

-- whether a name is one that no variable may have: that of a form, an operation, a cell or a task
abbrev pub is_taken : CellNames → List ℕ → Bool
is_taken cells x =
    is_some (head_of x) || is_some (place_in cells.web x) || is_some (place_in cells.instance x) || is_some (place_in (names_of_tasks cells) x)
    || is_among x cells.later

-- whether one of these names is that of a form, an operation, a cell or a task
abbrev pub are_taken : CellNames → List (List ℕ) → Bool
are_taken cells [] = false
are_taken cells (x ∷ xs) = is_taken cells x || are_taken cells xs

-- names that may be bound at once: each is free, and none stands twice
abbrev pub free_at_once : CellNames → List (List ℕ) → Result (List (List ℕ)) SyntaxKind
free_at_once cells names = if are_taken cells names || repeats names then Err Duplicate else Ok names

-- names that may be bound one inside the other: each is free
abbrev pub free_in_turn : CellNames → List (List ℕ) → Result (List (List ℕ)) SyntaxKind
free_in_turn cells names = if are_taken cells names then Err Duplicate else Ok names
