-- What contracts see of definitions.
use Rattle.std.specs.Prelude.{◌≡◌, ◌+◌, ℕ, List, Option, Result, Err, IsOk, length, map, option_map, ⊤}
use Rattle.script_value.specs.Val.{Val}
use Rattle.script_value.specs.Views.{meaning, meanings}
use Rattle.script_value.specs.declared.value.Value.{Value}
use Rattle.core_syntax.specs.declared.heads.CellKind.{CellKind}
use Rattle.core_syntax.specs.declared.definitions.Definition.{Definition as DefinitionOf}
use Rattle.core_syntax.specs.declared.definitions.Maker.{Maker}
use Rattle.core_syntax.specs.declared.task_forms.TaskForm.{TaskForm as TaskFormOf}
use Rattle.core_syntax.specs.declared.defined.Defined.{Defined as DefinedOf}
use Rattle.core_syntax.specs.declared.faults.SyntaxKind.{SyntaxKind}
use Rattle.core_syntax.specs.declared.faults.ReadFault.{ReadFault}
use Rattle.core_syntax.specs.declared.faults.ReadFault.TheVariants.{Memory}
use Rattle.core_syntax.specs.Gives.{Gives}
use Rattle.core_syntax.specs.RowsSeen.{seen}
use Rattle.core_syntax.specs.TaskNames.{names_in}
use Rattle.core_syntax.specs.Headings.{Definition, TaskForm, definition_of, task_named, task_of}
use Rattle.core_syntax.specs.Definitions.{Defined, definable, definition_seen, form_defined, task_definable, task_defined, task_within}

-- the definition of a cell that the program's value stands for
abbrev pub definition : DefinitionOf → Definition
definition d = record { kind = d.kind; name = d.name.now; value = meaning d.value.now }

-- the kind of a cell and its first value, as a definition has them
abbrev pub maker : Maker → CellKind × Val
maker m = (m.kind, meaning m.value.now)

-- the form of a task, as the table has it
abbrev pub task_form : TaskFormOf → TaskForm
task_form t = record { name = t.name.now; parameters = meanings t.parameters.now; body = meanings t.body.now }

-- What is answered is the task of this name, with these parameters and this body, where the table has one.
abbrev pub IsTaskNamed : Option TaskFormOf → (name : Option (List ℕ)) → (parameters body : List Value) → Type 0
IsTaskNamed result name parameters body = option_map task_form result ≡ task_named name (meanings parameters) (meanings body)

-- what is defined so far: the cells and tasks, as the table has them
abbrev pub cells_of : DefinedOf → Defined
cells_of d = record { names = d.names; web = d.web; cells = d.instance; tasks = d.tasks.items }

-- what is defined then is what is wanted, or the fault is answered
abbrev pub Defines : {A : Type 0} → DefinedOf → Result A ReadFault → Result Defined SyntaxKind → Type 0
Defines d result wanted = Gives (λ _. cells_of d) result wanted

-- Where memory runs out as a form is defined, the table would define it.
abbrev pub LacksMemoryAlone : {A : Type 0} → DefinedOf → Result A ReadFault → Value → Type 0
LacksMemoryAlone old result form = result ≡ Err Memory → IsOk (definable (definition_of (meaning form)) (cells_of old))

-- how many cells and tasks there are
abbrev pub count_of : DefinedOf → ℕ
count_of d = length d.names.web + length d.names.instance + length d.names.tasks

-- what a definition tells that stands in front of these forms
abbrev pub tells : Value → List Value → DefinedOf → Result ⊤ SyntaxKind
tells form others d = definition_seen (meaning form) (map meaning others) (cells_of d)

-- the task that a form defines, where its names are free; these forms define names too
abbrev pub ChecksTask : Result TaskFormOf SyntaxKind → Value → (later : List Value) → DefinedOf → Type 0
ChecksTask result form later d = seen task_form result ≡ task_definable (task_of (meaning form)) (names_in later) (cells_of d)

-- the task that a form defines stands after the others; these forms define names too
abbrev pub DefinesTask : {A : Type 0} → (old new : DefinedOf) → Result A ReadFault → Value → (later : List Value) → Type 0
DefinesTask old new result form later = Defines new result (task_defined (task_of (meaning form)) (names_in later) (cells_of old))

-- a task with these parameters stands after the others; these forms define names too
abbrev pub DefinesWithin : {A : Type 0} → (old new : DefinedOf) → Result A ReadFault → (later : List Value) → List (List ℕ) → TaskFormOf → Type 0
DefinesWithin old new result later parameters task = Defines new result (task_within (names_in later) parameters (cells_of old) (task_form task))

-- what a definition in front of these forms defines stands after the rest
abbrev pub DefinesForm : {A : Type 0} → (old new : DefinedOf) → Result A ReadFault → Value → (others : List Value) → Type 0
DefinesForm old new result form others = Defines new result (form_defined (meaning form) (map meaning others) (cells_of old))
