-- What definitions say.
use Rattle.std.specs.Prelude.{ℕ, ◌&&◌, ◌||◌, not, Bool, true, false, is_some, List, [], ◌∷◌, Option, Some, None, option_map, codes, if◌then◌else◌}
use Rattle.std.specs.Str.{bytes_eq}
use Rattle.script_value.specs.Val.{Val, Vals, number, truth, text, symbol, list, no_vals, val}
use Rattle.core_syntax.specs.declared.heads.CellKind.{CellKind}
use Rattle.core_syntax.specs.declared.heads.CellKind.TheVariants.{Web, Instance}
use Rattle.core_syntax.specs.Shapes.{is_word, is_headed, is_empty, symbol_in, on}

-- a cell with its name and what it begins with
pub record Definition : Type 0 where
  pub kind : CellKind
  pub name : List ℕ
  pub value : Val

-- the kind of cell that a name makes
abbrev pub kind_made : Val → Option CellKind
kind_made v = if is_word (codes "make-web-cell") v then Some Web else if is_word (codes "make-instance-cell") v then Some Instance else None

-- what is quoted, where this word quotes
abbrev pub quoted_by : Val → Val → Option Val
quoted_by word d = if is_word (codes "quote") word then Some d else None

-- what a datum without an expression stands for: a number, a truth value, a text, or what is quoted
abbrev pub constant : Val → Option Val
constant (number n) = Some (number n)
constant (truth b) = Some (truth b)
constant (text t) = Some (text t)
constant (symbol s) = None
constant (list (val q (val d no_vals))) = quoted_by q d
constant (list _) = None

-- the kind of cell that a maker of this name makes of a datum, and what it begins with
abbrev pub made_by : Val → Val → Option (CellKind × Val)
made_by m d = on (kind_made m) (λ kind. on (constant d) (λ v. Some (kind, v)))

-- the kind of cell that `(make-web-cell d)` and `(make-instance-cell d)` make, and what it begins with
abbrev pub maker_of : Val → Option (CellKind × Val)
maker_of (list (val m (val d no_vals))) = made_by m d
maker_of _ = None

-- a cell of this name that a maker makes
abbrev pub defined_by : Val → Val → Option Definition
defined_by c m = on (symbol_in c) (λ name. on (maker_of m) (λ p. Some (record { kind = p.0; name = name; value = p.1 })))

-- the cell that `(define c MAKER)` defines
abbrev pub definition_of : Val → Option Definition
definition_of (list (val w (val c (val m no_vals)))) = defined_by c m
definition_of _ = None

-- whether all of these are symbols
abbrev pub are_symbols : Vals → Bool
are_symbols no_vals = true
are_symbols (val v vs) = is_some (symbol_in v) && are_symbols vs

-- a name, if there is one, in front of others
abbrev pub with_symbol : Option (List ℕ) → List (List ℕ) → List (List ℕ)
with_symbol None names = names
with_symbol (Some x) names = x ∷ names

-- the names that symbols are, the last first, in front of others
abbrev pub symbols_in : Vals → List (List ℕ) → List (List ℕ)
symbols_in no_vals names = names
symbols_in (val v vs) names = symbols_in vs (with_symbol (symbol_in v) names)

-- a task with its name, its parameters and its body
pub record TaskForm : Type 0 where
  pub name : List ℕ
  pub parameters : Vals
  pub body : Vals

-- the task of a name, if it has a body and its parameters are symbols
abbrev pub task_named : Option (List ℕ) → Vals → Vals → Option TaskForm
task_named None ps body = None
task_named (Some f) ps body = if is_empty body || not (are_symbols ps) then None else Some (record { name = f; parameters = ps; body = body })

-- the task of a heading `(f x ..)`
abbrev pub task_headed : Vals → Vals → Option TaskForm
task_headed no_vals body = None
task_headed (val f ps) body = task_named (symbol_in f) ps body

-- the task of a heading, which is a list, and of a body
abbrev pub task_by : Val → Vals → Option TaskForm
task_by (list heading) body = task_headed heading body
task_by _ body = None

-- the task that `(define-task (f x ..) b ..)` defines
abbrev pub task_of : Val → Option TaskForm
task_of (list (val w (val heading body))) = task_by heading body
task_of _ = None

-- whether a form is a definition
abbrev pub is_definition : Val → Bool
is_definition v = is_headed (codes "define") v || is_headed (codes "define-task") v

-- the name that a form defines
abbrev pub name_defined : Val → Option (List ℕ)
name_defined v =
    if is_headed (codes "define") v then option_map (λ (x : Definition). x.name) (definition_of v) else
    if is_headed (codes "define-task") v then option_map (λ (x : TaskForm). x.name) (task_of v) else None

-- a name that is defined, if there is one, in front of others
abbrev pub with_defined : Option (List ℕ) → List (List ℕ) → List (List ℕ)
with_defined None xs = xs
with_defined (Some x) xs = x ∷ xs

-- the names that these forms define
abbrev pub names_defined : List Val → List (List ℕ)
names_defined [] = []
names_defined (v ∷ vs) = with_defined (name_defined v) (names_defined vs)

-- whether this is the name that a form defines, if it defines one
abbrev pub is_name : List ℕ → Option (List ℕ) → Bool
is_name x None = false
is_name x (Some y) = bytes_eq x y

-- whether one of these forms defines this name
abbrev pub has_defined : List ℕ → List Val → Bool
has_defined x [] = false
has_defined x (v ∷ vs) = is_name x (name_defined v) || has_defined x vs
