-- The row of the table that a form is, with its parts: what is seen of it before an expression in it is read.
use Rattle.std.specs.Prelude.{ℕ, ◌+◌, Bool, true, false, not, ◌&&◌, ◌||◌, List, Option, Some, None, is_some, Result, Ok, Err, codes, ⊤, if◌then◌else◌}
use Rattle.script_value.specs.Val.{Val, Vals, symbol, list, no_vals, val, weight, weight_all}
use Rattle.script_value.specs.declared.outcome.Op.{Op}
use Rattle.prim_spec.specs.Table.{takes}
use Rattle.script_nodes.specs.declared.script.SendKind.{SendKind}
use Rattle.core_syntax.specs.declared.faults.SyntaxKind.{SyntaxKind}
use Rattle.core_syntax.specs.declared.faults.SyntaxKind.TheVariants.{Shape, Unbound, Duplicate, Arity, NoElse, NestedSend, Effect}
use Rattle.core_syntax.specs.declared.heads.CellKind.{CellKind}
use Rattle.core_syntax.specs.declared.heads.Store.{Store}
use Rattle.core_syntax.specs.declared.heads.LastPage.{LastPage}
use Rattle.core_syntax.specs.declared.heads.Head.{Head}
use Rattle.core_syntax.specs.declared.heads.Head.TheVariants as head
use Rattle.core_syntax.specs.Heads.{head_of}
use Rattle.core_syntax.specs.Names.{◌>>=◌, or_fault, place_of, CellNames, cell_number, called, is_taken}
use Rattle.core_syntax.specs.Shapes.{count_of, is_empty, is_word, bound_name, symbol_in, are_clauses, ends_in_else}
use Rattle.core_syntax.specs.Templates.{is_template}
use Rattle.core_syntax.specs.Forms.{written}

-- a form, with its parts as they stand in the text
pub data Row : Type 0 where
  -- a literal, a variable by its place, and a template
  literal : Val → Row
  variable : ℕ → Row
  template : Val → Row
  -- bindings and a body
  bind bind_in_turn : Vals → Vals → Row
  -- parts in order
  begin all any : Vals → Row
  choice : Val → Val → Val → Row
  clauses : Vals → Row
  -- a variable, the count and the body
  turns : List ℕ → Val → Vals → Row
  ref : CellKind → ℕ → Row
  store : Store → ℕ → Val → Row
  -- a variable and the body of a page
  send : SendKind → List ℕ → Vals → Row
  last : LastPage → Val → Row
  isolate : Val → Row
  apply : Op → Vals → Row
  -- a task and its operands
  call : ℕ → Vals → Row

-- the form or the operation that a symbol at the head of a list names
abbrev pub head_in : Val → Option Head
head_in (symbol s) = head_of s
head_in _ = None

-- the only part of a form, or the fault
abbrev pub only_part : Vals → Result Val SyntaxKind
only_part (val v no_vals) = Ok v
only_part _ = Err Shape

-- whether each of these items is a binding `(x e)`
abbrev pub are_bindings : Vals → Bool
are_bindings no_vals = true
are_bindings (val v vs) = is_some (bound_name v) && are_bindings vs

-- whether a name, if there is one, is one that no variable may have
abbrev pub is_taken_name : CellNames → Option (List ℕ) → Bool
is_taken_name cells None = false
is_taken_name cells (Some x) = is_taken cells x

-- whether one of these bindings has a name that no variable may have
abbrev pub bind_taken : CellNames → Vals → Bool
bind_taken cells no_vals = false
bind_taken cells (val v vs) = is_taken_name cells (bound_name v) || bind_taken cells vs

-- bindings of names that may be bound, and the body after them, or the fault
abbrev pub bind_with : CellNames → Vals → Vals → Result (Vals × Vals) SyntaxKind
bind_with cells bs body =
    if is_empty body || not (are_bindings bs) then Err Shape else
    if bind_taken cells bs then Err Duplicate else Ok (bs, body)

-- the bindings and the body of a `let`, of its list of bindings, or the fault
abbrev pub bound_by : CellNames → Val → Vals → Result (Vals × Vals) SyntaxKind
bound_by cells (list bs) body = bind_with cells bs body
bound_by cells _ body = Err Shape

-- the bindings and the body of the parts `((x e) ..) b ..` of a `let`, or the fault
abbrev pub bound_in : CellNames → Vals → Result (Vals × Vals) SyntaxKind
bound_in cells no_vals = Err Shape
bound_in cells (val v body) = bound_by cells v body

-- a name that may be bound, in front of a body
abbrev pub named : CellNames → Option (List ℕ) → Vals → Result (List ℕ) SyntaxKind
named cells None body = Err Shape
named cells (Some x) body = if is_empty body then Err Shape else if is_taken cells x then Err Duplicate else Ok x

-- the only item of a list
abbrev pub only_in : Val → Result Val SyntaxKind
only_in (list vs) = only_part vs
only_in _ = Err Shape

-- the second of two parts, or the fault that they are not two
abbrev pub second_of_two : Vals → Result Val SyntaxKind
second_of_two (val x (val e no_vals)) = Ok e
second_of_two _ = Err Shape

-- the expression of a binding `(x e)`
abbrev pub value_in : Val → Result Val SyntaxKind
value_in (list vs) = second_of_two vs
value_in _ = Err Shape

-- the row of the parts of an `if`, which are three
abbrev pub choice_in : Vals → Result Row SyntaxKind
choice_in (val t (val a (val b no_vals))) = Ok (choice t a b)
choice_in _ = Err Shape

-- the row of the clauses of a `cond`, the last of which is its `else`, or the fault
abbrev pub clauses_in : Vals → Result Row SyntaxKind
clauses_in vs = if not (are_clauses vs) then Err Shape else if not (ends_in_else vs) then Err NoElse else Ok (clauses vs)

-- the row of `((x e)) b ..`, the parts of a `for/list`
abbrev pub turns_by : CellNames → Val → Vals → Result Row SyntaxKind
turns_by cells bindings body = do
  b ← only_in bindings
  x ← named cells (bound_name b) body
  e ← value_in b
  Ok (turns x e body)

-- the row of the parts `((x e)) b ..` of a `for/list`, or the fault
abbrev pub turns_in : CellNames → Vals → Result Row SyntaxKind
turns_in cells no_vals = Err Shape
turns_in cells (val bindings body) = turns_by cells bindings body

-- the number of the cell of a name
abbrev pub cell_of : CellNames → CellKind → Option (List ℕ) → Result ℕ SyntaxKind
cell_of cells kind None = Err Shape
cell_of cells kind (Some c) = cell_number kind cells c

-- the number of the cell that a symbol names, or the fault
abbrev pub cell_in : CellNames → CellKind → Val → Result ℕ SyntaxKind
cell_in cells kind c = cell_of cells kind (symbol_in c)

-- the row of a form that reads a cell by its name
abbrev pub ref_in : CellNames → CellKind → Vals → Result Row SyntaxKind
ref_in cells kind vs = do
  c ← only_part vs
  k ← cell_in cells kind c
  Ok (ref kind k)

-- the row of a form that writes what an expression gives into a cell of a name
abbrev pub store_by : CellNames → Store → Val → Val → Result Row SyntaxKind
store_by cells kind c e = cell_in cells (written kind) c >>= (λ k. Ok (store kind k e))

-- the row of the parts `c e` of a form that writes a cell
abbrev pub store_in : CellNames → Store → Vals → Result Row SyntaxKind
store_in cells kind (val c (val e no_vals)) = store_by cells kind c e
store_in cells kind _ = Err Shape

-- the row of a page that is sent by `(lambda (u) b ..)`
abbrev pub function_by : CellNames → SendKind → Val → Val → Vals → Result Row SyntaxKind
function_by cells kind word parameters body = if not (is_word (codes "lambda") word) then Err Shape else (do
  u ← only_in parameters
  x ← named cells (symbol_in u) body
  Ok (send kind x body))

-- the row of a page that is sent by a function of these parts
abbrev pub function_of : CellNames → SendKind → Vals → Result Row SyntaxKind
function_of cells kind (val l (val p body)) = function_by cells kind l p body
function_of cells kind _ = Err Shape

-- the row of a page that is sent by the function `(lambda (u) b ..)`, or the fault for any other value
abbrev pub function_in : CellNames → SendKind → Val → Result Row SyntaxKind
function_in cells kind (list vs) = function_of cells kind vs
function_in cells kind _ = Err Shape

-- the row of the parts of a form that sends a page: one function
abbrev pub send_in : CellNames → SendKind → Vals → Result Row SyntaxKind
send_in cells kind vs = only_part vs >>= (λ f. function_in cells kind f)

-- the row of a `quasiquote`, which has one template
abbrev pub template_in : Vals → Result Row SyntaxKind
template_in vs = only_part vs >>= (λ t. if is_template t then Ok (template t) else Err Shape)

-- a fault in a page, for what a page may not do
abbrev pub outside_page : (in_page : Bool) → SyntaxKind → Result ⊤ SyntaxKind
outside_page true k = Err k
outside_page false k = Ok tt

-- the row of a variable by its name, or the fault that nothing binds it
abbrev pub variable_in : List (List ℕ) → List ℕ → Result Row SyntaxKind
variable_in scope x = or_fault Unbound (place_of x scope) >>= (λ k. Ok (variable k))

-- the row of a `begin`, which has a part
abbrev pub begin_in : Vals → Result Row SyntaxKind
begin_in vs = if is_empty vs then Err Shape else Ok (begin vs)

-- the row of an operation, where it takes so many operands
abbrev pub apply_in : Op → Vals → Result Row SyntaxKind
apply_in o vs = if takes o (count_of vs) then Ok (apply o vs) else Err Arity

-- the row of a call of the task of a name, with these operands
abbrev pub call_by : CellNames → Option (List ℕ) → Vals → Result Row SyntaxKind
call_by cells None vs = Err Shape
call_by cells (Some f) vs = called cells f (count_of vs) >>= (λ k. Ok (call k vs))

-- the row of `(call f e ..)`, of which the parts `f e ..` are given
abbrev pub call_in : CellNames → Vals → Result Row SyntaxKind
call_in cells no_vals = Err Shape
call_in cells (val f vs) = call_by cells (symbol_in f) vs

-- the row of a head, with these parts; in a page or not
abbrev pub row_by : CellNames → (in_page : Bool) → Option Head → Vals → Result Row SyntaxKind
row_by cells in_page None vs = Err Shape
row_by cells in_page (Some head.Define) vs = Err Shape
row_by cells in_page (Some head.DefineTask) vs = Err Shape
row_by cells in_page (Some head.Quote) vs = only_part vs >>= (λ v. Ok (literal v))
row_by cells in_page (Some head.Quasiquote) vs = template_in vs
row_by cells in_page (Some head.Let) vs = bound_in cells vs >>= (λ p. Ok (bind p.0 p.1))
row_by cells in_page (Some head.LetInTurn) vs = bound_in cells vs >>= (λ p. Ok (bind_in_turn p.0 p.1))
row_by cells in_page (Some head.Begin) vs = begin_in vs
row_by cells in_page (Some head.If) vs = choice_in vs
row_by cells in_page (Some head.Cond) vs = clauses_in vs
row_by cells in_page (Some head.And) vs = Ok (all vs)
row_by cells in_page (Some head.Or) vs = Ok (any vs)
row_by cells in_page (Some head.For) vs = turns_in cells vs
row_by cells in_page (Some (head.Ref kind)) vs = ref_in cells kind vs
row_by cells in_page (Some (head.Store kind)) vs = outside_page in_page Effect >>= (λ _. store_in cells kind vs)
row_by cells in_page (Some (head.Send kind)) vs = outside_page in_page NestedSend >>= (λ _. send_in cells kind vs)
row_by cells in_page (Some (head.Last kind)) vs = outside_page in_page NestedSend >>= (λ _. only_part vs >>= (λ e. Ok (last kind e)))
row_by cells in_page (Some head.Isolate) vs = outside_page in_page NestedSend >>= (λ _. only_part vs >>= (λ e. Ok (isolate e)))
row_by cells in_page (Some head.Call) vs = outside_page in_page NestedSend >>= (λ _. call_in cells vs)
row_by cells in_page (Some (head.Apply o)) vs = apply_in o vs

-- the row of the list that has these items, or the fault
abbrev pub row_in : CellNames → Bool → Vals → Result Row SyntaxKind
row_in cells in_page no_vals = Err Shape
row_in cells in_page (val w vs) = row_by cells in_page (head_in w) vs

-- the row of a form, or the fault that is seen first; it takes no memory to tell either
abbrev pub row_of : CellNames → List (List ℕ) → (in_page : Bool) → Val → Result Row SyntaxKind
row_of cells scope in_page (symbol x) = variable_in scope x
row_of cells scope in_page (list vs) = row_in cells in_page vs
row_of cells scope in_page v = Ok (literal v)

-- what the parts of a row weigh: less than its form
abbrev pub row_weight : Row → ℕ
row_weight (literal v) = 0
row_weight (variable k) = 0
row_weight (template t) = weight t
row_weight (bind bs body) = weight_all bs + weight_all body
row_weight (bind_in_turn bs body) = weight_all bs + weight_all body
row_weight (begin vs) = weight_all vs
row_weight (all vs) = weight_all vs
row_weight (any vs) = weight_all vs
row_weight (choice t a b) = weight t + weight a + weight b
row_weight (clauses vs) = weight_all vs
row_weight (turns x e body) = weight e + weight_all body
row_weight (ref kind k) = 0
row_weight (store kind k e) = weight e
row_weight (send kind x body) = weight_all body
row_weight (last kind e) = weight e
row_weight (isolate e) = weight e
row_weight (apply o vs) = weight_all vs
row_weight (call k vs) = weight_all vs
