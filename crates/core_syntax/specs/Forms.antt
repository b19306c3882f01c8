-- The table of forms: an expression as a tree of the core language, or the first fault.
-- The order in a form: its head, what a page may not do, the shape of its parts, its own names, and its parts from left to right.
use Rattle.std.specs.Prelude.{ℕ, Bool, true, false, not, List, [], ◌∷◌, ◌++◌, Option, Some, None, Result, Ok, Err, codes, if◌then◌else◌}
use Rattle.script_value.specs.Val.{Val, Vals, number, truth, text, symbol, list, no_vals, val}
use Rattle.script_value.specs.declared.outcome.Op.{Op}
use Rattle.script_value.specs.declared.outcome.Op.TheVariants as op
use Rattle.prim_spec.specs.Table.{takes}
use Rattle.core_syntax.specs.declared.faults.SyntaxKind.{SyntaxKind}
use Rattle.core_syntax.specs.declared.faults.SyntaxKind.TheVariants.{Shape, Unbound, Arity, NoElse, NestedSend, Effect}
use Rattle.core_syntax.specs.declared.heads.CellKind.{CellKind}
use Rattle.core_syntax.specs.declared.heads.CellKind.TheVariants.{Web, Instance}
use Rattle.core_syntax.specs.declared.heads.Store.{Store}
use Rattle.core_syntax.specs.declared.heads.Store.TheVariants.{Shadow, Set, Add}
use Rattle.core_syntax.specs.declared.heads.LastPage.{LastPage}
use Rattle.core_syntax.specs.declared.heads.LastPage.TheVariants.{Finish, Back}
use Rattle.core_syntax.specs.declared.heads.Head.{Head}
use Rattle.core_syntax.specs.declared.heads.Head.TheVariants as head
use Rattle.script_nodes.specs.declared.script.SendKind.{SendKind}
use Rattle.script_nodes.specs.Core.{Core, lit, var, bind, branch, repeat, prim, call, seq, and_all, or_any, send, finish, back, isolate, cell_ref, cell_shadow, inst_ref, inst_set, inst_add, cores_of}
use Rattle.core_syntax.specs.Heads.{head_of}
use Rattle.core_syntax.specs.Names.{◌>>=◌, or_fault, place_of, CellNames, cell_number, called, free_at_once, free_in_turn}
use Rattle.core_syntax.specs.Shapes.{count_of, is_empty, is_word, begins, bound_name, names_of, single_name, parameter, names_before, are_clauses, ends_in_else}
use Rattle.core_syntax.specs.Templates.{is_splice, has_splice, is_template, is_plain}

-- the tree of a body: its parts in order, or its one part
abbrev pub sequence : List Core → Core
sequence (c ∷ []) = c
sequence cs = seq (cores_of cs)

-- the tree of an `and`: true without a part, one part by itself, or all of its parts
abbrev pub conjunction : List Core → Core
conjunction [] = lit (truth true)
conjunction (c ∷ []) = c
conjunction cs = and_all (cores_of cs)

-- the tree of an `or`: false without a part, one part by itself, or all of its parts
abbrev pub disjunction : List Core → Core
disjunction [] = lit (truth false)
disjunction (c ∷ []) = c
disjunction cs = or_any (cores_of cs)

-- bindings one inside the other
abbrev pub nest : List Core → Core → Core
nest [] b = b
nest (e ∷ es) b = bind (cores_of (e ∷ [])) (nest es b)

-- choices one inside the other, and what is taken where each test is false
abbrev pub choose : List (Core × Core) → Core → Core
choose [] o = o
choose (c ∷ cs) o = branch c.0 c.1 (choose cs o)

-- the tree that reads a cell of this kind and number
abbrev pub ref : CellKind → ℕ → Core
ref Web c = cell_ref c
ref Instance c = inst_ref c

-- the kind of cell that a store writes
abbrev pub written : Store → CellKind
written Shadow = Web
written Set = Instance
written Add = Instance

-- the node that writes a cell
abbrev pub store : Store → ℕ → Core → Core
store Shadow c e = cell_shadow c e
store Set c e = inst_set c e
store Add c e = inst_add c e

-- the tree that shows a last page, which ends an instance or leads back
abbrev pub last_page : LastPage → Core → Core
last_page Finish b = finish b
last_page Back b = back b

-- one tree made of what parts gave
abbrev pub made : {A : Type 0} → (A → Core) → Result A SyntaxKind → Result Core SyntaxKind
made f r = r >>= (λ x. Ok (f x))

-- a test and a body, or the first fault of the two
abbrev pub pair : Result Core SyntaxKind → Result Core SyntaxKind → Result (Core × Core) SyntaxKind
pair t b = t >>= (λ t. b >>= (λ b. Ok (t, b)))

-- the tree of an operation on these operands
abbrev pub of_op : Op → List Core → Core
of_op o cs = prim o (cores_of cs)

-- the call of a task over its operands
abbrev pub of_task : ℕ → List Core → Core
of_task k cs = call k (cores_of cs)

-- one item of a joined list, as a list of one
abbrev pub alone : Core → Core
alone c = of_op op.List (c ∷ [])

-- the tree of a `quote`, which has one datum
abbrev pub quoted : Vals → Result Core SyntaxKind
quoted (val v no_vals) = Ok (lit v)
quoted _ = Err Shape

-- the tree of a variable by its name, or the fault that nothing binds it
abbrev pub variable : List (List ℕ) → List ℕ → Result Core SyntaxKind
variable scope x = or_fault Unbound (place_of x scope) >>= (λ k. Ok (var k))

-- the tree of a form that reads a cell
abbrev pub ref_form : CellNames → CellKind → Vals → Result Core SyntaxKind
ref_form cells kind (val (symbol c) no_vals) = cell_number kind cells c >>= (λ k. Ok (ref kind k))
ref_form cells kind _ = Err Shape

-- an expression within these variables, the innermost first, and with these cells and tasks; a page body sends nothing, writes nothing
-- and calls nothing
abbrev mutual
  pub core_of : CellNames → List (List ℕ) → (in_page : Bool) → Val → Result Core SyntaxKind
  core_of cells scope in_page (number n) = Ok (lit (number n))
  core_of cells scope in_page (truth b) = Ok (lit (truth b))
  core_of cells scope in_page (text t) = Ok (lit (text t))
  core_of cells scope in_page (symbol x) = variable scope x
  core_of cells scope in_page (list no_vals) = Err Shape
  core_of cells scope in_page (list (val (symbol s) vs)) = form_of cells scope in_page (head_of s) (val (symbol s) vs)
  core_of cells scope in_page (list _) = Err Shape

  -- expressions from left to right, after those that are done
  pub cores_from : CellNames → List (List ℕ) → Bool → List Core → Vals → Result (List Core) SyntaxKind
  cores_from cells scope in_page done no_vals = Ok done
  cores_from cells scope in_page done (val v vs) = do
    c ← core_of cells scope in_page v
    cores_from cells scope in_page (done ++ c ∷ []) vs

  -- the tree of a form by its head: one line a row of the table
  pub form_of : CellNames → List (List ℕ) → Bool → Option Head → Vals → Result Core SyntaxKind
  form_of cells scope in_page h no_vals = Err Shape
  form_of cells scope in_page None (val w vs) = Err Shape
  form_of cells scope in_page (Some head.Define) (val w vs) = Err Shape
  form_of cells scope in_page (Some head.DefineTask) (val w vs) = Err Shape
  form_of cells scope in_page (Some head.Quote) (val w vs) = quoted vs
  form_of cells scope in_page (Some head.Quasiquote) (val w vs) = quasiquote_form cells scope in_page vs
  form_of cells scope in_page (Some head.Let) (val w vs) = let_form cells scope in_page vs
  form_of cells scope in_page (Some head.LetInTurn) (val w vs) = let_in_turn_form cells scope in_page vs
  form_of cells scope in_page (Some head.Begin) (val w vs) =
      if is_empty vs then Err Shape else made sequence (cores_from cells scope in_page [] vs)
  form_of cells scope in_page (Some head.If) (val w vs) = if_form cells scope in_page vs
  form_of cells scope in_page (Some head.Cond) (val w vs) =
      if not (are_clauses vs) then Err Shape else if not (ends_in_else vs) then Err NoElse else choices cells scope in_page [] vs
  form_of cells scope in_page (Some head.And) (val w vs) = made conjunction (cores_from cells scope in_page [] vs)
  form_of cells scope in_page (Some head.Or) (val w vs) = made disjunction (cores_from cells scope in_page [] vs)
  form_of cells scope in_page (Some head.For) (val w vs) = for_form cells scope in_page vs
  form_of cells scope in_page (Some (head.Ref kind)) (val w vs) = ref_form cells kind vs
  form_of cells scope in_page (Some (head.Store kind)) (val w vs) = if in_page then Err Effect else store_form cells scope kind vs
  form_of cells scope in_page (Some (head.Send kind)) (val w vs) = if in_page then Err NestedSend else send_form cells scope kind vs
  form_of cells scope in_page (Some (head.Last kind)) (val w vs) =
      if in_page then Err NestedSend else made (last_page kind) (only cells scope true vs)
  form_of cells scope in_page (Some head.Isolate) (val w vs) = if in_page then Err NestedSend else made isolate (only cells scope false vs)
  form_of cells scope in_page (Some head.Call) (val w vs) = if in_page then Err NestedSend else call_form cells scope vs
  form_of cells scope in_page (Some (head.Apply o)) (val w vs) =
      if takes o (count_of vs) then made (of_op o) (cores_from cells scope in_page [] vs) else Err Arity

  -- the parts `((x e) ..) b ..` of a `let`, whose names are bound at once
  pub let_form : CellNames → List (List ℕ) → Bool → Vals → Result Core SyntaxKind
  let_form cells scope in_page (val (list bindings) body) = do
    names ← names_before body (names_of bindings [])
    _ ← free_at_once cells names
    es ← bound_values cells scope in_page [] bindings
    b ← made sequence (cores_from cells (names ++ scope) in_page [] body)
    Ok (bind (cores_of es) b)
  let_form cells scope in_page _ = Err Shape

  -- the expressions of bindings, after those that are done
  pub bound_values : CellNames → List (List ℕ) → Bool → List Core → Vals → Result (List Core) SyntaxKind
  bound_values cells scope in_page done no_vals = Ok done
  bound_values cells scope in_page done (val v vs) = do
    c ← bound_value cells scope in_page v
    bound_values cells scope in_page (done ++ c ∷ []) vs

  -- the expression of a binding `(x e)`
  pub bound_value : CellNames → List (List ℕ) → Bool → Val → Result Core SyntaxKind
  bound_value cells scope in_page (list (val x (val e no_vals))) = core_of cells scope in_page e
  bound_value cells scope in_page _ = Err Shape

  -- the parts `((x e) ..) b ..` of a `let*`, in which each expression is within the names before it
  pub let_in_turn_form : CellNames → List (List ℕ) → Bool → Vals → Result Core SyntaxKind
  let_in_turn_form cells scope in_page (val (list bindings) body) = do
    names ← names_before body (names_of bindings [])
    _ ← free_in_turn cells names
    es ← values_in_turn cells scope in_page [] bindings
    b ← made sequence (cores_from cells (names ++ scope) in_page [] body)
    Ok (nest es b)
  let_in_turn_form cells scope in_page _ = Err Shape

  -- the expressions of a `let*`, each within the names before it, after those that are done
  pub values_in_turn : CellNames → List (List ℕ) → Bool → List Core → Vals → Result (List Core) SyntaxKind
  values_in_turn cells scope in_page done no_vals = Ok done
  values_in_turn cells scope in_page done (val v vs) = do
    c ← bound_value cells scope in_page v
    x ← or_fault Shape (bound_name v)
    values_in_turn cells (x ∷ scope) in_page (done ++ c ∷ []) vs

  -- the tree of the parts of an `if`, which are three
  pub if_form : CellNames → List (List ℕ) → Bool → Vals → Result Core SyntaxKind
  if_form cells scope in_page (val t (val a (val b no_vals))) = do
    t ← core_of cells scope in_page t
    a ← core_of cells scope in_page a
    b ← core_of cells scope in_page b
    Ok (branch t a b)
  if_form cells scope in_page _ = Err Shape

  -- the clauses of a `cond`, the last of which is its `else`, after the choices that are done
  pub choices : CellNames → List (List ℕ) → Bool → List (Core × Core) → Vals → Result Core SyntaxKind
  choices cells scope in_page done no_vals = Err NoElse
  choices cells scope in_page done (val c cs) =
      if is_empty cs then made (choose done) (choice_body cells scope in_page c) else (do
        p ← pair (choice_test cells scope in_page c) (choice_body cells scope in_page c)
        choices cells scope in_page (done ++ p ∷ []) cs)

  -- the tree of the test of a clause of a `cond`
  pub choice_test : CellNames → List (List ℕ) → Bool → Val → Result Core SyntaxKind
  choice_test cells scope in_page (list (val t body)) = core_of cells scope in_page t
  choice_test cells scope in_page _ = Err Shape

  -- the tree of the body of a clause of a `cond`
  pub choice_body : CellNames → List (List ℕ) → Bool → Val → Result Core SyntaxKind
  choice_body cells scope in_page (list (val t body)) = made sequence (cores_from cells scope in_page [] body)
  choice_body cells scope in_page _ = Err Shape

  -- the parts `((x e)) b ..` of a `for/list`
  pub for_form : CellNames → List (List ℕ) → Bool → Vals → Result Core SyntaxKind
  for_form cells scope in_page (val (list bindings) body) = do
    names ← names_before body (single_name bindings)
    _ ← free_at_once cells names
    n ← single_value cells scope in_page bindings
    b ← made sequence (cores_from cells (names ++ scope) in_page [] body)
    Ok (repeat n b)
  for_form cells scope in_page _ = Err Shape

  -- the expression of the one binding of a list
  pub single_value : CellNames → List (List ℕ) → Bool → Vals → Result Core SyntaxKind
  single_value cells scope in_page (val v no_vals) = bound_value cells scope in_page v
  single_value cells scope in_page _ = Err Shape

  -- the function `(lambda (u) b ..)` of a send, whose body is that of a page
  pub send_form : CellNames → List (List ℕ) → SendKind → Vals → Result Core SyntaxKind
  send_form cells scope kind (val (list (val l (val p body))) no_vals) =
      if is_word (codes "lambda") l then (do
        names ← names_before body (parameter p)
        _ ← free_at_once cells names
        b ← made sequence (cores_from cells (names ++ scope) true [] body)
        Ok (send kind b)) else Err Shape
  send_form cells scope kind _ = Err Shape

  -- the only expression of a form
  pub only : CellNames → List (List ℕ) → Bool → Vals → Result Core SyntaxKind
  only cells scope in_page (val e no_vals) = core_of cells scope in_page e
  only cells scope in_page _ = Err Shape

  -- the parts `c e` of a form that writes a cell
  pub store_form : CellNames → List (List ℕ) → Store → Vals → Result Core SyntaxKind
  store_form cells scope kind (val (symbol c) (val e no_vals)) = do
    k ← cell_number (written kind) cells c
    e ← core_of cells scope false e
    Ok (store kind k e)
  store_form cells scope kind _ = Err Shape

  -- the parts `f e ..` of a call
  pub call_form : CellNames → List (List ℕ) → Vals → Result Core SyntaxKind
  call_form cells scope (val (symbol f) vs) = do
    k ← called cells f (count_of vs)
    es ← cores_from cells scope false [] vs
    Ok (of_task k es)
  call_form cells scope _ = Err Shape

  -- the one template of a quasiquote
  pub quasiquote_form : CellNames → List (List ℕ) → Bool → Vals → Result Core SyntaxKind
  quasiquote_form cells scope in_page (val t no_vals) = if is_template t then filled cells scope in_page t else Err Shape
  quasiquote_form cells scope in_page _ = Err Shape

  -- a template with its expressions in their places
  pub filled : CellNames → List (List ℕ) → Bool → Val → Result Core SyntaxKind
  filled cells scope in_page (list vs) =
      if is_plain (list vs) then Ok (lit (list vs)) else
      if begins (codes "unquote") vs then unquoted cells scope in_page vs else
      if has_splice vs then made (of_op op.Append) (spliced cells scope in_page [] vs) else
      made (of_op op.List) (all_filled cells scope in_page [] vs)
  filled cells scope in_page v = Ok (lit v)

  -- the items of a list, after those that are done
  pub all_filled : CellNames → List (List ℕ) → Bool → List Core → Vals → Result (List Core) SyntaxKind
  all_filled cells scope in_page done no_vals = Ok done
  all_filled cells scope in_page done (val v vs) = do
    c ← filled cells scope in_page v
    all_filled cells scope in_page (done ++ c ∷ []) vs

  -- the parts of a list that is joined, after those that are done: what an unquote-splicing gives, and each other item alone
  pub spliced : CellNames → List (List ℕ) → Bool → List Core → Vals → Result (List Core) SyntaxKind
  spliced cells scope in_page done no_vals = Ok done
  spliced cells scope in_page done (val v vs) = do
    c ← if is_splice v then expression_in cells scope in_page v else made alone (filled cells scope in_page v)
    spliced cells scope in_page (done ++ c ∷ []) vs

  -- the expression of `(unquote e)` or `(unquote-splicing e)`
  pub unquoted : CellNames → List (List ℕ) → Bool → Vals → Result Core SyntaxKind
  unquoted cells scope in_page (val w (val e no_vals)) = core_of cells scope in_page e
  unquoted cells scope in_page _ = Err Shape

  -- the expression of an unquote in a template
  pub expression_in : CellNames → List (List ℕ) → Bool → Val → Result Core SyntaxKind
  expression_in cells scope in_page (list vs) = unquoted cells scope in_page vs
  expression_in cells scope in_page _ = Err Shape

-- the test and the body of a clause of a `cond`
abbrev pub choice : CellNames → List (List ℕ) → Bool → Val → Result (Core × Core) SyntaxKind
choice cells scope in_page c = pair (choice_test cells scope in_page c) (choice_body cells scope in_page c)

-- the tree of a body
abbrev pub body_of : CellNames → List (List ℕ) → Bool → Vals → Result Core SyntaxKind
body_of cells scope in_page body = made sequence (cores_from cells scope in_page [] body)

-- a part of a list that is joined: what an unquote-splicing gives, or another item alone
abbrev pub part_of : CellNames → List (List ℕ) → Bool → Val → Result Core SyntaxKind
part_of cells scope in_page v = if is_splice v then expression_in cells scope in_page v else made alone (filled cells scope in_page v)
