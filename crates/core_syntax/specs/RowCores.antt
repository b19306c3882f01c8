-- The tree of a row, whose names may be bound and whose parts are as many as it has.
use Rattle.std.specs.Prelude.{ℕ, List, [], ◌∷◌, ◌++◌, Bool, true, false, Option, Some, None, Result, Ok, Err, if◌then◌else◌}
use Rattle.script_value.specs.Val.{Val, Vals, no_vals, val}
use Rattle.core_syntax.specs.declared.faults.SyntaxKind.{SyntaxKind}
use Rattle.core_syntax.specs.declared.faults.SyntaxKind.TheVariants.{Duplicate}
use Rattle.core_syntax.specs.declared.heads.Store.{Store}
use Rattle.core_syntax.specs.declared.heads.LastPage.{LastPage}
use Rattle.script_nodes.specs.declared.script.SendKind.{SendKind}
use Rattle.script_value.specs.declared.outcome.Op.{Op}
use Rattle.script_nodes.specs.Core.{Core, lit, var, bind, repeat, send, isolate, cores_of}
use Rattle.core_syntax.specs.Names.{◌>>=◌, CellNames, repeats}
use Rattle.core_syntax.specs.Shapes.{bound_name}
use Rattle.core_syntax.specs.Forms.{core_of, cores_from, body_of, bound_values, values_in_turn, if_form, choices, filled, nest, ref, store, last_page, of_op, of_task, conjunction, disjunction, made, pair}
use Rattle.core_syntax.specs.Rows.{Row}
use Rattle.core_syntax.specs.Rows as row

-- these names with one more in front, if there is one
abbrev pub with_name : Option (List ℕ) → List (List ℕ) → List (List ℕ)
with_name None names = names
with_name (Some x) names = x ∷ names

-- the names of bindings, the last first, in front of others
abbrev pub names_in : Vals → List (List ℕ) → List (List ℕ)
names_in no_vals names = names
names_in (val v vs) names = names_in vs (with_name (bound_name v) names)

-- names of which none stands twice
abbrev pub distinct : List (List ℕ) → Result (List (List ℕ)) SyntaxKind
distinct names = if repeats names then Err Duplicate else Ok names

-- the tree of bindings at once and their body
abbrev pub bind_core : CellNames → List (List ℕ) → Bool → Vals → Vals → Result Core SyntaxKind
bind_core cells scope in_page bs body = do
  names ← distinct (names_in bs [])
  es ← bound_values cells scope in_page [] bs
  b ← body_of cells (names ++ scope) in_page body
  Ok (bind (cores_of es) b)

-- the tree of bindings one inside the other and their body
abbrev pub bind_in_turn_core : CellNames → List (List ℕ) → Bool → Vals → Vals → Result Core SyntaxKind
bind_in_turn_core cells scope in_page bs body = do
  es ← values_in_turn cells scope in_page [] bs
  b ← body_of cells (names_in bs [] ++ scope) in_page body
  Ok (nest es b)

-- the tree of turns of a body with one variable
abbrev pub turns_core : CellNames → List (List ℕ) → Bool → List ℕ → Val → Vals → Result Core SyntaxKind
turns_core cells scope in_page x e body = do
  n ← core_of cells scope in_page e
  b ← body_of cells (x ∷ scope) in_page body
  Ok (repeat n b)

-- the tree of a cell that is written
abbrev pub store_core : CellNames → List (List ℕ) → Store → ℕ → Val → Result Core SyntaxKind
store_core cells scope kind k e = made (store kind k) (core_of cells scope false e)

-- the tree of a page that is sent
abbrev pub send_core : CellNames → List (List ℕ) → SendKind → List ℕ → Vals → Result Core SyntaxKind
send_core cells scope kind x body = made (send kind) (body_of cells (x ∷ scope) true body)

-- the tree of a last page
abbrev pub last_core : CellNames → List (List ℕ) → LastPage → Val → Result Core SyntaxKind
last_core cells scope kind e = made (last_page kind) (core_of cells scope true e)

-- the tree of a transaction
abbrev pub isolate_core : CellNames → List (List ℕ) → Val → Result Core SyntaxKind
isolate_core cells scope e = made isolate (core_of cells scope false e)

-- the tree of a task over its operands
abbrev pub call_core : CellNames → List (List ℕ) → ℕ → Vals → Result Core SyntaxKind
call_core cells scope k vs = made (of_task k) (cores_from cells scope false [] vs)

-- the tree of the first of these whose value is false, or the last
abbrev pub and_core : CellNames → List (List ℕ) → Bool → Vals → Result Core SyntaxKind
and_core cells scope in_page vs = made conjunction (cores_from cells scope in_page [] vs)

-- the tree of the first of these whose value is not false, or the last
abbrev pub or_core : CellNames → List (List ℕ) → Bool → Vals → Result Core SyntaxKind
or_core cells scope in_page vs = made disjunction (cores_from cells scope in_page [] vs)

-- the tree of an operation over its operands
abbrev pub prim_core : CellNames → List (List ℕ) → Bool → Op → Vals → Result Core SyntaxKind
prim_core cells scope in_page o vs = made (of_op o) (cores_from cells scope in_page [] vs)

-- the choice of a test and of what is taken where it is not false
abbrev pub both : CellNames → List (List ℕ) → Bool → Val → Val → Result (List (Core × Core)) SyntaxKind
both cells scope in_page test chosen = pair (core_of cells scope in_page test) (core_of cells scope in_page chosen) >>= (λ p. Ok (p ∷ []))

-- the tree of a row of the table, or the first fault in its parts
abbrev pub core_in_row : CellNames → List (List ℕ) → Bool → Row → Result Core SyntaxKind
core_in_row cells scope in_page (row.literal v) = Ok (lit v)
core_in_row cells scope in_page (row.variable k) = Ok (var k)
core_in_row cells scope in_page (row.template t) = filled cells scope in_page t
core_in_row cells scope in_page (row.bind bs body) = bind_core cells scope in_page bs body
core_in_row cells scope in_page (row.bind_in_turn bs body) = bind_in_turn_core cells scope in_page bs body
core_in_row cells scope in_page (row.begin vs) = body_of cells scope in_page vs
core_in_row cells scope in_page (row.all vs) = and_core cells scope in_page vs
core_in_row cells scope in_page (row.any vs) = or_core cells scope in_page vs
core_in_row cells scope in_page (row.choice t a b) = if_form cells scope in_page (val t (val a (val b no_vals)))
core_in_row cells scope in_page (row.clauses vs) = choices cells scope in_page [] vs
core_in_row cells scope in_page (row.turns x e body) = turns_core cells scope in_page x e body
core_in_row cells scope in_page (row.ref kind k) = Ok (ref kind k)
core_in_row cells scope in_page (row.store kind k e) = store_core cells scope kind k e
core_in_row cells scope in_page (row.send kind x body) = send_core cells scope kind x body
core_in_row cells scope in_page (row.last kind e) = last_core cells scope kind e
core_in_row cells scope in_page (row.isolate e) = isolate_core cells scope e
core_in_row cells scope in_page (row.call k vs) = call_core cells scope k vs
core_in_row cells scope in_page (row.apply o vs) = prim_core cells scope in_page o vs
