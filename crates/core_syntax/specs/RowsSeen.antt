-- What contracts see of rows, and of a reader.
use Rattle.std.specs.Prelude.{◌≡◌, List, Option, Result, Ok, Err, option_map}
use Rattle.std.specs.Borrow.{Bor}
use Rattle.script_value.specs.Val.{Vals}
use Rattle.script_value.specs.Views.{meaning, meanings}
use Rattle.script_value.specs.declared.value.Value.{Value}
use Rattle.script_nodes.specs.declared.script.SendKind.{SendKind}
use Rattle.core_syntax.specs.declared.faults.SyntaxKind.{SyntaxKind}
use Rattle.core_syntax.specs.declared.rows.Row.{Row as RowOf}
use Rattle.core_syntax.specs.declared.rows.Row.TheVariants as variant
use Rattle.core_syntax.specs.declared.rows.Bound.{Bound}
use Rattle.core_syntax.specs.Names.{CellNames}
use Rattle.core_syntax.specs.Rows.{Row}
use Rattle.core_syntax.specs.Rows as row

-- the bindings and the body of a form that binds names
abbrev pub bound_parts : Bound → Vals × Vals
bound_parts b = (meanings b.bindings.now, meanings b.body.now)

-- the row of the table that the program's row stands for
abbrev pub row_seen : RowOf → Row
row_seen (variant.Literal v) = row.literal (meaning v.now)
row_seen (variant.Variable k) = row.variable k
row_seen (variant.Template t) = row.template (meaning t.now)
row_seen (variant.Let b) = row.bind (meanings b.bindings.now) (meanings b.body.now)
row_seen (variant.LetInTurn b) = row.bind_in_turn (meanings b.bindings.now) (meanings b.body.now)
row_seen (variant.Begin body) = row.begin (meanings body.now)
row_seen (variant.If t a b) = row.choice (meaning t.now) (meaning a.now) (meaning b.now)
row_seen (variant.Cond cs) = row.clauses (meanings cs.now)
row_seen (variant.And parts) = row.all (meanings parts.now)
row_seen (variant.Or parts) = row.any (meanings parts.now)
row_seen (variant.For x e body) = row.turns x.now (meaning e.now) (meanings body.now)
row_seen (variant.Ref kind k) = row.ref kind k
row_seen (variant.Store kind k e) = row.store kind k (meaning e.now)
row_seen (variant.Send kind x body) = row.send kind x.now (meanings body.now)
row_seen (variant.Last kind e) = row.last kind (meaning e.now)
row_seen (variant.Isolate e) = row.isolate (meaning e.now)
row_seen (variant.Call k parts) = row.call k (meanings parts.now)
row_seen (variant.Apply o parts) = row.apply o (meanings parts.now)

-- an answer as it is seen, or its fault
abbrev pub seen : {A B : Type 0} → (A → B) → Result A SyntaxKind → Result B SyntaxKind
seen view (Ok x) = Ok (view x)
seen view (Err k) = Err k

-- the row of the table that the program found, or the fault
abbrev pub seen_row : Result RowOf SyntaxKind → Result Row SyntaxKind
seen_row result = seen row_seen result

-- The name that a reference is to, if there is one.
abbrev pub name_seen : {A : Type 0} → Option (Bor A) → Option A
name_seen name = option_map (λ x. x.now) name

-- What is answered is the table's row of a page's function: a word, parameters and a body.
abbrev pub IsFunctionBy : Result RowOf SyntaxKind → CellNames → SendKind → (word parameters : Value) → (body : List Value) → Type 0
IsFunctionBy result cells kind word parameters body =
    seen_row result ≡ row.function_by cells kind (meaning word) (meaning parameters) (meanings body)
