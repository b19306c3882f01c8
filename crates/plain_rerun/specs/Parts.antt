-- A script's nodes as the trees that they stand for, and what the engine does with them.
use Rattle.std.specs.Prelude.{ℕ, ◌<◌, ⊤, Bool, true, false, List, [], map, length}
use Rattle.std.specs.List.{AllByRecursion}
use Rattle.script_value.specs.Val.{Val, truth}
use Rattle.script_value.specs.declared.outcome.Op.{Op}
use Rattle.script_value.specs.declared.outcome.TxName.{TxName}
use Rattle.prim_spec.specs.Table.{is_false}
use Rattle.script_nodes.specs.Core.{Core, Cores, cores_of, prim, call, bind, branch, repeat, send, isolate, cell_shadow, inst_set, inst_add}
use Rattle.script_nodes.specs.declared.script.Node.{Node}
use Rattle.script_nodes.specs.declared.script.Node.TheVariants as node
use Rattle.script_nodes.specs.declared.script.SendKind.{SendKind}
use Rattle.script_nodes.specs.Arena.{Arena, tree_at, IsBehind}
use Rattle.script_nodes.specs.Calls.{CallsBelow}
use Rattle.replay_spec.specs.Tape.{Run, How, ◌>>=◌, ◌>>◌, charge, halt, as_number}
use Rattle.replay_spec.specs.Eval.{calls_in, eval, eval_into, eval_while, turns, for_each, is_any, is_not_false}
use Rattle.plain_rerun.specs.declared.goes_on.GoesOn.{GoesOn}
use Rattle.plain_rerun.specs.declared.goes_on.GoesOn.TheVariants.{Always, WhileTrue, WhileFalse}

-- the tree at a place of a script
abbrev pub tree : Arena → ℕ → Core
tree a n = tree_at a.nodes n

-- the trees at these places of a script
abbrev pub trees : Arena → List ℕ → Cores
trees a ns = cores_of (map (tree_at a.nodes) ns)

-- what a node comes to
abbrev pub node_at : Arena → ℕ → List Val → List TxName → Run Val
node_at a n = eval (calls_in a) (tree a n)

-- the values of parts from left to right
abbrev pub all_at : Arena → List ℕ → List Val → List TxName → Run (List Val)
all_at a ns = eval_into (calls_in a) [] (trees a ns)

-- what bindings with a body come to, by the numbers of their parts
abbrev pub let_at : Arena → (bindings : List ℕ) → (body : ℕ) → List Val → List TxName → Run Val
let_at a bindings body = eval (calls_in a) (bind (trees a bindings) (tree a body))

-- what a choice comes to, by the numbers of its parts
abbrev pub if_at : Arena → (test then otherwise : ℕ) → List Val → List TxName → Run Val
if_at a test then otherwise = eval (calls_in a) (branch (tree a test) (tree a then) (tree a otherwise))

-- what turns of a body come to, by the numbers of the count and the body
abbrev pub for_at : Arena → (count body : ℕ) → List Val → List TxName → Run Val
for_at a count body = eval (calls_in a) (repeat (tree a count) (tree a body))

-- what an operation over its operands comes to, by the numbers of these
abbrev pub prim_at : Arena → Op → (operands : List ℕ) → List Val → List TxName → Run Val
prim_at a op operands = eval (calls_in a) (prim op (trees a operands))

-- what a task over its operands comes to, by the numbers of these
abbrev pub call_at : Arena → (task : ℕ) → (operands : List ℕ) → List Val → List TxName → Run Val
call_at a k operands = eval (calls_in a) (call k (trees a operands))

-- what a page that is sent comes to, by the number of its body
abbrev pub send_at : Arena → SendKind → (body : ℕ) → List Val → List TxName → Run Val
send_at a kind body = eval (calls_in a) (send kind (tree a body))

-- what a transaction comes to, by the number of its body
abbrev pub isolate_at : Arena → (body : ℕ) → List Val → List TxName → Run Val
isolate_at a body = eval (calls_in a) (isolate (tree a body))

-- what the binding of a web cell comes to, by the number of what it is given
abbrev pub shadow_at : Arena → (cell value : ℕ) → List Val → List TxName → Run Val
shadow_at a cell value = eval (calls_in a) (cell_shadow cell (tree a value))

-- what the setting of a cell comes to, by the number of what it is given
abbrev pub set_at : Arena → (cell value : ℕ) → List Val → List TxName → Run Val
set_at a cell value = eval (calls_in a) (inst_set cell (tree a value))

-- what an add to a cell comes to, by the number of what is added
abbrev pub add_at : Arena → (cell value : ℕ) → List Val → List TxName → Run Val
add_at a cell value = eval (calls_in a) (inst_add cell (tree a value))

-- which values let the next part go on
abbrev pub passes : GoesOn → Val → Bool
passes Always = is_any
passes WhileTrue = is_not_false
passes WhileFalse = is_false

-- the truth value of a sequence, a conjunction or a disjunction that has no part
abbrev pub starts : GoesOn → Bool
starts Always = false
starts WhileTrue = true
starts WhileFalse = false

-- parts from left to right as long as their values pass: what a sequence, a conjunction and a disjunction are
abbrev pub joined : Arena → GoesOn → Cores → List Val → List TxName → Run Val
joined a g es env inside = do
  charge inside 1
  eval_while (calls_in a) (passes g) (truth (starts g)) es env inside

-- the page that a part gives stops the segment
abbrev pub stops_at : Arena → How → Core → List Val → List TxName → Run Val
stops_at a how b env inside = do
  charge inside 1
  page ← eval (calls_in a) b env inside
  halt inside how page

-- the values of so many turns of a body
abbrev pub first_turns : Arena → ℕ → Core → List Val → List TxName → Run (List Val)
first_turns a n body env inside = turns n 0 [] (λ e. eval (calls_in a) body e inside) env

-- the list of the values of as many turns of a body as a value says
abbrev pub turns_at : Arena → Val → Core → List Val → List TxName → Run Val
turns_at a count b env inside = for_each inside (as_number count) (λ e. eval (calls_in a) b e inside) env

-- a part stands after a node, and in the script, and calls tasks below this one alone
abbrev pub IsUnder : Arena → (below number part : ℕ) → Type 0
IsUnder a j n p = IsBehind n (length a.nodes) p × CallsBelow j (tree a p)

-- each of these parts stands after a node, and in the script, and calls tasks below this one alone
abbrev pub AreBehind : Arena → (below number : ℕ) → List ℕ → Type 0
AreBehind a j n ps = AllByRecursion (IsUnder a j n) ps

-- the task that a node calls is below this one
abbrev pub CallsEarlier : ℕ → Node → Type 0
CallsEarlier j (node.Call k ps) = k < j
CallsEarlier j _ = ⊤
