-- The trees that the program makes of data, as trees of the core language.
use Rattle.std.specs.Prelude.{List, [], ◌∷◌, map}
use Rattle.script_value.specs.Views.{meaning}
use Rattle.core_syntax.specs.declared.tree.Form.{Form}
use Rattle.core_syntax.specs.declared.tree.Form.TheVariants as form
use Rattle.core_syntax.specs.declared.tree.Group.{Group}
use Rattle.core_syntax.specs.declared.tree.Group.TheVariants as group
use Rattle.core_syntax.specs.declared.tree.Single.{Single}
use Rattle.core_syntax.specs.declared.tree.Single.TheVariants as single
use Rattle.core_syntax.specs.declared.tree.Choice.{Choice}
use Rattle.script_nodes.specs.Core.{Core, no_cores, lit, var, bind, repeat, prim, seq, and_all, or_any, send, isolate, cores_of}
use Rattle.core_syntax.specs.Forms.{ref, of_task, nest, choose, store, last_page}

-- the test and the body of a choice
abbrev pub pair_of : Choice → Core × Core
pair_of c = (c.test, c.body)

-- bindings one inside the other; of none, a node that binds nothing
abbrev pub nested : List Core → Core → Core
nested [] b = bind no_cores b
nested (e ∷ es) b = nest (e ∷ es) b

-- choices one inside the other; of none, the last alone in a node
abbrev pub chosen : List (Core × Core) → Core → Core
chosen [] o = seq (cores_of (o ∷ []))
chosen (c ∷ cs) o = choose (c ∷ cs) o

-- the tree over these parts
abbrev pub over_parts : Group → List Core → Core
over_parts group.Seq es = seq (cores_of es)
over_parts group.And es = and_all (cores_of es)
over_parts group.Or es = or_any (cores_of es)
over_parts (group.Prim o) es = prim o (cores_of es)
over_parts (group.Call k) es = of_task k es

-- the tree over this part
abbrev pub over_part : Single → Core → Core
over_part (single.Send kind) b = send kind b
over_part (single.Last kind) b = last_page kind b
over_part single.Isolate b = isolate b
over_part (single.Store kind c) e = store kind c e

-- the tree of the core language that a tree of the program stands for
abbrev pub core_in : Form → Core
core_in (form.Lit v) = lit (meaning v)
core_in (form.Var k) = var k
core_in (form.Ref kind c) = ref kind c
core_in (form.Let es b) = bind (cores_of es.items) b.value
core_in (form.Nest es b) = nested es.items b.value
core_in (form.Group g es) = over_parts g es.items
core_in (form.Cond cs o) = chosen (map pair_of cs.items) o.value
core_in (form.For n b) = repeat n.value b.value
core_in (form.Single s b) = over_part s b.value
