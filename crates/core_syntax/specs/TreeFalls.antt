-- Each part of a tree is less high than the tree.
use Rattle.std.specs.Prelude.{ℕ, ◌+◌, ◌≤◌, suc, List, [], ◌∷◌, max, map}
use Rattle.std.proofs.Common.{arith}
use denote.Param.Weighed.{most}
use Rattle.core_syntax.specs.declared.heads.CellKind.TheVariants.{Web, Instance}
use Rattle.core_syntax.specs.declared.heads.LastPage.TheVariants.{Finish, Back}
use Rattle.core_syntax.specs.declared.heads.Store.TheVariants.{Shadow, Set, Add}
use Rattle.script_nodes.specs.Core.{Core, height, height_all, cores_of}
use Rattle.core_syntax.specs.declared.tree.Form.{Form}
use Rattle.core_syntax.specs.declared.tree.Form.TheVariants as form
use Rattle.core_syntax.specs.declared.tree.Group.TheVariants as group
use Rattle.core_syntax.specs.declared.tree.Single.TheVariants as single
use Rattle.core_syntax.specs.declared.tree.Choice.{Choice}
use Rattle.core_syntax.specs.declared.tree.Tree.TheDeep.{deep-Form, deep-Choice}
use Rattle.core_syntax.specs.Forms.{nest, choose}
use Rattle.core_syntax.specs.Trees.{core_in, nested, chosen, pair_of}

-- what a tree counts within another
abbrev weight : Core → ℕ
weight c = height c + 1

-- each of these trees is lighter than a tree over all of them
most_falls : (es : List Core) → most weight es ≤ suc (height_all (cores_of es))
most_falls [] = omega arith
most_falls (e ∷ es) = omega (arith, most_falls es)

-- bindings one inside the other are no lower than each of their expressions and than their body
nest_falls : (es : List Core) (b : Core) → max (most weight es) (height b) ≤ height (nest es b)
nest_falls [] b = omega arith
nest_falls (e ∷ es) b = omega (arith, nest_falls es b)

-- bindings one inside the other, or a node that binds nothing, are higher than each expression and than the body
nested_falls : (es : List Core) (b : Core) → max (most weight es) (weight b) ≤ height (nested es b)
nested_falls [] b = omega arith
nested_falls (e ∷ es) b = omega (arith, nest_falls es b)

-- choices one inside the other are no lower than each of the choices and than the last alone
choose_falls : (cs : List Choice) (o : Core) → max (most deep-Choice cs) (height o) ≤ height (choose (map pair_of cs) o)
choose_falls [] o = omega arith
choose_falls (c ∷ cs) o = omega (arith, choose_falls cs o)

-- choices one inside the other, or the last alone in a node, are higher than each choice and than the last
chosen_falls : (cs : List Choice) (o : Core) → max (most deep-Choice cs) (weight o) ≤ height (chosen (map pair_of cs) o)
chosen_falls [] o = omega arith
chosen_falls (c ∷ cs) o = omega (arith, choose_falls cs o)

-- no part of a tree is as high as the whole tree
pub form_falls : (f : Form) → max (deep-Form f) 0 ≤ height (core_in f)
form_falls (form.Lit v) = omega arith
form_falls (form.Var k) = omega arith
form_falls (form.Ref Web c) = omega arith
form_falls (form.Ref Instance c) = omega arith
form_falls (form.Let es b) = omega (arith, most_falls es.items)
form_falls (form.Nest es b) = omega (arith, nested_falls es.items b.value)
form_falls (form.Group group.Seq es) = omega (arith, most_falls es.items)
form_falls (form.Group group.And es) = omega (arith, most_falls es.items)
form_falls (form.Group group.Or es) = omega (arith, most_falls es.items)
form_falls (form.Group (group.Prim o) es) = omega (arith, most_falls es.items)
form_falls (form.Group (group.Call k) es) = omega (arith, most_falls es.items)
form_falls (form.Cond cs o) = omega (arith, chosen_falls cs.items o.value)
form_falls (form.For n b) = omega arith
form_falls (form.Single (single.Send kind) b) = omega arith
form_falls (form.Single (single.Last Finish) b) = omega arith
form_falls (form.Single (single.Last Back) b) = omega arith
form_falls (form.Single single.Isolate b) = omega arith
form_falls (form.Single (single.Store Shadow c) e) = omega arith
form_falls (form.Single (single.Store Set c) e) = omega arith
form_falls (form.Single (single.Store Add c) e) = omega arith
