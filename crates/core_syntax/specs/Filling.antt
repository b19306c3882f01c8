-- Templates that are filled in one pass: there is no tree for a plain part, since what holds it may be one literal.
use Rattle.std.specs.Prelude.{◌++◌, ◌&&◌, Bool, true, false, not, List, [], map, length, nat_eq, ℕ, Option, Some, None, Result, Ok, codes, option_map, unwrap_or, if◌then◌else◌}
use Rattle.std.specs.Borrow.{Bor}
use Rattle.script_value.specs.Val.{Val, Vals, list}
use Rattle.script_value.specs.Views.{meaning}
use Rattle.script_value.specs.declared.value.Value.{Value}
use Rattle.script_value.specs.declared.outcome.Op.TheVariants as op
use Rattle.core_syntax.specs.declared.faults.SyntaxKind.{SyntaxKind}
use Rattle.core_syntax.specs.declared.filled_items.FilledItems.{FilledItems}
use Rattle.script_nodes.specs.Core.{Core, lit}
use Rattle.core_syntax.specs.Names.{◌>>=◌, CellNames}
use Rattle.core_syntax.specs.Shapes.{begins}
use Rattle.core_syntax.specs.Templates.{is_plain, are_plain}
use Rattle.core_syntax.specs.Forms.{of_op, made, filled, all_filled, spliced, bound_value}

-- literals of these values, one a value
abbrev pub literals : List (Bor Value) → List Core
literals values = map (λ v. lit (meaning v.now)) values

-- the tree of a part, or a literal where there is no tree
abbrev pub or_literal : Option Core → Value → Core
or_literal tree v = unwrap_or tree (lit (meaning v))

-- the trees of items of which the last may have none yet
abbrev pub trees_of : FilledItems → List Core
trees_of items = items.trees.items ++ literals items.plain.items

-- whether no item of a list has a tree yet
abbrev pub has_no_tree : FilledItems → Bool
has_no_tree items = nat_eq (length items.trees.items) 0

-- the trees of items; none where no item has a tree, unless trees are wanted then too
abbrev pub trees_or_none : Bool → FilledItems → Option (List Core)
trees_or_none is_wanted items = if has_no_tree items && not is_wanted then None else Some (trees_of items)

-- a tree that there is, or the fault
abbrev pub in_some : {A : Type 0} → Result A SyntaxKind → Result (Option A) SyntaxKind
in_some r = r >>= (λ x. Ok (Some x))

-- no tree for what is plain, or else the result
abbrev pub unless_plain : {A : Type 0} → Bool → Result A SyntaxKind → Result (Option A) SyntaxKind
unless_plain true r = Ok None
unless_plain false r = in_some r

-- the tree of a part of a template, or none where the part is plain
abbrev pub part_filled : CellNames → List (List ℕ) → Bool → Val → Result (Option Core) SyntaxKind
part_filled cells scope in_page v = unless_plain (is_plain v) (filled cells scope in_page v)

-- the trees of the items of a list without an unquote at its head, or none where all are plain
abbrev pub items_filled : CellNames → List (List ℕ) → Bool → Vals → Result (Option (List Core)) SyntaxKind
items_filled cells scope in_page vs =
    unless_plain (are_plain vs && not (begins (codes "unquote-splicing") vs)) (all_filled cells scope in_page [] vs)

-- the tree of a list of these items, or none where all are plain
abbrev pub list_filled : CellNames → List (List ℕ) → Bool → Vals → Result (Option Core) SyntaxKind
list_filled cells scope in_page vs = items_filled cells scope in_page vs >>= (λ o. Ok (option_map (of_op op.List) o))

-- the tree of a list that joins what its parts give
abbrev pub joined : CellNames → List (List ℕ) → Bool → Vals → Result (Option Core) SyntaxKind
joined cells scope in_page vs = in_some (made (of_op op.Append) (spliced cells scope in_page [] vs))

-- the tree of `(unquote e)`
abbrev pub unquote_filled : CellNames → List (List ℕ) → Bool → Vals → Result (Option Core) SyntaxKind
unquote_filled cells scope in_page vs = in_some (bound_value cells scope in_page (list vs))
