-- A code of trees, as an impl of Model asks for one: a tree is written as its nodes.
use Rattle.std.specs.Prelude.{List}
use Rattle.std.specs.Coded.{Coded, coded_list, code_by}
use Rattle.script_nodes.specs.declared.script.Node.{Node}
use Rattle.script_nodes.specs.Core.{Core}
use Rattle.script_nodes.specs.Arena.{tree_at}
use Rattle.script_nodes.specs.Layout.{layout}
use Rattle.script_nodes.specs.Readings.{tree_at-layout}

-- a code of trees, by a code of their nodes
abbrev pub core_code : Coded Node → Coded Core
core_code c = code_by (List Node) (coded_list c) (layout 0) (λ nodes. tree_at nodes 0) tree_at-layout
