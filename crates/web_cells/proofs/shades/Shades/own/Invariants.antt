use Rattle.std.proofs.Common.{ℕ, List, ◌++◌, map, drop}
use Rattle.script_value.specs.Val.{Val}
use Rattle.web_cells.specs.Own.{IsOwn}
use Rattle.web_cells.specs.Views.{pair_of}
use Rattle.web_cells.proofs.shades.Shades.own.Given as goal

abbrev pub invariant-loop-shadow : goal.invariant-loop-shadow
invariant-loop-shadow l =
    (rest : List (ℕ × Val)) → IsOwn l.parent (map pair_of (drop l.shadow-index l.shadow-items)) rest
    → IsOwn l.parent (map pair_of l.shadow-items) (map pair_of l.own.items ++ rest)
