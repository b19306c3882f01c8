use Rattle.std.proofs.Common.{◌≡◌, map, drop}
use Rattle.std.specs.List.{list_all}
use Rattle.web_cells.specs.Views.{pair_of}
use Rattle.shelf.specs.Recording.{is_shallow_shadow}
use Rattle.shelf.proofs.nesting.shadows_nest_shallow.Given as goal

abbrev pub invariant-loop-shadow : goal.invariant-loop-shadow
invariant-loop-shadow l = list_all is_shallow_shadow (map pair_of (drop l.shadow-index l.shadows)) ≡ list_all is_shallow_shadow (map pair_of l.shadows)
