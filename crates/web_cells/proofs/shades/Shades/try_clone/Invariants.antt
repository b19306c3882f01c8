use Rattle.std.proofs.Common.{◌≡◌, map, take}
use Rattle.web_cells.specs.Views.{pair_of}
use Rattle.web_cells.proofs.shades.Shades.try_clone.Given as goal

abbrev pub invariant-loop-shadow : goal.invariant-loop-shadow
invariant-loop-shadow l = map pair_of l.shadows.items ≡ map pair_of (take l.shadow-index l.shadow-items)
