use Rattle.std.proofs.Common.{◌≡◌, map, drop}
use Rattle.web_cells.specs.Shadows.{binding}
use Rattle.web_cells.specs.Views.{pair_of}
use Rattle.web_cells.proofs.shades.Shades.lookup.Given as goal

abbrev pub invariant-loop-shadow : goal.invariant-loop-shadow
invariant-loop-shadow l = binding l.cell (map pair_of (drop l.shadow-index l.shadow-items)) ≡ binding l.cell (map pair_of l.shadow-items)
