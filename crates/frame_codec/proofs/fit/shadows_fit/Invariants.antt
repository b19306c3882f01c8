use Rattle.std.proofs.Common.{◌≡◌, map, drop}
use Rattle.web_cells.specs.Views.{pair_of}
use Rattle.frame_codec.specs.Walk.{shadows_fit}
use Rattle.frame_codec.proofs.fit.shadows_fit.Given as goal

abbrev pub invariant-loop-shadow : goal.invariant-loop-shadow
invariant-loop-shadow l =
    shadows_fit l.least l.cells (map pair_of (drop l.shadow-index l.shadows)) ≡ shadows_fit 0 l.cells (map pair_of l.shadows)
