use Rattle.std.proofs.Common.{◌≡◌, map, take}
use Rattle.web_cells.specs.Shadows.{all_bound}
use Rattle.web_cells.specs.Views.{pair_of}
use Rattle.frame_codec.proofs.joined.bound_with.Given as goal

abbrev pub invariant-loop-shadow : goal.invariant-loop-shadow
invariant-loop-shadow l = l.shades ≡ all_bound (map pair_of (take l.shadow-index l.shadow-items)) l.fn.shades
