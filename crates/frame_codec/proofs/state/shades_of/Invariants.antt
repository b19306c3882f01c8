use Rattle.std.proofs.Common.{◌≡◌, [], map}
use Rattle.web_cells.specs.Shadows.{all_bound}
use Rattle.web_cells.specs.Views.{pair_of}
use Rattle.frame_codec.proofs.state.shades_of.Given as goal

abbrev pub invariant-loop-shadow : goal.invariant-loop-shadow
invariant-loop-shadow l = l.shades ≡ all_bound (map pair_of l.yielded) []
