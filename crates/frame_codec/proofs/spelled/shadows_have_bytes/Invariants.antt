use Rattle.std.proofs.Common.{map, drop}
use Rattle.std.specs.Prelude.{◌↔◌}
use Rattle.std.specs.List.{AllByRecursion}
use Rattle.web_cells.specs.Views.{pair_of}
use Rattle.frame_codec.specs.Spelling.{ShadowHasBytes}
use Rattle.frame_codec.proofs.spelled.shadows_have_bytes.Given as goal

abbrev pub invariant-loop-shadow : goal.invariant-loop-shadow
invariant-loop-shadow l =
    AllByRecursion ShadowHasBytes (map pair_of (drop l.shadow-index l.shadows)) ↔ AllByRecursion ShadowHasBytes (map pair_of l.shadows)
