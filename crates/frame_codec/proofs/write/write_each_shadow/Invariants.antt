use Rattle.std.proofs.Common.{◌≡◌, ◌++◌, map, drop}
use Rattle.std.specs.List.{AllByRecursion, flat_map}
use Rattle.web_cells.specs.Views.{pair_of}
use Rattle.frame_codec.specs.Spelling.{shadow_bytes, ShadowHasBytes}
use Rattle.frame_codec.proofs.write.write_each_shadow.Given as goal

abbrev pub invariant-loop-shadow : goal.invariant-loop-shadow
invariant-loop-shadow l = record {
  written : l.writer ++ flat_map shadow_bytes (map pair_of (drop l.shadow-index l.shadows)) ≡ l.fn.writer ++ flat_map shadow_bytes (map pair_of l.shadows);
  fit : AllByRecursion ShadowHasBytes (map pair_of (drop l.shadow-index l.shadows));
}
