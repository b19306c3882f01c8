use Rattle.std.proofs.Common.{◌≡◌, ◌++◌, map, drop}
use Rattle.std.specs.List.{flat_map, AllByRecursion}
use Rattle.instance_cells.specs.Views.{effect_of}
use Rattle.journal_records.specs.Fields.{effect_bytes, EffectFits}
use Rattle.journal_records.specs.Records.{effects_bytes}
use Rattle.journal_records.proofs.encoding.write_effects.Given as goal

abbrev pub invariant-loop-effect : goal.invariant-loop-effect
invariant-loop-effect l = record {
  written : l.writer ++ flat_map effect_bytes (map effect_of (drop l.effect-index l.effects)) ≡ l.fn.writer ++ effects_bytes (map effect_of l.effects);
  fit : AllByRecursion EffectFits (map effect_of (drop l.effect-index l.effects));
}
