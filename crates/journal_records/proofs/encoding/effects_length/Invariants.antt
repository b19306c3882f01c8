use Rattle.std.proofs.Common.{◌≡◌, ◌^◌, min, length, map, take}
use Rattle.instance_cells.specs.Views.{effect_of}
use Rattle.journal_records.specs.Records.{effects_bytes}
use Rattle.journal_records.proofs.encoding.effects_length.Given as goal

abbrev pub invariant-loop-effect : goal.invariant-loop-effect
invariant-loop-effect l = l.sum ≡ min (length (effects_bytes (map effect_of (take l.effect-index l.effects)))) (2 ^ 63)
