use Rattle.std.proofs.Common.{map, drop}
use Rattle.instance_cells.specs.Views.{effect_of}
use Rattle.journal_records.proofs.Levels.{NestAs}
use Rattle.journal_records.proofs.nesting.effects_nest_shallow.Given as goal

abbrev pub invariant-loop-effect : goal.invariant-loop-effect
invariant-loop-effect l = NestAs (map effect_of (drop l.effect-index l.effects)) (map effect_of l.effects)
