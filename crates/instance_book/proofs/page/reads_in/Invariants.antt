use Rattle.std.proofs.Common.{◌≡◌, ◌++◌, map, drop}
use Rattle.instance_cells.specs.Cells.{reads_of}
use Rattle.instance_cells.specs.Views.{effect_of}
use Rattle.instance_book.proofs.page.reads_in.Given as goal

abbrev pub invariant-loop-effect : goal.invariant-loop-effect
invariant-loop-effect l = reads_of (map effect_of l.effects) ≡ l.reads ++ reads_of (map effect_of (drop l.effect-index l.effects))
