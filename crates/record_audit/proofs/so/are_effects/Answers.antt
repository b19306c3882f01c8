use Rattle.std.proofs.Common.{map}
use Rattle.instance_cells.specs.Views.{effect_of}
use Rattle.record_audit.proofs.Same.{effects_test}
use Rattle.record_audit.proofs.so.are_effects.Goals as goal

pub returns : goal.returns
returns c = effects_test (map effect_of c.args.left.now) (map effect_of c.args.right.now) c.are_same_effects.result c.are_same_effects.ensures
