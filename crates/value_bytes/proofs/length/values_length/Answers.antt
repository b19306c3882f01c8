use Rattle.std.proofs.Common.{ap, arith, length, map}
use Rattle.script_value.specs.Views.{meaning}
use Rattle.value_bytes.proofs.Trees.{all_bytes-vals_of}
use Rattle.value_bytes.proofs.length.values_length.Goals as goal

pub returns : goal.returns
returns c =
    let same = ap length (all_bytes-vals_of (map meaning c.args.values.now)) in
    omega (arith, same, c.all_length.ensures)
