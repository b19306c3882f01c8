use Rattle.std.proofs.Common.{ap, arith}
use Rattle.script_value.specs.Val.{depth}
use Rattle.script_value.specs.Views.{meaning}
use Rattle.value_bytes.proofs.length.+lengths.Goals as goal
use Rattle.script_value.proofs.Folds.{item_depth}

pub all_length-value_length-requires : goal.all_length-value_length-requires
all_length-value_length-requires t c =
    let e = item_depth c.args.values.now c.loop-value.value-index c.value-item.result c.loop-value-test.true in
    let same = ap (λ v. depth (meaning v)) c.value-item.is in
    (omega (arith, e, same), tt)
