use Rattle.machine_states.specs.Views.{suspended_of}
use Rattle.frame_codec.specs.DeltaViews.{delta_of}
use Rattle.frame_codec.proofs.Reread.{found_is_read}
use Rattle.frame_codec.proofs.delta_bytes.decode_delta.Goals as goal

pub returns-clause-read : goal.returns-clause-read
returns-clause-read c =
    λ stored. found_is_read delta_of c.args.script.now (suspended_of c.args.parent.now) c.args.bytes.now c.in_ok-find_delta.field-0 stored
    (λ i. (c.type_inv.bytes i).fits) c.in_ok-find_delta.ensures.0 c.in_ok-find_delta.ensures.1
