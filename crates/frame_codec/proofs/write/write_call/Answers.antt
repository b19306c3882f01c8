use Rattle.std.proofs.Common.{◌∷◌, map}
use Rattle.script_value.specs.Views.{meaning}
use Rattle.value_bytes.specs.Spelling.{values_bytes}
use Rattle.frame_codec.specs.Spelling.{part_bytes}
use Rattle.frame_codec.proofs.Written.{on_ok, in_two}
use Rattle.frame_codec.proofs.write.write_call.Goals as goal

pub returns : goal.returns
returns c =
    on_ok c.write_values.result
    (λ e. in_two c.args.writer.now c.write_part.new.writer c.write_values.new.writer (10 ∷ part_bytes c.args.node c.args.part) (values_bytes (map meaning c.args.values.now)) c.in_ok-write_part.ensures e)
    c.write_values.ensures
