use Rattle.std.proofs.Common.{◌∷◌, ◌++◌, ◌∙◌}
use Rattle.frame_codec.specs.Spelling.{let_bytes}
use Rattle.frame_codec.proofs.Written.{on_ok}
use Rattle.frame_codec.proofs.write.write_argument.Goals as goal

pub returns : goal.returns
returns c =
    on_ok c.write_call.result
    (λ e. e ∙ (λ i. c.args.writer.now ++ 10 ∷ let_bytes c.args.node (c.len.ensures i) (c.as_slice.ensures i)))
    c.write_call.ensures
