use Rattle.std.proofs.Common.{◌∷◌}
use Rattle.wire_bytes.specs.Spelling.{u32_bytes, u64_bytes}
use Rattle.frame_codec.proofs.Written.{on_ok, in_three}
use Rattle.frame_codec.proofs.write.write_isolate.Goals as goal

pub returns : goal.returns
returns c =
    on_ok c.u32.result (λ e. in_three c.args.writer.now c.write_node.new.writer c.u64.new.self c.u32.new.self
    (9 ∷ u32_bytes c.args.node) (u64_bytes c.args.name.ticket) (u32_bytes c.args.name.entry) c.in_ok-write_node.ensures c.in_ok-u64.ensures.ok e) c.u32.ensures.ok
