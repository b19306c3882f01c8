use Rattle.std.proofs.Common.{◌∷◌, [], ◌++◌, ◌∙◌, ap, List}
use Rattle.script_value.specs.Val.{Val}
use Rattle.wire_bytes.specs.Spelling.{u32_bytes, u64_bytes}
use Rattle.value_bytes.specs.Spelling.{values_bytes}
use Rattle.frame_codec.proofs.Written.{on_ok, in_two, in_three}
use Rattle.frame_codec.proofs.write.write_turn.Goals as goal

pub returns : goal.returns
returns c =
    let done = values_bytes c.args.done.now in
    let turns = u64_bytes c.args.turns in
    on_ok c.write_values.result (λ e. in_two c.args.writer.now c.write_node.new.writer c.write_values.new.writer (7 ∷ u32_bytes c.args.node) (1 ∷ (turns ++ done)) c.in_ok-write_node.ensures
    (in_three c.write_node.new.writer c.u8.new.self c.u64.new.self c.write_values.new.writer (1 ∷ []) turns done c.in_ok-u8.ensures.ok c.in_ok-u64.ensures.ok
    (e ∙ ap (λ (vs : List Val). c.u64.new.self ++ values_bytes vs) c.as_slice.ensures))) c.write_values.ensures
