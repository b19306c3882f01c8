use Rattle.std.proofs.Common.{◌≡◌, ◌-◌}
use Rattle.value_bytes.specs.Reading.{read_several, read_value}
use Rattle.value_bytes.proofs.Turns.{with_front}
use Rattle.frame_codec.proofs.front_bytes.several_values.Given as goal

abbrev pub invariant-loop-turn : goal.invariant-loop-turn
invariant-loop-turn l =
    with_front l.items (read_several read_value (l.count - l.turn) l.cursor) ≡ read_several read_value l.count l.fn.cursor
