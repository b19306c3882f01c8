use Rattle.std.proofs.Common.{◌≡◌, ◌-◌, map}
use Rattle.value_bytes.specs.Reading.{read_several, read_list}
use Rattle.value_bytes.proofs.Turns.{with_front}
use Rattle.web_cells.specs.Views.{pair_of}
use Rattle.frame_codec.specs.Reading.{read_shadow}
use Rattle.frame_codec.proofs.read.read_shadows.Given as goal

abbrev pub invariant-loop-turn : goal.invariant-loop-turn
invariant-loop-turn l =
    with_front (map pair_of l.shadows.items) (read_several read_shadow (l.count - l.turn) l.cursor) ≡ read_list read_shadow l.fn.cursor
