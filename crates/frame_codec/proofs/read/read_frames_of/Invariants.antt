use Rattle.std.proofs.Common.{◌≡◌, ◌-◌, map}
use Rattle.value_bytes.specs.Reading.{read_several}
use Rattle.value_bytes.proofs.Turns.{with_front}
use Rattle.machine_states.specs.Views.{frame_of}
use Rattle.frame_codec.specs.Reading.{read_frame}
use Rattle.frame_codec.proofs.read.read_frames_of.Given as goal

abbrev pub invariant-loop-turn : goal.invariant-loop-turn
invariant-loop-turn l =
    with_front (map frame_of l.frames.items) (read_several (read_frame l.script) (l.count - l.turn) l.cursor) ≡ read_several (read_frame l.script) l.count l.fn.cursor
