use Rattle.std.proofs.Common.{◌∙◌}
use Rattle.machine_states.specs.Views.{frame_of}
use Rattle.frame_codec.specs.Reading.{read_frame}
use Rattle.frame_codec.proofs.Turns.{one_kept}
use Rattle.frame_codec.proofs.read.read_frames_of.Goals as goal

pub loop-turn-preserved : goal.loop-turn-preserved
loop-turn-preserved c =
    one_kept frame_of (read_frame c.args.script.now) c.args.count c.loop-turn.turn c.loop-turn.frames.items c.push.new.self.items c.in_ok-frame.frame
    c.loop-turn.cursor c.read_frame.new.cursor c.in_ok-push.ensures.items c.loop-turn-test.true c.in_ok-frame.ensures
    ∙ c.loop-turn.invariant
