use Rattle.std.proofs.Common.{arith}
use Rattle.file_notes.proofs.Steps.{lengths_step, longer_step}
use Rattle.file_notes.proofs.plan.longest_of.Goals as goal

pub loop-note-preserved : goal.loop-note-preserved
loop-note-preserved c =
    let step = lengths_step c.args.notes.now c.loop-note.note-index _ c.length.result c.loop-note-test.true c.length.ensures.length in
    record {
      longer =
          longer_step c.args.notes.now c.loop-note.note-index _ c.loop-note.longest c.max-longest.result c.length.result c.loop-note-test.true c.length.ensures.length c.loop-note.invariant.longer
          (omega (arith, c.max-longest.ensures)) (omega (arith, c.max-longest.ensures));
      low = omega (arith, step, c.loop-note.invariant.low, c.max-longest.ensures);
    }
