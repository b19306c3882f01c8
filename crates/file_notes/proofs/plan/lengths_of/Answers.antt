use Rattle.std.proofs.Common.{arith}
use Rattle.file_notes.proofs.Steps.{lengths_step}
use Rattle.file_notes.proofs.plan.lengths_of.Goals as goal

pub loop-note-preserved : goal.loop-note-preserved
loop-note-preserved c =
    let step = lengths_step c.args.notes.now c.loop-note.note-index _ c.length.result c.loop-note-test.true c.length.ensures.length in
    record { sum = omega (arith, step, c.loop-note.invariant.sum); low = omega (arith, c.loop-note.invariant.low, c.length.ensures.low) }
