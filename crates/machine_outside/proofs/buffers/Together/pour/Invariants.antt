use Rattle.std.proofs.Common.{◌≤◌, ◌-◌, vec_len}
use Rattle.std.specs.Io.KnownBytes.{Keeps}
use Rattle.machine_outside.specs.Buffers.{together_view}
use Rattle.machine_outside.proofs.buffers.Together.pour.Given as goal

abbrev pub invariant-loop-self : goal.invariant-loop-self
invariant-loop-self g l = record {
  same : Keeps (together_view g.O.Sink.view l.fn.self).written (together_view g.O.Sink.view l.self).written;
  later : (g.O.Sink.view l.fn.self.sink).faults ≤ (g.O.Sink.view l.self.sink).faults;
}

abbrev pub decreases-loop-self : goal.decreases-loop-self
decreases-loop-self g l = vec_len l.self.bytes - l.self.start
