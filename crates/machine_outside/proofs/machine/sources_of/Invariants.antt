use Rattle.std.proofs.Common.{◌≡◌, vec_len}
use Rattle.machine_outside.specs.Streams.{sources_of}
use Rattle.machine_outside.proofs.machine.sources_of.Given as goal

abbrev pub invariant-loop-stream : goal.invariant-loop-stream
invariant-loop-stream l = (l.sources.items ≡ sources_of l.key l.stream) × (vec_len l.sources ≡ l.stream)
