use Rattle.std.proofs.Common.{◌≡◌}
use Rattle.std.specs.Io.KnownBytes.{Keeps}
use Rattle.machine_outside.proofs.adapters.WritingSink.flush.Given as goal

abbrev pub invariant-tries : goal.invariant-tries
invariant-tries g l = record {
  kept : Keeps (g.W.Write.contents l.fn.self.inner) (g.W.Write.contents l.self.inner);
  count : l.self.count ≡ l.fn.self.count;
}
