use Rattle.std.proofs.Common.{◌≡◌, ◌≤◌}
use Rattle.machine_outside.proofs.porch.SocketPorch.accept.Given as goal

abbrev pub invariant-tries : goal.invariant-tries
invariant-tries g l = record {
  given : l.self.given ≡ l.fn.self.given;
  most : l.self.most ≡ l.fn.self.most;
  lent : l.self.lent ≡ l.fn.self.lent;
  later : l.fn.self.faults ≤ l.self.faults;
}
