use Rattle.std.proofs.Common.{◌≡◌, vec_len, All}
use Rattle.machine_outside.specs.Sockets.{IsOpened}
use Rattle.machine_outside.proofs.door.SocketDoor.porches_of.Given as goal

abbrev pub invariant-loop : goal.invariant-loop
invariant-loop g l = (vec_len l.porches ≡ l.counter) × All (IsOpened l.connections) l.porches.items
