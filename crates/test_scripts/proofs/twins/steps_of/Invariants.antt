use Rattle.cek_machine.specs.Machines.{IsReady}
use Rattle.test_scripts.proofs.twins.steps_of.Given as goal

abbrev pub invariant-loop-before : goal.invariant-loop-before
invariant-loop-before g l = IsReady l.machine
