use Rattle.std.proofs.Common.{◌≡◌, ◌∙◌, suc, ap, subst, arith}
use Rattle.script_nodes.specs.Arena.{Arena}
use Rattle.machine_states.specs.Machine.{goes, step}
use Rattle.machine_states.proofs.Replay.{steps_then}
use Rattle.cek_machine.specs.Machines.{machine_of}
use Rattle.cek_machine.proofs.Standing.{fewer_left, within_on}
use Rattle.cek_machine.proofs.machine.Machine.run.Goals as goal

pub loop-end-smaller : goal.loop-end-smaller
loop-end-smaller g c =
    let within = c.loop-end.invariant.1.0 in
    let went = rw c.in-None.is at c.in_ok-end.ensures.step in
    fewer_left c.loop-end.self.script.now (machine_of c.loop-end.self) (machine_of c.step.new.self) within.0 within.1.0 within.1.1 went

pub loop-end-preserved : goal.loop-end-preserved
loop-end-preserved g c =
    let inv = c.loop-end.invariant in
    let within = inv.1.0 in
    let script = inv.1.1.0 in
    let k = inv.1.1.1.0 in
    let before = inv.1.1.1.1.0 in
    let counted = c.step.ensures.counted in
    let went = rw c.in-None.is at c.in_ok-end.ensures.step in
    let here = subst (λ (a : Arena). step a (machine_of c.loop-end.self) ≡ goes (machine_of c.step.new.self)) (ap (λ s. s.now) script) went in (
      c.in_ok-end.ensures.ready c.in-None.is,
      (
        (within.0, (within.1.0, within_on c.loop-end.self.script.now (machine_of c.loop-end.self) (machine_of c.step.new.self) within.0 within.1.0 within.1.1 went)),
        (
          c.step.ensures.script ∙ script,
          (
            suc k,
            (
              omega (arith, before, counted),
              steps_then c.args.self.now.script.now k (machine_of c.args.self.now) (machine_of c.loop-end.self) (goes (machine_of c.step.new.self)) inv.1.1.1.1.1 here,
            ),
          ),
        ),
      ),
    )
