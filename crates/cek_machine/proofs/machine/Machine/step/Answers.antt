use Rattle.cek_machine.proofs.Standing.{fits_next}
use Rattle.cek_machine.proofs.machine.Machine.step.Goals as goal

pub returns-in-Ok-clause-ready : goal.returns-in-Ok-clause-ready
returns-in-Ok-clause-ready g c = λ _. (
  c.in-Ok.ensures.sound,
  (
    c.requires.1.0,
    fits_next c.args.self.now.script.now c.args.self.now.control c.replace-control.result c.args.self.now.spot c.next.new.self c.in-Ok.control
        c.replace-control.ensures.value c.requires.1.1 c.in-Ok.ensures.gives,
  ),
)
