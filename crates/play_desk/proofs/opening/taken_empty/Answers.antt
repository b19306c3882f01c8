use Rattle.trio_rack.proofs.Bare.{may_hold_some}
use Rattle.play_desk.proofs.opening.taken_empty.Goals as goal

pub returns-in-Ok-false-clause-empty : goal.returns-in-Ok-false-clause-empty
returns-in-Ok-false-clause-empty g c rack_tells disk_tells =
    may_hold_some g.F.Disk (λ x. g.met.F.Disk.reads_image x disk_tells) (g.R.Rack.view c.args.rack.now) c.args.number c.in-Ok.disks (c.in-Ok.ensures.each rack_tells)
    (λ empty. let is = (c.in-Ok-false.ensures.empty disk_tells).1 empty in let test = c.in-Ok-false.field-0-test in let no : ⊥ = cc (is, test) in no)
