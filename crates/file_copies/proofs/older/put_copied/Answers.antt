use Rattle.std.proofs.Common.{◌≡◌, ◌∷◌}
use Rattle.file_copies.proofs.Sized.{number_fits, others_fit}
use Rattle.file_copies.proofs.older.put_copied.Goals as goal

pub put_record-requires-2 : goal.put_record-requires-2
put_record-requires-2 c =
    let is : c.args.bodies.now ≡ c.in-Some.first.now ∷ c.in-Some.others.now = c.in-Some.ensures.cases.0 in
    number_fits c.args.plan.now c.args.number.now c.in-Some.first.now c.in-Some.others.now c.args.bodies.now is c.requires.short

pub put_planned-requires-clause-short : goal.put_planned-requires-clause-short
put_planned-requires-clause-short c =
    let is : c.args.bodies.now ≡ c.in-Some.first.now ∷ c.in-Some.others.now = c.in-Some.ensures.cases.0 in
    others_fit c.args.plan.now c.args.number.now c.in-Some.first.now c.in-Some.others.now c.args.bodies.now is c.requires.short
