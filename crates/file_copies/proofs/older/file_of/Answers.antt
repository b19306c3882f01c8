use Rattle.std.proofs.Common.{◌≡◌, false, ap, length, arith, rules}
use Rattle.page_journal.specs.Records.{at_rest}
use Rattle.file_copies.specs.Copies.{copied}
use Rattle.file_copies.proofs.Copied.{whole_file}
use Rattle.file_copies.proofs.Sized.{all_fit}
use Rattle.file_copies.proofs.older.file_of.Goals as goal

pub put_copied-requires-clause-short : goal.put_copied-requires-clause-short
put_copied-requires-clause-short c = all_fit (copied c.args.plan.now false c.args.number.now c.args.bodies.now) (omega (arith, c.requires.len, c.requires.short))

pub returns-clause-whole : goal.returns-clause-whole
returns-clause-whole c =
    let bodies = copied c.args.plan.now false c.args.number.now c.args.bodies.now in
    let is : c.push.new.self.items ≡ at_rest bodies = search rules in
    let long = ap (λ xs. length xs) is in
    (whole_file bodies c.push.new.self.items c.args.sizes.longest (omega (arith, long, c.requires.len, c.requires.short)) is c.requires.longest).0
