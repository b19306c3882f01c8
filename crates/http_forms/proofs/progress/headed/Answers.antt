use Rattle.std.proofs.Common.{sym, arith}
use Rattle.std.proofs.lemmas.List.{length-take-le}
use Rattle.http_forms.proofs.Ends.{head_inside}
use Rattle.http_forms.proofs.Following.{head_more, refused_head, refused_stays}
use Rattle.http_forms.proofs.progress.headed.Goals as goal

pub slice_bounds-judge-end : goal.slice_bounds-judge-end
slice_bounds-judge-end c = sym (length-take-le c.args.end c.args.bytes.now (head_inside c.args.bytes.now c.args.end c.requires))

pub returns-in-Ok-clause-knows : goal.returns-in-Ok-clause-knows
returns-in-Ok-clause-knows c =
    let size = length-take-le c.args.end c.args.bytes.now (head_inside c.args.bytes.now c.args.end c.requires) in
    record { end = c.requires; short = omega (arith, size, c.in-Ok.ensures.short); target = c.in-Ok.ensures.within; judges = c.in-Ok.ensures.judges }

pub returns-in-Ok-clause-goes_on : goal.returns-in-Ok-clause-goes_on
returns-in-Ok-clause-goes_on c = λ more.
    let size = length-take-le c.args.end c.args.bytes.now (head_inside c.args.bytes.now c.args.end c.requires) in
    head_more _ c.args.bytes.now more
    (record { end = c.requires; short = omega (arith, size, c.in-Ok.ensures.short); target = c.in-Ok.ensures.within; judges = c.in-Ok.ensures.judges })

pub returns-in-Err-clause-goes_on : goal.returns-in-Err-clause-goes_on
returns-in-Err-clause-goes_on c = λ more.
    refused_stays c.args.bytes.now more c.in-Err.reason (refused_head c.args.bytes.now c.args.end c.in-Err.reason c.requires c.in-Err.ensures.judges)
