use Rattle.http_forms.proofs.Ends.{answer_inside}
use Rattle.http_forms.proofs.head.head_end.Goals as goal

pub returns-clause-inside : goal.returns-clause-inside
returns-clause-inside c = answer_inside c.args.bytes.now c.find.result c.find.ensures.end
