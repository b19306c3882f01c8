use Rattle.std.proofs.Common.{◌∙◌, ap, map}
use Rattle.segments.specs.Views.{answer_of}
use Rattle.record_audit.proofs.Chains.{map_reverse}
use Rattle.record_audit.proofs.home.Home.past.Goals as goal

pub returns : goal.returns
returns c = ap (map answer_of) c.reverse.ensures.items ∙ (map_reverse answer_of c.in_ok-past.past.items ∙ c.in_ok-past.ensures)
