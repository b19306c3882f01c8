use Rattle.std.proofs.Common.{ap}
use Rattle.std.proofs.lemmas.Result.{IfOk-weaker}
use Rattle.clap.specs.Simple.{App}
use Rattle.command_words.proofs.Building.{one_more, stays_local}
use Rattle.command_words.proofs.export_command.Goals as goal

pub returns-clause-app : goal.returns-clause-app
returns-clause-app c =
    let one = one_more _ _ _ _ _ c.in_ok-arg.ensures c.new.ensures.app c.journal_arg.ensures.local c.journal_arg.ensures.rule in
    IfOk-weaker c.arg-2.result _ _ (λ r h. ap (λ (a : App). a.top) (one_more _ _ _ _ _ h one c.shelf_arg.ensures.local c.shelf_arg.ensures.rule)) c.arg-2.ensures

pub returns-clause-local : goal.returns-clause-local
returns-clause-local c =
    let one = stays_local _ _ _ c.in_ok-arg.ensures c.new.ensures.local c.journal_arg.ensures.local in
    IfOk-weaker c.arg-2.result _ _ (λ r h. stays_local _ _ _ h one c.shelf_arg.ensures.local) c.arg-2.ensures
