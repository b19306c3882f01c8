use Rattle.std.proofs.Common.{ap, map, ◌∙◌}
use Rattle.std.proofs.lemmas.Result.{IfOk-weaker}
use Rattle.clap.specs.Simple.{App}
use Rattle.command_words.specs.App.{rule_for, with_rules}
use Rattle.command_words.specs.Options.{play_items}
use Rattle.command_words.proofs.Building.{one_more, stays_local}
use Rattle.command_words.proofs.serve_command.Goals as goal

pub returns-clause-app : goal.returns-clause-app
returns-clause-app c =
    let shared = c.in_ok-with_options.ensures.app ∙ ap (λ (a : App). with_rules a (map rule_for play_items)) c.new.ensures.app in
    let one = one_more _ _ _ _ _ c.in_ok-arg.ensures shared c.port_arg.ensures.local c.port_arg.ensures.rule in
    let two = one_more _ _ _ _ _ c.in_ok-arg-2.ensures one c.connections_arg.ensures.local c.connections_arg.ensures.rule in
    let three = one_more _ _ _ _ _ c.in_ok-arg-3.ensures two c.workers_arg.ensures.local c.workers_arg.ensures.rule in
    let four = one_more _ _ _ _ _ c.in_ok-arg-4.ensures three c.requests_arg.ensures.local c.requests_arg.ensures.rule in
    IfOk-weaker c.arg-5.result _ _ (λ r h. ap (λ (a : App). a.top) (one_more _ _ _ _ _ h four c.audit_arg.ensures.local c.audit_arg.ensures.rule)) c.arg-5.ensures

pub returns-clause-local : goal.returns-clause-local
returns-clause-local c =
    let one = stays_local _ _ _ c.in_ok-arg.ensures (c.in_ok-with_options.ensures.local c.new.ensures.local) c.port_arg.ensures.local in
    let two = stays_local _ _ _ c.in_ok-arg-2.ensures one c.connections_arg.ensures.local in
    let three = stays_local _ _ _ c.in_ok-arg-3.ensures two c.workers_arg.ensures.local in
    let four = stays_local _ _ _ c.in_ok-arg-4.ensures three c.requests_arg.ensures.local in
    IfOk-weaker c.arg-5.result _ _ (λ r h. stays_local _ _ _ h four c.audit_arg.ensures.local) c.arg-5.ensures
