use Rattle.std.proofs.Common.{ap, map, ◌∙◌}
use Rattle.std.proofs.lemmas.Result.{IfOk-weaker}
use Rattle.clap.specs.Simple.{App}
use Rattle.command_words.specs.App.{rule_for, with_rules}
use Rattle.command_words.specs.Options.{play_items}
use Rattle.command_words.proofs.Building.{one_more, stays_local}
use Rattle.command_words.proofs.load_command.Goals as goal

pub returns-clause-app : goal.returns-clause-app
returns-clause-app c =
    let one = one_more _ _ _ _ _ c.in_ok-command.ensures c.new.ensures.app c.run_number_arg.ensures.local c.run_number_arg.ensures.rule in
    IfOk-weaker c.with_options.result _ _
    (λ r h. ap (λ (a : App). a.top) (h ∙ ap (λ (a : App). with_rules a (map rule_for play_items)) one)) c.with_options.ensures.app

pub returns-clause-local : goal.returns-clause-local
returns-clause-local c =
    c.with_options.ensures.local (stays_local _ _ _ c.in_ok-command.ensures c.new.ensures.local c.run_number_arg.ensures.local)
