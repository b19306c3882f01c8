use Rattle.std.proofs.Common.{◌∙◌, ap, sym, subst, false, true}
use Rattle.std.proofs.lemmas.Result.{IfOk-weaker}
use Rattle.disk_trio.specs.Trio.{trio_view}
use Rattle.server_command.specs.Bare.{OpensAs, is_to_follow}
use Rattle.server_command.proofs.feeding.open_on.Goals as goal

pub returns-in-AsItIs-clause-opens : goal.returns-in-AsItIs-clause-opens
returns-in-AsItIs-clause-opens g c =
    let v = trio_view {G = g.D.Disk} in
    let p = c.reopen.ensures in
    subst (λ o. OpensAs v g.D.Disk.tells (is_to_follow o) c.args.shelf c.args.disks c.reopen.result) (sym c.in-AsItIs.is)
    (subst (λ n. OpensAs v g.D.Disk.tells false n c.args.disks c.reopen.result) c.limits-rules.ensures.number (record {
      opened = p.opened;
      safely = λ t. record { records = p.records t; books = p.any_moment t; anew = p.migration t; own = p.own_moments t };
      refused = p.refused;
      keeps = p.keeps;
      cause = p.cause;
      later = p.later;
    }))

pub returns-in-ToFollow-clause-opens : goal.returns-in-ToFollow-clause-opens
returns-in-ToFollow-clause-opens g c =
    let v = trio_view {G = g.D.Disk} in
    let p = c.follow.ensures in
    subst (λ o. OpensAs v g.D.Disk.tells (is_to_follow o) c.args.shelf c.args.disks c.follow.result) (sym c.in-ToFollow.is)
    (subst (λ n. OpensAs v g.D.Disk.tells true n c.args.disks c.follow.result) c.limits-rules.ensures.number (record {
      opened = p.opened;
      safely = λ t. record { records = p.records t; books = p.any_moment t; anew = p.migration t; own = p.own_moments t };
      refused = p.refused;
      keeps = p.keeps;
      cause = p.cause;
      later = p.later;
    }))

pub returns-in-AsItIs-clause-number : goal.returns-in-AsItIs-clause-number
returns-in-AsItIs-clause-number g c =
    IfOk-weaker c.reopen.result _ _ (λ s is. ap (λ r. r.number) is ∙ c.limits-rules.ensures.number) c.reopen.ensures.rules

pub returns-in-ToFollow-clause-number : goal.returns-in-ToFollow-clause-number
returns-in-ToFollow-clause-number g c =
    IfOk-weaker c.follow.result _ _ (λ s is. ap (λ r. r.number) is ∙ c.limits-rules.ensures.number) c.follow.ensures.rules
