use Rattle.std.proofs.Common.{sym, subst}
use Rattle.http_forms.specs.Progress.{FollowsBy}
use Rattle.http_forms.proofs.Following.{head_more, endless, refused_stays}
use Rattle.http_forms.specs.declared.refused.Refused.TheVariants.{Head}
use Rattle.http_forms.proofs.progress.moved.Goals as goal

pub returns-else-bytes-lt-MOST_HEAD-clause-goes_on :
    goal.returns-else-bytes-lt-MOST_HEAD-clause-goes_on
returns-else-bytes-lt-MOST_HEAD-clause-goes_on c = λ more.
    refused_stays c.args.bytes.now more Head (endless c.args.bytes.now (sym c.in-None.ensures.end) c.if-bytes-lt-MOST_HEAD.false)

pub returns-in-Body-clause-goes_on : goal.returns-in-Body-clause-goes_on
returns-in-Body-clause-goes_on c = λ more.
    head_more c.in-Body.head c.args.bytes.now more (subst (λ p. FollowsBy p c.args.bytes.now) c.in-Body.is c.requires)

pub returns-in-Refused-clause-goes_on : goal.returns-in-Refused-clause-goes_on
returns-in-Refused-clause-goes_on c = λ more.
    refused_stays c.args.bytes.now more c.in-Refused.reason (subst (λ p. FollowsBy p c.args.bytes.now) c.in-Refused.is c.requires)
