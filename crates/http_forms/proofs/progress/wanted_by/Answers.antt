use Rattle.std.proofs.Common.{◌<◌, length, ℕ, subst, sym, ◌∙◌}
use Rattle.http_forms.specs.Progress.{KnowsBy, HasHead, Suffices}
use Rattle.http_forms.proofs.Following.{sized, decided_here, short_of, enough_of, enough_refused}
use Rattle.http_forms.proofs.progress.wanted_by.Goals as goal

pub returns-in-Body-clause-decided : goal.returns-in-Body-clause-decided
returns-in-Body-clause-decided c = λ none.
    let has : HasHead c.in-Body.head c.args.bytes.now = subst (λ p. KnowsBy p c.args.bytes.now) c.in-Body.is c.requires in
    decided_here _ _ (sized c.in-Body.head c.args.bytes.now has) (sym c.saturating_sub.ensures ∙ none)

pub returns-in-Body-clause-short : goal.returns-in-Body-clause-short
returns-in-Body-clause-short c = λ more few.
    let has : HasHead c.in-Body.head c.args.bytes.now = subst (λ p. KnowsBy p c.args.bytes.now) c.in-Body.is c.requires in
    short_of _ _ more (sized c.in-Body.head c.args.bytes.now has) (subst (λ (n : ℕ). length more < n) c.saturating_sub.ensures few)

pub returns-in-Body-clause-enough : goal.returns-in-Body-clause-enough
returns-in-Body-clause-enough c =
    let has : HasHead c.in-Body.head c.args.bytes.now = subst (λ p. KnowsBy p c.args.bytes.now) c.in-Body.is c.requires in
    subst (λ (n : ℕ). Suffices n c.args.bytes.now) (sym c.saturating_sub.ensures) (enough_of _ _ (sized c.in-Body.head c.args.bytes.now has))

pub returns-in-Refused-clause-enough : goal.returns-in-Refused-clause-enough
returns-in-Refused-clause-enough c = enough_refused _ c.in-Refused.field-0 (subst (λ p. KnowsBy p c.args.bytes.now) c.in-Refused.is c.requires)
