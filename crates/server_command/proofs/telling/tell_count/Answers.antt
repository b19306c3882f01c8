use Rattle.std.proofs.Common.{◌∙◌, ◌++◌, ◌∷◌, [], ap, codes}
use Rattle.std.specs.Fmt.{decimal}
use Rattle.server_command.proofs.Endings.{counts_told}
use Rattle.server_command.proofs.telling.tell_count.Goals as goal

pub returns-in-Ok-write_all-clause-outputs : goal.returns-in-Ok-write_all-clause-outputs
returns-in-Ok-write_all-clause-outputs g c =
    let text = c.as_bytes.ensures.value ∙ c.in-Ok.ensures ∙ ap (λ n. codes "ok " ++ (decimal n ++ 10 ∷ [])) c.len.ensures in
    counts_told _ _ _ _ _ _ _ _ _ text c.in-Ok-write_all.ensures.ok c.hand_on.ensures.same c.in-Ok-write_all.ensures.cause.later c.hand_on.ensures.status
