use Rattle.std.proofs.Common.{refl}
use Rattle.std.proofs.lemmas.Result.{IfOk-weaker}
use Rattle.command_words.proofs.Building.{one_more, stays_local}
use Rattle.command_words.proofs.with_options.Goals as goal

pub returns-clause-app : goal.returns-clause-app
returns-clause-app c =
    let one = one_more _ _ _ _ _ c.in_ok-arg.ensures refl c.fuel_arg.ensures.local c.fuel_arg.ensures.rule in
    let two = one_more _ _ _ _ _ c.in_ok-arg-2.ensures one c.life_arg.ensures.local c.life_arg.ensures.rule in
    let three = one_more _ _ _ _ _ c.in_ok-arg-3.ensures two c.instances_arg.ensures.local c.instances_arg.ensures.rule in
    let four = one_more _ _ _ _ _ c.in_ok-arg-4.ensures three c.pages_arg.ensures.local c.pages_arg.ensures.rule in
    let five = one_more _ _ _ _ _ c.in_ok-arg-5.ensures four c.journal_arg.ensures.local c.journal_arg.ensures.rule in
    IfOk-weaker c.arg-6.result _ _ (λ r h. one_more _ _ _ _ _ h five c.shelves_arg.ensures.local c.shelves_arg.ensures.rule) c.arg-6.ensures

pub returns-clause-local : goal.returns-clause-local
returns-clause-local c = λ start.
    let one = stays_local _ _ _ c.in_ok-arg.ensures start c.fuel_arg.ensures.local in
    let two = stays_local _ _ _ c.in_ok-arg-2.ensures one c.life_arg.ensures.local in
    let three = stays_local _ _ _ c.in_ok-arg-3.ensures two c.instances_arg.ensures.local in
    let four = stays_local _ _ _ c.in_ok-arg-4.ensures three c.pages_arg.ensures.local in
    let five = stays_local _ _ _ c.in_ok-arg-5.ensures four c.journal_arg.ensures.local in
    IfOk-weaker c.arg-6.result _ _ (λ r h. stays_local _ _ _ h five c.shelves_arg.ensures.local) c.arg-6.ensures
