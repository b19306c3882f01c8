use Rattle.std.specs.Str.Parse.{ExplainsUnsignedError, HasUnsignedDigitsIfOk, ParsesUnsigned}
use Rattle.command_words.proofs.Reading.{number_refused, number_value}
use Rattle.command_words.proofs.port_number.Goals as goal

pub returns-clause-value : goal.returns-clause-value
returns-clause-value c =
    number_value _ _ (λ bs r. ParsesUnsigned 16 10 bs r × ExplainsUnsignedError 10 bs r × HasUnsignedDigitsIfOk bs r) 16 c.args.matches.now c.args.id.now c.get_one.result _ c.ok_or.result
    (record { none = c.get_one.ensures.none; value = c.get_one.ensures.value; only = λ u x g. g.0 }) c.ok_or.ensures.value

pub returns-clause-refused : goal.returns-clause-refused
returns-clause-refused c =
    number_refused _ _ (λ bs r. ParsesUnsigned 16 10 bs r × ExplainsUnsignedError 10 bs r × HasUnsignedDigitsIfOk bs r) 16 c.args.matches.now c.args.id.now c.get_one.result _ c.ok_or.result
    (record { none = c.get_one.ensures.none; value = c.get_one.ensures.value; only = λ u x g. g.0 }) c.ok_or.ensures.value
