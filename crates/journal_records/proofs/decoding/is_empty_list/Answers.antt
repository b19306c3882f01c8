use Rattle.std.proofs.Common.{sym, ◌∙◌, ap}
use Rattle.script_value.specs.Views.{meaning}
use Rattle.journal_records.specs.Reading.{is_nothing}
use Rattle.journal_records.proofs.Chains.{is_nothing_test}
use Rattle.journal_records.proofs.decoding.is_empty_list.Goals as goal

pub returns-in-List : goal.returns-in-List
returns-in-List c =
    is_nothing_test c.is_empty.result c.in-List.items c.is_empty.ensures ∙ ap (λ v. is_nothing (meaning v)) (sym c.in-List.is)
