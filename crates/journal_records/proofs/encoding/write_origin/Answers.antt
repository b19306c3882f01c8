use Rattle.std.proofs.Common.{subst, sym, ◌≡◌, ◌++◌, ◌∷◌, [], ◌∙◌, ap, List, ℕ}
use Rattle.std.specs.Prelude.{OnOk}
use Rattle.script_value.specs.Views.{meaning}
use Rattle.wire_bytes.specs.Spelling.{u64_bytes}
use Rattle.value_bytes.specs.Spelling.{value_bytes}
use Rattle.journal_records.specs.Fields.{origin_bytes}
use Rattle.journal_records.specs.Views.{origin_of}
use Rattle.journal_records.proofs.Chains.{onto_4}
use Rattle.journal_records.proofs.encoding.write_origin.Goals as goal

pub returns-in_ok-u64-in-Answer-2 : goal.returns-in_ok-u64-in-Answer-2
returns-in_ok-u64-in-Answer-2 c =
    let whole =
    onto_4 c.args.writer.now (1 ∷ []) c.u8-in-Answer.new.self (u64_bytes c.in-Answer.instance) c.u64.new.self (u64_bytes c.in-Answer.page) c.u64-in-Answer.new.self
    (value_bytes (meaning c.in-Answer.answer))
    c.in_ok-u8-in-Answer.ensures.ok c.in_ok-u64-in-Answer.ensures.ok c.in_ok-u64-in-Answer-2.ensures.ok
    ∙ ap (λ o. c.args.writer.now ++ origin_bytes (origin_of o)) (sym c.in-Answer.is) in
    subst (λ (bytes : List ℕ). OnOk c.write_value.result (c.write_value.new.writer ≡ bytes)) whole c.write_value.ensures
