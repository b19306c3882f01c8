use Rattle.std.proofs.Common.{subst, ◌≡◌, ◌++◌, ◌∷◌, [], ◌∙◌, ap, map, List, ℕ}
use Rattle.std.specs.Prelude.{OnOk}
use Rattle.script_value.specs.declared.outcome.TxName.{TxName}
use Rattle.instance_cells.specs.Views.{effect_of}
use Rattle.instance_cells.specs.declared.effect.Effect.{Effect}
use Rattle.wire_bytes.specs.Spelling.{u64_bytes}
use Rattle.value_bytes.specs.Spelling.{value_bytes}
use Rattle.journal_records.specs.Records.{effects_bytes, names_bytes}
use Rattle.journal_records.specs.Views.{ending_of}
use Rattle.journal_records.proofs.Chains.{onto, onto_3, onto_4}
use Rattle.journal_records.proofs.encoding.write_ended.Goals as goal

pub returns : goal.returns
returns c =
    let e = ending_of c.args.ended.now in
    let last = effects_bytes e.effects ++ names_bytes e.left in
    let effects = c.in_ok-write_effects.ensures ∙ ap (λ (xs : List Effect). c.write_value.new.writer ++ effects_bytes (map effect_of xs)) c.deref.ensures.value in
    let left = ap (λ (xs : List TxName). c.write_effects.new.writer ++ names_bytes xs) c.deref-2.ensures.value in
    let whole =
    left
    ∙ onto_3 c.u64-3.new.self (value_bytes e.answer) c.write_value.new.writer (effects_bytes e.effects) c.write_effects.new.writer (names_bytes e.left)
    c.in_ok-write_value.ensures effects
    ∙ onto_4 c.u8.new.self (u64_bytes e.number) c.u64.new.self (u64_bytes e.instance) c.u64-2.new.self (u64_bytes e.page) c.u64-3.new.self (value_bytes e.answer ++ last)
    c.in_ok-u64.ensures.ok c.in_ok-u64-2.ensures.ok c.in_ok-u64-3.ensures.ok
    ∙ onto c.args.writer.now (3 ∷ []) c.u8.new.self (u64_bytes e.number ++ (u64_bytes e.instance ++ (u64_bytes e.page ++ (value_bytes e.answer ++ last))))
    c.in_ok-u8.ensures.ok in
    subst (λ (bytes : List ℕ). OnOk c.write_names.result (c.write_names.new.writer ≡ bytes)) whole c.write_names.ensures
