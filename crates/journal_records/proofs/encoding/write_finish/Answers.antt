use Rattle.std.proofs.Common.{subst, ◌≡◌, ◌++◌, ◌∷◌, [], ◌∙◌, ap, map, List, ℕ}
use Rattle.std.specs.Prelude.{OnOk}
use Rattle.instance_cells.specs.Views.{effect_of}
use Rattle.instance_cells.specs.declared.effect.Effect.{Effect}
use Rattle.wire_bytes.specs.Spelling.{u64_bytes}
use Rattle.value_bytes.specs.Spelling.{value_bytes}
use Rattle.journal_records.specs.Records.{effects_bytes}
use Rattle.journal_records.specs.Views.{finish_of}
use Rattle.journal_records.proofs.Chains.{onto, onto_4}
use Rattle.journal_records.proofs.encoding.write_finish.Goals as goal

pub returns : goal.returns
returns c =
    let f = finish_of c.args.finish.now in
    let last = value_bytes f.answer ++ effects_bytes f.effects in
    let effects = ap (λ (xs : List Effect). c.write_value.new.writer ++ effects_bytes (map effect_of xs)) c.deref.ensures.value in
    let whole =
    effects
    ∙ onto c.u64-3.new.self (value_bytes f.answer) c.write_value.new.writer (effects_bytes f.effects) c.in_ok-write_value.ensures
    ∙ onto_4 c.u8.new.self (u64_bytes f.number) c.u64.new.self (u64_bytes f.instance) c.u64-2.new.self (u64_bytes f.page) c.u64-3.new.self last
    c.in_ok-u64.ensures.ok c.in_ok-u64-2.ensures.ok c.in_ok-u64-3.ensures.ok
    ∙ onto c.args.writer.now (4 ∷ []) c.u8.new.self (u64_bytes f.number ++ (u64_bytes f.instance ++ (u64_bytes f.page ++ last))) c.in_ok-u8.ensures.ok in
    subst (λ (bytes : List ℕ). OnOk c.write_effects.result (c.write_effects.new.writer ≡ bytes)) whole c.write_effects.ensures
