use Rattle.std.proofs.Common.{subst, ◌≡◌, ◌++◌, ◌∷◌, [], ◌∙◌, ap, map, List, ℕ}
use Rattle.std.specs.Prelude.{OnOk}
use Rattle.script_value.specs.declared.outcome.TxName.{TxName}
use Rattle.instance_cells.specs.Views.{effect_of}
use Rattle.instance_cells.specs.declared.effect.Effect.{Effect}
use Rattle.wire_bytes.specs.Spelling.{u64_bytes, byte_string}
use Rattle.value_bytes.specs.Spelling.{list_bytes}
use Rattle.journal_records.specs.Fields.{origin_bytes, send_byte}
use Rattle.journal_records.specs.Records.{effects_bytes, names_bytes, bytes_in}
use Rattle.journal_records.specs.Views.{lent_state, page_of}
use Rattle.journal_records.proofs.Chains.{onto, onto_3, onto_4}
use Rattle.journal_records.proofs.encoding.write_page.Goals as goal

pub returns : goal.returns
returns c =
    let p = page_of c.args.page.now (bytes_in (lent_state c.args.state)) in
    let kind = send_byte p.kind ∷ [] in
    let evicted = list_bytes u64_bytes p.evicted in
    let rest = u64_bytes p.deadline ++ (evicted ++ byte_string p.state) in
    let last = effects_bytes p.effects ++ (names_bytes p.left ++ (kind ++ rest)) in
    let sent = c.in_ok-u8-2.ensures.ok ∙ ap (λ (n : ℕ). c.write_names.new.writer ++ n ∷ []) c.send_number.ensures in
    let state = ap (λ (s : List ℕ). c.write_numbers.new.writer ++ byte_string s) c.state_bytes.ensures in
    let effects = c.in_ok-write_effects.ensures ∙ ap (λ (xs : List Effect). c.write_origin.new.writer ++ effects_bytes (map effect_of xs)) c.deref.ensures.value in
    let left = c.in_ok-write_names.ensures ∙ ap (λ (xs : List TxName). c.write_effects.new.writer ++ names_bytes xs) c.deref-2.ensures.value in
    let gone = c.in_ok-write_numbers.ensures ∙ ap (λ (xs : List ℕ). c.u64-3.new.self ++ list_bytes u64_bytes xs) c.deref-3.ensures.value in
    let whole =
    state
    ∙ onto_3 c.u8-2.new.self (u64_bytes p.deadline) c.u64-3.new.self evicted c.write_numbers.new.writer (byte_string p.state)
    c.in_ok-u64-3.ensures.ok gone
    ∙ onto_4 c.write_origin.new.writer (effects_bytes p.effects) c.write_effects.new.writer (names_bytes p.left) c.write_names.new.writer kind c.u8-2.new.self rest
    effects left sent
    ∙ onto_4 c.u8.new.self (u64_bytes p.ticket) c.u64.new.self (u64_bytes p.nonce) c.u64-2.new.self (origin_bytes p.origin) c.write_origin.new.writer last
    c.in_ok-u64.ensures.ok c.in_ok-u64-2.ensures.ok c.in_ok-write_origin.ensures
    ∙ onto c.args.writer.now (2 ∷ []) c.u8.new.self (u64_bytes p.ticket ++ (u64_bytes p.nonce ++ (origin_bytes p.origin ++ last))) c.in_ok-u8.ensures.ok in
    subst (λ (bytes : List ℕ). OnOk c.bytes.result (c.bytes.new.self ≡ bytes)) whole c.bytes.ensures.ok
