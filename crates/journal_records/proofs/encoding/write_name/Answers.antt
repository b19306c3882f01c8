use Rattle.std.proofs.Common.{subst, ◌≡◌, List, ℕ}
use Rattle.std.specs.Prelude.{OnOk}
use Rattle.wire_bytes.specs.Spelling.{u32_bytes, u64_bytes}
use Rattle.journal_records.specs.Fields.{name_bytes}
use Rattle.journal_records.proofs.Chains.{onto}
use Rattle.journal_records.proofs.encoding.write_name.Goals as goal

pub returns : goal.returns
unfolding name_bytes
returns c =
    let t = c.args.name.now in
    let whole = onto c.args.writer.now (u64_bytes t.ticket) c.u64.new.self (u32_bytes t.entry) c.in_ok-u64.ensures.ok in
    subst (λ (bytes : List ℕ). OnOk c.u32.result (c.u32.new.self ≡ bytes)) whole c.u32.ensures.ok
