use Rattle.std.proofs.Common.{◌≡◌, ◌++◌, drop}
use Rattle.std.specs.List.{flat_map}
use Rattle.wire_bytes.specs.Spelling.{u64_bytes}
use Rattle.value_bytes.specs.Spelling.{list_bytes}
use Rattle.journal_records.proofs.encoding.write_numbers.Given as goal

abbrev pub invariant-loop-number : goal.invariant-loop-number
invariant-loop-number l = l.writer ++ flat_map u64_bytes (drop l.number-index l.numbers) ≡ l.fn.writer ++ list_bytes u64_bytes l.numbers
