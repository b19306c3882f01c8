use Rattle.std.proofs.Common.{◌≡◌, ◌++◌, drop}
use Rattle.std.specs.List.{flat_map}
use Rattle.journal_records.specs.Fields.{name_bytes}
use Rattle.journal_records.specs.Records.{names_bytes}
use Rattle.journal_records.proofs.encoding.write_names.Given as goal

abbrev pub invariant-loop-name : goal.invariant-loop-name
invariant-loop-name l = l.writer ++ flat_map name_bytes (drop l.name-index l.names) ≡ l.fn.writer ++ names_bytes l.names
