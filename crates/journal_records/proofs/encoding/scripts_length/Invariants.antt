use Rattle.std.proofs.Common.{◌≡◌, ◌^◌, ◌+◌, min, length, take}
use Rattle.std.specs.List.{flat_map}
use Rattle.script_nodes.specs.Views.{scripts_of}
use Rattle.journal_records.specs.Fields.{script_bytes}
use Rattle.journal_records.specs.Records.{texts_of}
use Rattle.journal_records.proofs.encoding.scripts_length.Given as goal

abbrev pub invariant-loop-place : goal.invariant-loop-place
invariant-loop-place l = l.sum ≡ min (4 + length (flat_map script_bytes (take l.place (texts_of (scripts_of l.setup))))) (2 ^ 63)
