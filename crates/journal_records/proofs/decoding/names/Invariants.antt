use Rattle.std.proofs.Common.{◌≡◌, ◌-◌}
use Rattle.value_bytes.specs.Reading.{read_several}
use Rattle.value_bytes.proofs.Turns.{with_front}
use Rattle.journal_records.specs.Reading.{read_name, read_names}
use Rattle.journal_records.proofs.decoding.names.Given as goal

abbrev pub invariant-loop-turn : goal.invariant-loop-turn
invariant-loop-turn l = with_front l.names.items (read_several read_name (l.count - l.turn) l.cursor) ≡ read_names l.fn.cursor
