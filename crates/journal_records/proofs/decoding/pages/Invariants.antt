use Rattle.std.proofs.Common.{◌≡◌, ◌-◌}
use Rattle.value_bytes.specs.Reading.{read_several, read_list}
use Rattle.value_bytes.proofs.Turns.{with_front}
use Rattle.journal_records.specs.Reading.{read_number}
use Rattle.journal_records.proofs.decoding.pages.Given as goal

abbrev pub invariant-loop-turn : goal.invariant-loop-turn
invariant-loop-turn l = with_front l.pages.items (read_several read_number (l.count - l.turn) l.cursor) ≡ read_list read_number l.fn.cursor
