use Rattle.std.proofs.Common.{◌≡◌, ◌-◌, map}
use Rattle.value_bytes.specs.Reading.{read_several, read_list}
use Rattle.value_bytes.proofs.Turns.{with_front}
use Rattle.journal_records.specs.Reading.{read_script}
use Rattle.journal_records.specs.Views.{script_of}
use Rattle.journal_records.proofs.decoding.scripts.Given as goal

abbrev pub invariant-loop-turn : goal.invariant-loop-turn
invariant-loop-turn l =
    with_front (map script_of l.scripts.items) (read_several read_script (l.count - l.turn) l.cursor) ≡ read_list read_script l.fn.cursor
