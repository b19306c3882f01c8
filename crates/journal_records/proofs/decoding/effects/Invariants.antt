use Rattle.std.proofs.Common.{◌≡◌, ◌-◌, map}
use Rattle.instance_cells.specs.Views.{effect_of}
use Rattle.value_bytes.specs.Reading.{read_several}
use Rattle.value_bytes.proofs.Turns.{with_front}
use Rattle.journal_records.specs.Reading.{read_effect, read_effects}
use Rattle.journal_records.proofs.decoding.effects.Given as goal

abbrev pub invariant-loop-turn : goal.invariant-loop-turn
invariant-loop-turn l =
    with_front (map effect_of l.effects.items) (read_several read_effect (l.count - l.turn) l.cursor) ≡ read_effects l.fn.cursor
