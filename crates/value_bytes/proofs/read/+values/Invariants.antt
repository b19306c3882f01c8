use Rattle.std.proofs.Common.{◌≡◌, ◌+◌, ◌-◌, ◌*◌}
use Rattle.value_bytes.specs.Reading.{read_several, read_list, read_within}
use Rattle.value_bytes.proofs.Turns.{with_front}
use Rattle.value_bytes.proofs.read.+values.Given as goal

abbrev pub decreases-value_within : goal.decreases-value_within
decreases-value_within l = 3 * l.levels + 2

abbrev pub decreases-items_within : goal.decreases-items_within
decreases-items_within l = 3 * l.levels + 1

abbrev pub decreases-list_within : goal.decreases-list_within
decreases-list_within l = 3 * l.levels + 3

abbrev pub invariant-list_within-loop-turn : goal.invariant-list_within-loop-turn
invariant-list_within-loop-turn l =
    with_front l.items (read_several (read_within l.levels) (l.count - l.turn) l.cursor) ≡ read_list (read_within l.levels) l.fn.cursor
