use Rattle.std.proofs.Common.{◌+◌, ◌*◌, map, drop}
use Rattle.script_value.specs.Val.{vals_of}
use Rattle.script_value.specs.Views.{meaning}
use Rattle.journal_records.proofs.Levels.{NestsAs}
use Rattle.journal_records.proofs.nesting.+nests.Given as goal

abbrev pub decreases-nests_within : goal.decreases-nests_within
decreases-nests_within l = 2 * l.levels

abbrev pub decreases-all_nest_within : goal.decreases-all_nest_within
decreases-all_nest_within l = 2 * l.levels + 1

abbrev pub invariant-all_nest_within-loop-value : goal.invariant-all_nest_within-loop-value
invariant-all_nest_within-loop-value l =
    NestsAs l.levels (vals_of (map meaning (drop l.value-index l.values))) (vals_of (map meaning l.values))
