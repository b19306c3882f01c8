use Rattle.std.proofs.Common.{◌≡◌, map, drop}
use Rattle.std.specs.List.{list_all}
use Rattle.script_value.specs.Views.{meaning}
use Rattle.journal_records.specs.Fields.{is_shallow}
use Rattle.shelf.proofs.nesting.values_nest_shallow.Given as goal

abbrev pub invariant-loop-value : goal.invariant-loop-value
invariant-loop-value l = list_all is_shallow (map meaning (drop l.value-index l.values)) ≡ list_all is_shallow (map meaning l.values)
