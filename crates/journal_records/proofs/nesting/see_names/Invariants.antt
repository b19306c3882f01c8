use Rattle.std.proofs.Common.{drop}
use Rattle.std.specs.List.{AllByRecursion}
use Rattle.journal_records.specs.Fields.{NameFits}
use Rattle.journal_records.proofs.nesting.see_names.Given as goal

abbrev pub invariant-loop-name : goal.invariant-loop-name
invariant-loop-name l = AllByRecursion NameFits (drop l.name-index l.names) → AllByRecursion NameFits l.names
