use Rattle.std.proofs.Common.{drop}
use Rattle.std.specs.Prelude.{◌↔◌}
use Rattle.std.specs.List.{AllByRecursion}
use Rattle.script_nodes.specs.Views.{scripts_of}
use Rattle.journal_records.specs.Fields.{ScriptFits}
use Rattle.journal_records.specs.Records.{texts_of}
use Rattle.journal_records.proofs.grammar.can_begin.Given as goal

abbrev pub invariant-loop-place : goal.invariant-loop-place
invariant-loop-place l =
    AllByRecursion ScriptFits (drop l.place (texts_of (scripts_of l.setup))) ↔ AllByRecursion ScriptFits (texts_of (scripts_of l.setup))
