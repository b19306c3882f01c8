use Rattle.std.proofs.Common.{◌≡◌, ◌++◌, drop}
use Rattle.std.specs.List.{flat_map, AllByRecursion}
use Rattle.script_nodes.specs.Views.{scripts_of}
use Rattle.journal_records.specs.Fields.{script_bytes, ScriptFits}
use Rattle.journal_records.specs.Records.{texts_of}
use Rattle.journal_records.proofs.encoding.write_scripts.Given as goal

abbrev pub invariant-loop-place : goal.invariant-loop-place
invariant-loop-place l = record {
  written :
      l.writer ++ flat_map script_bytes (drop l.place (texts_of (scripts_of l.setup)))
      ≡ l.fn.writer ++ flat_map script_bytes (texts_of (scripts_of l.setup));
  fit : AllByRecursion ScriptFits (drop l.place (texts_of (scripts_of l.setup)));
}
