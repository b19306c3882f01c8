use Rattle.std.proofs.Common.{◌≡◌, drop, map}
use Rattle.script_value.specs.Val.{vals_of}
use Rattle.script_value.specs.Views.{meaning}
use Rattle.core_syntax.specs.Shapes.{are_clauses}
use Rattle.core_syntax.proofs.shapes.are_clauses.Given as goal

abbrev pub invariant-loop-clause : goal.invariant-loop-clause
invariant-loop-clause l = are_clauses (vals_of (map meaning l.clauses)) ≡ are_clauses (vals_of (map meaning (drop l.clause-index l.clauses)))
