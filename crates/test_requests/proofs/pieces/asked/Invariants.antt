use Rattle.std.proofs.Common.{List, ℕ, ◌++◌}
use Rattle.http_forms.specs.Progress.{Follows, Knows}
use Rattle.test_requests.proofs.pieces.asked.Given as goal

abbrev pub invariant-loop : goal.invariant-loop
invariant-loop l = record {
  knows : Knows l.scanner l.read.items;
  follows : (more : List ℕ) → Follows l.scanner (l.read.items ++ more);
}
