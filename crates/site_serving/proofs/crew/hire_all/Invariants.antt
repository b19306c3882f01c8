use Rattle.std.proofs.Common.{◌≡◌, ◌≤◌, ◌+◌, ◌++◌}
use Rattle.std.specs.Prelude.{reverse, vec_len, vec_capacity}
use Rattle.site_serving.specs.Workers.{passes_of, porches_of}
use Rattle.site_serving.proofs.crew.hire_all.Given as goal

abbrev pub invariant-hiring : goal.invariant-hiring
invariant-hiring g l = record {
  passes : l.passes.items ++ passes_of (reverse l.workers.items) ≡ l.fn.passes.items;
  porches : l.porches.items ++ porches_of (reverse l.workers.items) ≡ l.fn.porches.items;
  pairs : vec_len l.porches ≡ vec_len l.passes;
  len : vec_len l.workers + vec_len l.passes ≡ vec_len l.fn.passes;
  room : vec_len l.fn.passes ≤ vec_capacity l.workers;
  capacity : vec_capacity l.passes ≡ vec_capacity l.fn.passes;
  capacity_porches : vec_capacity l.porches ≡ vec_capacity l.fn.porches;
}

abbrev pub decreases-hiring : goal.decreases-hiring
decreases-hiring g l = vec_len l.passes
