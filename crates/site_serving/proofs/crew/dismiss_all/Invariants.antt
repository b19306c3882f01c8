use Rattle.std.proofs.Common.{◌≡◌, ◌≤◌, ◌+◌, ◌++◌}
use Rattle.std.specs.Prelude.{reverse, vec_len, vec_capacity}
use Rattle.site_serving.specs.Workers.{passes_of, porches_of, tallies_of}
use Rattle.site_serving.proofs.crew.dismiss_all.Given as goal

abbrev pub invariant-dismissing : goal.invariant-dismissing
invariant-dismissing g l = record {
  passes : l.passes.items ++ passes_of (reverse l.workers.items) ≡ passes_of (reverse l.fn.workers.items);
  porches : l.porches.items ++ porches_of (reverse l.workers.items) ≡ porches_of (reverse l.fn.workers.items);
  tallies : l.tallies.items ++ tallies_of (reverse l.workers.items) ≡ tallies_of (reverse l.fn.workers.items);
  room_passes : vec_len l.passes + vec_len l.workers ≤ vec_capacity l.passes;
  room_porches : vec_len l.porches + vec_len l.workers ≤ vec_capacity l.porches;
  room_tallies : vec_len l.tallies + vec_len l.workers ≤ vec_capacity l.tallies;
}

abbrev pub decreases-dismissing : goal.decreases-dismissing
decreases-dismissing g l = vec_len l.workers
