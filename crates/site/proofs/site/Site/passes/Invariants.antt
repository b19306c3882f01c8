use Rattle.std.proofs.Common.{◌≡◌, ◌≤◌, ℕ, Some, slice_get, length}
use Rattle.std.specs.Vec.{vec_len, vec_capacity}
use Rattle.lock_row.specs.Spots.{IsOf}
use Rattle.lock_row.specs.Rows.{IsNewPass}
use Rattle.site.specs.Beginnings.{given_out}
use Rattle.site.proofs.site.Site.passes.Given as goal

abbrev pub invariant-loop-caller : goal.invariant-loop-caller
invariant-loop-caller g l = record {
  site : l.self ≡ record l.fn.self { row = given_out l.caller l.fn.self.row };
  many : (vec_len l.passes ≡ l.caller) × (length l.passes.items ≡ l.caller);
  room : l.fn.n ≤ vec_capacity l.passes;
  passes : (k : ℕ) (p : _) → slice_get l.passes.items k ≡ Some p → IsOf l.fn.self.row p × IsNewPass k p;
}
