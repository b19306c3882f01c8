use Rattle.std.proofs.Common.{◌≡◌, ◌≤◌, length}
use Rattle.std.specs.List.{list_any}
use Rattle.http_forms.specs.Fields.{is_close, options}
use Rattle.http_forms.proofs.fields.has_close.Given as goal

abbrev pub invariant-loop-i : goal.invariant-loop-i
invariant-loop-i l = record {
  says : list_any is_close (options l.rest) ≡ list_any is_close (options l.value);
  shorter : length l.rest ≤ length l.value;
}

abbrev pub decreases-loop-i : goal.decreases-loop-i
decreases-loop-i l = length l.rest
