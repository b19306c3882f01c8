use Rattle.std.proofs.Common.{◌≤◌, ◌-◌, length, take}
use Rattle.http_forms.specs.Scan.{HasPassed}
use Rattle.http_forms.proofs.head.HeadScanner.find.Given as goal

abbrev pub invariant-lines : goal.invariant-lines
invariant-lines l = record {
  inside : l.place ≤ length l.bytes;
  passed : HasPassed l.phase (take l.place l.bytes);
}

abbrev pub decreases-lines : goal.decreases-lines
decreases-lines l = length l.bytes - l.place
