use Rattle.std.proofs.Common.{◌≡◌, ◌≤◌}
use Rattle.web_disk.specs.Wrecks.{sound_end}
use Rattle.web_disk.proofs.wreck.Wreck.sound_end.Given as goal

abbrev pub decreases-loop-end : goal.decreases-loop-end
decreases-loop-end l = l.end

abbrev pub invariant-loop-end : goal.invariant-loop-end
invariant-loop-end l = record {
  within : l.end ≤ l.fn.len;
  same : sound_end l.self l.touched l.end ≡ sound_end l.self l.touched l.fn.len;
}
