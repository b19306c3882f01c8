-- What a call of a disk that tells no bytes does to what contracts see of it.
use Rattle.std.proofs.Common.{ℕ, ◌≤◌, Err, arith}
use Rattle.web_disk.specs.View.{IsCall, Elapses}
use Rattle.file_disk.specs.Files.{untold, HasRisen}

pub untold_time : (old new ready end left ready' end' left' : ℕ) → old ≤ new → Elapses (untold old ready end left) (untold new ready' end' left')
untold_time old new ready end left ready' end' left' le = record {
  later = omega arith;
  nothing_else = λ t image before now. absurd now;
  keeps = λ t image before now. now;
  faults = le;
}

pub failed_call : {T E : Type 0} (bytes old new ready end left : ℕ) (e : E) → HasRisen old new → IsCall {T = T} bytes (untold old ready end left) (untold new ready end left) (Err e)
failed_call bytes old new ready end left e h = record {
  time = untold_time old new ready end left ready end left h.later;
  cause = h.rose;
  end = omega arith;
  ready = omega arith;
  left = omega arith;
}
