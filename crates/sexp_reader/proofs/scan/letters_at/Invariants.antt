use Rattle.std.proofs.Common.{◌≡◌, [], ◌≤◌, length}
use Rattle.sexp_reader.specs.Read.{text_from}
use Rattle.sexp_reader.proofs.scan.letters_at.Given as goal

abbrev pub invariant-loop-rest : goal.invariant-loop-rest
invariant-loop-rest l = record {
  same : text_from l.place l.done.items l.rest ≡ text_from l.place [] l.bytes;
  shorter : length l.rest ≤ length l.bytes;
}

abbrev pub decreases-loop-rest : goal.decreases-loop-rest
decreases-loop-rest l = length l.rest
