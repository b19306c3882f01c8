use Rattle.std.proofs.Common.{◌≡◌, ◌+◌, length}
use Rattle.sexp_reader.specs.Read.{token_len}
use Rattle.sexp_reader.proofs.scan.token_len.Given as goal

abbrev pub invariant-loop-rest : goal.invariant-loop-rest
invariant-loop-rest l = record { same : token_len l.text ≡ l.count + token_len l.rest; shorter : l.count + length l.rest ≡ length l.text }

abbrev pub decreases-loop-rest : goal.decreases-loop-rest
decreases-loop-rest l = length l.rest
