use Rattle.std.proofs.Common.{◌≡◌, ◌≤◌, length}
use Rattle.sexp_reader.specs.Read.{past_gap}
use Rattle.sexp_reader.proofs.scan.after_gap.Given as goal

abbrev pub invariant-loop-rest : goal.invariant-loop-rest
invariant-loop-rest l = record { same : past_gap l.in_comment l.rest ≡ past_gap l.initial.in_comment l.text; shorter : length l.rest ≤ length l.text }

abbrev pub decreases-loop-rest : goal.decreases-loop-rest
decreases-loop-rest l = length l.rest
