use Rattle.std.proofs.Common.{◌≡◌, drop}
use Rattle.replay_spec.specs.Admission.{is_one}
use Rattle.book_redo.proofs.takes.is_among.Given as goal

abbrev pub invariant-loop-other : goal.invariant-loop-other
invariant-loop-other l = is_one l.number l.numbers ≡ is_one l.number (drop l.other-index l.numbers)
