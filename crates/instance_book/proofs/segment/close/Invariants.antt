use Rattle.std.proofs.Common.{◌≡◌, ◌++◌, take}
use Rattle.instance_book.proofs.segment.close.Given as goal

abbrev pub invariant-loop-name : goal.invariant-loop-name
invariant-loop-name l = l.closed ≡ l.fn.closed ++ take l.name-index l.left
