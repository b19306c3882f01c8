use Rattle.std.proofs.Common.{◌≡◌, length, map}
use Rattle.script_value.specs.Views.{meaning}
use Rattle.sexp_reader.specs.Read.{put}
use Rattle.sexp_reader.specs.Views.{stack_of}
use Rattle.sexp_reader.proofs.reader.Reader.put.Given as goal

abbrev pub invariant-loop-value : goal.invariant-loop-value
invariant-loop-value l =
    put (meaning l.value) (map meaning l.self.items.items) (stack_of l.self.levels.items)
    ≡ put (meaning l.fn.value) (map meaning l.fn.self.items.items) (stack_of l.fn.self.levels.items)

abbrev pub decreases-loop-value : goal.decreases-loop-value
decreases-loop-value l = length (stack_of l.self.levels.items)
