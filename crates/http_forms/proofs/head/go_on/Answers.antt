use Rattle.std.proofs.Common.{arith, length-drop}
use Rattle.std.proofs.lemmas.List.{take_rest}
use Rattle.http_forms.proofs.Scanning.{passes_to_end}
use Rattle.http_forms.proofs.head.go_on.Goals as goal

pub returns-in-Line-clause-passes : goal.returns-in-Line-clause-passes
returns-in-Line-clause-passes c =
    passes_to_end c.args.phase c.args.bytes.now c.args.place c.line_length.result c.in-Line.is c.requires c.line_length.ensures.inside c.line_length.ensures.lacks

pub returns-in-Line-clause-inside : goal.returns-in-Line-clause-inside
returns-in-Line-clause-inside c = omega (arith, c.requires, simp (take_rest, length-drop) at c.line_length.ensures.inside)
