use Rattle.std.proofs.Common.{sym, arith}
use Rattle.http_forms.proofs.Scanning.{no_end, ends_here, passes_one}
use Rattle.http_forms.proofs.head.HeadScanner.find.Goals as goal

pub lines-preserved : goal.lines-preserved
lines-preserved c = record {
  inside = c.go_on-place.ensures.inside;
  passed = c.go_on-place.ensures.passes (passes_one c.lines.phase c.in-Some.next c.args.bytes.now c.lines.place (omega (arith, c.lines-test.true)) c.lines.invariant.passed c.in-Some.ensures);
}

pub returns-in_default-clause-end : goal.returns-in_default-clause-end
returns-in_default-clause-end c =
    sym (ends_here c.lines.phase c.args.bytes.now c.lines.place (omega (arith, c.lines-test.true)) c.lines.invariant.passed c.in_default.ensures)

pub returns-clause-end : goal.returns-clause-end
returns-clause-end c =
    sym (no_end c.lines.phase c.args.bytes.now c.lines.place (omega (arith, c.lines-test.false)) c.lines.invariant.passed)
