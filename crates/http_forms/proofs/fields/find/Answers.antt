use Rattle.std.proofs.Common.{sym, subst, map, take, ◌+◌}
use Rattle.httparse.specs.Spans.{header_bytes}
use Rattle.http_forms.specs.Fields.{values_of}
use Rattle.http_forms.specs.Found.{IsFound}
use Rattle.http_forms.proofs.Values.{found_one, found_same}
use Rattle.http_forms.proofs.fields.find.Goals as goal
use Rattle.http_forms.proofs.fields.find.Goals.{then-same_letters, else-same_letters}

pub loop-header-preserved : goal.loop-header-preserved
loop-header-preserved c = elim c.if-same_letters.branch [
  | then-same_letters w ↦ subst (IsFound (values_of c.args.name.now (map (header_bytes c.args.lines.now) (take (c.loop-header.header-index + 1) c.args.headers.now)))) (sym w.found-is)
      (found_one c.args.name.now _ _ _ c.args.lines.now c.args.headers.now c.loop-header.header-index _ c.loop-header.found w.with_one-found.result c.loop-header-test.true
      c.of.ensures w.of-then-same_letters.ensures c.as_bytes.ensures.value w.if-same_letters.ensures c.loop-header.invariant w.with_one-found.ensures)
  | else-same_letters w ↦ subst (IsFound (values_of c.args.name.now (map (header_bytes c.args.lines.now) (take (c.loop-header.header-index + 1) c.args.headers.now)))) (sym w.found-is)
      (found_same c.args.name.now _ _ c.args.lines.now c.args.headers.now c.loop-header.header-index _ c.loop-header.found c.loop-header-test.true
      c.of.ensures c.as_bytes.ensures.value w.if-same_letters.ensures c.loop-header.invariant)
]
