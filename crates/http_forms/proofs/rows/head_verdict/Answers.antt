use Rattle.std.proofs.Common.{Some, None, refl}
use Rattle.httparse.specs.Spans.{IsRequestOf}
use Rattle.http_forms.proofs.Verdicts.{cut_short, whole_head, verdict_of, none_fits}
use Rattle.http_forms.proofs.rows.head_verdict.Goals as goal

pub returns-then-head-lines-clause-reads : goal.returns-then-head-lines-clause-reads
returns-then-head-lines-clause-reads c =
    let at : IsRequestOf c.args.lines.now c.parse_request.new.headers c.in-Ok-Complete.head = rw c.in-Ok-Complete.field-0-is at c.in-Ok-Complete.ensures.complete in
    record { parsed = None; grammar = cut_short c.args.lines.now _ c.in-Ok-Complete.head at c.if-head-lines.true; is = refl }

pub returns-else-head-lines-clause-reads : goal.returns-else-head-lines-clause-reads
returns-else-head-lines-clause-reads c =
    let at : IsRequestOf c.args.lines.now c.parse_request.new.headers c.in-Ok-Complete.head = rw c.in-Ok-Complete.field-0-is at c.in-Ok-Complete.ensures.complete in
    record {
      parsed = Some at.0;
      grammar = whole_head c.args.lines.now _ c.in-Ok-Complete.head at.0 at.1 c.if-head-lines.false;
      is = verdict_of c.args.lines.now _ c.in-Ok-Complete.head at.0 _ _ at.1 c.of-method.ensures c.fields_verdict.ensures.judges;
    }

pub returns-in-Err-clause-reads : goal.returns-in-Err-clause-reads
returns-in-Err-clause-reads c = record {
  parsed = None;
  grammar = none_fits c.args.lines.now _ refl c.requires c.in-Err.ensures.no_room;
  is = refl;
}
