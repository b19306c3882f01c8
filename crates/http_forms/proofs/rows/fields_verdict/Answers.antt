use Rattle.std.proofs.Common.{rules, codes, map, sym, ◌∙◌, ap, Bool, ◌≡◌, true, Ok}
use Rattle.httparse.specs.Spans.{header_bytes, span_bytes}
use Rattle.http_forms.specs.Fields.{values_of, is_none, announced}
use Rattle.http_forms.specs.Found.{capped}
use Rattle.http_forms.specs.Rows.{body_verdict}
use Rattle.http_forms.proofs.Verdicts.{capped_verdict, fields_pass}
use Rattle.http_forms.proofs.rows.fields_verdict.Goals as goal

pub returns-clause-judges : goal.returns-clause-judges
returns-clause-judges c =
    let fields = map (header_bytes c.args.lines.now) c.args.headers.now in
    let target = span_bytes c.args.lines.now c.args.target in
    let types = values_of (codes "Content-Type") fields in
    let plain : is_none (values_of (codes "Transfer-Encoding") fields) ≡ true = search (rules, c.is_none.ensures _ c.find.ensures, c.if-not-is_none.false) in
    let sized : Ok c.in_ok-announced.announced ≡ capped (announced (values_of (codes "Content-Length") fields)) = search (rules, c.announced.ensures _ c.find-2.ensures) in
    fields_pass c.args.minor c.args.method.now target fields _ (sym c.lacks_host.ensures ∙ c.if-lacks_host.false) plain
    (c.body_verdict.ensures.judges c.args.lines.now types c.find-types.ensures
    ∙ (ap (λ (b : Bool). body_verdict c.args.method.now target types b c.in_ok-announced.announced) c.closes_by-closes.ensures
    ∙ capped_verdict c.args.method.now target types _ c.in_ok-announced.announced _ sized))
