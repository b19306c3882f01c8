use Rattle.std.proofs.Common.{◌++◌, ℕ, List, codes, sym, ap, ◌∙◌, length-append, length}
use Rattle.std.specs.Fmt.{decimal}
use Rattle.http_forms.specs.Reply.{length_line}
use Rattle.http_forms.proofs.Writing.{writes_as, writes_then, writes_no_more}
use Rattle.http_forms.proofs.reply.write_body.Goals as goal

pub returns-in_err-write_three : goal.returns-in_err-write_three
returns-in_err-write_three g c =
    let e = c.in_err-write_three.ensures in
    let line = ap (λ (d : _). codes "Content-Length: " ++ (d ++ codes "\r\n")) (c.as_bytes.ensures.value ∙ (c.format-length.ensures.text ∙ ap decimal (sym (length-append c.args.body.now c.args.end.now)))) in
    writes_no_more _ _ _ _ (length_line (length (c.args.body.now ++ c.args.end.now))) _ _ c.from_residual.result line c.from_residual.ensures.0 e.part e.cause.later e.cause.failed

pub returns : goal.returns
returns g c =
    let first = c.in_ok-write_three.ensures in
    let line = ap (λ (d : _). codes "Content-Length: " ++ (d ++ codes "\r\n")) (c.as_bytes.ensures.value ∙ (c.format-length.ensures.text ∙ ap decimal (sym (length-append c.args.body.now c.args.end.now)))) in
    writes_then _ _ _ _ _ _ (length_line (length (c.args.body.now ++ c.args.end.now))) _ _ c.write_three-2.result line first.ok first.cause.later
    (writes_as _ _ _ _ _ _ c.write_three-2.result (ap (λ (l : List ℕ). l ++ (c.args.body.now ++ c.args.end.now)) (c.as_bytes-2.ensures.value ∙ c.last_lines.ensures)) c.write_three-2.ensures)
