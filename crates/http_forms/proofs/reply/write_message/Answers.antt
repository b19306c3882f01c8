use Rattle.std.proofs.Common.{refl}
use Rattle.http_forms.specs.Reply.{first_lines}
use Rattle.http_forms.proofs.Writing.{writes_then, writes_no_more}
use Rattle.http_forms.proofs.reply.write_message.Goals as goal

pub returns-in_err-write_front : goal.returns-in_err-write_front
returns-in_err-write_front g c =
    let e = c.in_err-write_front.ensures in
    writes_no_more _ _ _ _ (first_lines c.args.status c.args.media_type.now) _ _ c.from_residual.result refl c.from_residual.ensures.0 e.part e.cause.later e.cause.failed

pub returns : goal.returns
returns g c =
    let first = c.in_ok-write_front.ensures in
    writes_then _ _ _ _ _ _ (first_lines c.args.status c.args.media_type.now) _ _ c.write_body.result refl first.ok first.cause.later c.write_body.ensures
