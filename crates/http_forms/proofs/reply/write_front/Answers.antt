use Rattle.http_forms.specs.Reply.{status_line, type_line}
use Rattle.http_forms.proofs.Writing.{writes_as, writes_then, writes_no_more}
use Rattle.http_forms.proofs.reply.write_front.Goals as goal

pub returns-in_err-write_three : goal.returns-in_err-write_three
returns-in_err-write_three g c =
    let e = c.in_err-write_three.ensures in
    writes_no_more _ _ _ _ (status_line c.args.status) _ _ c.from_residual.result (cc) c.from_residual.ensures.0 e.part e.cause.later e.cause.failed

pub returns-in_err-write_three-2 : goal.returns-in_err-write_three-2
returns-in_err-write_three-2 g c =
    let first = c.in_ok-write_three.ensures in
    let e = c.in_err-write_three-2.ensures in
    writes_then _ _ _ _ _ _ (status_line c.args.status) _ _ c.from_residual-in_err-write_three-2.result (cc) first.ok first.cause.later
    (writes_no_more _ _ _ _ (type_line c.args.media_type.now) _ _ c.from_residual-in_err-write_three-2.result (cc) c.from_residual-in_err-write_three-2.ensures.0 e.part e.cause.later e.cause.failed)

pub returns : goal.returns
returns g c =
    let first = c.in_ok-write_three.ensures in
    let second = c.in_ok-write_three-2.ensures in
    let third = c.write_all.ensures in
    writes_then _ _ _ _ _ _ (status_line c.args.status) _ _ c.write_all.result (cc) first.ok first.cause.later
    (writes_then _ _ _ _ _ _ (type_line c.args.media_type.now) _ _ c.write_all.result (cc) second.ok second.cause.later
    (writes_as _ _ _ _ _ _ c.write_all.result (cc) (record { ok = third.ok; part = third.part; cause = third.cause })))
