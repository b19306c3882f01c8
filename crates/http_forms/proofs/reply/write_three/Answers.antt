use Rattle.std.proofs.Common.{refl}
use Rattle.http_forms.proofs.Writing.{writes_then, writes_no_more}
use Rattle.http_forms.proofs.reply.write_three.Goals as goal

pub returns-in_err-write_all : goal.returns-in_err-write_all
returns-in_err-write_all g c =
    let e = c.in_err-write_all.ensures in
    writes_no_more _ _ _ _ c.args.first.now _ _ c.from_residual.result refl c.from_residual.ensures.0 e.part e.cause.later e.cause.failed

pub returns-in_err-write_all-2 : goal.returns-in_err-write_all-2
returns-in_err-write_all-2 g c =
    let first = c.in_ok-write_all.ensures in
    let e = c.in_err-write_all-2.ensures in
    writes_then _ _ _ _ _ _ c.args.first.now _ _ c.from_residual-in_err-write_all-2.result refl first.ok first.cause.later
    (writes_no_more _ _ _ _ c.args.second.now _ _ c.from_residual-in_err-write_all-2.result refl c.from_residual-in_err-write_all-2.ensures.0 e.part e.cause.later e.cause.failed)

pub returns : goal.returns
returns g c =
    let first = c.in_ok-write_all.ensures in
    let second = c.in_ok-write_all-2.ensures in
    let third = c.write_all-3.ensures in
    writes_then _ _ _ _ _ _ c.args.first.now _ _ c.write_all-3.result refl first.ok first.cause.later
    (writes_then _ _ _ _ _ _ c.args.second.now _ _ c.write_all-3.result refl second.ok second.cause.later
    (record { ok = third.ok; part = third.part; cause = third.cause }))
