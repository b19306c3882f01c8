use Rattle.std.proofs.Common.{rules, ◌≡◌, ◌≤◌, ◌+◌, length, Err, sym, subst, arith}
use Rattle.http_forms.specs.Outcomes.{Tells}
use Rattle.http_forms.specs.Request.{Decides}
use Rattle.http_forms.specs.declared.refused.RequestFault.TheVariants.{Memory}
use Rattle.http_forms.proofs.Following.{whole_body}
use Rattle.http_forms.proofs.Ends.{head_inside}
use Rattle.http_forms.proofs.request.with_head.Goals as goal

pub split_at-requires : goal.split_at-requires
split_at-requires c = head_inside c.args.bytes.now c.args.head.end c.requires.end

-- there was no memory for the visit that the bytes ask for
pub returns-in_err-request : goal.returns-in_err-request
returns-in_err-request c =
    let is : c.from_residual.result ≡ Err Memory = search rules in
    let inside = head_inside c.args.bytes.now c.args.head.end c.requires.end in
    let fits : c.args.head.end + c.args.head.asked.length ≤ length c.args.bytes.now = omega (arith, inside, c.if-size-behind.true, c.split_at.ensures.back_len) in
    subst (λ r. Tells r (Decides c.args.bytes.now c.args.ended)) (sym is) (_, whole_body c.args.head c.args.bytes.now c.requires c.args.ended fits)
