use Rattle.std.proofs.Common.{sym, ◌∙◌, ◌+◌, length-drop, arith}
use Rattle.std.proofs.lemmas.List.{take_rest}
use Rattle.http_forms.proofs.Values.{close_first, close_later, close_last}
use Rattle.http_forms.proofs.fields.has_close.Goals as goal

pub returns-then-is_close : goal.returns-then-is_close
returns-then-is_close c =
    close_first c.args.value.now c.loop-i.rest.now c.in-Some.i c.is_close.result (sym c.first_comma.ensures.is ∙ c.in-Some.is) c.loop-i.invariant.says c.is_close.ensures c.if-is_close.true

pub loop-i-preserved : goal.loop-i-preserved
loop-i-preserved c = rw take_rest
    (record {
      says = close_later c.args.value.now c.loop-i.rest.now c.in-Some.i c.is_close.result (sym c.first_comma.ensures.is ∙ c.in-Some.is) c.loop-i.invariant.says c.is_close.ensures c.if-is_close.false;
      shorter = omega (arith, c.loop-i.invariant.shorter, length-drop (c.in-Some.i + 1) c.loop-i.rest.now);
    })

pub returns-in-None : goal.returns-in-None
returns-in-None c =
    close_last c.args.value.now c.loop-i.rest.now c.is_close-in-None.result (sym c.first_comma.ensures.is ∙ c.in-None.is) c.loop-i.invariant.says c.is_close-in-None.ensures
