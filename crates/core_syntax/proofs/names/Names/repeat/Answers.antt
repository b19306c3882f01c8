use Rattle.std.proofs.Common.{◌≡◌, ◌∙◌, sym, ap, arith}
use Rattle.core_syntax.specs.Names.{repeats}
use Rattle.core_syntax.proofs.Scope.{repeats_found, repeats_none}
use Rattle.core_syntax.proofs.names.Names.repeat.Goals as goal

pub returns-then-is_some : goal.returns-then-is_some
returns-then-is_some c =
    let items : c.deref-named-items.result.now ≡ c.self.inside.names.items = c.deref-named-items.ensures.value in
    let linked = rw (← items) at c.self.invariant.linked in
    let found = repeats_found c.deref-named-items.result.now c.loop-named.named-index c.named-item.result (omega arith) c.named-item.is linked (sym c.is_some.ensures ∙ c.if-is_some.true) in
    sym (ap repeats (sym c.self.view_is) ∙ rw items at found)

pub loop-named-preserved : goal.loop-named-preserved
loop-named-preserved c =
    let items : c.deref-named-items.result.now ≡ c.self.inside.names.items = c.deref-named-items.ensures.value in
    let linked = rw (← items) at c.self.invariant.linked in
    repeats_none c.deref-named-items.result.now c.loop-named.named-index c.named-item.result (omega arith) c.named-item.is linked (sym c.is_some.ensures ∙ c.if-is_some.false) c.loop-named.invariant
