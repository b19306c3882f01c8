use Rattle.std.proofs.Common.{rules, ◌≡◌, ◌∷◌, ◌++◌, [], length, ap, sym, subst, ◌∙◌, arith, length-append}
use mathlib.Core.List.{IsPrefix}
use Rattle.std.proofs.lemmas.List.{append-nil}
use Rattle.shelf_lock.proofs.Closings.{prefix_at, prefix_less, from_next, none_behind, tells, tells_of, TellsOf}
use Rattle.shelf_lock.proofs.lock.ShelfLock.close.Goals as goal

pub loop-other-init : goal.loop-other-init
loop-other-init g c =
    let items : c.args.passes.items ≡ c.pop.new.self.items ++ c.unwrap-pass.result ∷ [] = search rules in
    let at = prefix_at c.pop.new.self.items c.args.passes.items c.unwrap-pass.result ([], append-nil _ ∙ sym items) in (
      c.requires.own _ _ at,
      (c.unwrap-pass.result ∷ [], sym items),
      λ log b. from_next (λ p. TellsOf g.V.Kept log p.caller p.seat.me.0) c.args.passes.items (length c.pop.new.self.items) c.unwrap-pass.result at
          (tells_of g.V.Kept log c.unwrap-pass.result.seat.me.0 _ c.unwrap-pass.result.numbered b)
          (none_behind (λ p. TellsOf g.V.Kept log p.caller p.seat.me.0) c.args.passes.items (length c.pop.new.self.items) (ap length items ∙ omega (arith, length-append c.pop.new.self.items (c.unwrap-pass.result ∷ [])))),
    )

pub absorb-requires : goal.absorb-requires
absorb-requires g c =
    let i = c.loop-other.invariant in
    let before : IsPrefix (c.pop-in-loop-other.new.self.items ++ c.in-Some.other ∷ []) c.args.passes.items = subst (λ l. IsPrefix l c.args.passes.items) c.in-Some.ensures.items i.1 in
    record { own = (i.0, c.requires.own _ _ (prefix_at _ _ _ before)) }

pub loop-other-preserved : goal.loop-other-preserved
loop-other-preserved g c =
    let i = c.loop-other.invariant in
    let before : IsPrefix (c.pop-in-loop-other.new.self.items ++ c.in-Some.other ∷ []) c.args.passes.items = subst (λ l. IsPrefix l c.args.passes.items) c.in-Some.ensures.items i.1 in
    let at = prefix_at _ _ _ before in
    let both_is = c.absorb.ensures.both in (
      search rules,
      prefix_less _ _ _ before,
      λ log b. let t = tells g.V.Kept c.loop-other.pass.seat.me.0 c.in-Some.other.seat.me.0 _ both_is log b in
          from_next (λ p. TellsOf g.V.Kept log p.caller p.seat.me.0) c.args.passes.items (length c.pop-in-loop-other.new.self.items) c.in-Some.other at
          (tells_of g.V.Kept log c.in-Some.other.seat.me.0 _ c.in-Some.other.numbered t.1)
          (λ k p le. i.2 log t.0 k p (omega (arith, ap length c.in-Some.ensures.items, length-append c.pop-in-loop-other.new.self.items (c.in-Some.other ∷ []), le))),
    )

pub returns-clause-told : goal.returns-clause-told
returns-clause-told g c k p = c.loop-other.invariant.2 _ c.close_with.ensures.told k p (search (rules, arith))
