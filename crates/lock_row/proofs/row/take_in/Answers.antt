use Rattle.std.proofs.Common.{rules, ◌≡◌, ◌++◌, ◌∷◌, [], suc, length, length-append, ap, sym, subst, ◌∙◌, arith}
use mathlib.Core.List.{IsPrefix}
use Rattle.std.proofs.lemmas.List.{append-nil}
use Rattle.shelf_lock.proofs.Closings.{prefix_at, prefix_less}
use Rattle.lock_row.proofs.Ends.{TellsFrom, tells_on, tells_first, tells_all}
use Rattle.lock_row.proofs.row.take_in.Goals as goal

pub loop-other-init : goal.loop-other-init
loop-other-init g c = (c.requires.own, ([], append-nil _), tells_first g.V.Kept c.args.others.items c.args.pass.now)

pub absorb-requires-clause-other : goal.absorb-requires-clause-other
absorb-requires-clause-other g c =
    let i = c.loop-other.invariant in
    let before : IsPrefix (c.pop.new.self.items ++ c.in-Some.other ∷ []) c.args.others.items = subst (λ l. IsPrefix l c.args.others.items) c.in-Some.ensures.items i.1 in
    c.requires.others _ _ (prefix_at _ _ _ before)

pub loop-other-preserved : goal.loop-other-preserved
loop-other-preserved g c =
    let i = c.loop-other.invariant in
    let before : IsPrefix (c.pop.new.self.items ++ c.in-Some.other ∷ []) c.args.others.items = subst (λ l. IsPrefix l c.args.others.items) c.in-Some.ensures.items i.1 in
    let at = prefix_at _ _ _ before in
    let of = c.requires.others _ _ at in
    let longer_by : length c.loop-other.others.items ≡ suc (length c.pop.new.self.items) = ap length c.in-Some.ensures.items ∙ omega (arith, length-append c.pop.new.self.items (c.in-Some.other ∷ [])) in (
      c.absorb.ensures.own,
      prefix_less _ _ _ before,
      tells_on g.V.Kept c.args.others.items (length c.pop.new.self.items) c.args.pass.now c.loop-other.pass c.absorb.new.pass c.in-Some.other
          (subst (λ n. TellsFrom g.V.Kept n c.args.others.items c.args.pass.now c.loop-other.pass) longer_by i.2) at (i.0 ∙ sym c.absorb.ensures.own) (of ∙ sym c.absorb.ensures.own) c.absorb.ensures.both,
    )

pub returns-clause-told : goal.returns-clause-told
returns-clause-told g c =
    let none : length c.loop-other.others.items ≡ 0 = search (rules, arith) in
    tells_all g.V.Kept c.args.others.items c.args.pass.now c.loop-other.pass
    (subst (λ n. TellsFrom g.V.Kept n c.args.others.items c.args.pass.now c.loop-other.pass) none c.loop-other.invariant.2)
