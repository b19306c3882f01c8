use Rattle.std.proofs.Common.{rules, ◌≡◌, ◌++◌, ◌∷◌, [], ℕ, Some, slice_get, ap, sym, subst, ◌∙◌, arith, append_assoc, map, reverse}
use Rattle.std.specs.List.{AllZip}
use Rattle.shelf_lock.proofs.Closings.{prefix_at}
use Rattle.shelf_lock.proofs.Prefixes.{snoc_each}
use Rattle.lock_row.specs.Rows.{ComesBack}
use Rattle.lock_row.specs.Locking.{IsHeld, first_value}
use Rattle.lock_row.proofs.Lockings.{turned_snoc, zip_append, zip_same, comes_same, get_front}
use Rattle.lock_row.proofs.locking.hold_all.Goals as goal

pub new-requires : goal.new-requires
new-requires g c =
    let all = c.loop-value.invariant.all in
    c.requires.fresh _ _ (prefix_at c.pop.new.self.items c.args.values.now.items c.in-Some.value (_, sym (all ∙ ap (λ l. l ++ reverse (map first_value c.loop-value.held.items)) c.in-Some.ensures.items)))

pub loop-value-preserved : goal.loop-value-preserved
loop-value-preserved g c =
    let i = c.loop-value.invariant in
    let pushed = c.push_reserved.ensures.items in
    let made = c.in-Ok.ensures.held in
    record {
      room = search (rules, arith);
      count = search (rules, arith);
      capacity = search (rules, arith);
      held = subst (λ l. (k : ℕ) (h : _) → slice_get l k ≡ Some h → IsHeld g.V.Kept c.args.seats h) (sym pushed)
          (snoc_each (λ (k : ℕ) (h : _). IsHeld g.V.Kept c.args.seats h) c.loop-value.held.items c.in-Ok.more i.held made.0);
      all = i.all
          ∙ (ap (λ l. l ++ reverse (map first_value c.loop-value.held.items)) c.in-Some.ensures.items
          ∙ (append_assoc c.pop.new.self.items (c.in-Some.value ∷ []) (reverse (map first_value c.loop-value.held.items))
          ∙ (ap (λ x. c.pop.new.self.items ++ (x ∷ reverse (map first_value c.loop-value.held.items))) (sym made.1)
          ∙ (ap (λ l. c.pop.new.self.items ++ l) (sym (turned_snoc first_value c.loop-value.held.items c.in-Ok.more))
          ∙ ap (λ l. c.pop.new.self.items ++ reverse (map first_value l)) (sym pushed)))));
    }

pub returns-in-Err-clause-back : goal.returns-in-Err-clause-back
returns-in-Err-clause-back g c =
    let i = c.loop-value.invariant in
    let rest = reverse (map first_value c.loop-value.held.items) in
    let was : c.args.values.now.items ≡ c.loop-value.values.items ++ rest = i.all in
    let same : c.push_reserved-in-Err.new.self.items ≡ c.loop-value.values.items =
    c.push_reserved-in-Err.ensures.items ∙ (ap (λ x. c.pop.new.self.items ++ x ∷ []) c.in-Err.ensures.back ∙ sym c.in-Some.ensures.items) in
    let b = c.undo_all.ensures.back in
    let fresh : (k : ℕ) (x : _) → slice_get c.loop-value.values.items k ≡ Some x → ComesBack g.V.Kept x x =
    λ k x e. comes_same g.V.Kept x (c.requires.fresh k x (ap (λ l. slice_get l k) was ∙ get_front c.loop-value.values.items rest k x e)) in (
      subst (λ l. AllZip (ComesBack g.V.Kept) l c.undo_all.new.values.items) (sym was)
          (subst (λ l. AllZip (ComesBack g.V.Kept) (c.loop-value.values.items ++ rest) l) (ap (λ l. l ++ b.0) (sym same) ∙ sym b.1)
          (zip_append (ComesBack g.V.Kept) c.loop-value.values.items c.loop-value.values.items rest b.0 (zip_same (ComesBack g.V.Kept) c.loop-value.values.items fresh) b.2)),
      search (rules, arith),
    )
