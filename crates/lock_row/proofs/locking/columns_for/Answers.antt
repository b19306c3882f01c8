use Rattle.std.proofs.Common.{rules, ◌≡◌, ◌∷◌, ◌≤◌, [], ℕ, length, length-append, Some, slice_get, ap, sym, subst, ◌∙◌, arith}
use Rattle.shelf_lock.proofs.Prefixes.{snoc_each}
use Rattle.lock_row.proofs.locking.columns_for.Goals as goal

pub loop-caller-preserved : goal.loop-caller-preserved
loop-caller-preserved g c =
    let i = c.loop-caller.invariant in
    let pushed = c.push_reserved.ensures.items in
    let each = snoc_each (λ (k : ℕ) (x : _). (x.spots ≡ []) × (c.args.places ≤ x.room)) c.loop-caller.columns.items _ i.2.1 c.in-Some.ensures in (
      search (rules, arith),
      search (rules, arith),
      (
        ap length pushed ∙ (let was = i.2.0 in omega (arith, was, length-append c.loop-caller.columns.items (c.in-Some.column ∷ []))),
        subst (λ l. (k : ℕ) (x : _) → slice_get l k ≡ Some x → (x.spots ≡ []) × (c.args.places ≤ x.room)) (sym pushed) each,
      ),
    )
