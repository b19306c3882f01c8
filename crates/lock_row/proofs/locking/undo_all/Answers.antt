use Rattle.std.proofs.Common.{rules, ◌++◌, ◌∷◌, [], refl, ap, sym, subst, ◌∙◌, arith, append_assoc, map, reverse}
use Rattle.std.specs.List.{AllZip}
use Rattle.std.proofs.lemmas.List.{append-nil}
use Rattle.shelf_lock.proofs.Closings.{prefix_at}
use Rattle.lock_row.specs.Rows.{ComesBack}
use Rattle.lock_row.specs.Locking.{first_value}
use Rattle.lock_row.proofs.Lockings.{turned_cons, zip_append}
use Rattle.lock_row.proofs.locking.undo_all.Goals as goal

pub loop-last-init : goal.loop-last-init
loop-last-init g c = (refl, refl, ([], ([], sym (append-nil _), sym (append-nil _), tt)))

pub undo-requires-clause-held : goal.undo-requires-clause-held
undo-requires-clause-held g c =
    let r = c.loop-last.invariant.2 in
    c.requires.held _ _ (prefix_at c.pop.new.self.items c.args.held.items c.in-Some.last (r.0, sym (r.1.1 ∙ ap (λ l. l ++ r.0) c.in-Some.ensures.items)))

pub loop-last-preserved : goal.loop-last-preserved
loop-last-preserved g c =
    let r = c.loop-last.invariant.2 in
    let last = c.in-Some.last in (
      search (rules, arith),
      search (rules, arith),
      (
        last ∷ r.0,
        (
          r.1.0 ++ c.undo.result ∷ [],
          r.1.1 ∙ (ap (λ l. l ++ r.0) c.in-Some.ensures.items ∙ append_assoc c.pop.new.self.items (last ∷ []) r.0),
          c.push_reserved.ensures.items ∙ (ap (λ l. l ++ c.undo.result ∷ []) r.1.2 ∙ append_assoc c.args.values.now.items r.1.0 (c.undo.result ∷ [])),
          subst (λ l. AllZip (ComesBack g.V.Kept) l (r.1.0 ++ c.undo.result ∷ [])) (sym (turned_cons first_value last r.0))
              (zip_append (ComesBack g.V.Kept) (reverse (map first_value r.0)) r.1.0 (first_value last ∷ []) (c.undo.result ∷ []) r.1.3 (c.undo.ensures, tt)),
        ),
      ),
    )
