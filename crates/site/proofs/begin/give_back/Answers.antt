use Rattle.std.proofs.Common.{rules, ◌++◌, ◌∷◌, [], ap, sym, ◌∙◌, arith, append_assoc, map, reverse}
use Rattle.std.proofs.lemmas.List.{append-nil}
use Rattle.lock_row.proofs.Lockings.{turned_cons}
use Rattle.site.proofs.begin.give_back.Goals as goal

pub loop-shelf-init : goal.loop-shelf-init
loop-shelf-init g c = record {
  room = search (rules, arith);
  capacity = search (rules, arith);
  back = ([], sym (append-nil _), sym (append-nil _), sym (append-nil _));
}

pub loop-shelf-preserved : goal.loop-shelf-preserved
loop-shelf-preserved g c =
    let b = c.loop-shelf.invariant.back in
    let s = c.in-Some.shelf in
    record {
      room = search (rules, arith);
      capacity = search (rules, arith);
      back = (
        s ∷ b.0,
        b.1 ∙ (ap (λ l. l ++ b.0) c.in-Some.ensures.items ∙ append_assoc c.pop.new.self.items (s ∷ []) b.0),
        c.push_reserved.ensures.items
            ∙ ((λ i. b.2 i ++ c.close-disk.ensures.disk i ∷ [])
            ∙ (append_assoc c.args.disks.now.items (reverse (map (λ k. k.shelf.journal.disk) b.0)) (s.shelf.journal.disk ∷ [])
            ∙ ap (λ l. c.args.disks.now.items ++ l) (sym (turned_cons (λ k. k.shelf.journal.disk) s b.0)))),
        c.push_reserved-in-Some.ensures.items
            ∙ ((λ i. b.3 i ++ c.close-disk.ensures.nonces i ∷ [])
            ∙ (append_assoc c.args.nonces.now.items (reverse (map (λ k. k.shelf.nonces) b.0)) (s.shelf.nonces ∷ [])
            ∙ ap (λ l. c.args.nonces.now.items ++ l) (sym (turned_cons (λ k. k.shelf.nonces) s b.0)))),
      );
    }
