use Rattle.std.proofs.Common.{rules, ◌≡◌, ◌++◌, ◌∷◌, ◌+◌, [], ℕ, Some, slice_get, length, refl, ap, sym, subst, ◌∙◌, arith, append_assoc, map, reverse}
use Rattle.std.specs.Vec.{vec_len}
use Rattle.std.proofs.lemmas.List.{append-nil}
use Rattle.shelf_lock.proofs.Closings.{prefix_at}
use Rattle.shelf_lock.proofs.Prefixes.{snoc_each}
use Rattle.lock_row.specs.Locks.{seat_spot, lock_homes, lock_home}
use Rattle.lock_row.specs.Rows.{ZipsAll}
use Rattle.lock_row.specs.Locking.{AreDealt, Extends, home_in}
use Rattle.lock_row.proofs.Places.{map_snoc, map_length}
use Rattle.lock_row.proofs.Lockings.{turned_cons, deals_on}
use Rattle.lock_row.proofs.locking.deal_all.Goals as goal

pub loop-last-init : goal.loop-last-init
loop-last-init g c =
    let none = c.requires.room.0 in
    record {
      room = search (rules, arith);
      count = search (rules, arith);
      many = refl;
      homes = ([], sym (append-nil _), ap (lock_homes g.V.Kept) none);
      seats = λ k x e. absurd (let no = sym (ap (λ l. slice_get l k) none) ∙ e in cc no);
      dealt = subst (λ l. AreDealt (lock_homes g.V.Kept l) (vec_len c.args.held) c.args.columns.now.items) (sym none) c.requires.columns;
    }

pub deal-requires-clause-len : goal.deal-requires-clause-len
deal-requires-clause-len g c =
    let r = c.loop-last.invariant.homes in
    let held = c.requires.held _ _ (prefix_at c.pop.new.self.items c.args.held.items c.in-Some.last (r.0, sym (r.1 ∙ ap (λ l. l ++ r.0) c.in-Some.ensures.items))) in
    sym (map_length seat_spot c.last.inside.seats.items)
    ∙ (ap (λ h. length h.spots) c.last.view_is ∙ (held.many ∙ sym c.loop-last.invariant.many))

pub deal-requires-clause-room : goal.deal-requires-clause-room
deal-requires-clause-room g c k x e =
    let most = (c.loop-last.invariant.dealt k x e).2 in search (rules, arith, most)

pub loop-last-preserved : goal.loop-last-preserved
loop-last-preserved g c =
    let i = c.loop-last.invariant in
    let r = i.homes in
    let last = c.in-Some.last in
    let view = c.last.view_is in
    let lock = c.last.inside.lock in
    let pushed = c.push_reserved.ensures.items in
    let h = lock_home g.V.Kept in
    let held = c.requires.held _ _ (prefix_at c.pop.new.self.items c.args.held.items last (r.0, sym (r.1 ∙ ap (λ l. l ++ r.0) c.in-Some.ensures.items))) in
    let is : h lock ≡ home_in g.V.Kept last = ap (home_in g.V.Kept) view in
    let homes : map h c.push_reserved.new.self.items ≡ map h c.loop-last.locks.items ++ home_in g.V.Kept last ∷ [] =
    ap (map h) pushed ∙ (map_snoc h c.loop-last.locks.items lock ∙ ap (λ z. map h c.loop-last.locks.items ++ z ∷ []) is) in
    let places : vec_len c.loop-last.held ≡ vec_len c.pop.new.self + 1 = search (rules, arith) in
    let zips = subst (λ l. ZipsAll Extends c.loop-last.columns.items l c.deal.new.columns.items) (ap (λ z. z.spots) view) c.deal.ensures.dealt in
    record {
      room = search (rules, arith);
      count = search (rules, arith);
      many = c.deal.ensures.len ∙ i.many;
      homes = (
        last ∷ r.0,
        r.1 ∙ (ap (λ l. l ++ r.0) c.in-Some.ensures.items ∙ append_assoc c.pop.new.self.items (last ∷ []) r.0),
        homes ∙ (ap (λ l. l ++ home_in g.V.Kept last ∷ []) r.2 ∙ sym (turned_cons (home_in g.V.Kept) last r.0)),
      );
      seats = subst (λ l. (k : ℕ) (x : _) → slice_get l k ≡ Some x → x.board.shared.key.seats ≡ length c.args.columns.now.items) (sym pushed)
          (snoc_each (λ (k : ℕ) (x : _). x.board.shared.key.seats ≡ length c.args.columns.now.items) c.loop-last.locks.items lock i.seats
          (ap (λ z. z.start.seats) view ∙ held.callers));
      dealt = subst (λ l. AreDealt l (vec_len c.pop.new.self) c.deal.new.columns.items) (sym homes)
          (deals_on g.V.Kept (map h c.loop-last.locks.items) last (length c.args.columns.now.items) (vec_len c.pop.new.self) c.loop-last.columns.items c.deal.new.columns.items
          (subst (λ n. AreDealt (map h c.loop-last.locks.items) n c.loop-last.columns.items) places i.dealt) held i.many c.deal.ensures.len zips);
    }

pub returns-clause-columns : goal.returns-clause-columns
returns-clause-columns g c =
    let i = c.loop-last.invariant in
    let r = i.homes in
    let none : c.loop-last.held.items ≡ [] = search rules in
    let is : c.args.held.items ≡ r.0 = r.1 ∙ ap (λ l. l ++ r.0) none in
    λ k x e. let d = i.dealt k x e in (d.0 ∙ (r.2 ∙ ap (λ l. reverse (map (home_in g.V.Kept) l)) (sym is)), d.1, omega arith)
