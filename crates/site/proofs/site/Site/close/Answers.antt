use Rattle.std.proofs.Common.{rules, ◌≡◌, ◌++◌, ◌∷◌, [], length, refl, ap, sym, ◌∙◌, subst, arith, append_assoc, reverse, slice_get}
use Rattle.lock_row.proofs.Ends.{zip_get, zip_length}
use Rattle.lock_row.proofs.Lockings.{reverse_snoc}
use Rattle.lock_row.proofs.Places.{map_snoc, map_length, map_get, get_map, one_of}
use Rattle.history_spec.specs.Histories.{own_of}
use Rattle.history_spec.specs.Passes.{IsSeenBy}
use Rattle.site.specs.Entries.{entries_of}
use Rattle.site.specs.Passes.{seen_by}
use Rattle.site.specs.Sound.{StandsFor}
use Rattle.site.proofs.Begins.{whole_front, disk_in, nonces_in, history_in}
use Rattle.site.proofs.Sounds.{stands_for}
use Rattle.site.proofs.Turns.{own_map, seen_so}
use Rattle.site.proofs.site.Site.close.Goals as goal

pub close-shelves-requires : goal.close-shelves-requires
close-shelves-requires g c = record { own = λ j p at. (c.requires.own j p at).of }

pub loop-shelf-init : goal.loop-shelf-init
loop-shelf-init g c =
    let r = c.requires.whole.room in
    let len = zip_length _ _ _ c.close-shelves.ensures.back in
    record {
      room = (search (rules, arith, len, r.no_disks, r.disks), search (rules, arith, len, r.no_nonces, r.nonces), search (rules, arith, len, r.no_histories, r.histories));
      parts = ([], refl, r.empty.0, r.empty.1, r.empty.2);
    }

pub loop-shelf-preserved : goal.loop-shelf-preserved
loop-shelf-preserved g c =
    let i = c.loop-shelf.invariant in
    let p = i.parts in
    let s = c.in-Some.shelf in
    let closed = c.close-disk.ensures in
    record {
      room = (search (rules, arith), search (rules, arith), search (rules, arith));
      parts = (
        p.0 ++ s ∷ [],
        p.1 ∙ (ap (λ l. p.0 ++ l) (ap reverse c.in-Some.ensures.items ∙ reverse_snoc c.pop.new.self.items s) ∙ sym (append_assoc p.0 (s ∷ []) (reverse c.pop.new.self.items))),
        c.push_reserved.ensures.items ∙ ((λ i. p.2 i ++ closed.disk i ∷ []) ∙ sym (map_snoc disk_in p.0 s)),
        c.push_reserved-in-Some.ensures.items ∙ ((λ i. p.3 i ++ closed.nonces i ∷ []) ∙ sym (map_snoc nonces_in p.0 s)),
        c.push_reserved-in-Some-2.ensures.items ∙ ((λ i. p.4 i ++ closed.history i ∷ []) ∙ sym (map_snoc history_in p.0 s)),
      );
    }

pub returns-clause-disks : goal.returns-clause-disks
returns-clause-disks g c =
    let p = c.loop-shelf.invariant.parts in
    let none : c.loop-shelf.shelves.items ≡ [] = search rules in
    let front = whole_front c.close-shelves.result.items c.reverse.new.self.items c.loop-shelf.shelves.items p.0 c.reverse.ensures.items p.1 none in
    ap length p.2 ∙ (map_length disk_in p.0 ∙ (ap length (sym front) ∙ zip_length _ _ _ c.close-shelves.ensures.back))

pub returns-clause-nonces : goal.returns-clause-nonces
returns-clause-nonces g c =
    let p = c.loop-shelf.invariant.parts in
    let none : c.loop-shelf.shelves.items ≡ [] = search rules in
    let front = whole_front c.close-shelves.result.items c.reverse.new.self.items c.loop-shelf.shelves.items p.0 c.reverse.ensures.items p.1 none in
    ap length p.3 ∙ (map_length nonces_in p.0 ∙ (ap length (sym front) ∙ zip_length _ _ _ c.close-shelves.ensures.back))

pub returns-clause-histories : goal.returns-clause-histories
returns-clause-histories g c =
    let p = c.loop-shelf.invariant.parts in
    let none : c.loop-shelf.shelves.items ≡ [] = search rules in
    let front = whole_front c.close-shelves.result.items c.reverse.new.self.items c.loop-shelf.shelves.items p.0 c.reverse.ensures.items p.1 none in
    ap length p.4 ∙ (map_length history_in p.0 ∙ (ap length (sym front) ∙ zip_length _ _ _ c.close-shelves.ensures.back))

pub returns-clause-back : goal.returns-clause-back
returns-clause-back g c k h d n es h_is d_is n_is es_is =
    let view = g.D.Disk.view in
    let tells = g.D.Disk.tells in
    let coming = g.N.Nonces.nonce in
    let p = c.loop-shelf.invariant.parts in
    let none : c.loop-shelf.shelves.items ≡ [] = search rules in
    let front = whole_front c.close-shelves.result.items c.reverse.new.self.items c.loop-shelf.shelves.items p.0 c.reverse.ensures.items p.1 none in
    let x = map_get disk_in p.0 k d (ap (λ l. slice_get l k) (sym p.2) ∙ d_is) in
    let z = zip_get _ c.args.self.row.homes c.close-shelves.result.items k x.0 c.close-shelves.ensures.back (ap (λ l. slice_get l k) front ∙ x.1) in
    let nonces : n ≡ x.0.shelf.nonces = one_of (sym n_is ∙ (ap (λ l. slice_get l k) p.3 ∙ get_map nonces_in p.0 k x.0 x.1)) in
    let history : es ≡ x.0.history = one_of (sym es_is ∙ (ap (λ l. slice_get l k) p.4 ∙ get_map history_in p.0 k x.0 x.1)) in
    record {
      opened = x.0.opened;
      opening_is = ap (λ w. w.opening) (one_of (sym h_is ∙ z.1)) ∙ z.2.opening_is;
      stands = subst (λ l. StandsFor {D = g.row.D.Denot} {N = g.row.N.Denot} view tells coming x.0.opened d n (entries_of l)) (sym history)
          (stands_for {D = g.row.D.Denot} {N = g.row.N.Denot} view tells coming x.0.opened x.0.shelf (entries_of x.0.history) d n z.2.sound.is (sym x.2) nonces);
      callers = λ who le. ap (λ l. own_of who (entries_of l)) history ∙ (own_map who x.0.history ∙ ap entries_of (z.2.callers who le));
    }

pub returns-clause-told : goal.returns-clause-told
returns-clause-told g c k es es_is j q q_is a a_is =
    let p = c.loop-shelf.invariant.parts in
    let none : c.loop-shelf.shelves.items ≡ [] = search rules in
    let front = whole_front c.close-shelves.result.items c.reverse.new.self.items c.loop-shelf.shelves.items p.0 c.reverse.ensures.items p.1 none in
    let x = map_get history_in p.0 k es (ap (λ l. slice_get l k) (sym p.4) ∙ es_is) in
    let b = c.close-shelves.ensures.told k x.0 (ap (λ l. slice_get l k) front ∙ x.1) j q q_is a a_is in
    subst (λ l. IsSeenBy a.known.caller (seen_by a.known) (entries_of l)) x.2 (seen_so a.known.caller a.known.seen x.0.history b.0 b.1)
