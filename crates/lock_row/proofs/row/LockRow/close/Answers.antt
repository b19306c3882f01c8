use Rattle.std.proofs.Common.{rules, ◌≡◌, ◌<◌, suc, ℕ, Some, slice_get, length, ap, sym, subst, ◌∙◌, arith, map, refl}
use Rattle.std.specs.List.{AllZip}
use Rattle.std.proofs.lemmas.Option.{slice_get_within}
use Rattle.shelf_lock.specs.Order.{Begins, MadeBelow}
use Rattle.lock_row.specs.Locks.{seat_spot, lock_homes, lock_home}
use Rattle.lock_row.specs.Spots.{Spot, spot, IsAt}
use Rattle.lock_row.specs.Rows.{IsBack}
use Rattle.lock_row.proofs.Ends.{zip_get, zip_back, zip_along, none_above, tells_both}
use Rattle.lock_row.proofs.Places.{get_map, map_map, map_length, homes, tables_of}
use Rattle.lock_row.proofs.row.LockRow.close.Goals as goal

pub take_in-requires-clause-own : goal.take_in-requires-clause-own
take_in-requires-clause-own g c =
    let locks : c.deref.result.now ≡ c.self.inside.locks.items = search rules in
    subst (λ l. IsAt (lock_homes g.V.Kept l) c.self.inside.own) (sym locks) c.self.invariant.1.3.0

pub take_in-requires-clause-others : goal.take_in-requires-clause-others
take_in-requires-clause-others g c j p e =
    let locks : c.deref.result.now ≡ c.self.inside.locks.items = search rules in
    subst (λ l. IsAt (lock_homes g.V.Kept l) p) (sym locks)
    (c.requires.own j p e ∙ sym (ap (λ r. r.homes) c.self.view_is))

pub take_in-requires-2-clause-own : goal.take_in-requires-2-clause-own
take_in-requires-2-clause-own g c =
    let locks : c.deref.result.now ≡ c.self.inside.locks.items = search rules in
    let again : c.deref-2.result.now ≡ c.self.inside.locks.items = search rules in
    subst (λ l. IsAt (lock_homes g.V.Kept l) c.take_in.new.pass) (locks ∙ sym again) c.take_in.ensures.own

pub take_in-requires-2-clause-others : goal.take_in-requires-2-clause-others
take_in-requires-2-clause-others g c j p e =
    let again : c.deref-2.result.now ≡ c.self.inside.locks.items = search rules in
    subst (λ l. IsAt (lock_homes g.V.Kept l) p) (sym again) (c.self.invariant.1.2 j p e).0

pub shut-requires-clause-own : goal.shut-requires-clause-own
shut-requires-clause-own g c =
    let again : c.deref-2.result.now ≡ c.self.inside.locks.items = search rules in
    let h = lock_home g.V.Kept in
    let own = c.take_in-2.ensures.own ∙ ap (map h) again in
    sym (map_map seat_spot (λ (s : Spot _ _). s.table) c.own.inside.seats.items)
    ∙ (ap (map (λ (s : Spot _ _). s.table)) c.own.view_is
    ∙ (tables_of c.take_in-2.new.pass (map h c.self.inside.locks.items) own
    ∙ map_map h (λ h. h.table) c.self.inside.locks.items))

-- what is told of the last pass at a place
reached : (g : _) (c : goal.After-reverse g) (k : ℕ) (x : g.row.V.Denot) → slice_get c.reverse.new.self.items k ≡ Some x → (a : Spot _ _) × (slice_get c.take_in-2.new.pass k ≡ Some a) × Begins g.V.Kept (g.V.Kept.history x) a.known
reached g c k x e =
    let all = subst (AllZip (λ q y. Begins g.V.Kept (g.V.Kept.history y) q.seat.me.0) c.own.inside.seats.items) (sym c.reverse.ensures.items) c.shut.ensures.told in
    let z = zip_get _ _ _ k x all e in
    (spot z.0.seat.table_id z.0.seat.me.0, ap (λ l. slice_get l k) (sym c.own.view_is) ∙ get_map seat_spot c.own.inside.seats.items k z.0 z.1, z.2)

same_homes : (g : _) (c : goal.After-reverse g) → homes c.take_in.new.pass ≡ homes c.take_in-2.new.pass
same_homes g c =
    let h = lock_home g.V.Kept in
    let locks : c.deref.result.now ≡ c.self.inside.locks.items = search rules in
    let again : c.deref-2.result.now ≡ c.self.inside.locks.items = search rules in
    c.take_in.ensures.own ∙ (ap (map h) (locks ∙ sym again) ∙ sym c.take_in-2.ensures.own)

pub returns-clause-back : goal.returns-clause-back
returns-clause-back g c =
    let i = c.self.invariant in
    let h = lock_home g.V.Kept in
    let turned = sym c.reverse.ensures.items in
    let closed = subst (AllZip _ c.self.inside.locks.items) turned c.shut.ensures.closed in
    let all = zip_back g.V.Kept (λ l. l.board.shared.table_id) (λ l. l.board.shared.key) c.self.inside.dealt c.self.inside.locks.items c.reverse.new.self.items
    (λ k l x l_is x_is below.
    let a = reached g c k x x_is in
    let told = tells_both g.V.Kept c.self.inside.own c.take_in.new.pass c.take_in-2.new.pass c.args.passes.items c.self.inside.spare.items k a.0 (g.V.Kept.history x) (same_homes g c) c.take_in.ensures.told c.take_in-2.ensures.told a.1 a.2 in
    let few : k < length (map h c.self.inside.locks.items) = (let within = slice_get_within c.self.inside.locks.items k l l_is in let n = map_length h c.self.inside.locks.items in omega arith) in
    none_above g.V.Kept (g.V.Kept.history x) (map h c.self.inside.locks.items) c.self.inside.dealt k c.self.inside.spare.items c.self.inside.own few i.1.2 i.1.3
    (λ b b_is. told.0 0 c.self.inside.own refl b b_is) told.1 (subst (λ n. MadeBelow g.V.Kept n (g.V.Kept.history x)) (i.1.0 k l l_is) below)) closed in
    let seats = ap (λ r. r.seats) c.self.view_is in
    zip_along (λ z x. IsBack g.V.Kept z.opening c.args.self.seats x) _ _ _ _ (ap (λ r. r.homes) c.self.view_is) refl
    (subst (λ n. AllZip (λ z x. IsBack g.V.Kept z.opening n x) (map h c.self.inside.locks.items) c.reverse.new.self.items) seats all)

pub returns-clause-told : goal.returns-clause-told
returns-clause-told g c k x e j p p_is b b_is =
    let a = reached g c k x e in
    let told = tells_both g.V.Kept c.self.inside.own c.take_in.new.pass c.take_in-2.new.pass c.args.passes.items c.self.inside.spare.items k a.0 (g.V.Kept.history x) (same_homes g c) c.take_in.ensures.told c.take_in-2.ensures.told a.1 a.2 in
    told.0 (suc j) p p_is b b_is
