use Rattle.std.proofs.Common.{rules, ◌≡◌, ◌++◌, ◌∷◌, [], ◌+◌, length, length-append, refl, ap, sym, subst, ◌∙◌, arith, map}
use Rattle.std.proofs.lemmas.List.{append-nil, length-reverse}
use Rattle.std.proofs.lemmas.Option.{slice_get_within}
use Rattle.shelf_lock.proofs.Closings.{prefix_at}
use Rattle.lock_row.specs.Locks.{lock_home}
use Rattle.lock_row.specs.Spots.{home}
use Rattle.lock_row.specs.Rows.{ComesBack, IsNewPass, IsSpare, AreSpare}
use Rattle.lock_row.specs.Locking.{IsHeld, AreDealt, home_in, first_value}
use Rattle.lock_row.proofs.Places.{map_length}
use Rattle.lock_row.proofs.Lockings.{zip_same, comes_same, spare_of, turned_ways}
use Rattle.lock_row.proofs.row.LockRow.new.Goals as goal

pub returns-in_default-clause-back : goal.returns-in_default-clause-back
returns-in_default-clause-back g c = zip_same (ComesBack g.V.Kept) c.args.values.items (λ k x e. comes_same g.V.Kept x (c.requires.fresh k x e))

pub deal_all-requires-clause-held : goal.deal_all-requires-clause-held
deal_all-requires-clause-held g c k h e =
    subst (λ n. IsHeld g.V.Kept n h) (sym c.in-Some.ensures.columns.0.0) (c.in-Some-hold_all.ensures.held.0 k h e)

pub deal_all-requires-clause-columns : goal.deal_all-requires-clause-columns
deal_all-requires-clause-columns g c k x e =
    let each = c.in-Some.ensures.columns.0.1 k x e in
    let len = c.in-Some-hold_all.ensures.len in
    let most = each.1 in
    let places = c.len.ensures in (
      ap (map (λ s. home s.table s.known.opening)) each.0,
      (λ j s f. absurd (let no = slice_get_within x.spots j s f in let none = ap length each.0 in omega arith)),
      omega arith,
    )

pub invariant_of-result : goal.invariant_of-result
invariant_of-result g c =
    let h = lock_home g.V.Kept in
    let locks = c.deal_all.new.locks.items in
    let columns = c.deal_all.new.columns.items in
    let items : columns ≡ c.pop.new.self.items ++ c.unwrap.result ∷ [] = search rules in
    let len : length columns ≡ length c.pop.new.self.items + 1 = ap length items ∙ omega (arith, length-append c.pop.new.self.items (c.unwrap.result ∷ [])) in
    let all : length columns ≡ c.args.seats + 1 = c.deal_all.ensures.many ∙ c.in-Some.ensures.columns.0.0 in
    let spare = ap length c.passes_of-spare.ensures in
    let turned = length-reverse (map (λ (z : _). z.spots) c.pop.new.self.items) in
    let mapped = map_length (λ (z : _). z.spots) c.pop.new.self.items in
    let many : length c.passes_of-spare.result.items ≡ length c.pop.new.self.items = omega arith in
    let dealt = subst (λ l. AreDealt l 0 columns) (sym c.deal_all.ensures.homes) c.deal_all.ensures.columns in
    let at = prefix_at c.pop.new.self.items columns c.unwrap.result ([], append-nil _ ∙ sym items) in
    let own = dealt (length c.pop.new.self.items) c.unwrap.result at in
    let few = c.requires.few in
    let gone = c.in-Some-hold_all.ensures.gone in (
      (gone.0, gone.1, search (rules, arith)),
      (
        (λ k l e. c.deal_all.ensures.seats k l e ∙ (let same = c.in-Some.ensures.columns.0.0 in omega arith)),
        omega arith,
        subst (λ l. AreSpare (map h locks) 0 l) (sym c.passes_of-spare.ensures) (spare_of (map h locks) c.pop.new.self.items columns (c.unwrap.result ∷ [], sym items) dealt),
        (let number : length c.pop.new.self.items ≡ 0 + length c.passes_of-spare.result.items = omega arith in
            subst (λ p. IsSpare (map h locks) (0 + length c.passes_of-spare.result.items) p) (sym c.pass-own.ensures) (own.0, subst (λ n. IsNewPass n c.unwrap.result.spots) number own.1)),
      ),
    )

pub returns-in-None-clause-room : goal.returns-in-None-clause-room
returns-in-None-clause-room g c = c.in-None.ensures.back.1

pub returns-in-None-clause-back : goal.returns-in-None-clause-back
returns-in-None-clause-back g c = c.in-None.ensures.back.0

pub returns-in-Some-hold_all-clause-homes : goal.returns-in-Some-hold_all-clause-homes
returns-in-Some-hold_all-clause-homes g c =
    ap (map (λ h. h.opening)) c.deal_all.ensures.homes
    ∙ (turned_ways (home_in g.V.Kept) (λ h. h.opening) first_value (λ x. g.V.Kept.opening x ∷ []) c.in-Some-hold_all.held.items (λ x. refl)
    ∙ ap (map (λ x. g.V.Kept.opening x ∷ [])) c.in-Some-hold_all.ensures.held.1)
