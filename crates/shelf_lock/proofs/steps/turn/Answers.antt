use Rattle.std.proofs.Common.{◌∷◌, ap, sym, subst, ◌∙◌, ◌+◌, ◌<◌, ◌≤◌, length, refl, arith}
use Rattle.std.specs.Fn.{FnOnceReturnsAtMut}
use denote.MutBor.{at_last}
use Rattle.atomic_table.specs.Table.{rest}
use Rattle.shelf_lock.specs.Order.{IsWithin, posed, entry_limit}
use Rattle.shelf_lock.specs.Turns.{KeepsAll}
use Rattle.shelf_lock.specs.declared.view.Role.TheVariants.{Outside}
use Rattle.shelf_lock.proofs.Moves.{carried_or}
use Rattle.shelf_lock.proofs.Prefixes.{adds_within}
use Rattle.shelf_lock.proofs.steps.turn.Goals as goal

pub next_number-requires : goal.next_number-requires
next_number-requires g c =
    let x = c.enter.ensures.has.0 in
    let h = c.enter.ensures.has.1 in
    let is = ap (carried_or x) (sym c.slot_mut-value.ensures.value ∙ ap (λ m. m.1) h.0) in
    subst (IsWithin g.V.Kept) (sym is) h.4

pub leave-requires-2-clause-kept : goal.leave-requires-2-clause-kept
leave-requires-2-clause-kept g c =
    let x = c.enter.ensures.has.0 in
    let h = c.enter.ensures.has.1 in
    let carried = ap (λ m. m.1) h.0 in
    let is = ap (carried_or x) (sym c.slot_mut-value.ensures.value ∙ carried) in
    let within = subst (IsWithin g.V.Kept) (sym is) h.4 in
    let room = subst (λ y. g.V.Kept.first y + length (g.V.Kept.history y) < entry_limit) is (omega (arith, within, c.next_number.ensures, c.if-next_number-eq-ENTRY_LIMIT.false)) in
    let kept = c.requires.keeps x _ _ (h.1, h.2, h.3, room) record { shown = c.slot_mut-value.result; shows = is; left = at_last c.slot_mut-value.result c.f-answer.new.arg2; met = c.f-answer.ensures; leaves = refl } in (
      x,
      c.f-answer.new.arg2,
      ap (λ l. (0, c.f-answer.new.arg2) ∷ rest l) carried,
      ap (λ m. m.0.role) h.0,
      ap (λ m. m.0.seen) h.0,
      (ap (λ m. m.0.opening) h.0 ∙ h.2.0, ap (λ m. m.0.first) h.0 ∙ h.2.1),
      subst (λ who. KeepsAll g.V.Kept who x c.f-answer.new.arg2) (sym (ap (λ m. m.0.caller) h.0)) kept,
      subst (λ n. n + length (g.V.Kept.history c.f-answer.new.arg2) ≤ entry_limit) (sym kept.2) (adds_within g.V.Kept.caller _ _ _ _ kept.3 room),
    )

pub returns-clause-turned : goal.returns-clause-turned
returns-clause-turned g c =
    let x = c.enter.ensures.has.0 in
    let h = c.enter.ensures.has.1 in
    let carried = ap (λ m. m.1) h.0 in
    let is = ap (carried_or x) (sym c.slot_mut-value.ensures.value ∙ carried) in
    let within = subst (IsWithin g.V.Kept) (sym is) h.4 in
    let room = subst (λ y. g.V.Kept.first y + length (g.V.Kept.history y) < entry_limit) is (omega (arith, within, c.next_number.ensures, c.if-next_number-eq-ENTRY_LIMIT.false)) in
    let did : FnOnceReturnsAtMut g.F.FnOnce c.args.f x c.f-answer.result c.f-answer.new.arg2 = record { shown = c.slot_mut-value.result; shows = is; left = at_last c.slot_mut-value.result c.f-answer.new.arg2; met = c.f-answer.ensures; leaves = refl } in
    let after = c.leave-2.ensures.left c.f-answer.new.arg2 (ap (λ l. (0, c.f-answer.new.arg2) ∷ rest l) carried) in (
      x,
      c.f-answer.new.arg2,
      (h.1, h.2, h.3, room),
      did,
      c.requires.keeps x _ _ (h.1, h.2, h.3, room) did,
      ap (λ m. m.0) after ∙ ap (λ m. posed Outside (g.V.Kept.history c.f-answer.new.arg2) m.0) h.0,
    )
