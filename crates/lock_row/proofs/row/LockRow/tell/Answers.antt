use Rattle.std.proofs.Common.{rules, ◌≡◌, ℕ, Some, slice_get, ap, sym, subst, ◌∙◌, arith, length, map}
use Rattle.shelf_lock.proofs.Prefixes.{snoc_each}
use Rattle.lock_row.specs.Locks.{note_spot}
use Rattle.lock_row.specs.Rows.{IsNoteAt}
use Rattle.lock_row.specs.Spots.{Spot, home_of}
use Rattle.lock_row.proofs.Places.{map_get, map_length, tables_each, tables_of}
use Rattle.lock_row.proofs.row.LockRow.tell.Goals as goal

pub loop-place-preserved : goal.loop-place-preserved
loop-place-preserved g c =
    let i = c.loop-place.invariant in
    let n = c.note_at.ensures.note in
    let pushed = c.push_reserved.ensures.items in
    let here : IsNoteAt (length c.loop-place.notes.items) c.args.pass.now (note_spot c.note_at.result) =
    (n.0, ap (λ k. slice_get c.args.pass.now k) i.3 ∙ (ap (λ p. slice_get p c.loop-place.place) (sym i.0) ∙ n.1), n.2) in (
      c.note_at.ensures.same ∙ i.0,
      subst (λ l. (k : ℕ) (m : _) → slice_get l k ≡ Some m → IsNoteAt k c.args.pass.now (note_spot m)) (sym pushed)
          (snoc_each (λ k m. IsNoteAt k c.args.pass.now (note_spot m)) c.loop-place.notes.items c.note_at.result i.1 here),
      search (rules, arith),
      search (rules, arith),
      search (rules, arith),
    )

-- each note is of what the pass has seen
each_note : (g : _) (c : goal.After-loop-place g) (k : ℕ) (m : Spot _ _) → slice_get (map note_spot c.loop-place.notes.items) k ≡ Some m → IsNoteAt k c.args.pass.now m
each_note g c k m e =
    let x = map_get note_spot c.loop-place.notes.items k m e in
    let r = c.loop-place.invariant.1 k x.0 x.1 in
    (r.0, r.1, (ap (λ s. s.table) (sym x.2) ∙ r.2.0, ap (λ s. s.known.seen) (sym x.2) ∙ r.2.1))

pub returns-clause-own : goal.returns-clause-own
returns-clause-own g c =
    let l1 = map_length note_spot c.loop-place.notes.items in
    let l2 = map_length (λ (s : Spot _ _). home_of s) c.args.pass.now in
    let l3 = ap length c.requires.own in
    let l4 = c.loop-place.invariant.3 in
    let l5 = c.len-places.ensures in
    let l6 = c.loop-place-test.false in
    let l7 = c.loop-place.auto.place-end in
    let len : length (map note_spot c.loop-place.notes.items) ≡ length c.args.pass.now = omega arith in
    tables_each c.args.pass.now (map note_spot c.loop-place.notes.items) len (λ k n e. let r = each_note g c k n e in (r.0, r.1, r.2.0)) ∙ tables_of c.args.pass.now c.args.self.now.homes c.requires.own

pub returns-clause-note : goal.returns-clause-note
returns-clause-note g c = each_note g c
