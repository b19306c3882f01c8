use Rattle.std.proofs.Common.{◌∷◌, [], ap, sym, ◌∙◌, subst}
use Rattle.lock_row.specs.Locks.{seat_spot}
use Rattle.lock_row.specs.Spots.{home}
use Rattle.lock_row.specs.Rows.{IsFresh, IsNewFor}
use Rattle.lock_row.proofs.Places.{map_get, map_length}
use Rattle.lock_row.proofs.locking.Held.new.Goals as goal

pub returns-clause-held : goal.returns-clause-held
returns-clause-held g c =
    let e = c.in_ok-lock.ensures in
    let value = e.lock.0 in
    let seats = c.in_ok-lock.seats.items in (
      record {
        fresh = subst (IsFresh g.V.Kept) (sym value) c.requires;
        callers = e.lock.1;
        many = map_length seat_spot seats ∙ e.passes.0;
        each = λ k s s_is.
            let q = map_get seat_spot seats k s s_is in
            let p = e.passes.1 k q.0 q.1 in (
              ap (λ z. home z.table z.known.opening) (sym q.2) ∙ (λ i. home (p.1.0 i) ((p.1.1 ∙ ap (λ v. g.V.Kept.opening v ∷ []) (sym value)) i)),
              subst (λ (z : _). IsNewFor k z) q.2 (q.0.numbered ∙ p.0, p.1.3, p.1.4),
            );
      },
      value,
    )
