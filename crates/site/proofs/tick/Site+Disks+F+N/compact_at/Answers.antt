use Rattle.std.proofs.Common.{rules, arith, ◌≡◌, ◌<◌, ◌^◌, refl, sym, ◌∙◌, subst, ap, length}
use Rattle.disk_trio.specs.Trio.{trio_view}
use Rattle.disk_trio.specs.declared.trio.Disks.{Disks}
use Rattle.site.specs.Entries.{entries_of, Compacts}
use Rattle.shelf.specs.Views.{book_in}
use Rattle.site.specs.Keeping.{IsSoundShelf}
use Rattle.site.specs.Passes.{Compacted}
use Rattle.site.specs.Sound.{IsSound}
use Rattle.site.proofs.Turns.{Turn, compacted, adds_compacted, match_ok, match_err, from_did, worn}
use Rattle.site.proofs.Seats.{own_on}
use Rattle.site.proofs.tick.Site+Disks+F+N.compact_at.Goals as goal

pub turn-told-requires-clause-callable : goal.turn-told-requires-clause-callable
turn-told-requires-clause-callable g c = λ a at p reached.
    let tells = g.F.Disk.tells in
    let coming = g.N.Nonces.nonce in
    let by = c.caller-by.result in
    let most = reached.3 in
    let room : length p.now.history < 2 ^ 62 = omega (arith, most) in
    let sound = reached.0 in
    let by_is : a.known.caller ≡ by = (c.requires.own.seats c.args.shelf a at).caller_is ∙ sym c.caller-by.ensures in
    search rules

pub turn-told-requires-clause-keeps : goal.turn-told-requires-clause-keeps
turn-told-requires-clause-keeps g c = λ a at x told y reached did.
    let met = did.met in
    let tells = g.F.Disk.tells in
    let coming = g.N.Nonces.nonce in
    let by = c.caller-by.result in
    let by_is : a.known.caller ≡ by = (c.requires.own.seats c.args.shelf a at).caller_is ∙ sym c.caller-by.ensures in
    let sound : IsSoundShelf {D = Disks g.row.F.Denot g.F.Disk} {N = g.row.N.Denot} trio_view tells coming did.left.now = search rules in
    let opened : did.left.now.opened ≡ did.shown.now.opened = search rules in
    let there : Compacts by (book_in {D = Disks g.row.F.Denot g.F.Disk} {N = g.row.N.Denot} trio_view did.shown.now.shelf).length did.shown.now.history did.left.now.history = search rules in
    let compacts : Compacts by (book_in {D = Disks g.row.F.Denot g.F.Disk} {N = g.row.N.Denot} trio_view x.shelf).length x.history y.history = subst (λ (z : _). Compacts by (book_in {D = Disks g.row.F.Denot g.F.Disk} {N = g.row.N.Denot} trio_view z.shelf).length z.history y.history) did.shows (subst (λ (z : _). Compacts by (book_in {D = Disks g.row.F.Denot g.F.Disk} {N = g.row.N.Denot} trio_view did.shown.now.shelf).length did.shown.now.history z.history) did.leaves there) in (
      subst (λ (z : _). IsSoundShelf {D = Disks g.row.F.Denot g.F.Disk} {N = g.row.N.Denot} trio_view tells coming z) did.leaves sound,
      sym (ap (λ z. z.opened) did.leaves) ∙ (opened ∙ ap (λ z. z.opened) did.shows),
      refl,
      adds_compacted by a.known.caller (book_in {D = Disks g.row.F.Denot g.F.Disk} {N = g.row.N.Denot} trio_view x.shelf).length x.history y.history by_is compacts,
    )

pub returns-in-Ok-clause-own : goal.returns-in-Ok-clause-own
returns-in-Ok-clause-own g c =
    let at = match_ok _ _ _ _ c.turn-told.ensures.turned c.in-Ok.is in
    own_on {D = Disks g.row.F.Denot g.F.Disk} {N = g.row.N.Denot} c.args.self.now c.args.pass.now _ c.args.shelf _ c.requires.own c.turn-told.ensures.own at (ap (λ u. u.opening) at.4.5) (ap (λ u. u.caller) at.4.5)

pub returns-in-Err-clause-own : goal.returns-in-Err-clause-own
returns-in-Err-clause-own g c =
    let at = match_err _ _ _ _ c.turn-told.ensures.turned c.in-Err.is in
    own_on {D = Disks g.row.F.Denot g.F.Disk} {N = g.row.N.Denot} c.args.self.now c.args.pass.now _ c.args.shelf _ c.requires.own c.turn-told.ensures.own at (ap (λ u. u.opening) at.4.5) (ap (λ u. u.caller) at.4.5)

pub returns-in-Ok-clause-compacted : goal.returns-in-Ok-clause-compacted
returns-in-Ok-clause-compacted g c =
    let tells = g.F.Disk.tells in
    let coming = g.N.Nonces.nonce in
    let by = c.caller-by.result in
    let at = match_ok _ _ _ _ c.turn-told.ensures.turned c.in-Ok.is in
    let compacts =
    from_did _ _ _ at.4.3 (λ (x : _) (told : _) (y : _). Compacts by (book_in {D = Disks g.row.F.Denot g.F.Disk} {N = g.row.N.Denot} trio_view x.shelf).length x.history y.history) (λ x told y did.
    let met = did.met in
    let there : Compacts by (book_in {D = Disks g.row.F.Denot g.F.Disk} {N = g.row.N.Denot} trio_view did.shown.now.shelf).length did.shown.now.history did.left.now.history = search rules in
    subst (λ (z : _). Compacts by (book_in {D = Disks g.row.F.Denot g.F.Disk} {N = g.row.N.Denot} trio_view z.shelf).length z.history y.history) did.shows (subst (λ (z : _). Compacts by (book_in {D = Disks g.row.F.Denot g.F.Disk} {N = g.row.N.Denot} trio_view did.shown.now.shelf).length did.shown.now.history z.history) did.leaves there)) in
    let t = at.4 in
    let x = t.0 in
    let y = t.1 in
    let by_is : at.0.known.caller ≡ by = (c.requires.own.seats c.args.shelf at.0 at.2).caller_is ∙ sym c.caller-by.ensures in
    let turn : Turn {D = Disks g.row.F.Denot g.F.Disk} {N = g.row.N.Denot} trio_view tells coming at.0.known at.1 x y = record {
      opening_is = t.2.1.0;
      begins = t.2.2.0;
      own_is = t.2.2.1;
      sound = subst (λ o. IsSound {D = Disks g.row.F.Denot g.F.Disk} {N = g.row.N.Denot} trio_view tells coming o y.shelf (entries_of y.history)) t.4.1 t.4.0.is;
      seen_is = t.5;
    } in
    (at.0, at.1, at.2, at.3, compacted {D = Disks g.row.F.Denot g.F.Disk} {N = g.row.N.Denot} trio_view tells coming at.0.known at.1 x y turn by by_is t.2.0.is compacts)

pub returns-in-Err-clause-compacted : goal.returns-in-Err-clause-compacted
returns-in-Err-clause-compacted g c =
    let tells = g.F.Disk.tells in
    let coming = g.N.Nonces.nonce in
    let at = match_err _ _ _ _ c.turn-told.ensures.turned c.in-Err.is in
    let t = at.4 in
    let x = t.0 in
    let turn : Turn {D = Disks g.row.F.Denot g.F.Disk} {N = g.row.N.Denot} trio_view tells coming at.0.known at.1 x x = record { opening_is = t.2.0; begins = t.3.0; own_is = t.3.1; sound = t.1.is; seen_is = t.5 } in
    let full = worn {D = Disks g.row.F.Denot g.F.Disk} {N = g.row.N.Denot} trio_view tells coming at.0.known at.1 x x turn t.4 refl in
    (at.0, at.1, at.2, at.3, Compacted.worn full.2 full.1)
