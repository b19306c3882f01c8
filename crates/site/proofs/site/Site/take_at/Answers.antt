use Rattle.std.proofs.Common.{rules, arith, ◌≡◌, ◌<◌, ◌^◌, inr, refl, sym, ◌∙◌, subst, ap, length}
use Rattle.script_value.specs.Views.{meaning}
use Rattle.page_names.specs.Views.{target_of}
use Rattle.replay_spec.specs.Step as step
use Rattle.shelf.specs.Views.{taken_of}
use Rattle.std.specs.Prelude.{IfOk}
use Rattle.site.specs.Entries.{entries_of, IsGivenIn, Comes}
use Rattle.site.specs.Keeping.{IsSoundShelf, GivesOn}
use Rattle.site.specs.Sound.{IsSound, Gives}
use Rattle.site.proofs.Turns.{Turn, took, adds_one, match_ok, match_err, from_did, worn}
use Rattle.site.proofs.Seats.{own_on}
use Rattle.site.proofs.site.Site.take_at.Goals as goal

pub turn-told-requires-clause-callable : goal.turn-told-requires-clause-callable
turn-told-requires-clause-callable g c = λ a at p reached.
    let view = g.D.Disk.view in
    let tells = g.D.Disk.tells in
    let coming = g.N.Nonces.nonce in
    let by = c.caller-by.result in
    let most = reached.3 in
    let room : length p.now.history < 2 ^ 62 = omega (arith, most) in
    let sound = reached.0 in
    let by_is : a.known.caller ≡ by = (c.requires.own.seats c.args.shelf a at).caller_is ∙ sym c.caller-by.ensures in
    search rules

pub turn-told-requires-clause-keeps : goal.turn-told-requires-clause-keeps
turn-told-requires-clause-keeps g c = λ a at x told y reached did.
    let met = did.met in
    let view = g.D.Disk.view in
    let tells = g.D.Disk.tells in
    let coming = g.N.Nonces.nonce in
    let by = c.caller-by.result in
    let by_is : a.known.caller ≡ by = (c.requires.own.seats c.args.shelf a at).caller_is ∙ sym c.caller-by.ensures in
    let sound : IsSoundShelf {D = g.row.D.Denot} {N = g.row.N.Denot} view tells coming did.left.now = search rules in
    let opened : did.left.now.opened ≡ did.shown.now.opened = search rules in
    let comes-there : Comes by (step.take (target_of c.args.target.now) (meaning c.args.answer)) (taken_of told) did.shown.now.history did.left.now.history = search rules in
    let comes : Comes by (step.take (target_of c.args.target.now) (meaning c.args.answer)) (taken_of told) x.history y.history = subst (λ (z : _). Comes by (step.take (target_of c.args.target.now) (meaning c.args.answer)) (taken_of told) z.history y.history) did.shows (subst (λ (z : _). Comes by (step.take (target_of c.args.target.now) (meaning c.args.answer)) (taken_of told) did.shown.now.history z.history) did.leaves comes-there) in (
      subst (λ (z : _). IsSoundShelf {D = g.row.D.Denot} {N = g.row.N.Denot} view tells coming z) did.leaves sound,
      sym (ap (λ z. z.opened) did.leaves) ∙ (opened ∙ ap (λ z. z.opened) did.shows),
      refl,
      adds_one by a.known.caller (step.take (target_of c.args.target.now) (meaning c.args.answer)) (taken_of told) x.history y.history by_is comes,
    )

pub returns-in-Ok-clause-own : goal.returns-in-Ok-clause-own
returns-in-Ok-clause-own g c =
    let at = match_ok _ _ _ _ c.turn-told.ensures.turned c.in-Ok.is in
    own_on {D = g.row.D.Denot} {N = g.row.N.Denot} c.args.self.now c.args.pass.now _ c.args.shelf _ c.requires.own c.turn-told.ensures.own at (ap (λ u. u.opening) at.4.5) (ap (λ u. u.caller) at.4.5)

pub returns-in-Err-clause-own : goal.returns-in-Err-clause-own
returns-in-Err-clause-own g c =
    let at = match_err _ _ _ _ c.turn-told.ensures.turned c.in-Err.is in
    own_on {D = g.row.D.Denot} {N = g.row.N.Denot} c.args.self.now c.args.pass.now _ c.args.shelf _ c.requires.own c.turn-told.ensures.own at (ap (λ u. u.opening) at.4.5) (ap (λ u. u.caller) at.4.5)

pub returns-in-Ok-clause-took : goal.returns-in-Ok-clause-took
returns-in-Ok-clause-took g c =
    let view = g.D.Disk.view in
    let tells = g.D.Disk.tells in
    let coming = g.N.Nonces.nonce in
    let by = c.caller-by.result in
    let both =
    from_did _ _ _ (match_ok _ _ _ _ c.turn-told.ensures.turned c.in-Ok.is).4.3 (λ (x : _) (told : _) (y : _). ((Gives {D = g.row.D.Denot} {N = g.row.N.Denot} view tells coming x.opened (entries_of y.history) by (target_of c.args.target.now) (meaning c.args.answer) told) × (IfOk told (IsGivenIn y.history))) × (Comes by (step.take (target_of c.args.target.now) (meaning c.args.answer)) (taken_of told) x.history y.history)) (λ x told y did.
    let met = did.met in
    let there : Comes by (step.take (target_of c.args.target.now) (meaning c.args.answer)) (taken_of told) did.shown.now.history did.left.now.history = search rules in
    let gives : GivesOn {D = g.row.D.Denot} {N = g.row.N.Denot} view tells coming by c.args.target.now c.args.answer told did.shown.now did.left.now = search rules in
    subst (λ (z : _). ((Gives {D = g.row.D.Denot} {N = g.row.N.Denot} view tells coming z.opened (entries_of y.history) by (target_of c.args.target.now) (meaning c.args.answer) told) × (IfOk told (IsGivenIn y.history))) × (Comes by (step.take (target_of c.args.target.now) (meaning c.args.answer)) (taken_of told) z.history y.history)) did.shows (subst (λ (z : _). ((Gives {D = g.row.D.Denot} {N = g.row.N.Denot} view tells coming did.shown.now.opened (entries_of z.history) by (target_of c.args.target.now) (meaning c.args.answer) told) × (IfOk told (IsGivenIn z.history))) × (Comes by (step.take (target_of c.args.target.now) (meaning c.args.answer)) (taken_of told) did.shown.now.history z.history)) did.leaves ((gives.gives, gives.given), there))) in
    let told = c.in-Ok.told in
    let at = match_ok _ _ _ _ c.turn-told.ensures.turned c.in-Ok.is in
    let t = at.4 in
    let x = t.0 in
    let y = t.1 in
    let by_is : at.0.known.caller ≡ by = (c.requires.own.seats c.args.shelf at.0 at.2).caller_is ∙ sym c.caller-by.ensures in
    let turn : Turn {D = g.row.D.Denot} {N = g.row.N.Denot} view tells coming at.0.known at.1 x y = record {
      opening_is = t.2.1.0;
      begins = t.2.2.0;
      own_is = t.2.2.1;
      sound = subst (λ o. IsSound {D = g.row.D.Denot} {N = g.row.N.Denot} view tells coming o y.shelf (entries_of y.history)) t.4.1 t.4.0.is;
      seen_is = t.5;
    } in
    (at.0, at.1, at.2, at.3, took {D = g.row.D.Denot} {N = g.row.N.Denot} view tells coming at.0.known at.1 x y turn by (target_of c.args.target.now) (meaning c.args.answer) told by_is both.1 both.0.0 both.0.1)

pub returns-in-Err-clause-took : goal.returns-in-Err-clause-took
returns-in-Err-clause-took g c =
    let view = g.D.Disk.view in
    let tells = g.D.Disk.tells in
    let coming = g.N.Nonces.nonce in
    let at = match_err _ _ _ _ c.turn-told.ensures.turned c.in-Err.is in
    let t = at.4 in
    let x = t.0 in
    let turn : Turn {D = g.row.D.Denot} {N = g.row.N.Denot} view tells coming at.0.known at.1 x x = record { opening_is = t.2.0; begins = t.3.0; own_is = t.3.1; sound = t.1.is; seen_is = t.5 } in
    (at.0, at.1, at.2, at.3, (tt, inr (worn {D = g.row.D.Denot} {N = g.row.N.Denot} view tells coming at.0.known at.1 x x turn t.4 refl)))
