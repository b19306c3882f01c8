use Rattle.std.proofs.Common.{◌≡◌, ◌<◌, ◌∷◌, ◌++◌, [], List, rules, arith, inl, inr, refl, sym, subst, ap, ◌∙◌}
use Rattle.replay_spec.specs.Step as step
use Rattle.lock_row.proofs.Places.{map_snoc}
use Rattle.shelf.specs.Views.{book_in, swept_of}
use Rattle.history_spec.specs.Histories.{Entry}
use Rattle.site.specs.declared.entry.Did.TheVariants.{Sweep}
use Rattle.site.specs.declared.entry.KeptEntry.{KeptEntry}
use Rattle.site.specs.Entries.{entry, entry_of, entries_of, IsGivenIn}
use Rattle.site.specs.Sound.{IsSound}
use Rattle.site.proofs.Calls.{sweep_sound}
use Rattle.site.proofs.Holding.{given_last}
use Rattle.site.proofs.kept.KeptShelf.sweep.Goals as goal

pub returns-clause-sound : goal.returns-clause-sound
returns-clause-sound g c =
    let view = g.D.Disk.view in
    let tells = g.D.Disk.tells in
    let coming = g.N.Nonces.nonce in
    let o = c.args.self.now.opened in
    let t = c.sweep-told.new.self in
    let es = entries_of c.args.self.now.history in
    let told = c.sweep-told.ensures in
    let last : _ = c.if-tick-clock.false in
    let early : (book_in {D = g.row.D.Denot} {N = g.row.N.Denot} view c.args.self.now.shelf).clock < c.args.tick = (let b = last in search (rules, arith)) in
    let grown : entries_of c.push.new.self ≡ es ++ entry c.args.by (step.sweep c.args.tick) (swept_of c.sweep-told.result) ∷ [] =
    ap entries_of c.push.ensures.behind ∙ (map_snoc entry_of c.args.self.now.history _ ∙ (λ i. es ++ entry c.args.by (step.sweep c.args.tick) (swept_of (c.of.ensures i)) ∷ [])) in
    let is = subst (λ (l : List Entry). IsSound {D = g.row.D.Denot} {N = g.row.N.Denot} view tells coming o t l) (sym grown)
    (sweep_sound {D = g.row.D.Denot} {N = g.row.N.Denot} view tells coming o c.args.self.now.shelf t es c.requires.sound.is c.args.by c.args.tick c.sweep-told.result c.images_make_books.ensures
    told.event told.in_order told.own told.any_moment told.own_moments told.cause told.later told.rules told.library early told.quiet) in
    record {
      is = is;
      tickets = λ u given. elim (given_last c.args.self.now.history _ u (subst (λ (l : List KeptEntry). IsGivenIn l u) c.push.ensures.behind given)) [
        | inl old ↦ told.tickets u (c.requires.sound.tickets u old)
        | inr gave ↦ absurd gave
      ];
    }

pub returns-clause-swept : goal.returns-clause-swept
returns-clause-swept g c =
    let last : _ = c.if-tick-clock.false in
    inr (
      (let b = last in search (rules, arith)),
      record {
        entry_made = record { caller = c.args.by; did = Sweep c.args.tick c.of.result };
        caller_is = refl;
        entry_is = λ i. entry c.args.by (step.sweep c.args.tick) (swept_of (c.of.ensures i));
        is = c.push.ensures.behind;
      },
    )
