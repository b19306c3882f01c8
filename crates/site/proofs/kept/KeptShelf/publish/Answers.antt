use Rattle.std.proofs.Common.{◌≡◌, inl, inr, ◌∷◌, ◌++◌, [], List, refl, sym, subst, ap, ◌∙◌}
use Rattle.page_names.specs.Views.{target_of}
use Rattle.script_nodes.specs.Views.{library_of}
use Rattle.replay_spec.specs.Step as step
use Rattle.shelf.specs.Visits.{ticket_of, reply_of, IsRunnable, HasItsScript}
use Rattle.lock_row.proofs.Places.{map_snoc}
use Rattle.shelf.specs.Views.{IsRunIfAny}
use Rattle.history_spec.specs.Histories.{Entry}
use Rattle.site.specs.declared.entry.Did.TheVariants.{Publish}
use Rattle.site.specs.declared.entry.KeptEntry.{KeptEntry}
use Rattle.site.specs.Entries.{entry, entry_of, entries_of, IsGivenIn}
use Rattle.site.specs.Sound.{IsSound}
use Rattle.site.proofs.Outs.{owed_out}
use Rattle.site.proofs.Calls.{publish_sound}
use Rattle.site.proofs.Holding.{given_last}
use Rattle.site.proofs.kept.KeptShelf.publish.Goals as goal

pub publish-told-requires-clause-out : goal.publish-told-requires-clause-out
publish-told-requires-clause-out g c =
    owed_out _ (entries_of c.args.self.now.history) c.args.by (ticket_of c.args.ticket) c.requires.sound.is.out c.requires.held.holds.owes

pub publish-told-requires-clause-runs : goal.publish-told-requires-clause-runs
publish-told-requires-clause-runs g c = subst (λ (l : _). IsRunnable (library_of l).all c.args.ticket) (sym c.requires.sound.is.library) c.requires.held.holds.runs

pub publish-told-requires-clause-script : goal.publish-told-requires-clause-script
publish-told-requires-clause-script g c =
    subst (λ (l : _). HasItsScript (library_of l) c.args.ticket (target_of c.args.ticket.target)) (sym c.requires.sound.is.library) c.requires.held.holds.script

pub publish-told-requires-clause-segment : goal.publish-told-requires-clause-segment
publish-told-requires-clause-segment g c =
    subst (λ (l : _). IsRunIfAny (library_of l).all c.args.self.now.shelf.rules.fuel c.args.ticket c.args.segment) (sym c.requires.sound.is.library)
    (subst (λ (r : _). IsRunIfAny (library_of c.args.self.now.opened.shelf.value.library).all r.fuel c.args.ticket c.args.segment) (sym c.requires.sound.is.rules) c.requires.segment)

pub publish-told-requires-clause-goes : goal.publish-told-requires-clause-goes
publish-told-requires-clause-goes g c = c.requires.sound.tickets c.args.ticket c.requires.held.given

pub returns-clause-sound : goal.returns-clause-sound
returns-clause-sound g c =
    let view = g.D.Disk.view in
    let tells = g.D.Disk.tells in
    let coming = g.N.Nonces.nonce in
    let o = c.args.self.now.opened in
    let t = c.publish-told.new.self in
    let es = entries_of c.args.self.now.history in
    let told = c.publish-told.ensures in
    let grown : entries_of c.push.new.self ≡ es ++ entry c.args.by (step.publish (ticket_of c.args.ticket)) (reply_of c.publish-told.result) ∷ [] =
    ap entries_of c.push.ensures.behind ∙ (map_snoc entry_of c.args.self.now.history _ ∙ (λ i. es ++ entry c.args.by (step.publish (ticket_of (c.of-owed.ensures i))) (reply_of (c.of.ensures i)) ∷ [])) in
    let is = subst (λ (l : List Entry). IsSound {D = g.row.D.Denot} {N = g.row.N.Denot} view tells coming o t l) (sym grown)
    (publish_sound {D = g.row.D.Denot} {N = g.row.N.Denot} view tells coming o c.args.self.now.shelf t es c.requires.sound.is c.args.by c.args.ticket c.publish-told.result c.requires.held.holds
    c.tickets_go_on_to_fit.ensures c.images_make_books.ensures told.event told.in_order told.own told.spent told.any_moment told.own_moments told.cause told.later told.nonces told.rules told.library) in
    record {
      is = is;
      tickets = λ u given. elim (given_last c.args.self.now.history _ u (subst (λ (l : List KeptEntry). IsGivenIn l u) c.push.ensures.behind given)) [
        | inl old ↦ told.tickets u (c.requires.sound.tickets u old)
        | inr gave ↦ absurd gave
      ];
    }

pub returns-clause-entry : goal.returns-clause-entry
returns-clause-entry g c = record {
  entry_made = record { caller = c.args.by; did = Publish c.of-owed.result c.of.result };
  caller_is = refl;
  entry_is = λ i. entry c.args.by (step.publish (ticket_of (c.of-owed.ensures i))) (reply_of (c.of.ensures i));
  is = c.push.ensures.behind;
}
