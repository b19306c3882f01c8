use Rattle.std.proofs.Common.{◌≡◌, ◌∷◌, ◌++◌, [], List, inl, inr, refl, sym, subst, ap, ◌∙◌}
use Rattle.disk_trio.specs.Trio.{trio_view}
use Rattle.disk_trio.specs.declared.trio.Disks.{Disks}
use Rattle.replay_spec.specs.Step as step
use Rattle.lock_row.proofs.Places.{map_snoc}
use Rattle.shelf.specs.Views.{compacted_of}
use Rattle.history_spec.specs.Histories.{Entry}
use Rattle.site.specs.declared.entry.Did.TheVariants.{Compact}
use Rattle.site.specs.declared.entry.KeptEntry.{KeptEntry}
use Rattle.site.specs.Entries.{entry, entry_of, entries_of, IsGivenIn}
use Rattle.site.specs.Sound.{IsSound}
use Rattle.site.proofs.Calls.{compact_sound}
use Rattle.site.proofs.Holding.{given_last}
use Rattle.site.proofs.kept.KeptShelf+Disks+F+N.compact.Goals as goal

pub returns-clause-sound : goal.returns-clause-sound
returns-clause-sound g c =
    let tells = g.F.Disk.tells in
    let coming = g.N.Nonces.nonce in
    let o = c.args.self.now.opened in
    let t = c.compact-told.new.self in
    let es = entries_of c.args.self.now.history in
    let told = c.compact-told.ensures in
    let grown : entries_of c.push.new.self ≡ es ++ entry c.args.by step.compact (compacted_of c.compact-told.result) ∷ [] =
    ap entries_of c.push.ensures.behind ∙ (map_snoc entry_of c.args.self.now.history _ ∙ (λ i. es ++ entry c.args.by step.compact (compacted_of (c.of.ensures i)) ∷ [])) in
    let is = subst (λ (l : List Entry). IsSound {D = Disks g.row.F.Denot g.F.Disk} {N = g.row.N.Denot} trio_view tells coming o t l) (sym grown)
    (compact_sound {D = Disks g.row.F.Denot g.F.Disk} {N = g.row.N.Denot} trio_view tells coming o c.args.self.now.shelf t es c.requires.sound.is c.args.by c.compact-told.result c.images_make_books.ensures
    told.event told.in_order told.own told.any_moment told.own_moments told.cause told.later told.rules told.library told.quiet) in
    record {
      is = is;
      tickets = λ u given. elim (given_last c.args.self.now.history _ u (subst (λ (l : List KeptEntry). IsGivenIn l u) c.push.ensures.behind given)) [
        | inl old ↦ told.tickets u (c.requires.sound.tickets u old)
        | inr gave ↦ absurd gave
      ];
    }

pub returns-clause-entry : goal.returns-clause-entry
returns-clause-entry g c = record {
  entry_made = record { caller = c.args.by; did = Compact c.of.result };
  caller_is = refl;
  entry_is = λ i. entry c.args.by step.compact (compacted_of (c.of.ensures i));
  is = c.push.ensures.behind;
}
