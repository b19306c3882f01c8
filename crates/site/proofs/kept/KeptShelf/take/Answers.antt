use Rattle.std.proofs.Common.{◌≡◌, inl, inr, ◌∷◌, ◌++◌, [], List, refl, sym, subst, ap, ◌∙◌}
use Rattle.std.specs.Prelude.{IfOk, Result, Ok, Err}
use Rattle.script_value.specs.Views.{meaning}
use Rattle.script_nodes.specs.Views.{library_of}
use Rattle.page_names.specs.Views.{target_of}
use Rattle.replay_spec.specs.Admission.{admit}
use Rattle.replay_spec.specs.Step as step
use Rattle.shelf.specs.Visits.{Ticket, FitsAs, IsRunnable, HasItsScript}
use Rattle.shelf.specs.InstanceBook.Makes.{HasItsStates}
use Rattle.lock_row.proofs.Places.{map_snoc}
use Rattle.shelf.specs.Views.{book_in, rules_of, taken_of}
use Rattle.history_spec.specs.Histories.{Entry}
use Rattle.shelf.specs.Tickets.{GoesOnFromItsPage}
use Rattle.site.specs.declared.entry.KeptEntry.{KeptEntry}
use Rattle.site.specs.declared.entry.Did.TheVariants.{Take}
use Rattle.site.specs.Entries.{entry, entry_of, entries_of, Gave, IsGivenIn}
use Rattle.site.specs.Sound.{IsSound, Holds, Gives}
use Rattle.site.proofs.Replies.{take_refused}
use Rattle.site.proofs.Sounds.{stepped}
use Rattle.site.proofs.Calls.{take_history, take_sound}
use Rattle.site.proofs.Holding.{holds_told, told_ticket, given_last, given_now}
use Rattle.site.proofs.kept.KeptShelf.take.Goals as goal

of_ok : {E : Type 0} (r : Result Ticket E) (u : Ticket) (P : Ticket → Type 0) → IfOk r P → r ≡ Ok u → P u
of_ok (Ok x) u P h is = subst P (let z : x ≡ u = cc is in z) h
of_ok (Err e) u P h is = absurd (let no : ⊥ = cc is in no)

-- a ticket that was told was given by the last entry
given_told : {E : Type 0} (es : List KeptEntry) (e : KeptEntry) (r : Result Ticket E) (behind : List KeptEntry) → ((u : Ticket) → r ≡ Ok u → Gave e.did u) → behind ≡ es ++ e ∷ [] → IfOk r (IsGivenIn behind)
given_told es e (Ok u) behind gave is = subst (λ (l : List KeptEntry). IsGivenIn l u) (sym is) (given_now es e u (gave u refl))
given_told es e (Err x) behind gave is = tt

-- the history after the take
grown : (g : _) (c : goal.After-push g) → entries_of c.push.new.self ≡ entries_of c.args.self.now.history ++ entry c.args.by (step.take (target_of c.args.target.now) (meaning c.args.answer)) (taken_of c.take-told.result) ∷ []
grown g c =
    ap entries_of c.push.ensures.behind
    ∙ (map_snoc entry_of c.args.self.now.history _
    ∙ (λ i. entries_of c.args.self.now.history ++ entry c.args.by (step.take (target_of (c.of.ensures i)) (meaning (c.of-asked.ensures i))) (taken_of (c.of-2.ensures i)) ∷ []))

pub returns-clause-sound : goal.returns-clause-sound
returns-clause-sound g c =
    let view = g.D.Disk.view in
    let tells = g.D.Disk.tells in
    let coming = g.N.Nonces.nonce in
    let o = c.args.self.now.opened in
    let t = c.take-told.new.self in
    let told = c.take-told.ensures in
    let is = subst (λ (l : List Entry). IsSound {D = g.row.D.Denot} {N = g.row.N.Denot} view tells coming o t l) (sym (grown g c))
    (take_sound {D = g.row.D.Denot} {N = g.row.N.Denot} view tells coming o c.args.self.now.shelf t (entries_of c.args.self.now.history) c.requires.sound.is c.args.by
    (target_of c.args.target.now) (meaning c.args.answer) (taken_of c.take-told.result) told.event told.journal told.own told.in_order told.rules told.library) in
    record {
      is = is;
      tickets = λ u given. elim (given_last c.args.self.now.history _ u (subst (λ (l : List KeptEntry). IsGivenIn l u) c.push.ensures.behind given)) [
        | inl old ↦ told.tickets u (c.requires.sound.tickets u old)
        | inr gave ↦ of_ok c.take-told.result u (GoesOnFromItsPage {D = g.row.D.Denot} {N = g.row.N.Denot} view t) told.goes (sym c.of-2.ensures ∙ gave)
      ];
    }

pub returns-clause-gives : goal.returns-clause-gives
returns-clause-gives g c =
    let view = g.D.Disk.view in
    let tells = g.D.Disk.tells in
    let coming = g.N.Nonces.nonce in
    let o = c.args.self.now.opened in
    let s = c.args.self.now.shelf in
    let t = c.take-told.new.self in
    let es = entries_of c.args.self.now.history in
    let p = c.requires.sound.is in
    let told = c.take-told.ensures in
    let target = target_of c.args.target.now in
    let answer = meaning c.args.answer in
    let result = c.take-told.result in
    let r = taken_of result in
    let whole : t.library ≡ o.shelf.value.library = told.library ∙ p.library in
    let fits : HasItsStates (library_of s.library).all s.book → IfOk result (λ x. FitsAs (library_of o.shelf.value.library).all (book_in {D = g.row.D.Denot} {N = g.row.N.Denot} view t) x (admit (book_in {D = g.row.D.Denot} {N = g.row.N.Denot} view t) (target_of x.target))) =
    λ states. subst (λ (l : _). IfOk result (λ x. FitsAs (library_of l).all (book_in {D = g.row.D.Denot} {N = g.row.N.Denot} view t) x (admit (book_in {D = g.row.D.Denot} {N = g.row.N.Denot} view t) (target_of x.target)))) whole (told.fits states) in
    let runs = subst (λ (l : _). IfOk result (IsRunnable (library_of l).all)) whole told.runs in
    let script = subst (λ (l : _). IfOk result (λ x. HasItsScript (library_of l) x (target_of x.target))) whole told.script in
    let is = told_ticket {D = g.row.D.Denot} {N = g.row.N.Denot} view coming s c.args.target.now c.args.answer result told.ticket in
    let history = take_history {D = g.row.D.Denot} {N = g.row.N.Denot} view tells coming o s t es p c.args.by target answer r told.event told.journal told.own in
    let gives : Gives {D = g.row.D.Denot} {N = g.row.N.Denot} view tells coming o (entries_of c.push.new.self) c.args.by target answer result = record {
      held =
          subst (λ (l : List Entry). IfOk result (λ x. Holds {D = g.row.D.Denot} {N = g.row.N.Denot} view tells coming o l c.args.by x)) (sym (grown g c))
          (holds_told {D = g.row.D.Denot} {N = g.row.N.Denot} view tells coming o s t es p c.args.by target answer result whole told.event history is fits runs script);
      ticket = is;
      refused =
          take_refused (rules_of s.rules) (book_in {D = g.row.D.Denot} {N = g.row.N.Denot} view s) (book_in {D = g.row.D.Denot} {N = g.row.N.Denot} view t) target answer _ result
          (stepped {D = g.row.D.Denot} {N = g.row.N.Denot} view tells coming o s t es p (step.take target answer) r told.event);
    } in
    record {
      gives = gives;
      given = given_told c.args.self.now.history _ result c.push.new.self (λ u is. c.of-2.ensures ∙ is) c.push.ensures.behind;
    }

pub returns-clause-entry : goal.returns-clause-entry
returns-clause-entry g c = record {
  entry_made = record { caller = c.args.by; did = Take c.of.result c.of-asked.result c.of-2.result };
  caller_is = refl;
  entry_is = λ i. entry c.args.by (step.take (target_of (c.of.ensures i)) (meaning (c.of-asked.ensures i))) (taken_of (c.of-2.ensures i));
  is = c.push.ensures.behind;
}
