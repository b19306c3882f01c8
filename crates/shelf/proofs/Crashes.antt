-- What is opened after a crash.
use Rattle.std.proofs.Common.{◌≡◌, inl, inr, ⊎_elim, ℕ, List, None, length, refl, sym, ◌∙◌, ap, subst}
use Rattle.book_recovery.specs.SetupReader.Texts.{setup_of_texts as texts}
use Rattle.script_nodes.specs.Setup.{Named}
use Rattle.web_disk.specs.View.{View}
use Rattle.replay_spec.specs.Book.{Book}
use Rattle.replay_spec.specs.Rules.{Rules}
use Rattle.replay_spec.specs.Step as step
use Rattle.replay_spec.specs.Step.{Fate, lost, kept, live}
use Rattle.replay_spec.specs.Invariant.{IsSound}
use Rattle.replay_spec.proofs.Steps.{stepped}
use Rattle.book_recovery.specs.JournalSpec.Making.{Making, damaged, other, made_in}
use Rattle.book_recovery.specs.JournalSpec.Bytes.{book_in_bytes}
use Rattle.book_recovery.specs.JournalSpec.Standing.{IsBook, if_kept}
use Rattle.book_recovery.proofs.JournalSpec.Between.{make_books}
use Rattle.book_recovery.proofs.JournalSpec.Setups.{crashes}
use Rattle.shelf.specs.Opening.{IsCrashed, AReopenedShelfHasCrashed, AReopenedShelfIsSound, AStandingDiskOpens}
use Rattle.shelf.specs.declared.begin.BeginFault.TheVariants as fault

-- what a crash answers is how many instances are left
crashed_as : (rules : Rules) (b c : Book) (nonce : ℕ) (scripts : List Named) (fate : Fate) → (step.step rules b nonce (step.crash scripts) fate).1 ≡ c → IsCrashed rules b nonce scripts fate c
unfolding step.step
crashed_as rules b c nonce scripts fate is = ap (λ (x : Book). (live (length x.instances), x)) is

pub reopened_has_crashed : {D : Type 0} (view : D → View) → AReopenedShelfHasCrashed view
reopened_has_crashed view scripts shelf rules b c nonce old new over (n, (k, (held, measured))) among one =
    let crashed = crashes shelf rules b nonce n scripts over measured in
    ⊎_elim (λ h. inl (crashed_as rules b c nonce scripts lost (crashed.0 ∙ sym h))) (λ h. inr (crashed_as rules b c nonce scripts kept (crashed.1 ∙ sym h)))
    (one b (if_kept n b) k (λ image left. held image (among image left)))

crashed_sound : (rules : Rules) (b c : Book) (nonce : ℕ) (scripts : List Named) (fate : Fate) → IsSound b → IsCrashed rules b nonce scripts fate c → IsSound c
crashed_sound rules b c nonce scripts fate sound is =
    subst IsSound (ap (λ (x : step.Reply × Book). x.1) is)
    (stepped (record { rules = rules; nonce = nonce; event = step.crash scripts; fate = fate }) b sound tt).sound

pub reopened_is_sound : {D : Type 0} (view : D → View) → AReopenedShelfIsSound view
reopened_is_sound view scripts shelf rules b c old new sound over stands among one =
    ⊎_elim (λ h. crashed_sound rules b c 0 scripts lost sound h) (λ h. crashed_sound rules b c 0 scripts kept sound h)
    (reopened_has_crashed view scripts shelf rules b c 0 old new over stands among one)

-- a disk that stands for a book makes one
none_made : (m x : Making) (b : Book) → IsBook m b → m ≡ x → made_in x ≡ None → ⊥
none_made m x b (seen, makes) is none = let no : ⊥ = cc (sym makes ∙ (ap made_in is ∙ none)) in no

pub standing_opens : {D : Type 0} (view : D → View) → ((disk : D) → (view disk).images (view disk).seen) → AStandingDiskOpens view
standing_opens view reads scripts shelf b old new fault.DiskFault stands among is = tt
standing_opens view reads scripts shelf b old new fault.Memory stands among is = tt
standing_opens view reads scripts shelf b old new (fault.Full len) stands among is = tt
standing_opens view reads scripts shelf b old new (fault.Damaged place) stands among is =
    let bytes = (view new).seen in
    let m = book_in_bytes texts shelf bytes in
    ⊎_elim (λ h. none_made m (damaged place) b h is refl) (λ h. none_made m (damaged place) (if_kept stands.0 b) h is refl)
    (make_books texts shelf b (if_kept stands.0 b) stands.1.0 bytes (stands.1.1 bytes (among bytes (reads new))))
standing_opens view reads scripts shelf b old new (fault.Other place) stands among is =
    let bytes = (view new).seen in
    let m = book_in_bytes texts shelf bytes in
    ⊎_elim (λ h. none_made m (other place) b h is refl) (λ h. none_made m (other place) (if_kept stands.0 b) h is refl)
    (make_books texts shelf b (if_kept stands.0 b) stands.1.0 bytes (stands.1.1 bytes (among bytes (reads new))))
