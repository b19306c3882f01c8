-- How a shelf's disk goes on to stand for its book.
use Rattle.std.proofs.Common.{◌≡◌, ℕ, Bool, List, [], ◌++◌, Option, None, IsTrue, inl, refl, sym, ◌∙◌, ap, subst, arith}
use Rattle.std.proofs.lemmas.List.{append-nil}
use Rattle.book_recovery.specs.SetupReader.Texts.{setup_of_texts as texts}
use Rattle.web_disk.specs.View.{View, NoNewImage, Elapses}
use Rattle.page_journal.specs.Records.{stored}
use Rattle.page_journal.specs.Settled.{IsSettled, view_of, bodies_in}
use Rattle.page_journal.specs.declared.journal.Journal.{Journal}
use Rattle.replay_spec.specs.Book.{Change, Doubt, Book, reopened}
use Rattle.replay_spec.specs.Rules.{Rules}
use Rattle.replay_spec.specs.Step.{Event, Fate, kept, recovered, step}
use Rattle.replay_spec.specs.Runs.{lands}
use Rattle.replay_spec.specs.Laws.{IsLawful}
use Rattle.book_recovery.specs.JournalSpec.Standing.{Between, Held, HoldIn, if_kept, Stands, Throughout}
use Rattle.book_recovery.specs.JournalSpec.Keeping.{AreOver, IsAppending, Keeps, KeepsDoubt, IsOwnDoubt, KeepsWith, landed_bodies, told_bodies, IsWritable}
use Rattle.book_recovery.specs.JournalSpec.Events.{Gives}
use Rattle.book_recovery.specs.JournalSpec.Disks.{IsFit}
use Rattle.book_recovery.specs.JournalSpec.Laws.{MeasuresDoubt, EventsAreKept}
use Rattle.book_recovery.specs.JournalSpec.Owning.{IsOwnBefore}
use Rattle.book_recovery.proofs.JournalSpec.Between.{kept_alike, stand_alike}
use Rattle.book_recovery.proofs.JournalSpec.Standings.{carried, stays_then, stands_then, OnlyNow}
use Rattle.page_journal.proofs.Mending.{leaves_map}
use Rattle.shelf.specs.Owning.{StandsMeasured, StandsOwn}

-- no call was made, or one that leaves no new image: the journal has the same records, and can go on where it could
pub record IsQuietCall {D : Type 0} (view : D → View) (tells : Bool) (old new : Journal D) : Type 0 where
  pub settled : IsTrue tells → IsSettled view old → IsSettled view new
  pub format : new.format ≡ old.format
  pub seen : (view_of view new).seen ≡ (view_of view old).seen
  pub images : NoNewImage (view_of view old) (view_of view new)
  pub time : Elapses (view_of view old) (view_of view new)

no_time : (v : View) → Elapses v v
no_time v = record { later = omega arith; nothing_else = λ t image le left. inl left; keeps = λ t image le left. left; faults = omega arith }

pub no_call : {D : Type 0} (view : D → View) (tells : Bool) (j : Journal D) → IsQuietCall view tells j j
no_call view tells j = record { settled = λ told s. s; format = refl; seen = refl; images = λ image left. left; time = no_time (view_of view j) }

-- what a disk held between two books that differ in what is out alone, it holds between those
held_alike : (shelf : ℕ) (a b c d : Book) (images : List ℕ → Type 0) → reopened a ≡ reopened c → reopened b ≡ reopened d → (k : Between texts shelf a b) → HoldIn k images
    → (l : Between texts shelf c d) × HoldIn l images
held_alike shelf a b c d images first second k held =
    let l = (stand_alike texts shelf).1 a b c d first second k in
    (l.0, λ image left. carried k.format k.bodies k.flight l.0 l.1 image (held image left))

stands_alike : (shelf : ℕ) (v : View) (b c : Book) → reopened b ≡ reopened c → b.down ≡ c.down → Stands texts shelf v b → Stands texts shelf v c
stands_alike shelf v b c same down s =
    (s.0, held_alike shelf b (if_kept s.0 b) c (if_kept s.0 c) v.images same ((stand_alike texts shelf).0 s.0 b c same down) s.1.0 s.1.1)

pub throughout_alike : (shelf : ℕ) (a b c : Book) (old new : View) → reopened b ≡ reopened c → Throughout texts shelf a b old new → Throughout texts shelf a c old new
throughout_alike shelf a b c old new same (k, run) =
    let l = (stand_alike texts shelf).1 a b a c refl same k in
    (l.0, leaves_map old new (Held k) (Held l.0) (λ image held. carried k.format k.bodies k.flight l.0 l.1 image held) run)

-- where nothing is in doubt, all that is kept is kept with it
abbrev pub nothing_doubted : (shelf : ℕ) (bodies : List (List ℕ)) (b : Book) → b.down ≡ None → Keeps texts shelf bodies b → KeepsDoubt texts shelf bodies b
nothing_doubted shelf bodies b up keeps =
    record { keeps = keeps; doubt = subst (λ (o : Option Doubt). IsOwnDoubt b o keeps.recoverable.doubted) (sym up) tt }

module _ {D : Type 0} (view : D → View) (tells : Bool) (shelf : ℕ) (rules : Rules) (b : Book) (event : Event) (fate : Fate) (old : Journal D)
    (is_over : AreOver rules shelf) (appends : IsAppending event) (gives : Gives texts event) (tells_none : told_bodies event b ≡ []) (lawful : IsLawful event b) (events : EventsAreKept) where
  -- after an event that leaves no record, with a book that differs in what is out alone
  module _ (d : Book) (is : (step rules b 0 event fate).1 ≡ d) (none : lands rules b event fate ≡ None) (same : reopened b ≡ reopened d) (down : b.down ≡ d.down) (new : Journal D) (call : IsQuietCall view tells old new) (told : IsTrue tells) where
    quiet_keeps : b.down ≡ None → Keeps texts shelf (bodies_in view old) b → Keeps texts shelf (bodies_in view new) d
    quiet_keeps up keeps =
        let old_bodies = bodies_in view old in
        let P : Option Change → Type 0 = λ o. IsOwnBefore keeps.earlier b o → IsWritable b o → KeepsWith texts shelf old_bodies (landed_bodies b o ++ told_bodies event b) (step rules b 0 event fate).1 in
        let all = subst P none (events texts shelf old_bodies rules b 0 event fate is_over appends gives lawful (nothing_doubted shelf old_bodies b up keeps)) tt tt in
        let first = subst (λ (bs : List (List ℕ)). KeepsWith texts shelf old_bodies bs (step rules b 0 event fate).1) tells_none all in
        let these : old_bodies ++ [] ≡ bodies_in view new = append-nil old_bodies ∙ ap stored (sym call.seen) in
        subst (λ (bs : List (List ℕ)). Keeps texts shelf bs d) these (subst (Keeps texts shelf (old_bodies ++ [])) is first.keeps.keeps)

    pub quiet_fit : IsFit view texts shelf old b → IsFit view texts shelf new d
    quiet_fit fit = record {
      settled = λ up. call.settled told (fit.settled (down ∙ up));
      holds = λ up. quiet_keeps (down ∙ up) (fit.holds (down ∙ up));
      stands = stands_alike shelf (view_of view new) b d same down (stands_then texts shelf b (view_of view old) (view_of view new) fit.stands call.images).0;
    }

    pub quiet_moments : OnlyNow (view_of view old) → (fit : IsFit view texts shelf old b) → Throughout texts shelf b (if_kept fit.stands.0 d) (view_of view old) (view_of view new)
    quiet_moments only_now fit =
        let n = fit.stands.0 in
        throughout_alike shelf b (if_kept n b) (if_kept n d) (view_of view old) (view_of view new) ((stand_alike texts shelf).0 n b d same down)
        (stays_then texts shelf b (view_of view old) (view_of view new) only_now fit.stands call.images call.time)

-- what is in doubt is measured alike on a book that differs in what is out alone
measures_alike : (rules : Rules) (n : ℕ) (b d : Book) → reopened b ≡ reopened d → b.down ≡ d.down → reopened (if_kept n b) ≡ reopened (if_kept n d) → MeasuresDoubt rules n b → MeasuresDoubt rules n d
measures_alike rules n b d same down alike measured =
    ap (λ (o : Option Doubt). reopened (recovered rules kept o d)) (sym down) ∙ (sym (kept_alike rules b.down b d same) ∙ (measured ∙ alike))

-- an own shelf's disk stands so for it, where no new image is left
pub own_alike : (rules : Rules) (shelf : ℕ) (old new : View) (b d : Book) → reopened b ≡ reopened d → b.down ≡ d.down → NoNewImage old new → StandsOwn rules shelf old b → StandsOwn rules shelf new d
own_alike rules shelf old new b d same down less own =
    let n = own.stands.0 in
    let alike = (stand_alike texts shelf).0 n b d same down in
    let held = held_alike shelf b (if_kept n b) d (if_kept n d) new.images same alike own.stands.1.0 (λ image left. own.stands.1.1.0 image (less image left)) in
    record {
      images = (own.images.0, λ image left. own.images.1 image (less image left));
      stands = (n, (held.0, (held.1, measures_alike rules n b d same down alike own.stands.1.1.1)));
    }

-- so it does at each moment
pub measured_alike : (rules : Rules) (shelf : ℕ) (old new : View) (b d : Book) → reopened b ≡ reopened d → b.down ≡ d.down → OnlyNow old → NoNewImage old new → Elapses old new
    → StandsMeasured rules shelf old b → (n : ℕ) × Throughout texts shelf b (if_kept n d) old new × MeasuresDoubt rules n d
measured_alike rules shelf old new b d same down only_now less time (n, (k, (held, measured))) =
    let alike = (stand_alike texts shelf).0 n b d same down in (
      n,
      throughout_alike shelf b (if_kept n b) (if_kept n d) old new alike (stays_then texts shelf b old new only_now (n, (k, held)) less time),
      measures_alike rules n b d same down alike measured,
    )
