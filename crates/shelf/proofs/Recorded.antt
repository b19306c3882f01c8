-- How a shelf's disk goes on to stand for its book where an event leaves a record with the state of its own script.
use Rattle.std.proofs.Common.{◌≡◌, ℕ, ◌+◌, ◌≤◌, ◌^◌, Bool, List, [], ◌∷◌, ◌++◌, length, Option, Some, None, option_map, refl, sym, ◌∙◌, ap, subst, arith}
use Rattle.book_recovery.specs.SetupReader.Texts.{setup_of_texts as texts}
use Rattle.web_disk.specs.View.{View, LeavesOnly}
use Rattle.page_journal.specs.Records.{newest, stored}
use Rattle.page_journal.specs.Holding.{MayHold}
use Rattle.page_journal.specs.Settled.{IsSettled, view_of, bodies_in, length_of}
use Rattle.page_journal.specs.declared.journal.Journal.{Journal}
use Rattle.page_journal.proofs.Mending.{leaves_then}
use Rattle.replay_spec.specs.Book.{Change, Doubt, Book, reopened}
use Rattle.replay_spec.specs.Rules.{Rules}
use Rattle.replay_spec.specs.Step.{Event, Fate, kept, recovered, step}
use Rattle.replay_spec.specs.Runs.{lands, change_in, doubted}
use Rattle.replay_spec.specs.Laws.{IsLawful}
use Rattle.replay_spec.specs.Recovery.{of_length}
use Rattle.book_recovery.specs.JournalSpec.Lengths.{own_body}
use Rattle.book_recovery.specs.JournalSpec.Before.{made_of}
use Rattle.book_recovery.specs.JournalSpec.Owning.{AreOwn, IsOwnBefore}
use Rattle.book_recovery.specs.JournalSpec.Standing.{adds, flight_of, Between, Carries, if_kept, length_in, Throughout, HasRoom}
use Rattle.book_recovery.specs.JournalSpec.Whole.{CanBeWritten}
use Rattle.book_recovery.specs.JournalSpec.Events.{Gives}
use Rattle.book_recovery.specs.JournalSpec.Keeping.{AreOver, IsAppending, KeepsSetup, Keeps, KeepsDoubt, KeepsWith, landed_bodies, told_bodies, IsWritable, at_stake, stake_of}
use Rattle.book_recovery.specs.JournalSpec.Disks.{IsFit}
use Rattle.book_recovery.specs.JournalSpec.Laws.{MeasuresDoubt, EventsAreKept, EventsStandBetween}
use Rattle.book_recovery.proofs.JournalSpec.Telling.{own_before_is, own_are_told}
use Rattle.book_recovery.proofs.JournalSpec.Standings.{settled_stands, written, left_standing, OnlyNow, CountsNow}
use Rattle.shelf.specs.Owning.{OwnRecords, HoldsOwnRecords, HasOwnImages, StaysOwnThroughout, StandsOwn}
use Rattle.shelf.proofs.Owned.{images_own, own_seen, with_added, stays_own, quiet_run_own}
use Rattle.shelf.proofs.Newest.{newest_images, makes_so, now_own}
use Rattle.shelf.proofs.Standing.{IsQuietCall, nothing_doubted}

-- where nothing is in doubt, any length measures it
pub measured_up : (rules : Rules) (n : ℕ) (d : Book) → d.down ≡ None → MeasuresDoubt rules n d
measured_up rules n d up =
    ap (λ (o : Option Doubt). reopened (recovered rules kept o d)) up ∙ sym (ap (λ (o : Option Doubt). reopened (recovered (of_length n) kept o d)) up)

-- the records of a journal that can go on are own ones where those of its disk are
pub own_bodies : {D : Type 0} (view : D → View) (shelf : ℕ) (old : Journal D) → old.format ≡ newest → IsSettled view old → (view old.disk).images (view old.disk).seen → HasOwnImages shelf (view old.disk)
    → AreOwn texts shelf (bodies_in view old)
own_bodies view shelf old now s reads own =
    let v = view old.disk in
    now_own shelf (bodies_in view old)
    (own_seen shelf v.seen newest (bodies_in view old) refl (omega (arith, s.end, s.fits)) (newest_images view old s now v.seen reads) (images_own shelf v v.seen own reads))

-- so what a change's page is written after is the own state
pub own_behind : {D : Type 0} (view : D → View) (shelf : ℕ) (b : Book) (old : Journal D) (now_is : old.format ≡ newest) (c : Change) (up : b.down ≡ None) (fit : IsFit view texts shelf old b)
    → (view old.disk).images (view old.disk).seen → HasOwnImages shelf (view old.disk) → IsOwnBefore (fit.holds up).earlier b (Some c)
own_behind view shelf b old now_is c up fit reads own =
    let k = fit.holds up in
    own_before_is k.earlier b c (own_are_told texts shelf (bodies_in view old) (made_of b k.earlier) k.makes (own_bodies view shelf old now_is (fit.settled up) reads own))

module _ {D : Type 0} (view : D → View) (tells : Bool) (shelf : ℕ) (rules : Rules) (b : Book) (event : Event) (old : Journal D) (now_is : old.format ≡ newest)
    (is_over : AreOver rules shelf) (appends : IsAppending event) (gives : Gives texts event) (setup : KeepsSetup event b) (tells_none : told_bodies event b ≡ []) (lawful : IsLawful event b) (events : EventsAreKept)
    (up : b.down ≡ None) (c : Change) (spelled : CanBeWritten b c) (room : length_of old + 5 + length (own_body b c) ≤ 2 ^ 30) (fit : IsFit view texts shelf old b)
    (before : IsOwnBefore (fit.holds up).earlier b (Some c)) where
  abbrev bodies : List (List ℕ)
  bodies = bodies_in view old

  abbrev body : List ℕ
  body = own_body b c

  abbrev all_kept : KeepsDoubt texts shelf bodies b
  all_kept = nothing_doubted shelf bodies b up (fit.holds up)

  has_room : HasRoom bodies (adds body)
  has_room = let s = fit.settled up in omega (arith, s.end, room)

  -- after the event that lands the change
  kept_with : (fate : Fate) → lands rules b event fate ≡ Some c → KeepsWith texts shelf bodies (body ∷ []) (step rules b 0 event fate).1
  kept_with fate landed =
      let x = (step rules b 0 event fate).1 in
      let P : Option Change → Type 0 = λ o. IsOwnBefore (fit.holds up).earlier b o → IsWritable b o → KeepsWith texts shelf bodies (landed_bodies b o ++ told_bodies event b) x in
      let all = subst P landed (events texts shelf bodies rules b 0 event fate is_over appends gives lawful all_kept) before spelled in
      subst (λ (bs : List (List ℕ)). KeepsWith texts shelf bodies (body ∷ bs) x) tells_none all

  -- the bodies there are own ones
  own_there : (view old.disk).images (view old.disk).seen → HasOwnImages shelf (view old.disk) → AreOwn texts shelf bodies
  own_there reads own = own_bodies view shelf old now_is (fit.settled up) reads own

  module _ (mid new : Journal D) (call : IsQuietCall view tells old mid) (run : LeavesOnly (view_of view mid) (view_of view new) (MayHold newest (bodies_in view mid) body)) (counts : CountsNow (view_of view new)) where
    run_here : LeavesOnly (view_of view mid) (view_of view new) (MayHold newest bodies body)
    run_here = subst (λ (bs : List (List ℕ)). LeavesOnly (view_of view mid) (view_of view new) (MayHold newest bs body)) (ap stored call.seen) run

    -- the records there and the new one, which is in flight
    abbrev own_then : (fate : Fate) → lands rules b event fate ≡ Some c → (view old.disk).images (view old.disk).seen → HasOwnImages shelf (view old.disk) → OwnRecords shelf
    own_then fate landed reads own = with_added shelf bodies body has_room (own_there reads own) ((kept_with fate landed).own (own_there reads own))

    pub own_images : (fate : Fate) → lands rules b event fate ≡ Some c → (view old.disk).images (view old.disk).seen → HasOwnImages shelf (view old.disk) → HasOwnImages shelf (view new.disk)
    own_images fate landed reads own =
        (own_then fate landed reads own, λ image left. run_here.each image (counts (view_of view mid).moment image run_here.later left))

    -- at each moment
    pub own_run : (fate : Fate) → lands rules b event fate ≡ Some c → OnlyNow (view_of view old) → (view old.disk).images (view old.disk).seen → HasOwnImages shelf (view old.disk)
        → StaysOwnThroughout shelf (view_of view old) (view_of view new)
    own_run fate landed only_now reads own =
        let first = quiet_run_own shelf (view_of view old) (view_of view mid) only_now call.images call.time own in
        leaves_then (view_of view old) (view_of view mid) (view_of view new) (HoldsOwnRecords shelf) first
        (stays_own shelf (view_of view mid) (view_of view new) (own_then fate landed reads own) run_here)

    module _ (fate : Fate) (d : Book) (is : (step rules b 0 event fate).1 ≡ d) (stake : stake_of rules b 0 event fate ≡ Some c) where
      abbrev n : ℕ
      n = length body

      between_these : EventsStandBetween → (k : Between texts shelf b (if_kept n d)) × Carries newest bodies (adds body) k × MeasuresDoubt rules n d
      between_these between =
          let x = (step rules b 0 event fate).1 in
          let P : Option Change → Type 0 = λ o. IsOwnBefore (fit.holds up).earlier b o → IsWritable b o → HasRoom bodies (flight_of (option_map (own_body b) o))
          → (k : Between texts shelf b (if_kept (length_in (option_map (own_body b) o)) x)) × Carries newest bodies (flight_of (option_map (own_body b) o)) k × MeasuresDoubt rules (length_in (option_map (own_body b) o)) x in
          subst (λ (y : Book). (k : Between texts shelf b (if_kept n y)) × Carries newest bodies (adds body) k × MeasuresDoubt rules n y) is
          (subst P stake (between texts shelf bodies rules b 0 event fate is_over appends setup lawful all_kept) before spelled has_room)

      -- at each moment, where this is at stake
      pub recorded_moments : EventsStandBetween → OnlyNow (view_of view old) → Throughout texts shelf b (if_kept n d) (view_of view old) (view_of view new)
      recorded_moments between only_now =
          let k = between_these between in
          written newest bodies texts shelf b (if_kept n d) (view_of view old) (view_of view mid) (view_of view new) (adds body) only_now (newest_images view old (fit.settled up) now_is) k.0 k.1 call.images call.time run_here

      pub measured_moments : EventsStandBetween → OnlyNow (view_of view old) → (m : ℕ) × Throughout texts shelf b (if_kept m d) (view_of view old) (view_of view new) × MeasuresDoubt rules m d
      measured_moments between only_now = (n, recorded_moments between only_now, (between_these between).2)

      -- it is in doubt
      pub doubted_fit : EventsStandBetween → OnlyNow (view_of view old) → (d.down ≡ None → ⊥) → reopened b ≡ reopened d → IsFit view texts shelf new d
      doubted_fit between only_now in_doubt same = record {
        settled = λ none. absurd (in_doubt none);
        holds = λ none. absurd (in_doubt none);
        stands = (left_standing texts shelf n b (if_kept n d) d (view_of view old) (view_of view new) counts (recorded_moments between only_now) same refl).0;
      }

      pub doubted_own : EventsStandBetween → OnlyNow (view_of view old) → reopened b ≡ reopened d → (f : Fate) → lands rules b event f ≡ Some c → (view old.disk).images (view old.disk).seen
          → HasOwnImages shelf (view old.disk) → StandsOwn rules shelf (view new.disk) d
      doubted_own between only_now same f landed reads own =
          let t = left_standing texts shelf n b (if_kept n d) d (view_of view old) (view_of view new) counts (recorded_moments between only_now) same refl in
          let measured = (between_these between).2 in
          record {
            images = own_images f landed reads own;
            stands = (t.0.0, (t.0.1.0, (t.0.1.1, subst (λ (m : ℕ). MeasuresDoubt rules m d) (sym t.1) measured)));
          }

  -- the record was added
  module _ (mid new : Journal D) (new_is : new.format ≡ newest) (call : IsQuietCall view tells old mid) (fate : Fate) (d : Book) (is : (step rules b 0 event fate).1 ≡ d) (landed : lands rules b event fate ≡ Some c) (still : d.down ≡ None)
      (settled : IsSettled view new) (added : bodies_in view new ≡ bodies_in view mid ++ body ∷ []) where
    pub added_fit : IsFit view texts shelf new d
    added_fit =
        let these : bodies ++ body ∷ [] ≡ bodies_in view new = ap (λ (bs : List (List ℕ)). bs ++ body ∷ []) (sym (ap stored call.seen)) ∙ sym added in
        let first = (kept_with fate landed).keeps.keeps in
        let keeps = subst (λ (bs : List (List ℕ)). Keeps texts shelf bs d) these (subst (Keeps texts shelf (bodies ++ body ∷ [])) is first) in
        record { settled = λ _. settled; holds = λ _. keeps; stands = settled_stands view texts shelf new d settled (makes_so view shelf new d new_is (keeps.earlier, keeps.makes)) still }

    pub added_own : HasOwnImages shelf (view new.disk) → StandsOwn rules shelf (view new.disk) d
    added_own images =
        let t = added_fit.stands in
        record { images = images; stands = (t.0, (t.1.0, (t.1.1, measured_up rules t.0 d still))) }

-- what is at stake after a record that was added, and after one that is in doubt
pub stake_landed : (rules : Rules) (b : Book) (event : Event) (fate : Fate) (c : Change) → lands rules b event fate ≡ Some c → stake_of rules b 0 event fate ≡ Some c
stake_landed rules b event fate c is = ap (λ (o : Option Change). at_stake o (step rules b 0 event fate).1) is

pub stake_doubted : (rules : Rules) (b d : Book) (event : Event) (fate : Fate) (x : Doubt) → lands rules b event fate ≡ None → (step rules b 0 event fate).1 ≡ d → d.down ≡ Some x → stake_of rules b 0 event fate ≡ change_in x.work
stake_doubted rules b d event fate x none is down =
    ap (λ (o : Option Change). at_stake o (step rules b 0 event fate).1) none ∙ ap (λ (e : Book). doubted e.down) is ∙ ap doubted down
