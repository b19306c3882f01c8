-- A shelf that was opened without a setup: what it is, and what a crash leaves at each moment of its opening.
use Rattle.std.proofs.Common.{◌≡◌, ◌⊎◌, inl, inr, ⊎_elim, ◌∙◌, ap, sym, subst, refl, ℕ, ◌==◌, Bool, true, false, List, [], ◌∷◌, ◌++◌, Option, Some, None, is_some, IsTrue, arith}
use Rattle.std.proofs.lemmas.Bool.Decides.{nat_tests}
use Rattle.std.proofs.lemmas.Option.{none-some}
use Rattle.book_recovery.specs.SetupReader.Texts.{setup_of_texts as texts}
use Rattle.web_disk.specs.View.{View, LeavesOnly}
use Rattle.page_journal.specs.Records.{newest, stored}
use Rattle.page_journal.specs.Holding.{MayHold}
use Rattle.page_journal.specs.Opened.{TellsFormat, IsIntactOrEmpty}
use Rattle.page_journal.specs.Scanned.{IsQuiet}
use Rattle.page_journal.specs.Settled.{IsSettled, IsSound, view_of, bodies_in, length_of, is_broken}
use Rattle.page_journal.specs.declared.journal.Journal.{Journal}
use Rattle.page_journal.proofs.Mending.{leaves_then, leaves_map}
use Rattle.replay_spec.specs.Book.{Book, reopened}
use Rattle.journal_records.specs.Records.{follows, body_of}
use Rattle.journal_records.specs.Laws.{AreRecordsExact}
use Rattle.book_recovery.specs.JournalSpec.Before.{Made}
use Rattle.book_recovery.specs.JournalSpec.Making.{Making, nothing, waits, waited, begun, made, damaged, other, made_in, book_of}
use Rattle.book_recovery.specs.JournalSpec.Bytes.{book_in_bytes}
use Rattle.book_recovery.specs.JournalSpec.Old.{book_of_format}
use Rattle.book_recovery.specs.JournalSpec.Standing.{Makes, Between, Held, HoldIn, StaysThroughout}
use Rattle.book_recovery.specs.JournalSpec.Disks.{OpeningsStay, RecoveriesFindOne}
use Rattle.book_recovery.proofs.JournalSpec.Between.{stand_alike}
use Rattle.book_recovery.proofs.JournalSpec.Standings.{carried, CountsNow}
use Rattle.file_copies.specs.OfFileNotes.Files.{IsNoted}
use Rattle.shelf.specs.Files.{read_file}
use Rattle.shelf.specs.Following.{IsOpen}
use Rattle.shelf.specs.Migrating.{bodies_now, Moves, HasMigrated}
use Rattle.shelf.specs.Opening.{making_of, making_on, opened_beside, HasOwnRecords, IsRenewedAs}
use Rattle.shelf.specs.Owning.{StaysOwnThroughout}
use Rattle.shelf.specs.Ranges.{AreInRange}
use Rattle.shelf.specs.Reopening.{bare_bodies, follows_by, IsLawful, IsOpenedBare, HoldsRenewed, IsBareFault, IsBareReadFault, BeginsBare, BeginsNothing}
use Rattle.shelf.specs.Views.{follows_in, book_in, IsInOrder}
use Rattle.shelf.specs.declared.begin.BeginFault.{BeginFault}
use Rattle.shelf.specs.declared.begin.BeginFault.TheVariants as fault
use Rattle.shelf.specs.declared.shelf.Shelf.{Shelf}
use Rattle.shelf.proofs.Migrated.{fault_there}
use Rattle.shelf.proofs.Newest.{now_own}
use Rattle.shelf.proofs.Opened.{read_there, opened_again, opened_order, some_there, still}
use Rattle.shelf.proofs.Openings.{found_fit, none_read, not_nothing}
use Rattle.shelf.proofs.Owned.{none_own, first_own, with_added, stays_own}
use Rattle.shelf.proofs.OwnOpenings.{read_moments}
use Rattle.shelf.proofs.Reopening.{plain_bare}

-- ---- what it is

-- records that make a book are lawful
made_lawful : {x : Made} (m : Making) → made_in m ≡ Some x → IsLawful m
made_lawful nothing is = tt
made_lawful waited is = tt
made_lawful (waits s) is = tt
made_lawful (begun m) is = tt
made_lawful (made m) is = tt
made_lawful (damaged p) is = cc is
made_lawful (other p) is = cc is

module _ {D N : Type 0} (view : D → View) (tells : Bool) (fed : Bool) (old : Journal D) (s : Shelf D N) (up : s.down ≡ None) (noted : IsNoted s.notes) (now_is : s.journal.format ≡ newest) where
  abbrev n : ℕ
  n = s.rules.number

  bare_makes : (b : BeginsBare view tells fed n old s.journal s.follower s.notes (s.book, s.library)) → IsTrue tells → Makes texts n (bodies_in view s.journal) (book_in view s)
  bare_makes b told = subst (Makes texts n (bodies_in view s.journal)) (sym (read_there view tells s up noted now_is b.known told)) (b.makes told)

  pub opened_there : IsTrue tells → BeginsBare view tells fed n old s.journal s.follower s.notes (s.book, s.library) ⊎ BeginsNothing view tells n s.journal s.follower → IsOpenedBare view (making_of view n s.journal) s
  opened_there told (inl b) = record {
    book = λ x is. bare_makes b told;
    again = λ x is. opened_again view tells s up noted now_is b.known b.in_order;
    follows_on = sym (ap follows_by (b.makes told).1);
    lawful = made_lawful (making_of view n s.journal) (b.makes told).1;
  }
  opened_there told (inr b) = record {
    book = λ x is. absurd (none-some x (sym (b.none told) ∙ is));
    again = λ x is. absurd (none-some x (sym (b.none told) ∙ is));
    follows_on = ap (λ (o : Option _). is_some o) b.leads ∙ sym (ap follows_by (b.none told));
    lawful = b.lawful told;
  }

  module _ (x : AreRecordsExact) (limits : AreInRange s.rules) (sound : IsSound s.journal) (whole : is_broken s.journal ≡ false) (settled : IsTrue tells → IsSettled view s.journal) where
    bare_order : BeginsBare view tells fed n old s.journal s.follower s.notes (s.book, s.library) → IsInOrder view tells s
    bare_order b =
        let o = b.in_order in
        opened_order view tells s up noted now_is b.known o limits sound whole
        (λ t. found_fit view n (follows_in s) s.journal (opened_beside view n (follows_in s) s.journal s.library s.book) x (settled t) now_is
        (o.whole (length_of s.journal) (read_file view n s.journal)) o.read (b.makes t) (o.again (length_of s.journal) (read_file view n s.journal))) b.told b.follows_on

    pub open_there : BeginsBare view tells fed n old s.journal s.follower s.notes (s.book, s.library) ⊎ BeginsNothing view tells n s.journal s.follower → IsOpen view tells s
    open_there (inl b) = inl (bare_order b)
    open_there (inr b) = inr (record {
      leads = ap (λ (o : Option _). is_some o) b.leads;
      up = up;
      readable = record { sound = sound; settled = settled };
      newest_is = now_is;
      whole = whole;
      none = b.none;
    })

-- ---- why it is not

pub bare_fault : {D : Type 0} (view : D → View) (shelf : ℕ) (v : View) (j0 j1 : Journal D) → IsIntactOrEmpty v → bodies_in view j0 ≡ stored v.seen → TellsFormat v.seen j0.format → HasMigrated view shelf j0 j1
    → (e : BeginFault) → IsBareReadFault (making_of view shelf j1) e → IsBareFault shelf v e
bare_fault view shelf v j0 j1 intact reads tells moved (fault.Damaged p) is = fault_there view shelf v j0 j1 intact reads tells moved (damaged p) refl is
bare_fault view shelf v j0 j1 intact reads tells moved (fault.Other p) is = fault_there view shelf v j0 j1 intact reads tells moved (other p) refl is
bare_fault view shelf v j0 j1 intact reads tells moved (fault.Full n) is = absurd is
bare_fault view shelf v j0 j1 intact reads tells moved fault.DiskFault is = tt
bare_fault view shelf v j0 j1 intact reads tells moved fault.Memory is = tt

-- ---- what is left at each moment

-- it adds no record, or the first one
bare_cases : (fed : Bool) (m : Making) → (bare_bodies fed m ≡ []) ⊎ ((fed ≡ true) × (m ≡ nothing))
bare_cases false m = inl refl
bare_cases true nothing = inr (refl, refl)
bare_cases true (waits s) = inl refl
bare_cases true waited = inl refl
bare_cases true (begun m) = inl refl
bare_cases true (made m) = inl refl
bare_cases true (damaged p) = inl refl
bare_cases true (other p) = inl refl

module _ {D : Type 0} (view : D → View) (fed : Bool) (shelf : ℕ) (j1 j2 : Journal D) (quiet : bare_bodies fed (making_of view shelf j1) ≡ [] → IsQuiet (view_of view j1) (view_of view j2)) where
  -- where a book was found, nothing is written
  pub quiet_made : (x : Made) → made_in (making_of view shelf j1) ≡ Some x → IsQuiet (view_of view j1) (view_of view j2)
  quiet_made x is = quiet (plain_bare fed shelf (making_of view shelf j1) (λ to. not_nothing (making_of view shelf j1) x is)).1

  module _ (moments : bodies_in view j1 ≡ [] → LeavesOnly (view_of view j1) (view_of view j2) (MayHold newest [] (body_of follows))) where
    pub own_bare : j1.format ≡ newest → IsSettled view j1 → HasOwnRecords view shelf j1 → StaysOwnThroughout shelf (view_of view j1) (view_of view j2)
    own_bare now settled own =
        ⊎_elim (λ (none : bare_bodies fed (making_of view shelf j1) ≡ []). read_moments view shelf j1 j2 now settled own (quiet none))
        (λ (h : (fed ≡ true) × (making_of view shelf j1 ≡ nothing)).
        let o = with_added shelf [] (body_of follows) (omega arith) (now_own shelf [] (none_own newest shelf)) (first_own shelf (body_of follows)) in
        stays_own shelf (view_of view j1) (view_of view j2) o (moments (none_read shelf (bodies_in view j1) h.1)))
        (bare_cases fed (making_of view shelf j1))

    module _ (v : View) (counts : CountsNow (view_of view j1)) (bodies : List (List ℕ)) (body : List ℕ) (told : fed ≡ true → bodies ≡ [] → body ≡ body_of follows) (first : LeavesOnly v (view_of view j1) (MayHold newest bodies body))
        (one : (bodies_in view j1 ≡ bodies) ⊎ (bodies_in view j1 ≡ bodies ++ body ∷ [])) where
      abbrev P : List ℕ → Type 0
      P = MayHold newest bodies body

      no_more : (bs : List (List ℕ)) → [] ≡ bs ++ body ∷ [] → ⊥
      no_more [] is = cc is
      no_more (b ∷ bs) is = cc is

      were_none : bodies_in view j1 ≡ [] → bodies ≡ []
      were_none none = ⊎_elim (λ (is : bodies_in view j1 ≡ bodies). sym is ∙ none) (λ (is : bodies_in view j1 ≡ bodies ++ body ∷ []). absurd (no_more bodies (sym none ∙ is))) one

      pub holds_bare : LeavesOnly v (view_of view j2) P
      holds_bare =
          ⊎_elim (λ (none : bare_bodies fed (making_of view shelf j1) ≡ []).
          leaves_then v (view_of view j1) (view_of view j2) P first
          (leaves_map (view_of view j1) (view_of view j2) (view_of view j1).images P (λ image left. first.each image (counts v.moment image first.later left)) (quiet none).moments))
          (λ (h : (fed ≡ true) × (making_of view shelf j1 ≡ nothing)).
          let none = none_read shelf (bodies_in view j1) h.1 in
          let were = were_none none in
          let run : LeavesOnly (view_of view j1) (view_of view j2) P =
          subst (λ (bs : List (List ℕ)). LeavesOnly (view_of view j1) (view_of view j2) (MayHold newest bs body)) (sym were)
          (subst (λ (b : List ℕ). LeavesOnly (view_of view j1) (view_of view j2) (MayHold newest [] b)) (sym (told h.0 were)) (moments none)) in
          leaves_then v (view_of view j1) (view_of view j2) P first run)
          (bare_cases fed (making_of view shelf j1))

-- the disk stays between two books
pub stays_bare : {D : Type 0} (view : D → View) (fed : Bool) (shelf : ℕ) (old : D) (j1 j2 : Journal D) → OpeningsStay view → RecoveriesFindOne view → (view old).images (view old).seen → CountsNow (view_of view j1) → making_on shelf (view old) ≡ making_of view shelf j1
    → StaysThroughout texts shelf (view old) (view_of view j1) → (bare_bodies fed (making_of view shelf j1) ≡ [] → IsQuiet (view_of view j1) (view_of view j2)) → StaysThroughout texts shelf (view old) (view_of view j2)
stays_bare view fed shelf old j1 j2 openings recoveries reads counts same first quiet before after k held =
    let some = some_there view [] shelf old j1 j2 openings recoveries reads counts same first before after k held in
    still view [] shelf old j1 j2 openings recoveries reads counts same first
    (quiet (plain_bare fed shelf (making_of view shelf j1) (λ to none. some (ap made_in none))).1) before after k held

-- ---- of a file of any format

-- what is left of two books
abbrev pub HeldBare : {before after : Book} (shelf : ℕ) → Between texts shelf before after → List ℕ → Type 0
HeldBare {before} {after} shelf k bytes = Held k bytes ⊎ (HoldsRenewed shelf before bytes ⊎ HoldsRenewed shelf after bytes)

-- a file that gives place
holds_renewed : (shelf : ℕ) (found anew : Book) → IsRenewedAs found anew → (b : Book) → found ≡ reopened b → (l : Between texts shelf found anew) (image : List ℕ) → Held l image → HoldsRenewed shelf b image
holds_renewed shelf found anew renewed b same l image held =
    let m = (stand_alike texts shelf).1 found anew b anew (ap reopened same) refl l in
    (anew, (subst (λ (y : Book). IsRenewedAs y anew) same renewed, (m.0, carried l.format l.bodies l.flight m.0 m.1 image held)))

module _ {D : Type 0} (view : D → View) (fed : Bool) (shelf : ℕ) (old : D) (j0 j1 : Journal D) (recoveries : RecoveriesFindOne view) (reads : (view old).images (view old).seen) (same : book_in_bytes texts shelf (view old).seen ≡ book_of_format j0.format texts shelf (bodies_in view j0))
    (first : StaysThroughout texts shelf (view old) (view_of view j0)) (counts : CountsNow (view_of view j0)) (before after : Book) (k : Between texts shelf before after) (held : HoldIn k (view old).images) where
  abbrev Q : List ℕ → Type 0
  Q = HeldBare shelf k

  pub begun_bare : LeavesOnly (view old) (view_of view j0) Q
  begun_bare = leaves_map (view old) (view_of view j0) (Held k) Q (λ image h. inl h) (first before after k held)

  renewed_of : (w : Made) (m : Moves view shelf j0 j1 w) → IsRenewedAs w.book m.anew.book
  renewed_of w m = record { book = m.renewed.book; first = m.renewed.first; drawn = m.renewed.drawn }

  to_held : (w : Made) → (w.book ≡ reopened before) ⊎ (w.book ≡ reopened after) → (m : Moves view shelf j0 j1 w) (image : List ℕ) → Held m.between image → Q image
  to_held w one m image h = ⊎_elim
      (λ (is : w.book ≡ reopened before). inr (inl (holds_renewed shelf w.book m.anew.book (renewed_of w m) before is m.between image h)))
      (λ (is : w.book ≡ reopened after). inr (inr (holds_renewed shelf w.book m.anew.book (renewed_of w m) after is m.between image h)))
      one

  -- nothing was written since
  now_held : (image : List ℕ) → (view_of view j0).images image → Q image
  now_held image left = let run = first before after k held in inl (run.each image (counts (view old).moment image run.later left))

  pub still_bare : LeavesOnly (view_of view j0) (view_of view j1) (view_of view j0).images → LeavesOnly (view old) (view_of view j1) Q
  still_bare run = leaves_then (view old) (view_of view j0) (view_of view j1) Q begun_bare (leaves_map (view_of view j0) (view_of view j1) (view_of view j0).images Q now_held run)

  pub moving_bare : (w : Made) → (w.book ≡ reopened before) ⊎ (w.book ≡ reopened after) → Moves view shelf j0 j1 w → LeavesOnly (view old) (view_of view j1) Q
  moving_bare w one m = leaves_then (view old) (view_of view j0) (view_of view j1) Q begun_bare (leaves_map (view_of view j0) (view_of view j1) (Held m.between) Q (to_held w one m) m.run)

  -- after it, the opening of the new file
  pub opening_bare : (w : Made) → (w.book ≡ reopened before) ⊎ (w.book ≡ reopened after) → (m : Moves view shelf j0 j1 w) → (j2 : Journal D) → CountsNow (view_of view j1) → making_of view shelf j1 ≡ book_of texts shelf (bodies_now j0.format shelf (bodies_in view j0))
      → (bare_bodies fed (making_of view shelf j1) ≡ [] → IsQuiet (view_of view j1) (view_of view j2)) → LeavesOnly (view old) (view_of view j2) Q
  opening_bare w one m j2 counts_then is quiet =
      let q = quiet_made view fed shelf j1 j2 quiet m.anew (ap made_in is ∙ m.makes) in
      leaves_then (view old) (view_of view j1) (view_of view j2) Q (moving_bare w one m)
      (leaves_map (view_of view j1) (view_of view j2) (view_of view j1).images Q
      (λ image left. to_held w one m image (m.run.each image (counts_then (view_of view j0).moment image m.run.later left))) q.moments)

  -- whatever its format was
  pub all_bare : (j2 : Journal D) → (j0.format ≡ newest → StaysThroughout texts shelf (view old) (view_of view j2)) → ((j0.format ≡ newest → ⊥) → LeavesOnly (view old) (view_of view j2) Q) → LeavesOnly (view old) (view_of view j2) Q
  all_bare j2 newer older = by_test (j0.format == newest) refl
    where
      by_test : (t : Bool) → (j0.format == newest) ≡ t → LeavesOnly (view old) (view_of view j2) Q
      by_test true is = leaves_map (view old) (view_of view j2) (Held k) Q (λ image h. inl h) (newer (grind (arith, nat_tests, is)) before after k held)
      by_test false is = older (λ e. let no : (j0.format == newest) ≡ true = grind (arith, nat_tests, e) in let never : true ≡ false = sym no ∙ is in cc never)
