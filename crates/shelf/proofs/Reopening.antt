-- A shelf is opened without a setup.
use Rattle.std.proofs.Common.{◌≡◌, ◌≢◌, ◌⊎◌, inl, inr, ⊎_elim, ◌∙◌, ap, sym, subst, refl, ℕ, ◌+◌, Bool, true, false, List, [], ◌∷◌, ◌++◌, Option, Some, None, Result, Ok, Err, IsTrue, arith}
use Rattle.book_recovery.specs.SetupReader.Texts.{setup_of_texts as texts}
use Rattle.script_nodes.specs.Views.{library_of}
use Rattle.script_nodes.specs.declared.library.Library as kept
use Rattle.web_disk.specs.View.{View, LeavesOnly}
use Rattle.page_journal.specs.Records.{newest, stored}
use Rattle.page_journal.specs.Holding.{IsClosed, MayHold}
use Rattle.page_journal.specs.Scanned.{IsQuiet}
use Rattle.page_journal.specs.Settled.{HasFailed, IsSettled, view_of, bodies_in, length_of}
use Rattle.page_journal.specs.declared.journal.Journal.{Journal}
use Rattle.page_journal.proofs.Mending.{leaves_map}
use Rattle.journal_records.specs.Records.{follows, body_of}
use Rattle.journal_records.specs.Laws.{AreRecordsExact}
use Rattle.book_recovery.specs.JournalSpec.Making.{Making, nothing, waits, waited, begun, made, damaged, other, made_in, start_by, book_of}
use Rattle.book_recovery.specs.JournalSpec.Old.{book_of_format, format_of_now}
use Rattle.book_recovery.specs.JournalSpec.Reading.{AreAllBytes}
use Rattle.book_recovery.specs.InstanceBook.declared.in_order.InOrder.{InOrder}
use Rattle.book_recovery.specs.InstanceBook.declared.book.Book.{Book as RustBook}
use Rattle.book_recovery.specs.declared.found.Found.{Found}
use Rattle.book_recovery.specs.declared.found.Found.TheVariants as found
use Rattle.book_recovery.specs.Found.{Finds, FindsBook, IsBookInOrder, IsFoundInOrder}
use Rattle.book_recovery.specs.Noting.{NotesFile, WhereMade}
use Rattle.book_recovery.specs.Reading.{Gives, IsBefore, seen_by}
use Rattle.book_recovery.proofs.JournalSpec.Standings.{OnlyNow}
use Rattle.file_copies.specs.OfFileNotes.declared.notes.FileNotes.{FileNotes}
use Rattle.shelf.specs.Fed.{IsWaiting, IsFedOf, follower_of}
use Rattle.shelf.specs.Files.{KnowsRead}
use Rattle.shelf.specs.Opening.{making_of, IsFollowerOf, IsDoneUnlessOutside, TellsSetup, Opens}
use Rattle.shelf.specs.Reopening.{opened_bare, bare_bodies, BeginsBare, BeginsNothing, IsBareReadFault, IsLawful, OpensParts}
use Rattle.shelf.specs.declared.begin.BeginFault.{BeginFault}
use Rattle.shelf.specs.declared.begin.BeginFault.TheVariants as fault
use Rattle.shelf.specs.declared.follower.Fed.TheVariants as fed
use Rattle.shelf.specs.declared.follower.Follower.{Follower}
use Rattle.shelf.proofs.Newest.{newest_images}
use Rattle.shelf.proofs.Openings.{quiet_leaves, none_read, not_nothing, found_makes, found_told}
use Rattle.shelf.proofs.Reading.{known_file, none_waits, noted_at}
use Rattle.shelf.proofs.Renewing.{opened_book_of, by_memory}
use Rattle.shelf.proofs.Waiting.{waiting_opens, waiting_known, GoesOnFed}

-- where it is not to follow, or there is a record, it goes on with what there is
pub plain_bare : (fed : Bool) (shelf : ℕ) (m : Making) → (fed ≡ true → m ≢ nothing) → (opened_bare fed shelf m ≡ m) × (bare_bodies fed m ≡ [])
plain_bare false shelf m some = (refl, refl)
plain_bare true shelf nothing some = absurd (some refl refl)
plain_bare true shelf (waits s) some = (refl, refl)
plain_bare true shelf waited some = (refl, refl)
plain_bare true shelf (begun m) some = (refl, refl)
plain_bare true shelf (made m) some = (refl, refl)
plain_bare true shelf (damaged p) some = (refl, refl)
plain_bare true shelf (other p) some = (refl, refl)

-- why there is no book is told as it was found
pub fault_found : (shelf n : ℕ) (follows_on tells : Bool) (y : Found) (known notes : FileNotes) (e : BeginFault) (m : Making) → IsFedOf shelf y known notes (Err e) → (IsTrue tells → Finds shelf n follows_on y m)
    → (IsTrue tells → IsBareReadFault m e) × (e ≡ fault.DiskFault → ⊥)
fault_found shelf n follows_on tells (found.Made b old) known notes e m h finds = absurd h
fault_found shelf n follows_on tells found.Nothing known notes e m h finds = absurd h
fault_found shelf n follows_on tells (found.Damaged p) known notes e m h finds =
    (λ told. subst (IsBareReadFault m) (sym h) (finds told), λ is. let no : fault.Damaged p ≡ fault.DiskFault = sym h ∙ is in cc no)
fault_found shelf n follows_on tells (found.Other p) known notes e m h finds =
    (λ told. subst (IsBareReadFault m) (sym h) (finds told), λ is. let no : fault.Other p ≡ fault.DiskFault = sym h ∙ is in cc no)
fault_found shelf n follows_on tells found.Memory known notes e m h finds =
    (λ told. subst (IsBareReadFault m) (sym h) tt, λ is. let no : fault.Memory ≡ fault.DiskFault = sym h ∙ is in cc no)

-- what the outside refuses is no fault of the records
outside_bare : {T : Type 0} (m : Making) (e : BeginFault) → IsDoneUnlessOutside {T = T} (Err e) → IsBareReadFault m e
outside_bare m e (inl h) = let is : e ≡ fault.DiskFault = cc h in subst (IsBareReadFault m) (sym is) tt
outside_bare m e (inr (inl h)) = let is : e ≡ fault.Memory = cc h in subst (IsBareReadFault m) (sym is) tt
outside_bare m e (inr (inr h)) = absurd (let no : ⊥ = cc h in no)

-- where a shelf that follows goes on, there is a record
pub some_found : (shelf n : ℕ) (y : Found) (known notes : FileNotes) (o : RustBook × kept.Library) (m : Making) → IsFedOf shelf y known notes (Ok o) → Finds shelf n true y m → m ≢ nothing
some_found shelf n (found.Made b old) known notes o m h finds = not_nothing m finds.whole finds.is
some_found shelf n found.Nothing known notes o m h finds = λ none. let no : nothing ≡ waits shelf = sym none ∙ finds in cc no
some_found shelf n (found.Damaged p) known notes o m h finds = absurd h
some_found shelf n (found.Other p) known notes o m h finds = absurd h
some_found shelf n found.Memory known notes o m h finds = absurd h

-- ---- a journal that was read

module _ {D : Type 0} (view : D → View) (tells : Bool) (fed : Bool) (shelf : ℕ) (j0 j1 : Journal D) (now_is : j0.format ≡ newest) (settled : IsTrue tells → IsSettled view j0) (quiet : IsQuiet (view_of view j0) (view_of view j1)) where
  bodies_same : bodies_in view j1 ≡ bodies_in view j0
  bodies_same = ap stored quiet.seen

  making_same : making_of view shelf j1 ≡ making_of view shelf j0
  making_same = ap (book_of texts shelf) bodies_same

  -- one without a record holds none, or one in flight
  holds_none : IsTrue tells → (body : List ℕ) → bodies_in view j0 ≡ [] → (image : List ℕ) → (view_of view j0).images image → MayHold newest [] body image
  holds_none told body none image left = inl (subst (λ (bs : List (List ℕ)). IsClosed newest bs image) none (newest_images view j0 (settled told) now_is image left))

  quiet_moments : IsTrue tells → bodies_in view j0 ≡ [] → LeavesOnly (view_of view j0) (view_of view j1) (MayHold newest [] (body_of follows))
  quiet_moments told none = leaves_map (view_of view j0) (view_of view j1) (view_of view j0).images (MayHold newest [] (body_of follows)) (holds_none told (body_of follows) none) quiet.moments

  -- it is told why there is no book
  pub bare_refused : (f : Option Follower) (notes : FileNotes) (e : BeginFault) → (IsTrue tells → IsBareReadFault (making_of view shelf j0) e) → (e ≡ fault.DiskFault → HasFailed (view_of view j0) (view_of view j1))
      → OpensParts view tells fed shelf j0 j1 f notes (Err e)
  bare_refused f notes e why cause = record {
    opened = tt;
    settled = λ told. tt;
    makes = λ told. tt;
    quiet = λ told none. quiet;
    moments = λ told none. quiet_moments told none;
    refused = why;
    keeps = λ told no. inl (refl, (quiet.seen, quiet.images));
    cause = λ h. cause (let is : e ≡ fault.DiskFault = cc h in is);
    later = quiet.faults;
  }

  -- or it goes on with what there is
  pub bare_opened : (f : Option Follower) (notes : FileNotes) (o : RustBook × kept.Library) → (IsTrue tells → IsSettled view j1) → (IsTrue tells → fed ≡ true → making_of view shelf j0 ≢ nothing)
      → BeginsBare view tells fed shelf j0 j1 f notes o ⊎ BeginsNothing view tells shelf j1 f → OpensParts view tells fed shelf j0 j1 f notes (Ok o)
  bare_opened f notes o ends some is = record {
    opened = is;
    settled = λ told. ends told;
    makes = λ told. making_same ∙ sym (plain_bare fed shelf (making_of view shelf j0) (some told)).0;
    quiet = λ told none. quiet;
    moments = λ told none. quiet_moments told none;
    refused = λ told. tt;
    keeps = λ told no. inl ((plain_bare fed shelf (making_of view shelf j0) (some told)).1, (quiet.seen, quiet.images));
    cause = λ h. absurd (let no : ⊥ = cc h in no);
    later = quiet.faults;
  }

  -- ---- whatever was found

  module _ (format : j1.format ≡ j0.format) (ends : IsTrue tells → IsSettled view j1) (len : length_of j1 ≡ length_of j0) (known notes : FileNotes) where
    -- what holds of what was read holds of what is there
    pub moved_here : (P : ℕ → Making → Type 0) → P (length_of j0) (book_of_format j0.format texts shelf (bodies_in view j0)) → P (length_of j1) (making_of view shelf j1)
    moved_here P h =
        let now : book_of_format j0.format texts shelf (bodies_in view j0) ≡ making_of view shelf j0 = ap (λ (k : ℕ). book_of_format k texts shelf (bodies_in view j0)) now_is ∙ format_of_now texts shelf (bodies_in view j0) in
        subst (λ (n : ℕ). P n (making_of view shelf j1)) (sym len) (subst (P (length_of j0)) (now ∙ sym making_same) h)

    -- of a shelf that does not follow
    begins_leading : (b : RustBook) (old : kept.Library) → (IsTrue tells → FindsBook shelf (length_of j1) false b (library_of old) (making_of view shelf j1)) → IsBookInOrder shelf b (library_of old)
        → (IsTrue tells → NotesFile newest shelf (bodies_in view j1) known (making_of view shelf j1)) → notes ≡ known → BeginsBare view tells fed shelf j0 j1 None notes (b, old)
    begins_leading b old finds order noted kept_so = record {
      makes = λ told. found_makes view shelf false j1 b (library_of old) (finds told);
      told = λ told. found_told view shelf false j1 b (library_of old) (finds told);
      in_order = opened_book_of shelf false b (library_of old) order;
      follows_on = tt;
      known = λ told. subst (KnowsRead view shelf j1) (sym kept_so) (known_file view shelf j1 known b (library_of old) (finds told) (none_waits view shelf j1 b (library_of old) (finds told)) (noted told));
    }

    by_fault : (y : Found) (e : BeginFault) → IsFedOf shelf y known notes (Err e) → (IsTrue tells → Finds shelf (length_of j1) false y (making_of view shelf j1)) → OpensParts view tells fed shelf j0 j1 None notes (Err e)
    by_fault y e h finds =
        let why = fault_found shelf (length_of j1) false tells y known notes e (making_of view shelf j1) h finds in
        bare_refused None notes e (λ told. subst (λ (m : Making). IsBareReadFault m e) making_same (why.0 told)) (λ is. absurd (why.1 is))

    leads_found : (y : Found) (r : Result (RustBook × kept.Library) BeginFault) → IsFedOf shelf y known notes r → (IsTrue tells → Finds shelf (length_of j1) false y (making_of view shelf j1)) → IsFoundInOrder shelf y
        → (IsTrue tells → WhereMade y (NotesFile newest shelf (bodies_in view j1) known (making_of view shelf j1))) → (IsTrue tells → y ≡ found.Nothing → fed ≡ true → making_of view shelf j0 ≢ nothing) → OpensParts view tells fed shelf j0 j1 None notes r
    leads_found (found.Made b old) (Ok o) h finds order noted some =
        bare_opened None notes o ends (λ told to. not_nothing (making_of view shelf j0) (finds told).whole (sym (ap made_in making_same) ∙ (finds told).is))
        (inl (subst (BeginsBare view tells fed shelf j0 j1 None notes) (sym h.0) (begins_leading b old finds order noted h.1)))
    leads_found (found.Made b old) (Err e) h finds order noted some = absurd h
    leads_found found.Nothing (Ok o) h finds order noted some =
        bare_opened None notes o ends (λ told to. some told refl to)
        (inr (record {
          leads = refl;
          none = λ told. ⊎_elim (λ (is : making_of view shelf j1 ≡ nothing). ap made_in is) (λ (is : making_of view shelf j1 ≡ waited). ap made_in is) (finds told);
          lawful = λ told. ⊎_elim (λ (is : making_of view shelf j1 ≡ nothing). subst IsLawful (sym is) tt) (λ (is : making_of view shelf j1 ≡ waited). subst IsLawful (sym is) tt) (finds told);
        }))
    leads_found found.Nothing (Err e) h finds order noted some = absurd h
    leads_found (found.Damaged p) (Ok o) h finds order noted some = absurd h
    leads_found (found.Damaged p) (Err e) h finds order noted some = by_fault (found.Damaged p) e h finds
    leads_found (found.Other p) (Ok o) h finds order noted some = absurd h
    leads_found (found.Other p) (Err e) h finds order noted some = by_fault (found.Other p) e h finds
    leads_found found.Memory (Ok o) h finds order noted some = absurd h
    leads_found found.Memory (Err e) h finds order noted some = by_fault found.Memory e h finds

    pub leads_on : (y : Found) (leads : Bool) (f : Option Follower) (r : Result (RustBook × kept.Library) BeginFault) → leads ≡ false → f ≡ None → IsFedOf shelf y known notes r
        → (IsTrue tells → Finds shelf (length_of j0) leads y (book_of_format j0.format texts shelf (bodies_in view j0))) → IsFoundInOrder shelf y
        → (IsTrue tells → WhereMade y (NotesFile j0.format shelf (bodies_in view j0) known (book_of_format j0.format texts shelf (bodies_in view j0)))) → (IsTrue tells → y ≡ found.Nothing → fed ≡ true → making_of view shelf j0 ≢ nothing)
        → OpensParts view tells fed shelf j0 j1 f notes r
    leads_on y leads f r leads_so none is finds order noted some =
        subst (λ (g : Option Follower). OpensParts view tells fed shelf j0 j1 g notes r) (sym none)
        (leads_found y r is
        (λ told. subst (λ (t : Bool). Finds shelf (length_of j1) t y (making_of view shelf j1)) leads_so (moved_here (λ n m. Finds shelf n leads y m) (finds told))) order
        (λ told. subst (λ (bs : List (List ℕ)). WhereMade y (NotesFile newest shelf bs known (book_of texts shelf bs))) (sym bodies_same) (noted_at view shelf j0 known y now_is (noted told))) some)

    -- of one that follows
    module _ (only_now : OnlyNow (view_of view j1)) (x : AreRecordsExact) (alone : Bool) (seen : InOrder (Unit {0})) (now1 : j1.format ≡ newest) where
      pub follows_found : (y : Found) (r : Result (RustBook × kept.Library) BeginFault) → IsFedOf shelf y known notes r → (IsTrue tells → Finds shelf (length_of j1) true y (making_of view shelf j1))
          → GoesOnFed view tells [] shelf j1 now1 ends only_now x alone seen known notes y r → OpensParts view tells fed shelf j0 j1 (Some (follower_of y alone seen)) notes r
      follows_found y (Ok o) is finds g =
          bare_opened (Some (follower_of y alone seen)) notes o ends
          (λ told to. subst (λ (m : Making). m ≢ nothing) making_same (some_found shelf (length_of j1) y known notes o (making_of view shelf j1) is (finds told)))
          (inl (record {
            makes = λ told. let holds = (g.opened.fit told).holds refl in (holds.earlier, holds.makes);
            told = g.opened.told;
            in_order = g.opened.in_order;
            follows_on = g.follows;
            known = g.knows;
          }))
      follows_found y (Err e) is finds g =
          let why = fault_found shelf (length_of j1) true tells y known notes e (making_of view shelf j1) is finds in
          bare_refused (Some (follower_of y alone seen)) notes e (λ told. subst (λ (m : Making). IsBareReadFault m e) making_same (why.0 told)) (λ no. absurd (why.1 no))

-- ---- a journal without records is told that the shelf follows

module _ {D : Type 0} (view : D → View) (tells : Bool) (shelf : ℕ) (j0 j1 j2 : Journal D) (now_is : j0.format ≡ newest) (settled : IsTrue tells → IsSettled view j0) (quiet : IsQuiet (view_of view j0) (view_of view j1)) (none : IsTrue tells → making_of view shelf j0 ≡ nothing) where
  abbrev f : List ℕ
  f = body_of follows

  none_there : IsTrue tells → bodies_in view j1 ≡ []
  none_there told = ap stored quiet.seen ∙ none_read shelf (bodies_in view j0) (none told)

  role_moments : {T : Type 0} (r : Result T BeginFault) → TellsSetup view tells j1 j2 f r → IsTrue tells → bodies_in view j0 ≡ [] → LeavesOnly (view_of view j0) (view_of view j2) (MayHold newest [] f)
  role_moments r t told none_so =
      quiet_leaves (view_of view j0) (view_of view j1) (view_of view j2) (MayHold newest [] f) quiet
      (λ image left. inl (subst (λ (bs : List (List ℕ)). IsClosed newest bs image) none_so (newest_images view j0 (settled told) now_is image left)))
      (subst (λ (bs : List (List ℕ)). LeavesOnly (view_of view j1) (view_of view j2) (MayHold newest bs f)) (none_there told) (t.moments told))

  adds_role : IsTrue tells → bare_bodies true (making_of view shelf j0) ≡ f ∷ []
  adds_role told = ap (bare_bodies true) (none told)

  -- it could not be
  pub role_refused : {T : Type 0} (fol : Option Follower) (notes : FileNotes) (e : BeginFault) → TellsSetup {T = T} view tells j1 j2 f (Err e) → OpensParts view tells true shelf j0 j2 fol notes (Err e)
  role_refused {T} fol notes e t = record {
    opened = tt;
    settled = λ told. tt;
    makes = λ told. tt;
    quiet = λ told plain. absurd (let no : [] ≡ f ∷ [] = sym plain ∙ adds_role told in cc no);
    moments = λ told none_so. role_moments {T = T} (Err e) t told none_so;
    refused = λ told. outside_bare {T = T} (making_of view shelf j0) e t.refused;
    keeps = λ told no.
        let untouched = t.untouched (by_memory {T = T} e t.refused (λ is. no (λ i. Err (is i)))) in
        inl (refl, (untouched.0 ∙ quiet.seen, λ image left. quiet.images image (untouched.1 image left)));
    cause = λ h. let is : e ≡ fault.DiskFault = cc h in let failed = t.cause (λ i. Err (is i)) in omega (arith, failed, quiet.faults);
    later = omega (arith, t.later, quiet.faults);
  }

  -- it was
  pub role_opened : {T : Type 0} (u : T) (t : TellsSetup view tells j1 j2 f (Ok u)) (now2 : j2.format ≡ newest) (only_now : OnlyNow (view_of view j2)) (x : AreRecordsExact) (bare : length_of j1 ≡ 9) (seen : InOrder (Unit {0})) (unseen : seen_by seen ≡ [])
      (b : RustBook) (old : kept.Library) (notes : FileNotes) (w : IsWaiting shelf notes (b, old)) → OpensParts view tells true shelf j0 j2 (Some (record { seen = seen; fed = fed.Waits; fallen = None })) notes (Ok (b, old))
  role_opened u t now2 only_now x bare seen unseen b old notes w = record {
    opened = inl (record {
      makes = λ told. let holds = (opens.fit told).holds refl in (holds.earlier, holds.makes);
      told = opens.told;
      in_order = opens.in_order;
      follows_on = follower;
      known = λ told. waiting_known view tells [] shelf j2 now2 ends only_now x b old notes w before told notes (noted told);
    });
    settled = ends;
    makes = λ told. (before told).0 ∙ sym (ap (opened_bare true shelf) (none told));
    quiet = λ told plain. absurd (let no : [] ≡ f ∷ [] = sym plain ∙ adds_role told in cc no);
    moments = λ told none_so. role_moments (Ok u) t told none_so;
    refused = λ told. tt;
    keeps = λ told no. inr (ends told, (t.added told).1 ∙ (ap (λ (bs : List (List ℕ)). bs ++ f ∷ []) (ap stored quiet.seen) ∙ ap (λ (bs : List (List ℕ)). bodies_in view j0 ++ bs) (sym (adds_role told))));
    cause = λ h. absurd (let no : ⊥ = cc h in no);
    later = omega (arith, t.later, quiet.faults);
  }
    where
      ends : IsTrue tells → IsSettled view j2
      ends told = (t.added told).0

      waits_alone : book_of texts shelf (f ∷ []) ≡ waits shelf
      waits_alone = ap (start_by texts shelf 8 1) (x.back follows tt)

      bodies_are : IsTrue tells → bodies_in view j2 ≡ f ∷ []
      bodies_are told = (t.added told).1 ∙ ap (λ (bs : List (List ℕ)). bs ++ f ∷ []) (none_there told)

      before : IsTrue tells → (making_of view shelf j2 ≡ waits shelf) × (length_of j2 ≡ 15)
      before told = (ap (book_of texts shelf) (bodies_are told) ∙ waits_alone, let long = t.len in omega (arith, long, bare))

      opens : Opens view tells [] shelf true j2 j2 (Ok (b, old))
      opens = waiting_opens view tells [] shelf j2 now2 ends only_now x b old notes w before

      bytes : AreAllBytes (f ∷ [])
      bytes = (t.bytes, tt)

      noted : IsTrue tells → NotesFile newest shelf (bodies_in view j2) notes (making_of view shelf j2)
      noted told =
          let alone : NotesFile newest shelf (f ∷ []) notes (waits shelf) = record { file = w.marks; marks = w.marks; bytes = bytes } in
          subst (λ (bs : List (List ℕ)). NotesFile newest shelf bs notes (making_of view shelf j2)) (sym (bodies_are told)) (subst (NotesFile newest shelf (f ∷ []) notes) (sym (before told).0) alone)

      follower : IsFollowerOf view tells shelf j2 (b, old) (record { seen = seen; fed = fed.Waits; fallen = None })
      follower = record {
        standing = refl;
        fed = unseen;
        made = record { bodies = f ∷ []; bytes = bytes; at = (waits_alone, refl) };
        told = λ told. (before told).0;
      }

  -- whatever goes on after it
  pub role_done : {T : Type 0} (u : T) (t : TellsSetup view tells j1 j2 f (Ok u)) (now2 : j2.format ≡ newest) (only_now : OnlyNow (view_of view j2)) (x : AreRecordsExact) (bare : length_of j1 ≡ 9) (seen : InOrder (Unit {0})) (unseen : seen_by seen ≡ [])
      (known notes : FileNotes) (r : Result (RustBook × kept.Library) BeginFault) → IsFedOf shelf found.Nothing known notes r → OpensParts view tells true shelf j0 j2 (Some (record { seen = seen; fed = fed.Waits; fallen = None })) notes r
  role_done u t now2 only_now x bare seen unseen known notes (Ok o) is = role_opened u t now2 only_now x bare seen unseen o.0 o.1 notes is
  role_done u t now2 only_now x bare seen unseen known notes (Err e) is = absurd is

-- ---- how long a journal is of which no book was found, on a shelf that does not follow

before_is : (shelf n : ℕ) (follows_on alone : Bool) (y : Found) (seen : InOrder (Unit {0})) (m : Making) → y ≡ found.Nothing → follows_on ≡ false → Gives shelf n follows_on alone y seen m → IsBefore false shelf n m
before_is shelf n follows_on alone y seen m is leads gives =
    (subst (λ (t : Bool). Gives shelf n t alone found.Nothing seen m) leads (subst (λ (z : Found). Gives shelf n follows_on alone z seen m) is gives)).before

pub no_record : (shelf n : ℕ) (follows_on alone : Bool) (y : Found) (seen : InOrder (Unit {0})) (m : Making) → y ≡ found.Nothing → follows_on ≡ false → n ≡ 9 → Gives shelf n follows_on alone y seen m → m ≡ nothing
no_record shelf n follows_on alone y seen m is leads short gives =
    ⊎_elim (λ (h : (m ≡ nothing) × (n ≡ 9)). h.0) (λ (h : (m ≡ waited) × (n ≡ 21)). absurd (let long = h.1 in let no : ⊥ = omega (arith, long, short) in no)) (before_is shelf n follows_on alone y seen m is leads gives)

pub long_without : (shelf n : ℕ) (follows_on alone : Bool) (y : Found) (seen : InOrder (Unit {0})) (m : Making) → y ≡ found.Nothing → follows_on ≡ false → m ≡ nothing → Gives shelf n follows_on alone y seen m → n ≡ 9
long_without shelf n follows_on alone y seen m is leads none gives =
    ⊎_elim (λ (h : (m ≡ nothing) × (n ≡ 9)). h.1) (λ (h : (m ≡ waited) × (n ≡ 21)). absurd (let no : nothing ≡ waited = sym none ∙ h.0 in cc no)) (before_is shelf n follows_on alone y seen m is leads gives)
