-- What an opening goes on with on the bytes of a disk.
use Rattle.std.proofs.Common.{◌≡◌, ◌≢◌, inl, inr, length, None, ◌∙◌, ap, sym, subst, refl, ℕ, ◌==◌, Bool, true, false, List, [], ◌∷◌, if◌then◌else◌, arith}
use Rattle.book_recovery.specs.SetupReader.Texts.{setup_of_texts as texts}
use Rattle.web_disk.specs.View.{View}
use Rattle.page_journal.specs.Records.{newest, format_of, at_rest, stored}
use Rattle.page_journal.specs.Opened.{TellsFormat, IsIntactOrEmpty}
use Rattle.page_journal.specs.Settled.{bodies_in}
use Rattle.page_journal.specs.declared.journal.Journal.{Journal}
use Rattle.script_nodes.specs.Setup.{Named}
use Rattle.book_recovery.specs.JournalSpec.Making.{Making, nothing, damaged, other, made_in}
use Rattle.shelf.specs.Faults.{IsReadFaultOf, IsTooLong}
use Rattle.shelf.specs.declared.begin.BeginFault.{BeginFault}
use Rattle.shelf.specs.declared.begin.BeginFault.TheVariants as fault
use Rattle.shelf.specs.Migrating.{bodies_now, making_now, HasMigrated, IsMigrationFault, IsTooLongAnew}
use Rattle.book_recovery.specs.JournalSpec.Bytes.{book_in_bytes}
use Rattle.book_recovery.specs.JournalSpec.Old.{book_of_format, format_of_now}
use Rattle.shelf.specs.Opening.{making_of, making_on, making_after, now_in_bytes, bodies_after, IsFaultOf, HasRoomFor, IsOfNow}
use Rattle.shelf.proofs.Openings.{now_in, read_in_bytes}
use Rattle.shelf.proofs.Opened.{making_newest}

-- of no bodies nothing is made, in any format
none_now : (f shelf : ℕ) → bodies_now f shelf [] ≡ []
none_now f shelf = by_test (f == newest)
  where
    by_test : (t : Bool) → (if t then (let none : List (List ℕ) = [] in none) else []) ≡ []
    by_test true = refl
    by_test false = refl

none_making : (f shelf : ℕ) → making_now f shelf [] ≡ nothing
none_making f shelf = refl

module _ {D : Type 0} (view : D → View) (shelf : ℕ) (v : View) (j0 j1 : Journal D) (intact : IsIntactOrEmpty v) (reads : bodies_in view j0 ≡ stored v.seen) (tells : TellsFormat v.seen j0.format) (moved : HasMigrated view shelf j0 j1) where
  -- of any bytes
  by_bytes : (P : ℕ → List (List ℕ) → Type 0) → ((bytes : List ℕ) → v.seen ≡ bytes → bytes ≡ [] → P j0.format [] → P (format_of v.seen) []) → P j0.format (bodies_in view j0) → P (format_of v.seen) (stored v.seen)
  by_bytes P empty h = at v.seen refl
    where
      at : (bytes : List ℕ) → v.seen ≡ bytes → P (format_of v.seen) (stored v.seen)
      at [] none =
          let none_stored : stored v.seen ≡ [] = ap stored none in
          subst (P (format_of v.seen)) (sym none_stored) (empty [] none refl (subst (P j0.format) (reads ∙ none_stored) h))
      at (b ∷ bytes) some =
          let known : j0.format ≡ format_of v.seen = tells (λ e. let no : b ∷ bytes ≡ [] = sym some ∙ e in cc no) in
          subst (λ (f : ℕ). P f (stored v.seen)) known (subst (P j0.format) reads h)

  pub bodies_there : bodies_in view j1 ≡ bodies_after shelf v.seen
  bodies_there =
      by_bytes (λ f bs. bodies_in view j1 ≡ bodies_now f shelf bs) (λ bytes is none h. h ∙ (none_now j0.format shelf ∙ sym (none_now (format_of v.seen) shelf))) moved.bodies

  -- the journal has room for them
  pub fits_there : HasRoomFor shelf v.seen
  fits_there =
      let there = moved.settled in
      let same = ap (λ (bs : List (List ℕ)). length (at_rest bs)) bodies_there in
      omega (arith, there.end, there.fits, same)

  pub making_there : making_after shelf v ≡ making_of view shelf j1
  making_there =
      now_in shelf v.seen intact
      ∙ sym (by_bytes (λ f bs. making_of view shelf j1 ≡ making_now f shelf bs) (λ bytes is none h. h ∙ (none_making j0.format shelf ∙ sym (none_making (format_of v.seen) shelf))) moved.makes)

  -- what makes no book there made none of the bytes
  pub fault_there : (x : Making) → made_in x ≡ None → making_of view shelf j1 ≡ x → making_on shelf v ≡ x
  fault_there x none is =
      read_in_bytes shelf v.seen intact
      ∙ by_bytes (λ f bs. book_of_format f texts shelf bs ≡ x) (λ bytes some bare h. h) (moved.faults x none is)

-- so a fault that an opening of the journal tells is one of the bytes
pub refused_there : {D : Type 0} (view : D → View) (scripts : List Named) (shelf : ℕ) (v : View) (j0 j1 : Journal D) → IsIntactOrEmpty v → bodies_in view j0 ≡ stored v.seen → TellsFormat v.seen j0.format → HasMigrated view shelf j0 j1
    → (e : BeginFault) → IsReadFaultOf scripts shelf (making_of view shelf j1) e → IsFaultOf scripts shelf v e
refused_there view scripts shelf v j0 j1 intact reads tells moved (fault.Damaged p) is = fault_there view shelf v j0 j1 intact reads tells moved (damaged p) refl is
refused_there view scripts shelf v j0 j1 intact reads tells moved (fault.Other p) is = fault_there view shelf v j0 j1 intact reads tells moved (other p) refl is
refused_there view scripts shelf v j0 j1 intact reads tells moved (fault.Full n) is =
    inr (record {
      fits = fits_there view shelf v j0 j1 intact reads tells moved;
      setup = subst (λ (m : Making). IsTooLong scripts shelf m n) (sym (making_there view shelf v j0 j1 intact reads tells moved)) is;
    })
refused_there view scripts shelf v j0 j1 intact reads tells moved fault.DiskFault is = tt
refused_there view scripts shelf v j0 j1 intact reads tells moved fault.Memory is = tt

-- and so is one that is told where an older file does not give place
pub refused_moving : {D : Type 0} (view : D → View) (scripts : List Named) (shelf : ℕ) (v : View) (j0 : Journal D) → IsIntactOrEmpty v → bodies_in view j0 ≡ stored v.seen → TellsFormat v.seen j0.format
    → (e : BeginFault) → IsMigrationFault j0.format shelf (bodies_in view j0) e → IsFaultOf scripts shelf v e
refused_moving view scripts shelf v j0 intact reads tells e is = by_fault e is
  where
    -- as for the bytes of a journal that was opened
    at_bytes : (P : ℕ → List (List ℕ) → Type 0) → (P j0.format [] → P (format_of v.seen) []) → P j0.format (bodies_in view j0) → P (format_of v.seen) (stored v.seen)
    at_bytes P empty h = by_seen v.seen refl
      where
        by_seen : (bytes : List ℕ) → v.seen ≡ bytes → P (format_of v.seen) (stored v.seen)
        by_seen [] none =
            let bare : stored v.seen ≡ [] = ap stored none in
            subst (P (format_of v.seen)) (sym bare) (empty (subst (P j0.format) (reads ∙ bare) h))
        by_seen (b ∷ bytes) some =
            let known : j0.format ≡ format_of v.seen = tells (λ e. let no : b ∷ bytes ≡ [] = sym some ∙ e in cc no) in
            subst (λ (f : ℕ). P f (stored v.seen)) known (subst (P j0.format) reads h)

    by_fault : (x : BeginFault) → IsMigrationFault j0.format shelf (bodies_in view j0) x → IsFaultOf scripts shelf v x
    by_fault (fault.Damaged p) h = read_in_bytes shelf v.seen intact ∙ at_bytes (λ f bs. book_of_format f texts shelf bs ≡ damaged p) (λ g. g) h
    by_fault (fault.Other p) h = read_in_bytes shelf v.seen intact ∙ at_bytes (λ f bs. book_of_format f texts shelf bs ≡ other p) (λ g. g) h
    by_fault (fault.Full n) h =
        inl (at_bytes (λ f bs. IsTooLongAnew f shelf bs n)
        (λ g. record { is = g.is ∙ ap (λ (bs : List (List ℕ)). length (at_rest bs)) (none_now j0.format shelf ∙ sym (none_now (format_of v.seen) shelf)); long = g.long }) h)
    by_fault fault.DiskFault h = tt
    by_fault fault.Memory h = tt

-- what is read of bytes of the newest format is gone on with
pub on_now : (shelf : ℕ) (v : View) → IsIntactOrEmpty v → IsOfNow v → making_after shelf v ≡ making_on shelf v
on_now shelf v intact now = by_seen v.seen refl
  where
    by_seen : (bytes : List ℕ) → v.seen ≡ bytes → making_after shelf v ≡ making_on shelf v
    by_seen [] none = ap (now_in_bytes shelf) none ∙ sym (ap (book_in_bytes texts shelf) none)
    by_seen (b ∷ bytes) some =
        let known : newest ≡ format_of v.seen = now (λ e. let no : b ∷ bytes ≡ [] = sym some ∙ e in cc no) in
        now_in shelf v.seen intact
        ∙ (ap (λ (f : ℕ). making_now f shelf (stored v.seen)) (sym known)
        ∙ (making_newest shelf (stored v.seen)
        ∙ (sym (format_of_now texts shelf (stored v.seen))
        ∙ (ap (λ (f : ℕ). book_of_format f texts shelf (stored v.seen)) known ∙ sym (read_in_bytes shelf v.seen intact)))))

-- the journal that is opened on them is of the newest format
pub first_now : {D : Type 0} (v : View) (j : Journal D) → IsOfNow v → TellsFormat v.seen j.format → (v.seen ≡ [] → j.format ≡ newest) → j.format ≡ newest
first_now v j now tells fresh = by_seen v.seen refl
  where
    by_seen : (bytes : List ℕ) → v.seen ≡ bytes → j.format ≡ newest
    by_seen [] none = fresh none
    by_seen (b ∷ bytes) some =
        let is_some : v.seen ≢ [] = λ e. let no : b ∷ bytes ≡ [] = sym some ∙ e in cc no in
        tells is_some ∙ sym (now is_some)

-- what the bytes make is what the records of the journal make that is opened on them
pub bytes_make : {D : Type 0} (view : D → View) (shelf : ℕ) (v : View) (j0 : Journal D) → IsIntactOrEmpty v → bodies_in view j0 ≡ stored v.seen → TellsFormat v.seen j0.format
    → book_in_bytes texts shelf v.seen ≡ book_of_format j0.format texts shelf (bodies_in view j0)
bytes_make view shelf v j0 intact reads tells = read_in_bytes shelf v.seen intact ∙ by_seen v.seen refl
  where
    by_seen : (bytes : List ℕ) → v.seen ≡ bytes → book_of_format (format_of v.seen) texts shelf (stored v.seen) ≡ book_of_format j0.format texts shelf (bodies_in view j0)
    by_seen [] none =
        let bare : stored v.seen ≡ [] = ap stored none in
        ap (book_of_format (format_of v.seen) texts shelf) bare ∙ sym (ap (book_of_format j0.format texts shelf) (reads ∙ bare))
    by_seen (b ∷ bytes) some =
        let known : j0.format ≡ format_of v.seen = tells (λ e. let no : b ∷ bytes ≡ [] = sym some ∙ e in cc no) in
        ap (λ (f : ℕ). book_of_format f texts shelf (stored v.seen)) (sym known) ∙ ap (book_of_format j0.format texts shelf) (sym reads)
