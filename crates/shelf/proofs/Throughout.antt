-- What a crash leaves at each moment of an opening, of a file of any format.
use Rattle.std.proofs.Common.{◌≡◌, ◌≢◌, ◌⊎◌, inl, inr, ⊎_elim, ◌∙◌, ap, sym, subst, refl, ℕ, ◌==◌, Bool, true, false, List, Some, None, arith}
use Rattle.book_recovery.specs.SetupReader.Texts.{setup_of_texts as texts}
use Rattle.script_nodes.specs.Setup.{Named}
use Rattle.web_disk.specs.View.{View, LeavesOnly}
use Rattle.page_journal.proofs.Mending.{leaves_then, leaves_map}
use Rattle.replay_spec.specs.Book.{Book, reopened}
use Rattle.book_recovery.specs.JournalSpec.Standing.{Between, Held, HoldIn, HeldOpened, HoldsOpening, StaysThroughout, OpensThroughout}
use Rattle.book_recovery.proofs.JournalSpec.Between.{stand_alike}
use Rattle.book_recovery.proofs.JournalSpec.Standings.{carried, CountsNow}
use Rattle.std.proofs.lemmas.Option.{same_Some}
use Rattle.std.proofs.lemmas.Bool.Decides.{nat_tests}
use Rattle.page_journal.specs.Records.{newest}
use Rattle.page_journal.specs.Scanned.{IsQuiet}
use Rattle.page_journal.specs.Settled.{view_of, bodies_in}
use Rattle.page_journal.specs.declared.journal.Journal.{Journal}
use Rattle.book_recovery.specs.JournalSpec.Before.{Made, made_of}
use Rattle.book_recovery.specs.JournalSpec.Making.{made_in, book_of}
use Rattle.book_recovery.specs.JournalSpec.Old.{book_of_format}
use Rattle.book_recovery.specs.JournalSpec.Bytes.{book_in_bytes}
use Rattle.book_recovery.specs.JournalSpec.Opening.{opened_book}
use Rattle.book_recovery.specs.JournalSpec.Standing.{MakesIn}
use Rattle.book_recovery.specs.JournalSpec.Disks.{RecoveriesFindOne}
use Rattle.book_recovery.proofs.JournalSpec.Between.{make_books}
use Rattle.shelf.specs.Migrating.{bodies_now, Moves}
use Rattle.shelf.specs.Opening.{making_of, IsRenewedAs, HoldsAnew, IsReadOrRenewed, Renews}

-- what is left of an opening of two books
abbrev pub HeldAnew : {before after : Book} (shelf : ℕ) (scripts : List Named) → Between texts shelf before after → List ℕ → Type 0
HeldAnew {before} {after} shelf scripts k bytes = HeldOpened k scripts bytes ⊎ (HoldsAnew shelf scripts before bytes ⊎ HoldsAnew shelf scripts after bytes)

-- a recovery alone
pub recovery_leaves : (shelf : ℕ) (scripts : List Named) (old new : View) → StaysThroughout texts shelf old new → (before after : Book) (k : Between texts shelf before after) → HoldIn k old.images → LeavesOnly old new (HeldAnew shelf scripts k)
recovery_leaves shelf scripts old new stays before after k held = leaves_map old new (Held k) (HeldAnew shelf scripts k) (λ image h. inl (inl h)) (stays before after k held)

-- a file that gives place, and what is opened after it
module _ (shelf : ℕ) (scripts : List Named) (found anew : Book) (renewed : IsRenewedAs found anew) where
  -- of the book that was found, as after a crash
  module _ (b : Book) (same : found ≡ reopened b) where
    as_renewed : IsRenewedAs (reopened b) anew
    as_renewed = subst (λ (y : Book). IsRenewedAs y anew) same renewed

    while_moving : (l : Between texts shelf found anew) (image : List ℕ) → Held l image → HoldsAnew shelf scripts b image
    while_moving l image held =
        let m = (stand_alike texts shelf).1 found anew b anew (ap reopened same) refl l in
        (anew, (as_renewed, inl (m.0, carried l.format l.bodies l.flight m.0 m.1 image held)))

    while_opening : (image : List ℕ) → HoldsOpening texts shelf scripts anew image → HoldsAnew shelf scripts b image
    while_opening image holds = (anew, (as_renewed, inr holds))

-- ---- an opening of a journal of an older format

module _ {D : Type 0} (view : D → View) (scripts : List Named) (shelf : ℕ) (old : D) (j0 j1 : Journal D) (recoveries : RecoveriesFindOne view) (reads : (view old).images (view old).seen) (same : book_in_bytes texts shelf (view old).seen ≡ book_of_format j0.format texts shelf (bodies_in view j0))
    (first : StaysThroughout texts shelf (view old) (view_of view j0)) (counts : CountsNow (view_of view j0)) where
  -- where the disk stood between two books, one of them was found
  pub found_there : (before after : Book) (k : Between texts shelf before after) → HoldIn k (view old).images
      → (w : Made) × ((made_in (book_of_format j0.format texts shelf (bodies_in view j0)) ≡ Some w) × ((w.book ≡ reopened before) ⊎ (w.book ≡ reopened after)))
  found_there before after k held = ⊎_elim
      (λ (h : MakesIn texts shelf (view old).seen before). by_made (made_of before h.0) h.1)
      (λ (h : MakesIn texts shelf (view old).seen after). by_made (made_of after h.0) h.1)
      (make_books texts shelf before after k (view old).seen (held (view old).seen reads))
    where
      by_made : (w : Made) → made_in (book_in_bytes texts shelf (view old).seen) ≡ Some w → (w : Made) × ((made_in (book_of_format j0.format texts shelf (bodies_in view j0)) ≡ Some w) × ((w.book ≡ reopened before) ⊎ (w.book ≡ reopened after)))
      by_made w is = (w, (sym (ap made_in same) ∙ is, (recoveries texts shelf old w).0 is before after k held))

  renewed_of : (w : Made) (m : Moves view shelf j0 j1 w) → IsRenewedAs w.book m.anew.book
  renewed_of w m = record {
    book = m.renewed.book;
    first = m.renewed.first;
    drawn = m.renewed.drawn;
  }

  module _ (before after : Book) (k : Between texts shelf before after) (held : HoldIn k (view old).images) where
    abbrev P : List ℕ → Type 0
    P = HeldAnew shelf scripts k

    begun : LeavesOnly (view old) (view_of view j0) P
    begun = recovery_leaves shelf scripts (view old) (view_of view j0) first before after k held

    -- what the file that gives place leaves
    to_held : (w : Made) → (w.book ≡ reopened before) ⊎ (w.book ≡ reopened after) → (anew : Book) → IsRenewedAs w.book anew → (l : Between texts shelf w.book anew) (image : List ℕ) → Held l image → P image
    to_held w one anew renewed l image h = ⊎_elim
        (λ is. inr (inl (while_moving shelf scripts w.book anew renewed before is l image h)))
        (λ is. inr (inr (while_moving shelf scripts w.book anew renewed after is l image h)))
        one

    to_opened : (w : Made) → (w.book ≡ reopened before) ⊎ (w.book ≡ reopened after) → (anew : Book) → IsRenewedAs w.book anew → (image : List ℕ) → HoldsOpening texts shelf scripts anew image → P image
    to_opened w one anew renewed image h = ⊎_elim
        (λ is. inr (inl (while_opening shelf scripts w.book anew renewed before is image h)))
        (λ is. inr (inr (while_opening shelf scripts w.book anew renewed after is image h)))
        one

    -- nothing was written since
    now_held : (image : List ℕ) → (view_of view j0).images image → P image
    now_held image left = let run = first before after k held in inl (inl (run.each image (counts (view old).moment image run.later left)))

    pub still_held : LeavesOnly (view_of view j0) (view_of view j1) (view_of view j0).images → LeavesOnly (view old) (view_of view j1) P
    still_held run = leaves_then (view old) (view_of view j0) (view_of view j1) P begun (leaves_map (view_of view j0) (view_of view j1) (view_of view j0).images P now_held run)

    pub moving_held : (w : Made) → (w.book ≡ reopened before) ⊎ (w.book ≡ reopened after) → Moves view shelf j0 j1 w → LeavesOnly (view old) (view_of view j1) P
    moving_held w one m =
        leaves_then (view old) (view_of view j0) (view_of view j1) P begun
        (leaves_map (view_of view j0) (view_of view j1) (Held m.between) P (to_held w one m.anew.book (renewed_of w m) m.between) m.run)

    -- after it, the opening of the new file
    pub opening_held : (w : Made) → (w.book ≡ reopened before) ⊎ (w.book ≡ reopened after) → (m : Moves view shelf j0 j1 w) → (j2 : Journal D) → CountsNow (view_of view j1) → making_of view shelf j1 ≡ book_of texts shelf (bodies_now j0.format shelf (bodies_in view j0))
        → IsReadOrRenewed view scripts shelf j1 j2 → LeavesOnly (view old) (view_of view j2) P
    opening_held w one m j2 counts_then is quiet =
        leaves_then (view old) (view_of view j1) (view_of view j2) P (moving_held w one m) (⊎_elim behind_quiet behind_renewed (quiet (λ none. some (ap made_in none)) (λ none. some (ap made_in none))))
      where
        there : made_in (making_of view shelf j1) ≡ Some m.anew
        there = ap made_in is ∙ m.makes

        some : made_in (making_of view shelf j1) ≢ None
        some none = let no : None ≡ Some m.anew = sym none ∙ there in let never : ⊥ = cc no in never

        left_there : (image : List ℕ) → (view_of view j1).images image → P image
        left_there image left = to_held w one m.anew.book (renewed_of w m) m.between image (m.run.each image (counts_then (view_of view j0).moment image m.run.later left))

        behind_quiet : IsQuiet (view_of view j1) (view_of view j2) → LeavesOnly (view_of view j1) (view_of view j2) P
        behind_quiet q = leaves_map (view_of view j1) (view_of view j2) (view_of view j1).images P left_there q.moments

        behind_renewed : Renews view scripts shelf j1 j2 → LeavesOnly (view_of view j1) (view_of view j2) P
        behind_renewed r =
            let alike : r.made ≡ m.anew = same_Some r.made m.anew (sym r.found ∙ there) in
            let Q : Book → Type 0 = λ y. (l : Between texts shelf y (opened_book shelf scripts y)) × LeavesOnly (view_of view j1) (view_of view j2) (Held l) in
            let run : Q m.anew.book = subst (λ (y : Made). Q y.book) alike (r.moments.0, r.moments.3) in
            leaves_map (view_of view j1) (view_of view j2) (Held run.0) P (λ image h. to_opened w one m.anew.book (renewed_of w m) image (run.0, h)) run.1

    -- whatever its format was
    pub all_held : (j2_of : Journal D) → (j0.format ≡ newest → OpensThroughout texts shelf scripts (view old) (view_of view j2_of)) → ((j0.format ≡ newest → ⊥) → LeavesOnly (view old) (view_of view j2_of) P) → LeavesOnly (view old) (view_of view j2_of) P
    all_held j2_of newer older = by_test (j0.format == newest) refl
      where
        by_test : (t : Bool) → (j0.format == newest) ≡ t → LeavesOnly (view old) (view_of view j2_of) P
        by_test true is =
            let opens = newer (grind (arith, nat_tests, is)) before after k held in
            leaves_map (view old) (view_of view j2_of) (HeldOpened k scripts) P (λ image h. inl h) opens.moments
        by_test false is = older (λ e. let no : (j0.format == newest) ≡ true = grind (arith, nat_tests, e) in let never : true ≡ false = sym no ∙ is in cc never)
