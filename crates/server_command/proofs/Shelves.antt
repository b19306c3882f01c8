-- The shelves of a site: opened one after the other, and standing when they were given back.
use Rattle.std.proofs.Common.{◌≡◌, ◌≢◌, ◌<◌, ◌≤◌, ◌+◌, ◌-◌, ◌^◌, ◌++◌, ◌∷◌, ◌∙◌, ◌⊎◌, inl, inr, ℕ, append-nil, zero, suc, List, [], length, Bool, IsTrue, Some, None, refl, sym, ap, subst, arith}
use Rattle.std.specs.Prelude.{min, slice_get, sum_by, take}
use Rattle.std.proofs.lemmas.List.Sums.{sum_by-cons}
use Rattle.std.proofs.lemmas.Option.{same_Some, slice_get_within}
use Rattle.lock_row.specs.Spots.{Home}
use Rattle.web_disk.specs.View.{View, RackView, AreAmong}
use Rattle.trio_rack.specs.Trios.{shelves_of}
use Rattle.script_nodes.specs.Setup.{Named}
use Rattle.setup_reader.specs.Texts.{setup_of_texts}
use Rattle.replay_spec.specs.Book.{Book}
use Rattle.replay_spec.specs.Rules as spec
use Rattle.page_journal.specs.Opened.{TellsFormat}
use Rattle.page_journal.specs.Records.{at_rest, format_of, stored}
use Rattle.page_audit.specs.JournalSpec.Bytes.{book_in_bytes}
use Rattle.page_audit.specs.JournalSpec.Making.{Making}
use Rattle.page_audit.specs.JournalSpec.Opening.{opened_on}
use Rattle.site_serving.specs.Shelves.{IsTooLongAnew}
use Rattle.site_serving.specs.Shelves.{HoldsAtRest, IsTooLongBehind, bodies_after, now_in_bytes}
use Rattle.page_audit.specs.JournalSpec.Standing.{Stands}
use Rattle.lock_row.proofs.Places.{get_there, map_get}
use Rattle.site_serving.specs.Shelves as site
use Rattle.site_serving.specs.Shelves.fault
use Rattle.site_serving.specs.Shelves.{BeginFault, IsBegunAt, IsFaultOf, IsNotBegun, KeptEntry, MakesBook, Opening, Rules, SiteFault, StandsOwn, book_in, book_then, entries_of, opened_of, rules_of}
use Rattle.play_desk.proofs.Closing.{holds_book}
use Rattle.site_serving.specs.Pages.{faults_told}
use Rattle.site_serving.specs.Serving.{AreEnded, AreUntouched, IsEnded, opened_as, openings_of}
use Rattle.command_words.specs.declared.Options.{Options}
use Rattle.play_steps.specs.declared.stage.Reopen.TheVariants as reopen
use Rattle.server_command.specs.Opening.{AreAsked, IsRefused, RefusesInOrder, seen_on}
use Rattle.server_command.specs.Output.{rules_for}
use Rattle.play_desk.specs.Asking.{AsksForFirst}
use Rattle.play_desk.specs.Opening.{IsKept, IsReadAtRest, reopen_of}
use Rattle.server_command.specs.Racks.{AreBare, IsBare, Unfit, found_unfit, first_unfit, unfit_file, unfit_left, unfit_made, unfit_read, damaged, other, full}
use Rattle.server_command.specs.Serving.{AreOpened, AreOwn, IsOpened, StandsBehind}
use Rattle.server_command.proofs.Unfit.{long_anew, long_behind, made_fits}

-- ---- opened

-- a disk that was left as it is, or with the records that were read
as_read : (read left : List ℕ) (new : View) → ((f : ℕ) × (TellsFormat read f × HoldsAtRest f (stored read) new)) → new.images left → IsReadAtRest read left
as_read read left new h is = (h.0, h.1.0, h.1.1.1 left is ∙ h.1.1.0)

-- a disk on which nothing was lost, and what may be left of it
nothing_lost : (scripts : List Named) (k : ℕ) (old new : View) (held : List ℕ → Type 0) → held old.seen → AreAmong old.images held
    → site.LosesNothing scripts k old new
    → (left : List ℕ) → new.images left → IsKept scripts k held old.seen left
nothing_lost scripts k old new held reads among (inl (inl u)) left is = inl (among left (u.1.1 left is))
nothing_lost scripts k old new held reads among (inl (inr (intact, inl h))) left is =
    inr (reads, intact, inr (inl (h.1 left is ∙ (h.0 ∙ ap at_rest (append-nil (bodies_after k old.seen))))))
nothing_lost scripts k old new held reads among (inl (inr (intact, inr (none, h)))) left is = inr (reads, intact, inl (as_read old.seen left new h is))
nothing_lost scripts k old new held reads among (inr (inl u)) left is = inl (among left (u.1.1 left is))
nothing_lost scripts k old new held reads among (inr (inr (intact, inl h))) left is = inr (reads, intact, inr (inr (h.1 left is ∙ h.0)))
nothing_lost scripts k old new held reads among (inr (inr (intact, inr (none, h)))) left is = inr (reads, intact, inl (as_read old.seen left new h is))

-- a disk to whose records nothing was added, and what may be left of it
nothing_added : (k : ℕ) (old new : View) (held : List ℕ → Type 0) → held old.seen → AreAmong old.images held → site.KeepsRecords k [] old new → (left : List ℕ)
    → new.images left → IsBare k held old.seen left
nothing_added k old new held reads among (inl u) left is = inl (among left (u.1.1 left is))
nothing_added k old new held reads among (inr (intact, inl h)) left is =
    inr (reads, intact, inr (h.1 left is ∙ (h.0 ∙ ap at_rest (append-nil (bodies_after k old.seen)))))
nothing_added k old new held reads among (inr (intact, inr (none, h))) left is = inr (reads, intact, inl (as_read old.seen left new h is))

-- the limits that were asked for, with the number of a shelf
asked_rules : (o : Options) (r : Rules) (k : ℕ) → AreAsked o r → rules_of (site.numbered r k) ≡ rules_for o k
asked_rules o r k a = λ at. record (rules_for o k) { fuel = a.fuel at; life = a.life at; instances = a.instances at; pages = a.pages at }

module _ {D N : Type 0} (view : D → View) (tells : Bool) (told : Type 0) (nonce : N → ℕ → ℕ) (o : Options) (scripts : List Named) (rules : Rules) where
  opened_one : (k : ℕ) (d : D) (n : N) (h : Home (Opening D N)) → (told → IsTrue tells) → AreAsked o rules → (b : IsBegunAt view tells scripts rules k d n h)
      → IsOpened view tells told nonce (rules_for o k) scripts k (view d).seen n b.opening
  opened_one k d n h knows asked b = record {
    setup = b.shelf.opened.setup;
    limits = ap rules_of b.shelf.rules_are ∙ asked_rules o rules k asked;
    number = ap (λ (r : Rules). r.number) b.shelf.rules_are;
    book = λ t. b.shelf.book (knows t);
    short = b.shelf.in_order.sound;
    fits = λ t. b.shelf.fits (knows t);
    opened = b.shelf.opened.again;
    stream = λ j. ap (λ (x : N). nonce x j) b.shelf.nonces_are ∙ ap (nonce n) (let same : j ≡ 0 + j = omega arith in same);
    own = λ t image. b.shelf.own (knows t) image;
    own_if_empty = λ no none. b.shelf.own_if_empty no none;
  }

  -- the shelves of a site that was begun, from this number on
  pub opened_from : (k : ℕ) (disks : List D) (nonces : List N) (homes : List (Home (Opening D N))) → length nonces ≡ length disks → length homes ≡ length disks
      → (told → IsTrue tells) → AreAsked o rules
      → ((i j : ℕ) (d : D) (n : N) (h : Home (Opening D N)) → j ≡ k + i → slice_get disks i ≡ Some d → slice_get nonces i ≡ Some n → slice_get homes i ≡ Some h
      → IsBegunAt view tells scripts rules j d n h)
      → AreOpened view tells told nonce (rules_for o) scripts k (seen_on view disks) nonces (openings_of homes)
  opened_from k [] [] [] ns hs knows asked each = tt
  opened_from k [] (n ∷ nonces) homes ns hs knows asked each = absurd (omega (arith, ns))
  opened_from k [] [] (h ∷ homes) ns hs knows asked each = absurd (omega (arith, hs))
  opened_from k (d ∷ disks) [] homes ns hs knows asked each = absurd (omega (arith, ns))
  opened_from k (d ∷ disks) (n ∷ nonces) [] ns hs knows asked each = absurd (omega (arith, hs))
  opened_from k (d ∷ disks) (n ∷ nonces) (h ∷ homes) ns hs knows asked each =
      let b = each 0 k d n h (omega arith) refl refl refl in
      let rest = opened_from (k + 1) disks nonces homes (omega (arith, ns)) (omega (arith, hs)) knows asked
      (λ i j x y z is a b c. each (suc i) j x y z (omega (arith, is)) a b c) in
      subst (λ os. AreOpened view tells told nonce (rules_for o) scripts k (seen_on view (d ∷ disks)) (n ∷ nonces) (os ++ openings_of homes))
      (sym b.opening_is) (opened_one k d n h knows asked b, rest)

  -- nothing was lost on the disks of a site that was begun
  pub kept_from : (k : ℕ) (disks : List D) (nonces : List N) (homes : List (Home (Opening D N))) (holds : ℕ → List ℕ → Type 0) → length nonces ≡ length disks
      → length homes ≡ length disks → IsTrue tells → ((d : D) → (view d).images (view d).seen)
      → ((i j : ℕ) (d : D) (n : N) (h : Home (Opening D N)) → j ≡ k + i → slice_get disks i ≡ Some d → slice_get nonces i ≡ Some n → slice_get homes i ≡ Some h
      → IsBegunAt view tells scripts rules j d n h × AreAmong (view d).images (holds j))
      → (i j : ℕ) (x : Opening D N) (read left : List ℕ) → j ≡ k + i → slice_get (openings_of homes) i ≡ Some x → slice_get (seen_on view disks) i ≡ Some read
      → (view x.shelf.value.journal.disk).images left → IsKept scripts j (holds j) read left
  kept_from k [] nonces homes holds ns hs t reads each i j x read left is x_is read_is left_is = absurd (let no : ⊥ = cc read_is in no)
  kept_from k (d ∷ disks) [] homes holds ns hs t reads each i j x read left is x_is read_is left_is = absurd (omega (arith, ns))
  kept_from k (d ∷ disks) (n ∷ nonces) [] holds ns hs t reads each i j x read left is x_is read_is left_is = absurd (omega (arith, hs))
  kept_from k (d ∷ disks) (n ∷ nonces) (h ∷ homes) holds ns hs t reads each zero j x read left is x_is read_is left_is =
      let at = each 0 j d n h is refl refl refl in
      let b = at.0 in
      let first : Some b.opening ≡ Some x = ap (λ os. slice_get (os ++ openings_of homes) 0) (sym b.opening_is) ∙ x_is in
      let same : b.opening ≡ x = same_Some b.opening x first in
      let bytes : (view d).seen ≡ read = same_Some (view d).seen read read_is in
      subst (λ r. IsKept scripts j (holds j) r left) bytes
      (nothing_lost scripts j (view d) (view b.opening.shelf.value.journal.disk) (holds j) (at.1 (view d).seen (reads d)) at.1 (inr (b.shelf.keeps t)) left
      (subst (λ y. (view y.shelf.value.journal.disk).images left) (sym same) left_is))
  kept_from k (d ∷ disks) (n ∷ nonces) (h ∷ homes) holds ns hs t reads each (suc i) j x read left is x_is read_is left_is =
      let b = (each 0 k d n h (omega arith) refl refl refl).0 in
      kept_from (k + 1) disks nonces homes holds (omega (arith, ns)) (omega (arith, hs)) t reads
      (λ a c y z w at y_is z_is w_is. each (suc a) c y z w (omega (arith, at)) y_is z_is w_is) i j x read left (omega (arith, is))
      (ap (λ os. slice_get (os ++ openings_of homes) (suc i)) (sym b.opening_is) ∙ x_is) read_is left_is

-- each disk of a shelf that was opened is fit
pub opened_fits : {D N : Type 0} (view : D → View) (tells : Bool) (told : Type 0) (nonce : N → ℕ → ℕ) (rules : ℕ → spec.Rules) (scripts : List Named) (k : ℕ) (images : List (List ℕ)) (sources : List N)
    (openings : List (Opening D N)) → AreOpened view tells told nonce rules scripts k images sources openings → told → first_unfit (unfit_left scripts) k images ≡ None
opened_fits view tells told nonce rules scripts k [] sources openings opened t = refl
opened_fits view tells told nonce rules scripts k (i ∷ images) (z ∷ sources) (x ∷ openings) opened t =
    rw (made_fits scripts k i (book_in view x.shelf.value) (opened.0.book t) opened.0.short (opened.0.fits t)) (opened_fits view tells told nonce rules scripts (k + 1) images sources openings opened.1 t)
opened_fits view tells told nonce rules scripts k (i ∷ images) [] openings opened t = absurd opened
opened_fits view tells told nonce rules scripts k (i ∷ images) (z ∷ sources) [] opened t = absurd opened

-- ---- the first that is not opened

-- the disk makes a book that is not too long, nor is its file in front of the setup
abbrev Opens : {D : Type 0} → (D → View) → List Named → ℕ → D → Type 0
Opens view scripts k d =
    (b : Book) × (MakesBook scripts k (view d) b × (b.length ≤ 2 ^ 30) × (length (at_rest (bodies_after k (view d).seen)) ≤ 2 ^ 30))

-- such a disk is fit
opens_fit : {D : Type 0} (view : D → View) (scripts : List Named) (k : ℕ) (d : D) → Opens view scripts k d → unfit_left scripts k (view d).seen ≡ None
opens_fit view scripts k d (b, (is, short, fits)) = made_fits scripts k (view d).seen b is short fits

-- after disks that make books, one that makes none
pub first_bad : {D : Type 0} (view : D → View) (scripts : List Named) (k i n : ℕ) (disks : List D) (d : D) (why : Unfit) → n ≡ k + i
    → ((j m : ℕ) (x : D) → j < i → m ≡ k + j → slice_get disks j ≡ Some x → Opens view scripts m x)
    → slice_get disks i ≡ Some d → unfit_left scripts n (view d).seen ≡ Some why → first_unfit (unfit_left scripts) k (seen_on view disks) ≡ Some (n, why)
first_bad view scripts k i n [] d why is fit here bad = absurd (let no : ⊥ = cc here in no)
first_bad view scripts k zero n (x ∷ disks) d why is fit here bad =
    let same : n ≡ k = omega (arith, is) in
    let one : x ≡ d = same_Some x d here in
    let found : unfit_left scripts k (view x).seen ≡ Some why = ap (λ y. unfit_left scripts k (view y).seen) one ∙ (ap (λ m. unfit_left scripts m (view d).seen) (sym same) ∙ bad) in
    ap (λ f. found_unfit k f (first_unfit (unfit_left scripts) (k + 1) (seen_on view disks))) found ∙ ap (λ m. Some (m, why)) (sym same)
first_bad view scripts k (suc i) n (x ∷ disks) d why is fit here bad =
    let first = fit 0 k x (omega arith) (omega arith) refl in
    let rest = first_bad view scripts (k + 1) i n disks d why (omega (arith, is)) (λ j m y low at e. fit (suc j) m y (omega (arith, low)) (omega (arith, at)) e) here bad in
    ap (λ f. found_unfit k f (first_unfit (unfit_left scripts) (k + 1) (seen_on view disks))) (opens_fit view scripts k x first) ∙ rest

-- a site was not begun, and why is told as the first shelf that is not opened
pub refused_at : {D N : Type 0} (view : D → View) (tells : Bool) (scripts : List Named) (told : Type 0) (disks : List D) (nonces : List N)
    (f : SiteFault D N) (risen : ℕ → Type 0) → (told → IsTrue tells) → IsNotBegun view tells scripts disks nonces f
    → ((k : ℕ) (e : D) → slice_get f.disks.items k ≡ Some e → 1 ≤ (view e).faults → risen k)
    → IsRefused told (λ k. (k < length disks) × risen k) scripts (seen_on view disks) f.shelf (reopen_of f.fault)
refused_at {D = D} view tells scripts told disks nonces f risen knows not rises = by_fault f.fault refl
  where
    there : (d : D) × (slice_get disks f.shelf ≡ Some d)
    there = get_there disks f.shelf not.disks_back.within

    back : (e : D) × (slice_get f.disks.items f.shelf ≡ Some e)
    back = get_there f.disks.items f.shelf (let low = not.disks_back.within in let size = not.disks_back.returned.many in omega (arith, low, size))

    found : told → (why : Unfit) → unfit_left scripts f.shelf (view there.0).seen ≡ Some why → first_unfit (unfit_left scripts) 0 (seen_on view disks) ≡ Some (f.shelf, why)
    found t why bad =
        first_bad view scripts 0 f.shelf f.shelf disks there.0 why (omega arith)
        (λ j m x low at x_is. let same : j ≡ m = omega (arith, at) in subst (λ n. Opens view scripts n x) same (not.disks_back.earlier (knows t) j x low x_is))
        there.1 bad

    why_not : told → (e : BeginFault) → f.fault ≡ e → IsFaultOf scripts f.shelf (view there.0) e
    why_not t e is = subst (IsFaultOf scripts f.shelf (view there.0)) is (not.disks_back.why (knows t) there.0 there.1)

    unread_at : {x : Making} → book_in_bytes setup_of_texts f.shelf (view there.0).seen ≡ x
        → unfit_left scripts f.shelf (view there.0).seen ≡ unfit_read x (unfit_file (bodies_after f.shelf (view there.0).seen)
        (unfit_made (opened_on f.shelf scripts (now_in_bytes f.shelf (view there.0).seen))))
    unread_at read =
        ap (λ m. unfit_read m (unfit_file (bodies_after f.shelf (view there.0).seen)
        (unfit_made (opened_on f.shelf scripts (now_in_bytes f.shelf (view there.0).seen))))) read

    too_long : (size : ℕ) → IsTooLongAnew (format_of (view there.0).seen) f.shelf (stored (view there.0).seen) size ⊎ IsTooLongBehind scripts f.shelf (view there.0).seen size
        → unfit_left scripts f.shelf (view there.0).seen ≡ Some (full size)
    too_long size (inl anew) = long_anew scripts f.shelf (view there.0).seen size anew
    too_long size (inr behind) = long_behind scripts f.shelf (view there.0).seen size behind

    by_fault : (e : BeginFault) → f.fault ≡ e → IsRefused told (λ k. (k < length disks) × risen k) scripts (seen_on view disks) f.shelf (reopen_of e)
    by_fault (fault.Damaged place) is = λ t. found t (damaged place) (unread_at (why_not t (fault.Damaged place) is))
    by_fault (fault.Other place) is = λ t. found t (other place) (unread_at (why_not t (fault.Other place) is))
    by_fault (fault.Full size) is = λ t.
        found t (full size) (too_long size (why_not t (fault.Full size) is))
    by_fault fault.DiskFault is =
        let rose = not.disks_back.cause is there.0 back.0 there.1 back.1 in (not.disks_back.within, rises f.shelf back.0 back.1 (omega (arith, rose)))
    by_fault fault.Memory is = tt

-- the disks before a shelf, of which books are made, are fit
fit_front : {D : Type 0} (view : D → View) (scripts : List Named) (k i : ℕ) (disks : List D)
    → ((j m : ℕ) (x : D) → j < i → m ≡ k + j → slice_get disks j ≡ Some x → Opens view scripts m x)
    → first_unfit (unfit_left scripts) k (take i (seen_on view disks)) ≡ None
fit_front view scripts k zero disks fit = refl
fit_front view scripts k (suc i) [] fit = refl
fit_front view scripts k (suc i) (x ∷ disks) fit =
    let first = fit 0 k x (omega arith) (omega arith) refl in
    let rest = fit_front view scripts (k + 1) i disks (λ j m y low at e. fit (suc j) m y (omega (arith, low)) (omega (arith, at)) e) in
    ap (λ f. found_unfit k f (first_unfit (unfit_left scripts) (k + 1) (take i (seen_on view disks))))
    (opens_fit view scripts k x first) ∙ rest

-- nothing was added to the records on the disks of a site that was not begun, from the shelf on that was not opened, or after it
bare_at : {D N : Type 0} (view : D → View) (tells : Bool) (scripts : List Named) (disks : List D) (nonces : List N) (f : SiteFault D N)
    (before after : RackView) → IsTrue tells → ((d : D) → (view d).images (view d).seen) → IsNotBegun view tells scripts disks nonces f
    → ((k : ℕ) (d : D) → slice_get disks k ≡ Some d → AreAmong (view d).images ((shelves_of before).holds k))
    → ((k : ℕ) (e : D) → slice_get f.disks.items k ≡ Some e → AreAmong ((shelves_of after).holds k) (view e).images)
    → f.fault ≢ fault.Memory → (first : ℕ) → f.shelf ≤ first → (first ≡ f.shelf → f.fault ≢ fault.DiskFault) → AreBare before after (seen_on view disks) first
bare_at view tells scripts disks nonces f before after t reads not held given why first low sound k read left from read_is left_is =
    let d = map_get (λ x. (view x).seen) disks k read read_is in
    let within = slice_get_within disks k d.0 d.1 in
    let e = get_there f.disks.items k (let size = not.disks_back.returned.many in omega (arith, within, size)) in
    let keeps = not.disks_back.bare t why k d.0 e.0 (omega (arith, low, from)) d.1 e.1 (λ here. sound (omega (arith, low, from, here))) in
    subst (λ r. IsBare k ((shelves_of before).holds k) r left) d.2
    (nothing_added k (view d.0) (view e.0) ((shelves_of before).holds k) (held k d.0 d.1 (view d.0).seen (reads d.0)) (held k d.0 d.1) keeps left (given k e.0 e.1 left left_is))

-- a site was not begun, of which all disks had been taken
pub refused_in_order : {D N : Type 0} (view : D → View) (tells : Bool) (scripts : List Named) (disks : List D) (nonces : List N) (f : SiteFault D N)
    (before after : RackView) (count : ℕ) → IsTrue tells → ((d : D) → (view d).images (view d).seen) → IsNotBegun view tells scripts disks nonces f → length (seen_on view disks) ≡ count
    → ((k : ℕ) (d : D) → slice_get disks k ≡ Some d → AreAmong (view d).images ((shelves_of before).holds k))
    → ((k : ℕ) (e : D) → slice_get f.disks.items k ≡ Some e → AreAmong ((shelves_of after).holds k) (view e).images)
    → AsksForFirst count before after → RefusesInOrder scripts before after count (seen_on view disks) f.shelf (reopen_of f.fault)
refused_in_order view tells scripts disks nonces f before after count t reads not many held given asked = by_fault f.fault refl
  where
    bare : (e : BeginFault) → f.fault ≡ e → (e ≡ fault.Memory → ⊥) → (e ≡ fault.DiskFault → ⊥) → AreBare before after (seen_on view disks) f.shelf
    bare e is memory disk =
        bare_at view tells scripts disks nonces f before after t reads not held given (λ m. memory (sym is ∙ m)) f.shelf (omega arith) (λ here d. disk (sym is ∙ d))

    by_fault : (e : BeginFault) → f.fault ≡ e → RefusesInOrder scripts before after count (seen_on view disks) f.shelf (reopen_of e)
    by_fault (fault.Damaged place) is = (asked, many, bare (fault.Damaged place) is (λ m. let no : ⊥ = cc m in no) (λ d. let no : ⊥ = cc d in no))
    by_fault (fault.Other place) is = (asked, many, bare (fault.Other place) is (λ m. let no : ⊥ = cc m in no) (λ d. let no : ⊥ = cc d in no))
    by_fault (fault.Full size) is = (asked, many, bare (fault.Full size) is (λ m. let no : ⊥ = cc m in no) (λ d. let no : ⊥ = cc d in no))
    by_fault fault.DiskFault is =
        inr (
          asked,
          many,
          fit_front view scripts 0 f.shelf disks
              (λ j m x low at x_is. let same : j ≡ m = omega (arith, at) in subst (λ n. Opens view scripts n x) same (not.disks_back.earlier t j x low x_is)),
          bare_at view tells scripts disks nonces f before after t reads not held given
              (λ m. let e : fault.DiskFault ≡ fault.Memory = sym is ∙ m in let no : ⊥ = cc e in no) (f.shelf + 1) (omega arith) (λ here. absurd (omega (arith, here))),
        )
    by_fault fault.Memory is = tt

-- ---- handed back

-- nothing was lost on the disks of a site that was not begun, but on the one of which a call failed
pub kept_at : {D N : Type 0} (view : D → View) (tells : Bool) (scripts : List Named) (told : Type 0) (disks : List D) (nonces : List N)
    (f : SiteFault D N) (before after : ℕ → List ℕ → Type 0) → (told → IsTrue tells) → (told → (d : D) → (view d).images (view d).seen) → IsNotBegun view tells scripts disks nonces f
    → (told → (k : ℕ) (d : D) → slice_get disks k ≡ Some d → AreAmong (view d).images (before k))
    → (told → (k : ℕ) (e : D) → slice_get f.disks.items k ≡ Some e → AreAmong (after k) (view e).images)
    → told → (k : ℕ) (read left : List ℕ) → slice_get (seen_on view disks) k ≡ Some read → after k left → (reopen_of f.fault ≡ reopen.Disk → k ≢ f.shelf)
    → IsKept scripts k (before k) read left
kept_at view tells scripts told disks nonces f before after knows reads not held given t k read left read_is left_is but =
    let d = map_get (λ x. (view x).seen) disks k read read_is in
    let low = slice_get_within disks k d.0 d.1 in
    let e = get_there f.disks.items k (let size = not.disks_back.returned.many in omega (arith, low, size)) in
    let keeps = not.disks_back.keep (knows t) k d.0 e.0 d.1 e.1 (λ here why. but (ap (λ (e : BeginFault). reopen_of e) why) here) in
    subst (λ r. IsKept scripts k (before k) r left) d.2
    (nothing_lost scripts k (view d.0) (view e.0) (before k) (held t k d.0 d.1 (view d.0).seen (reads t d.0)) (held t k d.0 d.1) keeps left (given t k e.0 e.1 left left_is))

-- ---- given back

module _ {D N : Type 0} (view : D → View) (tells : Bool) (told : Type 0) (nonce : N → ℕ → ℕ) (rules : ℕ → spec.Rules) (scripts : List Named) where
  -- a disk that stands for the book of a history, and what may be held of it
  stands_one : (k workers : ℕ) (holds : List ℕ → Type 0) (image : List ℕ) (source : N) (o : Opening D N) (d : D) (h : List KeptEntry) → IsTrue tells
      → IsOpened view tells told nonce (rules k) scripts k image source o → IsEnded (IsTrue tells) workers (opened_of view tells nonce o) (view d) (entries_of h) → AreAmong holds (view d).images
      → StandsBehind view tells nonce k holds o h
  stands_one k workers holds image source o d h t opened ended among = record {
    some =
        let stands = ended.ended.stands t in
        let here = subst (λ m. Stands setup_of_texts m (view d) stands.0) opened.number stands.1 in
        (stands.0, (here.0, (here.1.0, λ y y_is. here.1.1 y (among y y_is))));
    own = λ own.
        let b = book_then view nonce o (entries_of h) in
        let stands = (ended.ended.history own).stands t in
        let here = subst (λ m. StandsOwn (rules_of o.shelf.value.rules) m (view d) b) opened.number stands in
        holds_book (rules_of o.shelf.value.rules) (view d) k b holds here among;
  }

  -- disks that stand for the books of histories, and what may be held of them
  pub stands_from : (k workers : ℕ) (holds : ℕ → List ℕ → Type 0) (images : List (List ℕ)) (sources : List N) (openings : List (Opening D N)) (disks : List D)
      (histories : List (List KeptEntry)) → IsTrue tells → AreOpened view tells told nonce rules scripts k images sources openings
      → AreEnded view (IsTrue tells) workers (opened_as view tells nonce openings) disks histories
      → ((i j : ℕ) (d : D) → j ≡ k + i → slice_get disks i ≡ Some d → AreAmong (holds j) (view d).images)
      → (i j : ℕ) (o : Opening D N) (h : List KeptEntry) → j ≡ k + i → slice_get openings i ≡ Some o → slice_get histories i ≡ Some h
      → StandsBehind view tells nonce j (holds j) o h
  stands_from k workers holds images sources [] disks histories t opened ended held i j o h is o_is h_is = absurd (let no : ⊥ = cc o_is in no)
  stands_from k workers holds [] sources (x ∷ openings) disks histories t opened ended held i j o h is o_is h_is = absurd (no_shelf sources opened)
    where
      no_shelf : (ns : List N) → AreOpened view tells told nonce rules scripts k [] ns (x ∷ openings) → ⊥
      no_shelf [] a = a
      no_shelf (n ∷ ns) a = a
  stands_from k workers holds (image ∷ images) [] (x ∷ openings) disks histories t opened ended held i j o h is o_is h_is = absurd opened
  stands_from k workers holds (image ∷ images) (n ∷ sources) (x ∷ openings) [] histories t opened ended held i j o h is o_is h_is = absurd ended
  stands_from k workers holds (image ∷ images) (n ∷ sources) (x ∷ openings) (d ∷ disks) [] t opened ended held i j o h is o_is h_is = absurd ended
  stands_from k workers holds (image ∷ images) (n ∷ sources) (x ∷ openings) (d ∷ disks) (e ∷ histories) t opened ended held zero j o h is o_is h_is =
      let at : j ≡ k = omega (arith, is) in
      let among = held 0 j d (omega (arith, at)) refl in
      let whole = subst (λ m. StandsBehind view tells nonce m (holds m) x e) (sym at)
      (stands_one k workers (holds k) image n x d e t opened.0 ended.0 (subst (λ m. AreAmong (holds m) (view d).images) at among)) in
      subst (λ z. StandsBehind view tells nonce j (holds j) z h) (same_Some x o o_is)
      (subst (λ z. StandsBehind view tells nonce j (holds j) x z) (same_Some e h h_is) whole)
  stands_from k workers holds (image ∷ images) (n ∷ sources) (x ∷ openings) (d ∷ disks) (e ∷ histories) t opened ended held (suc i) j o h is o_is h_is =
      stands_from (k + 1) workers holds images sources openings disks histories t opened.1 ended.1 (λ a b y at y_is. held (suc a) b y (omega (arith, at)) y_is) i j o h
      (omega (arith, is)) o_is h_is

-- ---- untouched

-- what the disk of each shelf may hold that was given back untouched, it might hold when it was opened
pub untouched_at : {D N : Type 0} (view : D → View) (tells : Bool) (nonce : N → ℕ → ℕ) (told : Type 0) (openings : List (Opening D N)) (disks : List D) (k : ℕ) (d : D)
    → AreUntouched view told (opened_as view tells nonce openings) disks → slice_get disks k ≡ Some d
    → (o : Opening D N) × (slice_get openings k ≡ Some o) × AreAmong (view d).images (view o.shelf.value.journal.disk).images
untouched_at view tells nonce told [] [] k d all d_is = absurd (let no : ⊥ = cc d_is in no)
untouched_at view tells nonce told [] (x ∷ disks) k d all d_is = absurd all
untouched_at view tells nonce told (o ∷ openings) [] k d all d_is = absurd all
untouched_at view tells nonce told (o ∷ openings) (x ∷ disks) zero d all d_is =
    (o, refl, subst (λ y. AreAmong (view y).images (view o.shelf.value.journal.disk).images) (same_Some x d d_is) all.0.images)
untouched_at view tells nonce told (o ∷ openings) (x ∷ disks) (suc k) d all d_is = untouched_at view tells nonce told openings disks k d all.1 d_is

-- ---- the faults of disks

-- the disks of shelves that were opened as own ones count each fault that the histories tell
pub faults_sum : {D N : Type 0} (view : D → View) (tells : Bool) (nonce : N → ℕ → ℕ) (told : Type 0) (workers : ℕ) (openings : List (Opening D N)) (disks : List D)
    (histories : List (List KeptEntry)) → AreOwn view tells openings → AreEnded view told workers (opened_as view tells nonce openings) disks histories
    → min (faults_told histories) (2 ^ 64 - 1) ≤ sum_by (λ d. (view d).faults) disks
faults_sum view tells nonce told workers [] [] [] own ended = omega arith
faults_sum view tells nonce told workers [] [] (h ∷ histories) own ended = absurd ended
faults_sum view tells nonce told workers [] (d ∷ disks) histories own ended = absurd ended
faults_sum view tells nonce told workers (o ∷ openings) [] histories own ended = absurd ended
faults_sum view tells nonce told workers (o ∷ openings) (d ∷ disks) [] own ended = absurd ended
faults_sum view tells nonce told workers (o ∷ openings) (d ∷ disks) (h ∷ histories) own ended =
    let one = ended.0.risen (own 0 o refl) in
    let rest = faults_sum view tells nonce told workers openings disks histories (λ k x x_is. own (suc k) x x_is) ended.1 in
    let sum = sum_by-cons (λ x. (view x).faults) d disks in
    omega (arith, one, rest, sum)
