-- A journal of an older format gives place to one of the newest.
use Rattle.std.proofs.Common.{◌≡◌, ◌≢◌, inl, inr, ◌∙◌, ap, sym, subst, refl, ℕ, ◌+◌, ◌≤◌, ◌^◌, ◌==◌, Bool, true, false, IsTrue, List, [], ◌∷◌, length, Option, Some, None, Ok, Err, if◌then◌else◌, arith}
use Rattle.std.proofs.lemmas.Bool.Decides.{nat_tests}
use Rattle.book_recovery.specs.SetupReader.Texts.{setup_of_texts as texts}
use Rattle.script_nodes.specs.Views.{library_of}
use Rattle.web_disk.specs.View.{View, LeavesOnly}
use Rattle.page_journal.specs.Records.{newest, at_rest, stored, is_format}
use Rattle.page_journal.specs.Holding.{IsEither}
use Rattle.page_journal.specs.Scanned.{IsQuiet}
use Rattle.page_journal.specs.Settled.{HasFailed, IsSettled, view_of, bodies_in, length_of}
use Rattle.page_journal.specs.declared.journal.Journal.{Journal}
use Rattle.page_journal.proofs.Mending.{leaves_map}
use Rattle.replay_spec.specs.Book.{Book}
use Rattle.replay_spec.specs.Rules.{first_file}
use Rattle.journal_records.specs.Records.{draws, body_of}
use Rattle.journal_records.specs.Records.{begins as record_begins, draws as record_draws, renews as record_renews, changes as record_changes, follows as record_follows, promotes as record_promotes}
use Rattle.journal_records.specs.Old.{read_record_in}
use Rattle.book_recovery.specs.JournalSpec.Before.{Made}
use Rattle.book_recovery.specs.JournalSpec.Retaking.{Told}
use Rattle.book_recovery.specs.JournalSpec.Making.{Making, nothing, waits, waited, begun, made, damaged, other, told_next, made_in, book_of}
use Rattle.book_recovery.specs.JournalSpec.Old.{change_next, next_at, second_at, with_body_at, with_bodies_at, book_of_format, format_of_now}
use Rattle.book_recovery.specs.JournalSpec.Copying.{copies, MigrationsMakeTheBook, IsToldAnew, IsMigrated}
use Rattle.std.proofs.lemmas.Option.{same_Some}
use Rattle.book_recovery.specs.JournalSpec.Laws.{MigrationsStandBetween}
use Rattle.book_recovery.specs.JournalSpec.Standing.{puts, Held}
use Rattle.book_recovery.proofs.JournalSpec.Standings.{carried, OnlyNow}
use Rattle.book_recovery.specs.JournalSpec.OwnCopies.{CopiesAreOwn}
use Rattle.book_recovery.specs.JournalSpec.Owning.{AreOwn, AreOwnIn}
use Rattle.file_copies.specs.OfFileNotes.declared.notes.FileNotes.{FileNotes}
use Rattle.file_copies.specs.OfFileNotes.Files.{file_in, IsNoted}
use Rattle.file_copies.specs.OfFileNotes.Notes.{plan_in}
use Rattle.file_copies.specs.Copies.{copied}
use Rattle.book_recovery.specs.declared.found.Found.{Found}
use Rattle.book_recovery.specs.declared.found.Found.TheVariants as found
use Rattle.book_recovery.specs.declared.found.ReadBook.{ReadBook}
use Rattle.book_recovery.specs.InstanceBook.declared.book.Book as kept
use Rattle.script_nodes.specs.declared.library.Library as rust
use Rattle.book_recovery.specs.Found.{FindsNone, Finds, FindsBook, IsBookInOrder, IsFoundInOrder, beside_file}
use Rattle.book_recovery.proofs.Stored.{has_stored}
use Rattle.book_recovery.specs.JournalSpec.Reading.{AreAllBytes}
use Rattle.book_recovery.specs.JournalSpec.Whole.{AreWhole}
use Rattle.book_recovery.specs.Anew.{ReadsAnew}
use Rattle.book_recovery.specs.Noting.{IsFileOf, WhereMade, NotesFile}
use Rattle.shelf.specs.Compacting.{IsRoomMade}
use Rattle.shelf.specs.declared.migration.FileAnew.{FileAnew}
use Rattle.shelf.specs.Migrating.{bodies_by, bodies_now, making_by, making_now, StaysBy, HasLowNumber, anew_by, IsFileAnew, IsNoneAnew, IsMigrationFault, Moves, Migrates}
use Rattle.shelf.proofs.Rewritten.{at_rest_once}
use Rattle.shelf.specs.Owning.{StaysOwnThroughout}
use Rattle.shelf.specs.declared.begin.BeginFault.{BeginFault}
use Rattle.shelf.specs.declared.begin.BeginFault.TheVariants as fault
use Rattle.shelf.proofs.Openings.{some_first, some_start, some_fed, some_promoted, some_told, some_setup, some_if}
use Rattle.shelf.proofs.Opened.{making_newest}
use Rattle.shelf.proofs.Copies.{KnowsMade, written_so}
use Rattle.shelf.proofs.Roles.{IsOlder, IsUnfed, older_unfed, unfed_made}
use Rattle.shelf.proofs.Replaced.{left_first, left_then}
use Rattle.shelf.proofs.Owned.{none_own, quiet_own, settled_own, with_others, stays_own}
use Rattle.shelf.proofs.Newest.{now_own}

-- ---- in any format nothing is made just where there is no record

module _ (f place n : ℕ) (m : Made) where
  some_change : (c : _) (state : Option (List ℕ)) → change_next f place n m c state ≢ nothing
  some_change c state = by_test (f == 1) _ _
    where
      by_test : (t : Bool) (y : Made) (x : Told) → (if t then made y else told_next place n m c x) ≢ nothing
      by_test true y x = λ e. cc e
      by_test false y x = some_told place n m x c

  some_next_at : (r : _) → next_at f texts place n m r ≢ nothing
  some_next_at None = λ e. cc e
  some_next_at (Some (record_begins s named)) = λ e. cc e
  some_next_at (Some (record_draws k)) = λ e. cc e
  some_next_at (Some (record_renews named)) = some_setup place n m (texts named)
  some_next_at (Some record_follows) = λ e. cc e
  some_next_at (Some record_promotes) = some_promoted place n m m.book.follows
  some_next_at (Some (record_changes c state)) = some_if place n m _ (change_next f place n m c state) (some_change c state)

  some_second_at : (r : _) → second_at f texts place n m r ≢ nothing
  some_second_at None = λ e. cc e
  some_second_at (Some (record_begins s named)) = λ e. cc e
  some_second_at (Some (record_draws k)) = λ e. cc e
  some_second_at (Some (record_renews named)) = some_setup place n m (texts named)
  some_second_at (Some record_follows) = λ e. cc e
  some_second_at (Some record_promotes) = some_next_at (Some record_promotes)
  some_second_at (Some (record_changes c state)) = some_next_at (Some (record_changes c state))

some_body_at : (f shelf place : ℕ) (body : List ℕ) (m : Making) → with_body_at f texts shelf place body m ≢ nothing
some_body_at f shelf place body nothing = some_start shelf place (length body) (read_record_in f body)
some_body_at f shelf place body (waits s) = some_fed shelf place (length body) (read_record_in f body)
some_body_at f shelf place body waited = some_first false shelf place (length body) (read_record_in f body)
some_body_at f shelf place body (begun m) = some_second_at f place (length body) m (read_record_in f body)
some_body_at f shelf place body (made m) = some_next_at f place (length body) m (read_record_in f body)
some_body_at f shelf place body (damaged p) = λ e. cc e
some_body_at f shelf place body (other p) = λ e. cc e

some_bodies_at : (f shelf place : ℕ) (bodies : List (List ℕ)) (m : Making) → m ≢ nothing → with_bodies_at f texts shelf place bodies m ≢ nothing
some_bodies_at f shelf place [] m h = h
some_bodies_at f shelf place (body ∷ bodies) m h = some_bodies_at f shelf (place + 5 + length body) bodies (with_body_at f texts shelf place body m) (some_body_at f shelf place body m)

none_read_at : (f shelf : ℕ) (bodies : List (List ℕ)) → book_of_format f texts shelf bodies ≡ nothing → bodies ≡ []
none_read_at f shelf [] is = refl
none_read_at f shelf (body ∷ bodies) is = absurd (some_bodies_at f shelf (8 + 5 + length body) bodies (with_body_at f texts shelf 8 body nothing) (some_body_at f shelf 8 body nothing) is)

-- ---- what is written is what an opening goes on with

-- of an older format
older_bodies : (f shelf : ℕ) (bodies : List (List ℕ)) → (f ≡ newest → ⊥) → bodies_now f shelf bodies ≡ bodies_by f shelf bodies (made_in (book_of_format f texts shelf bodies))
older_bodies f shelf bodies old = by_test (f == newest) refl
  where
    by_test : (t : Bool) → (f == newest) ≡ t
        → (if t then bodies else bodies_by f shelf bodies (made_in (book_of_format f texts shelf bodies))) ≡ bodies_by f shelf bodies (made_in (book_of_format f texts shelf bodies))
    by_test true is = absurd (old (grind (arith, nat_tests, is)))
    by_test false is = refl

file_of_made : (m : Making) (w : Made) (notes : FileNotes) → made_in m ≡ Some w → IsUnfed m → IsFileOf notes m → file_in notes ≡ w.book.file
file_of_made nothing w notes is unfed file = absurd (let no : ⊥ = cc is in no)
file_of_made (waits s) w notes is unfed file = absurd unfed
file_of_made waited w notes is unfed file = absurd unfed
file_of_made (begun y) w notes is unfed file = file ∙ ap (λ (z : Made). z.book.file) (let same : y ≡ w = cc is in same)
file_of_made (made y) w notes is unfed file = file ∙ ap (λ (z : Made). z.book.file) (let same : y ≡ w = cc is in same)
file_of_made (damaged p) w notes is unfed file = absurd (let no : ⊥ = cc is in no)
file_of_made (other p) w notes is unfed file = absurd (let no : ⊥ = cc is in no)

-- what was found of a file of an older format: there is no record of another one's journal
abbrev pub FindsOlder : (shelf length : ℕ) → (fed : Bool) → Found → Making → Type 0
FindsOlder shelf n fed found.Nothing m = m ≡ nothing
FindsOlder shelf n fed x m = Finds shelf n fed x m

none_older : (shelf : ℕ) (fed : Bool) (m : Making) → FindsNone shelf fed m → IsUnfed m → m ≡ nothing
none_older shelf true m finds unfed = absurd (subst IsUnfed finds unfed)
none_older shelf false m (inl is) unfed = is
none_older shelf false m (inr is) unfed = absurd (subst IsUnfed is unfed)

pub finds_older : (f shelf n : ℕ) (fed : Bool) (bodies : List (List ℕ)) (notes : FileNotes) → IsOlder f → (x : Found) → Finds shelf n fed x (book_of_format f texts shelf bodies)
    → WhereMade x (NotesFile f shelf bodies notes (book_of_format f texts shelf bodies)) → FindsOlder shelf n fed x (book_of_format f texts shelf bodies)
finds_older f shelf n fed bodies notes older found.Nothing finds known = none_older shelf fed (book_of_format f texts shelf bodies) finds (older_unfed f shelf bodies older known.bytes)
finds_older f shelf n fed bodies notes older (found.Made b library) finds known = finds
finds_older f shelf n fed bodies notes older (found.Damaged p) finds known = finds
finds_older f shelf n fed bodies notes older (found.Other p) finds known = finds
finds_older f shelf n fed bodies notes older found.Memory finds known = tt

module _ (f shelf n : ℕ) (fed : Bool) (bodies : List (List ℕ)) (older : IsOlder f) (notes : FileNotes) (noted : IsNoted notes) (anew : List (List ℕ)) (plan : List Bool) (number : ℕ) where
  abbrev making : Making
  making = book_of_format f texts shelf bodies

  of_made : (w : Made) → made_in making ≡ Some w → number ≡ w.book.logged → plan ≡ plan_in w.book.instances notes.notes.items → NotesFile f shelf bodies notes making → ReadsAnew f shelf bodies anew
      → copied plan false (body_of (draws number)) anew ≡ copies f texts shelf bodies w
  of_made w is logged planned known reads =
      let small = known.bytes in
      let unfed = older_unfed f shelf bodies older small in
      let k : KnowsMade f shelf bodies w notes plan = record { noted = noted; file = file_of_made making w notes is unfed known.file; marks = known.marks; planned = planned } in
      ap (λ (q : ℕ). copied plan false (body_of (draws q)) anew) logged ∙ written_so f shelf bodies w (unfed_made making w unfed is) small is notes plan k older anew (reads.0 older.old)

  -- whatever was read
  pub anew_is : (x : Found) → FindsOlder shelf n fed x making → WhereMade x (NotesFile f shelf bodies notes making) → WhereMade x (ReadsAnew f shelf bodies anew) → StaysBy notes plan number x
      → copied plan false (body_of (draws number)) (anew_by x anew) ≡ bodies_now f shelf bodies
  anew_is found.Nothing finds known reads stays =
      let none : bodies ≡ [] = none_read_at f shelf bodies finds in
      sym (older_bodies f shelf bodies older.old ∙ (ap (λ (o : Option Made). bodies_by f shelf bodies o) (ap made_in finds) ∙ none))
  anew_is (found.Made b library) finds known reads stays =
      let w = finds.whole in
      let book = finds.book in
      let here = of_made w finds.is (stays.1 ∙ sym (ap (λ (y : Book). y.logged) book)) (stays.0 (library_of library).all ∙ ap (λ (y : Book). plan_in y.instances notes.notes.items) (sym book)) known reads in
      here ∙ sym (older_bodies f shelf bodies older.old ∙ ap (bodies_by f shelf bodies) finds.is)
  anew_is (found.Damaged p) finds known reads stays = absurd stays
  anew_is (found.Other p) finds known reads stays = absurd stays
  anew_is found.Memory finds known reads stays = absurd stays

-- what is copied hangs on what stays, the number and the bodies alone
pub same_copied : (p q : List Bool) (x y : List ℕ) (bs cs : List (List ℕ)) → p ≡ q → x ≡ y → bs ≡ cs → copied p false x bs ≡ copied q false y cs
same_copied p q x y bs cs plan number bodies =
    ap (λ (r : List Bool). copied r false x bs) plan ∙ (ap (λ (z : List ℕ). copied q false z bs) number ∙ ap (copied q false y) bodies)

-- what was read, unless that is no record, has bodies in the newest format
pub anew_some : (x : Found) (anew : List (List ℕ)) → x ≢ found.Nothing → anew ≡ anew_by x anew
anew_some found.Nothing anew some = absurd (some refl)
anew_some (found.Made b library) anew some = refl
anew_some (found.Damaged p) anew some = refl
anew_some (found.Other p) anew some = refl
anew_some found.Memory anew some = refl

-- records tell the next number of a book that was read
pub low_number : (shelf : ℕ) (x : Found) → IsFoundInOrder shelf x → HasLowNumber x
low_number shelf found.Nothing order = tt
low_number shelf (found.Made b library) order =
    let f = first_file 0 [] in
    let drawn = (order.range false 0 f).drawn in
    let logged = (order.orderly false 0 f).logged in
    omega (arith, drawn, logged)
low_number shelf (found.Damaged p) order = tt
low_number shelf (found.Other p) order = tt
low_number shelf found.Memory order = tt

-- what the laws say of what is written
pub record MigrationLaws : Type 0 where
  pub books : MigrationsMakeTheBook
  pub own : CopiesAreOwn
  pub between : MigrationsStandBetween

-- ---- what becomes of the journal

module _ {D : Type 0} (view : D → View) (tells : Bool) (shelf : ℕ) (j : Journal D) (settled : IsTrue tells → IsSettled view j) where
  abbrev v : View
  v = view_of view j

  abbrev bodies : List (List ℕ)
  bodies = bodies_in view j

  own_quiet : (new : Journal D) → LeavesOnly v (view_of view new) v.images → IsTrue tells → AreOwnIn j.format texts shelf bodies → StaysOwnThroughout shelf v (view_of view new)
  own_quiet new run told own = quiet_own shelf v (view_of view new) run (settled_own view shelf j (settled told) own)

  -- one of the newest format is left alone
  pub left_newest : OnlyNow v → LeavesOnly v v v.images → j.format ≡ newest → Migrates {T = Unit {0}} view tells shelf j j (Ok tt)
  left_newest only_now still now = record {
    moved = λ told. record {
      settled = settled told;
      bodies = sym (ap (λ (f : ℕ). bodies_now f shelf bodies) now);
      makes = sym (ap (λ (f : ℕ). making_now f shelf bodies) now ∙ making_newest shelf bodies);
      faults = λ x none is. ap (λ (f : ℕ). book_of_format f texts shelf bodies) now ∙ (format_of_now texts shelf bodies ∙ is);
    };
    moments = λ told. left_first view j newest (bodies_now j.format shelf bodies) v (settled told) still;
    still = λ _. (refl, refl);
    moves = λ told older w is. inl still;
    done = λ told older w is. absurd (older now);
    own = λ told own. now_own shelf bodies (subst (λ (f : ℕ). AreOwnIn f texts shelf bodies) now own);
    own_moments = λ told own. own_quiet j still told own;
    refused = λ told. tt;
    quiet = λ e is no. absurd (let never : ⊥ = cc is in never);
    cause = λ is. absurd (let never : ⊥ = cc is in never);
    later = omega arith;
  }

  -- it was read, and nothing was written
  pub not_moved : (j.format ≡ newest → ⊥) → (new : Journal D) → IsQuiet v (view_of view new) → (e : BeginFault) → (IsTrue tells → IsMigrationFault j.format shelf bodies e) → (e ≡ fault.DiskFault → HasFailed v (view_of view new))
      → Migrates {T = Unit {0}} view tells shelf j new (Err e)
  not_moved old new quiet e refused cause = record {
    moved = λ told. tt;
    moments = λ told. left_first view j newest (bodies_now j.format shelf bodies) (view_of view new) (settled told) quiet.moments;
    still = λ now. absurd (old now);
    moves = λ told older w is. inl quiet.moments;
    done = λ told older w is. tt;
    own = λ told own. tt;
    own_moments = λ told own. own_quiet new quiet.moments told own;
    refused = refused;
    quiet = λ x is no. (quiet.seen, quiet.images);
    cause = λ is. cause (let same : e ≡ fault.DiskFault = cc is in same);
    later = quiet.faults;
  }

  -- ---- it was read, and its file is to give place to this one

  module _ (old : j.format ≡ newest → ⊥) (mid : Journal D) (quiet : IsQuiet v (view_of view mid)) (format : mid.format ≡ j.format) (known : is_format j.format ≡ true) (read : ReadBook) (notes_are : IsNoted read.notes) (ordered : IsFoundInOrder shelf read.found)
      (finds_any : IsTrue tells → Finds shelf (length_of j) read.follows read.found (book_of_format j.format texts shelf bodies)) (noted : IsTrue tells → WhereMade read.found (NotesFile j.format shelf bodies read.notes (book_of_format j.format texts shelf bodies)))
      (anew : IsTrue tells → WhereMade read.found (ReadsAnew j.format shelf bodies read.anew.items)) (laws : MigrationLaws) where
    abbrev others : List (List ℕ)
    others = bodies_now j.format shelf bodies

    older_here : IsOlder j.format
    older_here = record { known = known; old = old }

    leads : AreAllBytes bodies → (w : Made) → made_in (book_of_format j.format texts shelf bodies) ≡ Some w → w.book.follows ≡ false
    leads small w is = unfed_made (book_of_format j.format texts shelf bodies) w (older_unfed j.format shelf bodies older_here small) is

    finds : IsTrue tells → FindsOlder shelf (length_of j) read.follows read.found (book_of_format j.format texts shelf bodies)
    finds told = finds_older j.format shelf (length_of j) read.follows bodies read.notes older_here read.found (finds_any told) (noted told)

    -- why there is no file
    pub no_file : (e : BeginFault) → IsNoneAnew read e → Migrates {T = Unit {0}} view tells shelf j mid (Err e)
    no_file e none = not_moved old mid quiet e (λ told. by_fault told e none) (λ is. absurd (subst (IsNoneAnew read) is none))
      where
        by_fault : IsTrue tells → (x : BeginFault) → IsNoneAnew read x → IsMigrationFault j.format shelf bodies x
        by_fault told (fault.Damaged p) is = subst (λ (y : Found). FindsOlder shelf (length_of j) read.follows y (book_of_format j.format texts shelf bodies)) is (finds told)
        by_fault told (fault.Other p) is = subst (λ (y : Found). FindsOlder shelf (length_of j) read.follows y (book_of_format j.format texts shelf bodies)) is (finds told)
        by_fault told (fault.Full n) long = record {
          is = long.is ∙ ap (λ (bs : List (List ℕ)). length (at_rest bs)) (anew_is j.format shelf (length_of j) read.follows bodies older_here read.notes notes_are read.anew.items long.plan long.number read.found (finds told) (noted told) (anew told) long.stays);
          long = long.long;
        }
        by_fault told fault.DiskFault is = tt
        by_fault told fault.Memory is = tt

    module _ (file : FileAnew) (its : IsFileAnew read file) where
      -- its bodies are those that an opening goes on with
      pub stored_is : IsTrue tells → stored file.bytes.items ≡ others
      stored_is told =
          at_rest_once others file.bytes.items its.whole.fits
          (its.bytes_are ∙ ap at_rest (anew_is j.format shelf (length_of j) read.follows bodies older_here read.notes notes_are read.anew.items its.plan its.number read.found (finds told) (noted told) (anew told) its.stays))

      others_fit : IsTrue tells → length (at_rest others) ≤ 2 ^ 30
      others_fit told =
          let long = ap (λ (bs : List (List ℕ)). length (at_rest bs)) (stored_is told) in
          let fits = its.whole.fits in
          let rests = ap (λ (bs : List ℕ). length bs) its.whole.rests in
          omega (arith, long, fits, rests)

      -- they make a book where those of the older file do
      again_by : IsTrue tells → (w : Made) → made_in (book_of_format j.format texts shelf bodies) ≡ Some w → IsToldAnew j.format w → AreAllBytes bodies → (k : Made) × (made_in (book_of texts shelf (copies j.format texts shelf bodies w)) ≡ Some k) × IsMigrated w k
      again_by told w is anew_so small =
          let written : others ≡ copies j.format texts shelf bodies w = older_bodies j.format shelf bodies old ∙ ap (bodies_by j.format shelf bodies) is in
          let fits : length (at_rest (copies j.format texts shelf bodies w)) ≤ 2 ^ 30 = subst (λ (bs : List (List ℕ)). length (at_rest bs) ≤ 2 ^ 30) written (others_fit told) in
          laws.books j.format texts shelf bodies w known anew_so small is (leads small w is) fits

      told_anew : (b : kept.Book) (library : rust.Library) → IsBookInOrder shelf b (library_of library) → (w : FindsBook shelf (length_of j) read.follows b (library_of library) (book_of_format j.format texts shelf bodies)) → IsToldAnew j.format w.whole
      told_anew b library order w = record {
        stored = λ low. has_stored (library_of library) (beside_file read.follows (length_of j) w.whole.book.file) w.whole b w.book w.told;
        whole = λ first_format. subst (λ (y : Book). AreWhole y.scripts) (sym w.book) (order.whole read.follows (length_of j) w.whole.book.file).setup;
      }

      made_again : IsTrue tells → (b : kept.Book) (library : rust.Library) → IsBookInOrder shelf b (library_of library) → (w : FindsBook shelf (length_of j) read.follows b (library_of library) (book_of_format j.format texts shelf bodies))
          → NotesFile j.format shelf bodies read.notes (book_of_format j.format texts shelf bodies) → (k : Made) × (made_in (book_of texts shelf others) ≡ Some k)
      made_again told b library order w file_of =
          let again = again_by told w.whole w.is (told_anew b library order w) file_of.bytes in
          let written : others ≡ bodies_by j.format shelf bodies (Some w.whole) = older_bodies j.format shelf bodies old ∙ ap (bodies_by j.format shelf bodies) w.is in
          (again.0, ap (λ (bs : List (List ℕ)). made_in (book_of texts shelf bs)) written ∙ again.1)

      -- they make what an opening goes on with
      makes_now : IsTrue tells → book_of texts shelf others ≡ making_now j.format shelf bodies
      makes_now told = by_found read.found (finds told) its.stays
        where
          by_found : (x : Found) → FindsOlder shelf (length_of j) read.follows x (book_of_format j.format texts shelf bodies) → StaysBy read.notes its.plan its.number x → book_of texts shelf others ≡ making_now j.format shelf bodies
          by_found found.Nothing is stays =
              let none : bodies ≡ [] = none_read_at j.format shelf bodies is in
              let bare : others ≡ [] = older_bodies j.format shelf bodies old ∙ (ap (λ (o : Option Made). bodies_by j.format shelf bodies o) (ap made_in is) ∙ none) in
              ap (book_of texts shelf) bare ∙ (sym is ∙ sym (ap (making_by j.format shelf bodies) (ap made_in is)))
          by_found (found.Made b library) is stays = sym (ap (making_by j.format shelf bodies) is.is)
          by_found (found.Damaged p) is stays = absurd stays
          by_found (found.Other p) is stays = absurd stays
          by_found found.Memory is stays = absurd stays

      -- what makes no book makes none of the older file
      faults_of : IsTrue tells → (x : Making) → made_in x ≡ None → book_of texts shelf others ≡ x → book_of_format j.format texts shelf bodies ≡ x
      faults_of told x none is = by_found read.found ordered (finds told) (noted told) its.stays
        where
          by_found : (y : Found) → IsFoundInOrder shelf y → FindsOlder shelf (length_of j) read.follows y (book_of_format j.format texts shelf bodies) → WhereMade y (NotesFile j.format shelf bodies read.notes (book_of_format j.format texts shelf bodies))
              → StaysBy read.notes its.plan its.number y → book_of_format j.format texts shelf bodies ≡ x
          by_found found.Nothing order is_nothing file_of stays =
              let bodies_none : bodies ≡ [] = none_read_at j.format shelf bodies is_nothing in
              let bare : others ≡ [] = older_bodies j.format shelf bodies old ∙ (ap (λ (o : Option Made). bodies_by j.format shelf bodies o) (ap made_in is_nothing) ∙ bodies_none) in
              is_nothing ∙ (sym (ap (book_of texts shelf) bare) ∙ is)
          by_found (found.Made b library) order finds_one file_of stays =
              let some = made_again told b library order finds_one file_of in
              absurd (let no : Some some.0 ≡ None = sym some.1 ∙ (ap made_in is ∙ none) in let never : ⊥ = cc no in never)
          by_found (found.Damaged p) order is_it file_of stays = absurd stays
          by_found (found.Other p) order is_it file_of stays = absurd stays
          by_found found.Memory order is_it file_of stays = absurd stays

      -- own ones where those of the older file are
      own_others : IsTrue tells → AreOwnIn j.format texts shelf bodies → AreOwn texts shelf others
      own_others told own = by_found read.found ordered (finds told) (noted told) its.stays
        where
          by_bodies : (w : Made) → made_in (book_of_format j.format texts shelf bodies) ≡ Some w → IsToldAnew j.format w → AreAllBytes bodies → AreOwn texts shelf (copies j.format texts shelf bodies w)
          by_bodies w is anew_so small =
              let written : others ≡ copies j.format texts shelf bodies w = older_bodies j.format shelf bodies old ∙ ap (bodies_by j.format shelf bodies) is in
              let fits : length (at_rest (copies j.format texts shelf bodies w)) ≤ 2 ^ 30 = subst (λ (bs : List (List ℕ)). length (at_rest bs) ≤ 2 ^ 30) written (others_fit told) in
              let k = laws.books j.format texts shelf bodies w known anew_so small is (leads small w is) fits in
              (laws.own j.format texts shelf bodies w k.0 (record { known = known; anew = anew_so; room = λ older. fits }) small is (leads small w is) k.1).own own

          by_found : (x : Found) → IsFoundInOrder shelf x → FindsOlder shelf (length_of j) read.follows x (book_of_format j.format texts shelf bodies) → WhereMade x (NotesFile j.format shelf bodies read.notes (book_of_format j.format texts shelf bodies))
              → StaysBy read.notes its.plan its.number x → AreOwn texts shelf others
          by_found found.Nothing order is file_of stays =
              let none : bodies ≡ [] = none_read_at j.format shelf bodies is in
              let bare : others ≡ [] = older_bodies j.format shelf bodies old ∙ (ap (λ (o : Option Made). bodies_by j.format shelf bodies o) (ap made_in is) ∙ none) in
              subst (AreOwn texts shelf) (sym bare) (now_own shelf [] (none_own newest shelf))
          by_found (found.Made b library) order is file_of stays =
              subst (AreOwn texts shelf) (sym (older_bodies j.format shelf bodies old ∙ ap (bodies_by j.format shelf bodies) is.is)) (by_bodies is.whole is.is (told_anew b library order is) file_of.bytes)
          by_found (found.Damaged p) order is file_of stays = absurd stays
          by_found (found.Other p) order is file_of stays = absurd stays
          by_found found.Memory order is file_of stays = absurd stays

      -- at each moment
      module _ (new : Journal D) (later : (view_of view mid).faults ≤ (view_of view new).faults) (moments : IsTrue tells → LeavesOnly (view_of view mid) (view_of view new) (IsEither mid.format newest (bodies_in view mid) (stored file.bytes.items))) where
        run : IsTrue tells → LeavesOnly v (view_of view new) (IsEither j.format newest bodies others)
        run told =
            left_then view j mid new others (settled told) quiet.moments format quiet.seen
            (subst (λ (bs : List (List ℕ)). LeavesOnly (view_of view mid) (view_of view new) (IsEither mid.format newest (bodies_in view mid) bs)) (stored_is told) (moments told))

        -- between the book that was found and the one with the new file
        moves_by : (told : IsTrue tells) (w : Made) → made_in (book_of_format j.format texts shelf bodies) ≡ Some w → Moves view shelf j new w
        moves_by told w is = by_found read.found ordered (finds told) (noted told) its.stays
          where
            by_bodies : IsToldAnew j.format w → AreAllBytes bodies → Moves view shelf j new w
            by_bodies anew_so small =
                let written : others ≡ copies j.format texts shelf bodies w = older_bodies j.format shelf bodies old ∙ ap (bodies_by j.format shelf bodies) is in
                let fits : length (at_rest (copies j.format texts shelf bodies w)) ≤ 2 ^ 30 = subst (λ (bs : List (List ℕ)). length (at_rest bs) ≤ 2 ^ 30) written (others_fit told) in
                let here_fits : length (at_rest bodies) ≤ 2 ^ 30 = (let s = settled told in omega (arith, s.end, s.fits)) in
                let k = laws.between j.format texts shelf bodies w known anew_so small is (leads small w is) here_fits fits in
                let l = k.3 in
                let here : LeavesOnly v (view_of view new) (IsEither j.format newest bodies (copies j.format texts shelf bodies w)) =
                subst (λ (ys : List (List ℕ)). LeavesOnly v (view_of view new) (IsEither j.format newest bodies ys)) written (run told) in
                record {
                  anew = k.0;
                  makes = ap (λ (bs : List (List ℕ)). made_in (book_of texts shelf bs)) written ∙ k.1;
                  renewed = k.2;
                  between = l.0;
                  run = leaves_map v (view_of view new) (IsEither j.format newest bodies (copies j.format texts shelf bodies w)) (Held l.0)
                      (carried j.format bodies (puts newest (copies j.format texts shelf bodies w)) l.0 l.1) here;
                }

            by_found : (y : Found) → IsFoundInOrder shelf y → FindsOlder shelf (length_of j) read.follows y (book_of_format j.format texts shelf bodies) → WhereMade y (NotesFile j.format shelf bodies read.notes (book_of_format j.format texts shelf bodies))
                → StaysBy read.notes its.plan its.number y → Moves view shelf j new w
            by_found found.Nothing order none file_of stays = absurd (let no : None ≡ Some w = sym (ap made_in none) ∙ is in let never : ⊥ = cc no in never)
            by_found (found.Made b library) order one file_of stays =
                by_bodies (subst (IsToldAnew j.format) (same_Some one.whole w (sym one.is ∙ is)) (told_anew b library order one)) file_of.bytes
            by_found (found.Damaged p) order none file_of stays = absurd stays
            by_found (found.Other p) order none file_of stays = absurd stays
            by_found found.Memory order none file_of stays = absurd stays

        own_run : IsTrue tells → AreOwnIn j.format texts shelf bodies → StaysOwnThroughout shelf v (view_of view new)
        own_run told own =
            let here_fits : length (at_rest bodies) ≤ 2 ^ 30 = let s = settled told in omega (arith, s.end, s.fits) in
            stays_own shelf v (view_of view new) (with_others j.format shelf bodies others known (here_fits, others_fit told, refl) own (own_others told own)) (run told)

        faults_on : v.faults ≤ (view_of view new).faults
        faults_on = let one = quiet.faults in omega (arith, one, later)

        pub moved_there : (IsTrue tells → IsSettled view new × (bodies_in view new ≡ stored file.bytes.items)) → Migrates {T = Unit {0}} view tells shelf j new (Ok tt)
        moved_there done = record {
          moved = λ told.
              let both = done told in
              let there = both.1 ∙ stored_is told in
              record { settled = both.0; bodies = there; makes = ap (book_of texts shelf) there ∙ makes_now told; faults = λ x none is. faults_of told x none (sym (ap (book_of texts shelf) there) ∙ is) };
          moments = run;
          still = λ now. absurd (old now);
          moves = λ told older w is. inr (moves_by told w is);
          done = λ told older w is. moves_by told w is;
          own = λ told own. subst (AreOwn texts shelf) (sym ((done told).1 ∙ stored_is told)) (own_others told own);
          own_moments = own_run;
          refused = λ told. tt;
          quiet = λ e is no. absurd (let never : ⊥ = cc is in never);
          cause = λ is. absurd (let never : ⊥ = cc is in never);
          later = faults_on;
        }

        pub move_in_doubt : HasFailed (view_of view mid) (view_of view new) → Migrates {T = Unit {0}} view tells shelf j new (Err fault.DiskFault)
        move_in_doubt failed = record {
          moved = λ told. tt;
          moments = run;
          still = λ now. absurd (old now);
          moves = λ told older w is. inr (moves_by told w is);
          done = λ told older w is. tt;
          own = λ told own. tt;
          own_moments = own_run;
          refused = λ told. tt;
          quiet = λ e is no. absurd (no (let same : e ≡ fault.DiskFault = cc is in same));
          cause = λ is. let one = quiet.faults in omega (arith, one, failed);
          later = faults_on;
        }

        pub no_room_to_move : IsRoomMade view tells mid new → Migrates {T = Unit {0}} view tells shelf j new (Err fault.Memory)
        no_room_to_move room = record {
          moved = λ told. tt;
          moments = run;
          still = λ now. absurd (old now);
          moves = λ told older w is. inr (moves_by told w is);
          done = λ told older w is. tt;
          own = λ told own. tt;
          own_moments = own_run;
          refused = λ told. tt;
          quiet = λ e is no. (room.seen ∙ quiet.seen, λ image left. quiet.images image (room.images image left));
          cause = λ is. absurd (let never : ⊥ = cc is in never);
          later = faults_on;
        }
