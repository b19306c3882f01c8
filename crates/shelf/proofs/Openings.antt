-- What opening a disk finds.
use Rattle.std.proofs.Common.{◌≡◌, ◌≢◌, ◌⊎◌, inl, inr, ⊎_elim, ℕ, ◌+◌, ◌==◌, Bool, true, false, List, [], ◌∷◌, length, Option, Some, None, if◌then◌else◌, refl, sym, ◌∙◌, ap, subst, arith}
use Rattle.std.proofs.lemmas.Option.{same_Some}
use Rattle.book_recovery.specs.SetupReader.Texts.{setup_of_texts as texts, IsReadSetup}
use Rattle.script_nodes.specs.Setup.{Named, Library}
use Rattle.web_disk.specs.View.{View, LeavesOnly}
use Rattle.page_journal.specs.Records.{newest, records, format_of, Intact, stored}
use Rattle.page_journal.specs.Scanned.{IsQuiet}
use Rattle.page_journal.specs.Settled.{IsSettled, bodies_in, length_of}
use Rattle.page_journal.specs.declared.journal.Journal.{Journal}
use Rattle.replay_spec.specs.Book.{Book, File, reopened}
use Rattle.journal_records.specs.Records.{Record, begins, changes, renews, draws, follows, promotes}
use Rattle.journal_records.specs.Reading.{read_record}
use Rattle.journal_records.specs.Laws.{AreRecordsExact}
use Rattle.book_recovery.specs.JournalSpec.Before.{Earlier, Made, made_of}
use Rattle.book_recovery.specs.JournalSpec.Retaking.{Told, unread, misread, told, told_in}
use Rattle.book_recovery.specs.JournalSpec.Making.{has_script, told_next, Making, nothing, waits, waited, begun, made, damaged, other, began, first_setup, first_by, start_by, fed_by, next_setup, promoted_by, next_by, second_by, made_in, with_body, with_bodies, book_of}
use Rattle.book_recovery.specs.JournalSpec.Bytes.{book_in_bytes}
use Rattle.book_recovery.specs.JournalSpec.Old.{book_of_format}
use Rattle.book_recovery.specs.JournalSpec.Opening.{opened_on}
use Rattle.book_recovery.specs.JournalSpec.Standing.{IsMadeBook, Makes, IsOneOf}
use Rattle.book_recovery.specs.JournalSpec.Keeping.{Keeps}
use Rattle.book_recovery.specs.JournalSpec.Whole.{HasWholeScripts}
use Rattle.book_recovery.specs.JournalSpec.Disks.{IsFit}
use Rattle.book_recovery.proofs.JournalSpec.Fitting.{made_fits}
use Rattle.book_recovery.proofs.JournalSpec.Between.{read_as}
use Rattle.book_recovery.proofs.JournalSpec.Standings.{settled_stands}
use Rattle.shelf.proofs.Newest.{makes_so}
use Rattle.book_recovery.specs.InstanceBook.declared.book.Book.{Book as RustBook}
use Rattle.book_recovery.specs.InstanceBook.Views as views
use Rattle.book_recovery.specs.InstanceBook.Views.{Beside}
use Rattle.book_recovery.specs.Found.{FindsBook, beside_file}
use Rattle.shelf.specs.Files.{file_in, read_file}
use Rattle.shelf.specs.Migrating.{making_now}
use Rattle.shelf.specs.Opening.{making_of, now_by_log, now_in_bytes}
use Rattle.shelf.specs.Views.{TellsStates}
use Rattle.book_recovery.specs.Found.{HasToldStates}

-- ---- what records make is nothing just where there is none

module _ (fed : Bool) (shelf place n : ℕ) where
  some_setup_first : (s : ℕ) (o : Option (List Named)) → first_setup fed shelf place n s o ≢ nothing
  some_setup_first s None = λ e. cc e
  some_setup_first s (Some scripts) = by_test (s == shelf)
    where
      by_test : (t : Bool) → (if t then begun (began fed shelf place n scripts) else other place) ≢ nothing
      by_test true = λ e. cc e
      by_test false = λ e. cc e

  pub some_first : (o : Option Record) → first_by texts fed shelf place n o ≢ nothing
  some_first None = λ e. cc e
  some_first (Some (changes c state)) = λ e. cc e
  some_first (Some (renews named)) = λ e. cc e
  some_first (Some (draws k)) = λ e. cc e
  some_first (Some follows) = λ e. cc e
  some_first (Some promotes) = λ e. cc e
  some_first (Some (begins s named)) = some_setup_first s (texts named)

pub some_start : (shelf place n : ℕ) (o : Option Record) → start_by texts shelf place n o ≢ nothing
some_start shelf place n None = λ e. cc e
some_start shelf place n (Some (changes c state)) = λ e. cc e
some_start shelf place n (Some (renews named)) = λ e. cc e
some_start shelf place n (Some (draws k)) = λ e. cc e
some_start shelf place n (Some follows) = λ e. cc e
some_start shelf place n (Some promotes) = λ e. cc e
some_start shelf place n (Some (begins s named)) = some_first false shelf place n (Some (begins s named))

pub some_fed : (shelf place n : ℕ) (o : Option Record) → fed_by texts shelf place n o ≢ nothing
some_fed shelf place n None = λ e. cc e
some_fed shelf place n (Some (changes c state)) = λ e. cc e
some_fed shelf place n (Some (renews named)) = λ e. cc e
some_fed shelf place n (Some (draws k)) = λ e. cc e
some_fed shelf place n (Some follows) = λ e. cc e
some_fed shelf place n (Some promotes) = λ e. cc e
some_fed shelf place n (Some (begins s named)) = some_first true shelf place n (Some (begins s named))

module _ (place n : ℕ) (m : Made) where
  pub some_told : (x : Told) (c : _) → told_next place n m c x ≢ nothing
  some_told unread c = λ e. cc e
  some_told misread c = λ e. cc e
  some_told (told d) c = λ e. cc e

  pub some_setup : (o : Option (List Named)) → next_setup place n m o ≢ nothing
  some_setup None = λ e. cc e
  some_setup (Some scripts) = λ e. cc e

  pub some_promoted : (fed : Bool) → promoted_by place n m fed ≢ nothing
  some_promoted true = λ e. cc e
  some_promoted false = λ e. cc e

  pub some_if : (t : Bool) (x : Making) → x ≢ nothing → (if t then x else damaged place) ≢ nothing
  some_if true x h = h
  some_if false x h = λ e. cc e

  some_next : (o : Option Record) → next_by texts place n m o ≢ nothing
  some_next None = λ e. cc e
  some_next (Some (begins s named)) = λ e. cc e
  some_next (Some (draws k)) = λ e. cc e
  some_next (Some (renews named)) = some_setup (texts named)
  some_next (Some follows) = λ e. cc e
  some_next (Some promotes) = some_promoted m.book.follows
  some_next (Some (changes c state)) =
      some_if (has_script (length m.book.scripts) c) (told_next place n m c (told_in m.earlier m.book c state)) (some_told (told_in m.earlier m.book c state) c)

  some_second : (o : Option Record) → second_by texts place n m o ≢ nothing
  some_second None = λ e. cc e
  some_second (Some (begins s named)) = λ e. cc e
  some_second (Some (draws k)) = λ e. cc e
  some_second (Some (renews named)) = some_setup (texts named)
  some_second (Some follows) = λ e. cc e
  some_second (Some promotes) = some_promoted m.book.follows
  some_second (Some (changes c state)) = some_next (Some (changes c state))

some_body : (shelf place : ℕ) (body : List ℕ) (m : Making) → with_body texts shelf place body m ≢ nothing
some_body shelf place body nothing = some_start shelf place (length body) (read_record body)
some_body shelf place body (waits s) = some_fed shelf place (length body) (read_record body)
some_body shelf place body waited = some_first false shelf place (length body) (read_record body)
some_body shelf place body (begun m) = some_second place (length body) m (read_record body)
some_body shelf place body (made m) = some_next place (length body) m (read_record body)
some_body shelf place body (damaged p) = λ e. cc e
some_body shelf place body (other p) = λ e. cc e

some_bodies : (shelf place : ℕ) (bodies : List (List ℕ)) (m : Making) → m ≢ nothing → with_bodies texts shelf place bodies m ≢ nothing
some_bodies shelf place [] m h = h
some_bodies shelf place (body ∷ bodies) m h = some_bodies shelf (place + 5 + length body) bodies (with_body texts shelf place body m) (some_body shelf place body m)

pub none_read : (shelf : ℕ) (bodies : List (List ℕ)) → book_of texts shelf bodies ≡ nothing → bodies ≡ []
none_read shelf [] is = refl
none_read shelf (body ∷ bodies) is =
    absurd (some_bodies shelf (8 + 5 + length body) bodies (with_body texts shelf 8 body nothing) (some_body shelf 8 body nothing) is)

pub not_nothing : (m : Making) (x : Made) → made_in m ≡ Some x → m ≢ nothing
not_nothing m x is none = let no : ⊥ = cc (none, is) in no

-- ---- the bytes of a disk, and the bodies of the journal that is opened on it

-- where there are none, any format makes nothing of them
pub read_in_bytes : (shelf : ℕ) (bytes : List ℕ) → (records bytes ≡ Intact (stored bytes)) ⊎ (bytes ≡ []) → book_in_bytes texts shelf bytes ≡ book_of_format (format_of bytes) texts shelf (stored bytes)
read_in_bytes shelf bytes (inl intact) = read_as texts shelf (stored bytes) bytes intact
read_in_bytes shelf bytes (inr none) = ap (book_in_bytes texts shelf) none ∙ ap (λ (l : List ℕ). book_of_format (format_of l) texts shelf (stored l)) (sym none)

-- what an opening goes on with, by the bytes
pub now_in : (shelf : ℕ) (bytes : List ℕ) → (records bytes ≡ Intact (stored bytes)) ⊎ (bytes ≡ []) → now_in_bytes shelf bytes ≡ making_now (format_of bytes) shelf (stored bytes)
now_in shelf bytes (inl intact) = by_bytes bytes intact
  where
    by_bytes : (bs : List ℕ) → records bs ≡ Intact (stored bs) → now_in_bytes shelf bs ≡ making_now (format_of bs) shelf (stored bs)
    by_bytes [] is = absurd (let no : ⊥ = cc is in no)
    by_bytes (b ∷ bs) is = ap (now_by_log (format_of (b ∷ bs)) shelf) is
now_in shelf bytes (inr none) = ap (now_in_bytes shelf) none ∙ ap (λ (l : List ℕ). making_now (format_of l) shelf (stored l)) (sym none)

-- what the shelf goes on with is a book by the bytes where it is by the bodies
pub made_there : (scripts : List Named) (shelf : ℕ) (m n : Making) (b : Book) → m ≡ n → IsMadeBook (opened_on shelf scripts n) b → IsMadeBook (opened_on shelf scripts m) b
made_there scripts shelf m n b same (seen, is) = (seen, ap (opened_on shelf scripts) same ∙ is)

-- ---- what is found of records can go on

module _ {D : Type 0} (view : D → View) (shelf : ℕ) (fed : Bool) (j : Journal D) where
  -- beside a book that was read of this journal
  abbrev pub read_beside : Beside
  read_beside = record { length = length_of j; file = read_file view shelf j; down = None; follows = fed }

  -- what can go on, with the states that records told
  pub found_fit : (b : Book) → AreRecordsExact → IsSettled view j → j.format ≡ newest → HasWholeScripts b → (b.follows ≡ false → IsReadSetup b.scripts) → Makes texts shelf (bodies_in view j) b → b ≡ reopened b → IsFit view texts shelf j b
  found_fit b x settled now whole read (seen, makes) again =
      let fits = made_fits x texts shelf (bodies_in view j) (made_of b seen) makes in
      let keeps : Keeps texts shelf (bodies_in view j) (reopened b) = record {
        earlier = seen;
        makes = makes;
        recoverable = fits.recoverable (record { setup = whole.setup; instances = whole.instances });
        read = read;
      } in
      record {
        settled = λ _. settled;
        holds = λ _. subst (Keeps texts shelf (bodies_in view j)) (sym again) keeps;
        stands = settled_stands view texts shelf j b settled (makes_so view shelf j b now (seen, makes)) (ap (λ (y : Book). y.down) again);
      }

  -- a book that was read of it, under this library
  abbrev pub there : RustBook → Library → Book
  there b lib = views.book_of lib read_beside b

  module _ (b : RustBook) (lib : Library) (finds : FindsBook shelf (length_of j) fed b lib (making_of view shelf j)) where
    pub found_is : finds.whole.book ≡ there b lib
    found_is =
        let file : read_file view shelf j ≡ finds.whole.book.file = ap file_in finds.is in
        finds.book ∙ ap (λ (f : File). views.book_of lib (beside_file fed (length_of j) f) b) (sym file)

    pub found_again : there b lib ≡ reopened (there b lib)
    found_again = sym found_is ∙ (finds.again ∙ ap reopened found_is)

    pub found_made : finds.whole ≡ made_of (there b lib) finds.whole.earlier
    found_made = ap (λ (y : Book). record { book = y; earlier = finds.whole.earlier }) (found_is ∙ found_again)

    pub found_makes : Makes texts shelf (bodies_in view j) (there b lib)
    found_makes = (finds.whole.earlier, finds.is ∙ ap (λ (m : Made). Some m) found_made)

    pub found_told : TellsStates view lib.all shelf j b
    found_told m is =
        let same : finds.whole ≡ m = same_Some finds.whole m (sym finds.is ∙ is) in
        subst (λ (e : Earlier). HasToldStates lib.all e.states b) (ap (λ (x : Made). x.earlier) same) finds.told

-- ---- crashes

-- it is one of two that the disk stood between, with the setup
pub one_of_there : (scripts : List Named) (shelf : ℕ) (v : View) (m : Making) (b : Book) → ((x : Made) → opened_on shelf scripts m ≡ Some x → IsOneOf texts shelf scripts v x.book)
    → b ≡ reopened b → IsMadeBook (opened_on shelf scripts m) b → IsOneOf texts shelf scripts v b
one_of_there scripts shelf v m b find again (seen, is) = subst (IsOneOf texts shelf scripts v) (sym again) (find (made_of b seen) is)

-- a call that writes nothing, after which one leaves what has a property that nothing else had before
pub quiet_leaves : (v0 v1 v2 : View) (P : List ℕ → Type 0) → IsQuiet v0 v1 → ((image : List ℕ) → v0.images image → P image) → LeavesOnly v1 v2 P → LeavesOnly v0 v2 P
quiet_leaves v0 v1 v2 P quiet holds run = record {
  later = omega (arith, quiet.moments.later, run.later);
  each = λ image left. ⊎_elim (λ was. holds image (quiet.moments.each image was)) (λ here. here) (run.before v0.moment image quiet.moments.later left);
  before = λ t image le left. ⊎_elim (λ was. ⊎_elim (λ at. inl at) (λ here. inr (holds image here)) (quiet.moments.before t image le was)) (λ here. inr here)
      (run.before t image (omega (arith, le, quiet.moments.later)) left);
}
