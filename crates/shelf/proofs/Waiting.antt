-- A shelf is opened that follows another one's journal: nothing is written.
use Rattle.std.proofs.Common.{◌≡◌, inl, ℕ, Bool, true, false, List, [], ◌∷◌, length, Result, IfOk, Some, None, Ok, Err, IsTrue, if◌then◌else◌, refl, sym, ◌∙◌, ap, subst, arith}
use Rattle.std.specs.Prelude.{OnOk}
use Rattle.std.proofs.lemmas.Bool.{false≢true}
use Rattle.book_recovery.specs.SetupReader.Texts.{setup_of_texts as texts}
use Rattle.script_nodes.specs.Setup.{Named, Library}
use Rattle.script_nodes.specs.Views.{library_of}
use Rattle.script_nodes.specs.declared.library.Library as kept
use Rattle.web_disk.specs.View.{View}
use Rattle.page_journal.specs.Records.{newest, stored, at_rest}
use Rattle.page_journal.specs.Scanned.{IsQuiet}
use Rattle.page_journal.specs.Settled.{IsSettled, view_of, bodies_in, length_of}
use Rattle.page_journal.specs.declared.journal.Journal.{Journal}
use Rattle.page_journal.proofs.Scans.{quiet_none}
use Rattle.replay_spec.specs.Book.{Book, File, reopened}
use Rattle.replay_spec.specs.Rules.{Rules, first_file, empty_book}
use Rattle.replay_spec.specs.Invariant.{IsOrderly}
use Rattle.replay_spec.proofs.Orderly.{books_stay}
use Rattle.replay_spec.proofs.Barred.{follower_setup}
use Rattle.replay_spec.proofs.Reopened.{same_self, follower_opened}
use Rattle.journal_records.specs.Laws.{AreRecordsExact}
use Rattle.book_recovery.specs.JournalSpec.Before.{state_at, Made, nothing_told, made_of}
use Rattle.book_recovery.specs.JournalSpec.Lengths.{journal_rules}
use Rattle.book_recovery.specs.JournalSpec.Making.{Making, waits, waiting, made_in, book_of}
use Rattle.book_recovery.specs.JournalSpec.Old.{book_of_format, format_of_now}
use Rattle.book_recovery.specs.JournalSpec.Opening as opening
use Rattle.book_recovery.specs.JournalSpec.Opening.{renewal_bodies, renewal_body, opened_book, opened_on}
use Rattle.book_recovery.specs.JournalSpec.Standing.{Makes}
use Rattle.book_recovery.specs.JournalSpec.Whole.{HasWholeScripts}
use Rattle.book_recovery.specs.JournalSpec.Spelling.{IsInRange}
use Rattle.book_recovery.specs.JournalSpec.Disks.{IsFit}
use Rattle.book_recovery.specs.InstanceBook.declared.book.Book.{Book as RustBook}
use Rattle.book_recovery.specs.InstanceBook.Views as views
use Rattle.book_recovery.specs.InstanceBook.Views.{Beside}
use Rattle.book_recovery.specs.declared.found.Found.{Found}
use Rattle.book_recovery.specs.declared.found.ReadBook.{ReadBook}
use Rattle.book_recovery.specs.declared.found.Found.TheVariants as found
use Rattle.book_recovery.specs.Found.{Finds, FindsBook, IsBookInOrder, IsFoundInOrder, HasStates, beside_file}
use Rattle.book_recovery.specs.Reading.{Gives, IsKept, ReadsSome}
use Rattle.book_recovery.specs.JournalSpec.Reading.{AreAllBytes}
use Rattle.book_recovery.specs.InstanceBook.declared.in_order.InOrder.{InOrder}
use Rattle.file_copies.specs.OfFileNotes.declared.notes.FileNotes.{FileNotes}
use Rattle.book_recovery.specs.Noting.{NotesFile, WhereMade}
use Rattle.book_recovery.proofs.JournalSpec.Standings.{OnlyNow}
use Rattle.shelf.specs.Fed.{IsFedAs, IsFedBy, IsFedAt, fed_of, follower_of, IsWaiting, IsFedOf}
use Rattle.shelf.specs.Files.{file_in, read_file, KnowsRead}
use Rattle.shelf.specs.Opening.{making_of, opening_bodies, HasOwnRecords, IsFollowerOf, IsFollowedBy, IsOpenedBook, OpensOwn, Opens, IsMadeOf}
use Rattle.shelf.specs.Faults.{IsReadFaultOf}
use Rattle.shelf.specs.declared.begin.BeginFault.{BeginFault}
use Rattle.shelf.specs.declared.begin.BeginFault.TheVariants as fault
use Rattle.shelf.specs.Owning.{StaysOwnThroughout}
use Rattle.shelf.proofs.Openings.{found_fit, read_beside, there, found_is, found_again, found_makes, found_told}
use Rattle.shelf.proofs.Renewing.{opened_by, bodies_by, opened_book_of}
use Rattle.shelf.proofs.Reading.{read_refused, none_waits_fed, known_file, noted_at}
use Rattle.shelf.proofs.Owned.{settled_own, quiet_own}
use Rattle.shelf.proofs.Newest.{own_in}

-- a shelf that follows is told no setup
none_told : (scripts : List Named) (b : Book) → b.follows ≡ true → opening.opening_bodies scripts b ≡ []
none_told scripts b follows =
    ap (λ (ss : List Named). renewal_bodies ss b.scripts) (follower_setup b scripts follows) ∙ ap (λ (t : Bool). if t then [] else renewal_body b.scripts ∷ []) (same_self b.scripts)

module _ {D : Type 0} (view : D → View) (tells : Bool) (scripts : List Named) (shelf : ℕ) (j : Journal D) (now_is : j.format ≡ newest) (settled : IsTrue tells → IsSettled view j) (only_now : OnlyNow (view_of view j)) (x : AreRecordsExact) where
  own_now : IsTrue tells → HasOwnRecords view shelf j → StaysOwnThroughout shelf (view_of view j) (view_of view j)
  own_now told own = quiet_own shelf (view_of view j) (view_of view j) (quiet_none (view_of view j) only_now).moments (settled_own view shelf j (settled told) (own_in view shelf j now_is own))

  -- ---- the records made a book

  module _ (b : RustBook) (old : kept.Library) (finds : IsTrue tells → FindsBook shelf (length_of j) true b (library_of old) (making_of view shelf j)) (order : IsBookInOrder shelf b (library_of old)) where
    abbrev lib : Library
    lib = library_of old

    abbrev pre : Book
    pre = there view shelf true j b lib

    made_there : (told : IsTrue tells) → IsMadeOf view scripts shelf true j j (b, old)
    made_there told =
        let f = finds told in
        let opened : opened_book shelf scripts f.whole.book ≡ reopened pre =
        ap (opened_book shelf scripts) (found_is view shelf true j b lib f) ∙ follower_opened (Some (journal_rules shelf)) scripts pre refl in
        (f.whole.earlier, opened_by scripts shelf (making_of view shelf j) f.whole f.is ∙ ap (λ (y : Book). Some (record { book = y; earlier = f.whole.earlier })) opened)

    none_added : (told : IsTrue tells) → opening_bodies scripts shelf (making_of view shelf j) ≡ []
    none_added told =
        let f = finds told in
        bodies_by scripts shelf (making_of view shelf j) f.whole f.is ∙ (ap (λ (y : Book). opening.opening_bodies scripts y) (found_is view shelf true j b lib f) ∙ none_told scripts pre refl)

    pub fed_opens : Opens view tells scripts shelf true j j (Ok (b, old))
    fed_opens = record {
      begun = λ told. made_there told;
      fit = λ told. found_fit view shelf true j pre x (settled told) now_is (order.whole true (length_of j) (read_file view shelf j)) (λ leads. order.read) (found_makes view shelf true j b lib (finds told)) (found_again view shelf true j b lib (finds told));
      told = λ told. found_told view shelf true j b lib (finds told);
      in_order = opened_book_of shelf true b lib order;
      setup = λ leads. absurd (false≢true (sym leads));
      own_moments = λ told own. own_now told own;
      refused = λ told. tt;
      quiet = λ told some other. inl (quiet_none (view_of view j) only_now);
      keeps = λ told no. inl (none_added told, (refl, λ image left. left));
      cause = λ e. absurd (let no : ⊥ = cc e in no);
      later = omega arith;
    }

  -- ---- it was fed no record

  module _ (b : RustBook) (old : kept.Library) (notes : FileNotes) (w : IsWaiting shelf notes (b, old)) where
    abbrev rules : Rules
    rules = record { fuel = 0; life = 0; instances = 0; pages = 0; journal = None }

    abbrev bare_lib : Library
    bare_lib = record { all = []; setup = [] }

    bare_is : library_of old ≡ bare_lib
    bare_is = ap (λ (all : List Named). record (library_of old) { all = all }) w.all ∙ ap (λ (ss : List Named). record { all = let none : List Named = [] in none; setup = ss }) w.setup

    abbrev first : Book
    first = empty_book rules [] shelf

    over : (n : ℕ) (f : File) → views.book_of bare_lib (beside_file true n f) b ≡ record first { length = n; file = f; follows = true }
    over n f = ap (λ (y : Book). record y { length = n; file = f; follows = true }) (w.empty bare_lib rules)

    bare_order : IsOpenedBook shelf true b bare_lib
    bare_order = record {
      placed = w.placed [];
      kept = ((λ n. None), w.given (λ n. None) []);
      shelf_is = ap (λ (y : Book). y.shelf) (w.empty bare_lib rules);
      read = λ leads. absurd (false≢true (sym leads));
      few = omega arith;
      orderly = λ n f.
          let o = books_stay.0 rules [] shelf in
          subst IsOrderly (sym (over n f)) (record { below = o.below; different = o.different; doubted = o.doubted; logged = o.logged; instances = o.instances; doubt = o.doubt });
      whole = λ n f. subst HasWholeScripts (sym (over n f)) (record { setup = λ k s e. absurd (let no : ⊥ = cc e in no); instances = λ k i e. absurd (let no : ⊥ = cc e in no) });
      range = λ n f. subst IsInRange (sym (over n f)) (record { drawn = omega arith; clock = omega arith; doubt = tt });
      again = λ n f. over n f ∙ ap reopened (sym (over n f));
    }

    pub waiting_order : IsOpenedBook shelf true b (library_of old)
    waiting_order = subst (IsOpenedBook shelf true b) (sym bare_is) bare_order

    module _ (told : IsTrue tells) (waits_so : making_of view shelf j ≡ waits shelf) (long : length_of j ≡ 15) where
      file_is : read_file view shelf j ≡ first_file 0 []
      file_is = ap (λ (m : Making). file_in (made_in m)) waits_so

      abbrev post : Book
      post = views.book_of (library_of old) (read_beside view shelf true j) b

      post_is : post ≡ (waiting shelf).book
      post_is =
          let here : read_beside view shelf true j ≡ beside_file true 15 (first_file 0 []) =
          ap (λ (n : ℕ). beside_file true n (read_file view shelf j)) long ∙ ap (beside_file true 15) file_is in
          ap (λ (l : Library). views.book_of l (read_beside view shelf true j) b) bare_is ∙ (ap (λ (y : Beside). views.book_of bare_lib y b) here ∙ over 15 (first_file 0 []))

      waiting_is : waiting shelf ≡ made_of post nothing_told
      waiting_is = ap (λ (y : Book). record { book = reopened y; earlier = nothing_told }) (sym post_is)

      made_waiting : IsMadeOf view scripts shelf true j j (b, old)
      made_waiting = (nothing_told, ap (opened_on shelf scripts) waits_so ∙ ap (λ (m : Made). Some m) waiting_is)

      makes_post : Makes texts shelf (bodies_in view j) post
      makes_post = (nothing_told, ap made_in waits_so ∙ ap (λ (m : Made). Some m) waiting_is)

      fit_waiting : IsFit view texts shelf j post
      fit_waiting =
          found_fit view shelf true j post x (settled told) now_is (waiting_order.whole (length_of j) (read_file view shelf j)) (λ leads. absurd (false≢true (sym leads))) makes_post
          (waiting_order.again (length_of j) (read_file view shelf j))

    -- the records tell no more than that it follows
    module _ (before : IsTrue tells → (making_of view shelf j ≡ waits shelf) × (length_of j ≡ 15)) where
      pub waiting_opens : Opens view tells scripts shelf true j j (Ok (b, old))
      waiting_opens = record {
        begun = λ told. made_waiting told (before told).0 (before told).1;
        fit = λ told. fit_waiting told (before told).0 (before told).1;
        told = λ told m is. w.given (λ n. state_at n m.earlier.states) (library_of old).all;
        in_order = waiting_order;
        setup = λ leads. absurd (false≢true (sym leads));
        own_moments = λ told own. own_now told own;
        refused = λ told. tt;
        quiet = λ told some other. inl (quiet_none (view_of view j) only_now);
        keeps = λ told no. inl (ap (opening_bodies scripts shelf) (before told).0, (refl, λ image left. left));
        cause = λ e. absurd (let no : ⊥ = cc e in no);
        later = omega arith;
      }

      pub waiting_own : IsTrue tells → HasOwnRecords view shelf j → OpensOwn view shelf j (b, old)
      waiting_own told own = record { records = own; states = w.states (library_of old).all }

      pub waiting_known : (told : IsTrue tells) (known : FileNotes) → NotesFile newest shelf (bodies_in view j) known (making_of view shelf j) → KnowsRead view shelf j notes
      waiting_known told known n =
          let none = subst (λ (m : Making). NotesFile newest shelf (bodies_in view j) known m) (before told).0 n in
          record {
            records = record { marks = w.marks ∙ (sym none.file ∙ n.marks); bytes = n.bytes };
            file = w.file ∙ sym (file_is told (before told).0 (before told).1);
          }

-- ---- how far it was fed

-- some records, which are bytes, make what was found of a shelf that follows
pub record Handed (shelf : ℕ) (alone : Bool) (y : Found) (seen : InOrder (Unit {0})) : Type 0 where
  pub bodies : List (List ℕ)
  pub bytes : AreAllBytes bodies
  pub gives : Gives shelf (length (at_rest bodies)) true alone y seen (book_of texts shelf bodies)

-- a book was found
fed_so : (shelf n : ℕ) (m : Making) (b : RustBook) (old : kept.Library) (alone : Bool) (seen : InOrder (Unit {0})) → Gives shelf n true alone (found.Made b old) seen m → IsFedBy (fed_of (found.Made b old) alone) shelf seen b (library_of old) m
fed_so shelf n m b old true seen g = record { whole = g.whole; is = g.is; tells = g.tells; first = g.first }
fed_so shelf n m b old false seen g = record { whole = g.whole; is = g.is; tells = g.tells; first = g.first }

fed_there : (shelf n : ℕ) (m : Making) (b : RustBook) (old : kept.Library) (alone : Bool) (seen : InOrder (Unit {0})) → Gives shelf n true alone (found.Made b old) seen m → IsFedAt (fed_of (found.Made b old) alone) shelf n seen b (library_of old) m
fed_there shelf n m b old true seen g = g
fed_there shelf n m b old false seen g = g

under_way : (shelf : ℕ) (b : RustBook) (old : kept.Library) (alone : Bool) (seen : InOrder (Unit {0})) → IsKept shelf alone seen (found.Made b old) → IsFedAs (fed_of (found.Made b old) alone) shelf seen b (library_of old)
under_way shelf b old true seen kept = kept
under_way shelf b old false seen kept = kept

pub follows_so : {D : Type 0} (view : D → View) (tells : Bool) (shelf len : ℕ) (j : Journal D) (b : RustBook) (old : kept.Library) (alone : Bool) (seen : InOrder (Unit {0})) → IsKept shelf alone seen (found.Made b old)
    → Handed shelf alone (found.Made b old) seen → (IsTrue tells → Gives shelf len true alone (found.Made b old) seen (making_of view shelf j)) → IsFollowerOf view tells shelf j (b, old) (follower_of (found.Made b old) alone seen)
follows_so view tells shelf len j b old alone seen kept some gives = record {
  standing = refl;
  fed = under_way shelf b old alone seen kept;
  made = record { bodies = some.bodies; bytes = some.bytes; at = fed_there shelf (length (at_rest some.bodies)) (book_of texts shelf some.bodies) b old alone seen some.gives };
  told = λ told. fed_so shelf len (making_of view shelf j) b old alone seen (gives told);
}

pub waits_so : {D : Type 0} (view : D → View) (tells : Bool) (shelf len : ℕ) (j : Journal D) (b : RustBook) (old : kept.Library) (alone : Bool) (seen : InOrder (Unit {0})) → IsKept shelf alone seen found.Nothing
    → Handed shelf alone found.Nothing seen → (IsTrue tells → Gives shelf len true alone found.Nothing seen (making_of view shelf j)) → IsFollowerOf view tells shelf j (b, old) (follower_of found.Nothing alone seen)
waits_so view tells shelf len j b old alone seen kept some gives = record {
  standing = refl;
  fed = kept;
  made = record { bodies = some.bodies; bytes = some.bytes; at = some.gives.before };
  told = λ told. (gives told).before.0;
}

-- ---- whatever was found

module _ {D : Type 0} (view : D → View) (tells : Bool) (scripts : List Named) (shelf : ℕ) (j : Journal D) (now_is : j.format ≡ newest) (settled : IsTrue tells → IsSettled view j) (only_now : OnlyNow (view_of view j)) (x : AreRecordsExact)
    (alone : Bool) (seen : InOrder (Unit {0})) (known notes : FileNotes) where
  -- it goes on as its records tell
  pub record GoesOnFed (y : Found) (r : Result (RustBook × kept.Library) BeginFault) : Type 0 where
    pub opened : Opens view tells scripts shelf true j j r
    pub follows : IsFollowedBy view tells shelf j (Some (follower_of y alone seen)) r
    pub own : IsTrue tells → HasOwnRecords view shelf j → HasStates y → IfOk r (OpensOwn view shelf j)
    pub knows : IsTrue tells → OnOk r (KnowsRead view shelf j notes)

  refused : (y : Found) (e : BeginFault) → (IsTrue tells → IsReadFaultOf scripts shelf (making_of view shelf j) e) → (e ≡ fault.DiskFault → ⊥) → GoesOnFed y (Err e)
  refused y e why other = record {
    opened = read_refused view tells scripts shelf j j now_is settled (quiet_none (view_of view j) only_now) true e why (λ is. absurd (other is));
    follows = tt;
    own = λ told own states. tt;
    knows = λ told. tt;
  }

  found_there : (b : RustBook) (old : kept.Library) → (IsTrue tells → Finds shelf (length_of j) true (found.Made b old) (making_of view shelf j)) → IsFoundInOrder shelf (found.Made b old)
      → (IsTrue tells → Gives shelf (length_of j) true alone (found.Made b old) seen (making_of view shelf j)) → IsKept shelf alone seen (found.Made b old) → Handed shelf alone (found.Made b old) seen
      → (IsTrue tells → NotesFile newest shelf (bodies_in view j) known (making_of view shelf j)) → (kept_so : notes ≡ known) → GoesOnFed (found.Made b old) (Ok (b, old))
  found_there b old finds order gives kept some noted kept_so = record {
    opened = fed_opens view tells scripts shelf j now_is settled only_now x b old finds order;
    follows = follows_so view tells shelf (length_of j) j b old alone seen kept some gives;
    own = λ told own states. record { records = own; states = states };
    knows = λ told. subst (KnowsRead view shelf j) (sym kept_so) (known_file view shelf j known b (library_of old) (finds told) (none_waits_fed view shelf (length_of j) j alone b (library_of old) seen (gives told)) (noted told));
  }

  none_there : (b : RustBook) (old : kept.Library) → IsWaiting shelf notes (b, old) → (IsTrue tells → Gives shelf (length_of j) true alone found.Nothing seen (making_of view shelf j)) → IsKept shelf alone seen found.Nothing → Handed shelf alone found.Nothing seen
      → (IsTrue tells → NotesFile newest shelf (bodies_in view j) known (making_of view shelf j)) → GoesOnFed found.Nothing (Ok (b, old))
  none_there b old w gives kept some noted =
      let before : IsTrue tells → (making_of view shelf j ≡ waits shelf) × (length_of j ≡ 15) = λ told. (gives told).before in
      record {
        opened = waiting_opens view tells scripts shelf j now_is settled only_now x b old notes w before;
        follows = waits_so view tells shelf (length_of j) j b old alone seen kept some gives;
        own = λ told own states. waiting_own view tells scripts shelf j now_is settled only_now x b old notes w before told own;
        knows = λ told. waiting_known view tells scripts shelf j now_is settled only_now x b old notes w before told known (noted told);
      }

  pub goes_on_fed : (y : Found) (r : Result (RustBook × kept.Library) BeginFault) → IsFedOf shelf y known notes r → (IsTrue tells → Finds shelf (length_of j) true y (making_of view shelf j)) → IsFoundInOrder shelf y
      → (IsTrue tells → Gives shelf (length_of j) true alone y seen (making_of view shelf j)) → IsKept shelf alone seen y → Handed shelf alone y seen → (IsTrue tells → WhereMade y (NotesFile newest shelf (bodies_in view j) known (making_of view shelf j))) → GoesOnFed y r
  goes_on_fed (found.Made b old) (Ok o) h finds order gives held some noted =
      subst (λ (z : RustBook × kept.Library). GoesOnFed (found.Made b old) (Ok z)) (sym h.0) (found_there b old finds order gives held some noted h.1)
  goes_on_fed (found.Made b old) (Err e) h finds order gives held some noted = absurd h
  goes_on_fed found.Nothing (Ok o) h finds order gives held some noted = none_there o.0 o.1 h gives held some noted
  goes_on_fed found.Nothing (Err e) h finds order gives held some noted = absurd h
  goes_on_fed (found.Damaged p) (Ok o) h finds order gives held some noted = absurd h
  goes_on_fed (found.Damaged p) (Err e) h finds order gives held some noted =
      refused (found.Damaged p) e (λ told. subst (IsReadFaultOf scripts shelf (making_of view shelf j)) (sym h) (finds told)) (λ is. let no : fault.Damaged p ≡ fault.DiskFault = sym h ∙ is in cc no)
  goes_on_fed (found.Other p) (Ok o) h finds order gives held some noted = absurd h
  goes_on_fed (found.Other p) (Err e) h finds order gives held some noted =
      refused (found.Other p) e (λ told. subst (IsReadFaultOf scripts shelf (making_of view shelf j)) (sym h) (finds told)) (λ is. let no : fault.Other p ≡ fault.DiskFault = sym h ∙ is in cc no)
  goes_on_fed found.Memory (Ok o) h finds order gives held some noted = absurd h
  goes_on_fed found.Memory (Err e) h finds order gives held some noted =
      refused found.Memory e (λ told. subst (IsReadFaultOf scripts shelf (making_of view shelf j)) (sym h) tt) (λ is. let no : fault.Memory ≡ fault.DiskFault = sym h ∙ is in cc no)

-- so it does after the reading of its journal
module _ {D : Type 0} (view : D → View) (tells : Bool) (scripts : List Named) (shelf : ℕ) (j0 j1 : Journal D) (now_is : j0.format ≡ newest) (format : j1.format ≡ j0.format) (settled : IsTrue tells → IsSettled view j1) (only_now : OnlyNow (view_of view j1)) (x : AreRecordsExact)
    (quiet : IsQuiet (view_of view j0) (view_of view j1)) (len : length_of j1 ≡ length_of j0) (read : ReadBook) (fed : read.follows ≡ true) where
  abbrev made_before : Making
  made_before = book_of_format j0.format texts shelf (bodies_in view j0)

  -- what holds of what was read holds of what is there
  moved_there : (P : ℕ → Making → Type 0) → P (length_of j0) made_before → P (length_of j1) (making_of view shelf j1)
  moved_there P h =
      let now : made_before ≡ making_of view shelf j0 = ap (λ (k : ℕ). book_of_format k texts shelf (bodies_in view j0)) now_is ∙ format_of_now texts shelf (bodies_in view j0) in
      let same : made_before ≡ making_of view shelf j1 = now ∙ ap (book_of texts shelf) (ap stored (sym quiet.seen)) in
      subst (λ (n : ℕ). P n (making_of view shelf j1)) (sym len) (subst (P (length_of j0)) same h)

  pub goes_on_read : (notes : FileNotes) (r : Result (RustBook × kept.Library) BeginFault) → IsFedOf shelf read.found read.notes notes r → (IsTrue tells → Finds shelf (length_of j0) read.follows read.found made_before) → IsFoundInOrder shelf read.found
      → (IsTrue tells → Gives shelf (length_of j0) read.follows read.alone read.found read.seen made_before) → IsKept shelf read.alone read.seen read.found → ReadsSome j0.format shelf read
      → (IsTrue tells → WhereMade read.found (NotesFile j0.format shelf (bodies_in view j0) read.notes made_before)) → GoesOnFed view tells scripts shelf j1 (format ∙ now_is) settled only_now x read.alone read.seen read.notes notes read.found r
  goes_on_read notes r is finds order gives kept some noted =
      goes_on_fed view tells scripts shelf j1 (format ∙ now_is) settled only_now x read.alone read.seen read.notes notes read.found r is
      (λ told. subst (λ (t : Bool). Finds shelf (length_of j1) t read.found (making_of view shelf j1)) fed (moved_there (λ n m. Finds shelf n read.follows read.found m) (finds told))) order
      (λ told. subst (λ (t : Bool). Gives shelf (length_of j1) t read.alone read.found read.seen (making_of view shelf j1)) fed (moved_there (λ n m. Gives shelf n read.follows read.alone read.found read.seen m) (gives told))) kept handed_so
      (λ told. subst (λ (bs : List (List ℕ)). WhereMade read.found (NotesFile newest shelf bs read.notes (book_of texts shelf bs))) (ap stored (sym quiet.seen)) (noted_at view shelf j0 read.notes read.found now_is (noted told)))
    where
      handed_so : Handed shelf read.alone read.found read.seen
      handed_so =
          let now : book_of_format j0.format texts shelf some.bodies ≡ book_of texts shelf some.bodies = ap (λ (k : ℕ). book_of_format k texts shelf some.bodies) now_is ∙ format_of_now texts shelf some.bodies in
          record {
            bodies = some.bodies;
            bytes = some.bytes;
            gives = subst (λ (t : Bool). Gives shelf (length (at_rest some.bodies)) t read.alone read.found read.seen (book_of texts shelf some.bodies)) fed
                (subst (Gives shelf (length (at_rest some.bodies)) read.follows read.alone read.found read.seen) now some.gives);
          }
