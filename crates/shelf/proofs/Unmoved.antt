-- A shelf that follows is as it was, where it was not fed what it was to be: but for the room that there is.
use Rattle.std.proofs.Common.{◌≡◌, ◌∙◌, ap, sym, subst, ℕ, Bool, true, false, List, length, map, Option, Some, None, option_map, is_some, IfSome, IsTrue}
use Rattle.std.proofs.lemmas.Bool.{false≢true}
use Rattle.book_recovery.specs.SetupReader.Texts.{setup_of_texts as texts}
use Rattle.script_nodes.specs.Setup.{Library}
use Rattle.script_nodes.specs.Views.{library_of}
use Rattle.script_nodes.specs.declared.library.Library as kept
use Rattle.web_disk.specs.View.{View}
use Rattle.page_journal.specs.Records.{newest, at_rest, stored}
use Rattle.page_journal.specs.Settled as journal
use Rattle.page_journal.specs.Settled.{view_of, bodies_in, length_of, is_broken}
use Rattle.page_journal.specs.declared.journal.Journal.{Journal}
use Rattle.replay_spec.specs.Admission.{is_one}
use Rattle.replay_spec.specs.Book.{Book, File, reopened}
use Rattle.replay_spec.specs.Invariant.{IsOrderly}
use Rattle.replay_spec.specs.Remade.{IsOrderlyMade}
use Rattle.book_recovery.specs.JournalSpec.Before.{Earlier, state_at}
use Rattle.book_recovery.specs.JournalSpec.Making.{Making, nothing, made_in, book_of}
use Rattle.book_recovery.specs.JournalSpec.Reading.{AreAllBytes}
use Rattle.book_recovery.specs.JournalSpec.Keeping.{Keeps}
use Rattle.book_recovery.specs.JournalSpec.Whole.{HasWholeScripts}
use Rattle.book_recovery.specs.JournalSpec.Spelling.{IsInRange}
use Rattle.book_recovery.specs.JournalSpec.Disks.{IsFit}
use Rattle.book_recovery.proofs.JournalSpec.Standings.{stands_then}
use Rattle.book_recovery.specs.InstanceBook.declared.book.Book.{Book as RustBook}
use Rattle.book_recovery.specs.InstanceBook.Views as views
use Rattle.book_recovery.specs.InstanceBook.Places.{given}
use Rattle.book_recovery.specs.InstanceBook.Makes.{HasPlaces, HasSomeStates}
use Rattle.book_recovery.specs.InstanceBook.Standing.{book_under}
use Rattle.book_recovery.specs.Found.{HasToldStates, beside_file}
use Rattle.book_recovery.specs.Noting.{marks_of}
use Rattle.book_recovery.specs.Reading.{seen_by, TellsOf, IsMadeAs, IsUnderWay}
use Rattle.book_visits.specs.Admissions.{HasFew}
use Rattle.file_copies.specs.OfFileNotes.declared.notes.FileNotes.{FileNotes}
use Rattle.file_copies.specs.OfFileNotes.Files.{file_in, IsNoted}
use Rattle.file_copies.specs.OfFileNotes.Notes.{is_told}
use Rattle.shelf.specs.declared.follower.Follower.{Follower}
use Rattle.shelf.specs.declared.follower.Fed.{Fed}
use Rattle.shelf.specs.declared.follower.Fed.TheVariants as fed
use Rattle.shelf.specs.declared.shelf.Shelf.{Shelf}
use Rattle.shelf.specs.Fed.{IsFedAs, IsFedBy, IsFedAt, IsFedSome, IsMadeSoFar}
use Rattle.shelf.specs.Following.{IsKeptSo}
use Rattle.shelf.specs.Views.{doubt_of, library_in, book_in, IsFed, IsInOrder}
use Rattle.shelf.proofs.Still.{StaysSo}

-- ---- what is kept beside the book

module _ (n : ℕ) (f g : Follower) (b c : RustBook) (library next : kept.Library) (notes then_notes : FileNotes) (k : IsKeptSo f g b c library next notes then_notes) where
  abbrev lib : Library
  lib = library_of library

  tells_still : (e : Earlier) → TellsOf lib f.seen b e → TellsOf lib g.seen c e
  tells_still e t = record {
    numbers = λ i. t.numbers i ∙ ap (λ (ns : List ℕ). is_one i ns) (sym k.seen);
    known = t.known;
    states = k.book.states (given (λ i. state_at i e.states)) lib.all t.states;
  }

  way_still : (alone : Bool) → IsUnderWay n alone f.seen b lib → IsUnderWay n alone g.seen c lib
  way_still alone w =
      let same : book_under lib c ≡ book_under lib b = k.book.book lib _ in
      record {
        placed = k.book.placed lib.all w.placed;
        shelf_is = ap (λ (y : Book). y.shelf) same ∙ w.shelf_is;
        orderly = subst (λ (ns : List ℕ). IsOrderlyMade (record { book = book_under lib c; seen = ns })) (sym k.seen) (subst (λ (y : Book). IsOrderlyMade (record { book = y; seen = seen_by f.seen })) (sym same) w.orderly);
        tells = (w.tells.0, tells_still w.tells.0 w.tells.1);
        scripts = w.scripts;
        fresh = λ is. k.seen ∙ w.fresh is;
      }

  fed_as : (y : Fed) → IsFedAs y n f.seen b lib → IsFedAs y n g.seen c lib
  fed_as fed.Waits h = k.seen ∙ h
  fed_as fed.Begun h = way_still true h
  fed_as fed.Made h = way_still false h

  so_far : (alone : Bool) (m : Making) → IsMadeSoFar alone n f.seen b lib m → IsMadeSoFar alone n g.seen c lib m
  so_far alone m h = record { whole = h.whole; is = h.is; tells = tells_still h.whole.earlier h.tells; first = h.first }

  fed_by : (y : Fed) (m : Making) → IsFedBy y n f.seen b lib m → IsFedBy y n g.seen c lib m
  fed_by fed.Waits m h = h
  fed_by fed.Begun m h = so_far true m h
  fed_by fed.Made m h = so_far false m h

  made_as : (alone : Bool) (i : ℕ) (m : Making) → IsMadeAs n i true alone b lib f.seen m → IsMadeAs n i true alone c lib g.seen m
  made_as alone i m h = record {
    whole = h.whole;
    is = h.is;
    book = h.book ∙ sym (k.book.book lib (beside_file true i h.whole.book.file));
    tells = tells_still h.whole.earlier h.tells;
    first = h.first;
  }

  fed_at : (y : Fed) (i : ℕ) (m : Making) → IsFedAt y n i f.seen b lib m → IsFedAt y n i g.seen c lib m
  fed_at fed.Waits i m h = h
  fed_at fed.Begun i m h = made_as true i m h
  fed_at fed.Made i m h = made_as false i m h

  pub some_still : IsFedSome f.fed n f.seen b lib → IsFedSome g.fed n g.seen c (library_of next)
  some_still h = subst (λ (l : Library). IsFedSome g.fed n g.seen c l) (sym k.library_is) (subst (λ (y : Fed). IsFedSome y n g.seen c lib) (sym k.fed_is) (record {
    bodies = h.bodies;
    bytes = h.bytes;
    at = fed_at f.fed (length (at_rest h.bodies)) (book_of texts n h.bodies) h.at;
  }))

  pub as_still : IsFedAs f.fed n f.seen b lib → IsFedAs g.fed n g.seen c (library_of next)
  as_still h = subst (λ (l : Library). IsFedAs g.fed n g.seen c l) (sym k.library_is) (subst (λ (y : Fed). IsFedAs y n g.seen c lib) (sym k.fed_is) (fed_as f.fed h))

  pub by_still : (m : Making) → IsFedBy f.fed n f.seen b lib m → IsFedBy g.fed n g.seen c (library_of next) m
  by_still m h = subst (λ (l : Library). IsFedBy g.fed n g.seen c l m) (sym k.library_is) (subst (λ (y : Fed). IsFedBy y n g.seen c lib m) (sym k.fed_is) (fed_by f.fed m h))

-- ---- the shelf

module _ {D N : Type 0} (view : D → View) (tells : Bool) (s : Shelf D N) (f : Follower) (is_fed : s.follower ≡ Some f) (order : IsInOrder view tells s) (g : Follower) (c : RustBook) (next : kept.Library) (then_notes : FileNotes)
    (k : IsKeptSo f g s.book c s.library next s.notes then_notes) (new : Journal D) (call : StaysSo view tells s.journal new) (long : length_of new ≡ length_of s.journal) (sound : journal.IsSound new) (whole : is_broken new ≡ is_broken s.journal) (noted : IsNoted then_notes) where
  abbrev pub then : Shelf D N
  then = record s { journal = new; book = c; library = next; notes = then_notes; follower = Some g }

  abbrev pub n : ℕ
  n = s.rules.number

  fed_is : IsFed view tells s f
  fed_is = subst (λ (o : Option Follower). IfSome o (IsFed view tells s)) is_fed order.fed

  abbrev at : Library → ℕ → File → Bool → RustBook → Book
  at l i x t b = views.book_of l (record { length = i; file = x; down = option_map doubt_of s.down; follows = t }) b

  pub same_book : book_in view then ≡ book_in view s
  same_book =
      ap (λ (l : Library). at l (length_of new) (file_in then_notes) true c) k.library_is
      ∙ (k.book.book (library_in s) (record { length = length_of new; file = file_in then_notes; down = option_map doubt_of s.down; follows = true })
      ∙ (ap (λ (i : ℕ). at (library_in s) i (file_in then_notes) true s.book) long
      ∙ (ap (λ (x : File). at (library_in s) (length_of s.journal) x true s.book) k.knows.file
      ∙ ap (λ (t : Bool). at (library_in s) (length_of s.journal) (file_in s.notes) t s.book) (sym (ap (λ (o : Option Follower). is_some o) is_fed)))))

  bodies_still : bodies_in view s.journal ≡ bodies_in view new
  bodies_still = ap stored (sym call.seen)

  fit_still : (told : IsTrue tells) → IsFit view texts n new (book_in view s)
  fit_still told =
      let fit = order.fit told in
      record {
        settled = λ up. call.settled told (fit.settled up);
        holds = λ up. subst (λ (bs : List (List ℕ)). Keeps texts n bs (book_in view s)) bodies_still (fit.holds up);
        stands = (stands_then texts n (book_in view s) (view_of view s.journal) (view_of view new) fit.stands call.images).0;
      }

  pub kept_order : IsInOrder view tells then
  kept_order = record {
    placed = subst (λ (l : Library). HasPlaces l.all c) (sym k.library_is) (k.book.placed (library_in s).all order.placed);
    kept = subst (λ (l : Library). HasSomeStates l.all c) (sym k.library_is) (order.kept.0, k.book.states (given order.kept.0) (library_in s).all order.kept.1);
    orderly = subst IsOrderly (sym same_book) order.orderly;
    scripts_are = subst HasWholeScripts (sym same_book) order.scripts_are;
    read = λ leads. absurd (false≢true (sym leads));
    range = subst IsInRange (sym same_book) order.range;
    number = ap (λ (y : Book). y.shelf) (k.book.book (library_in s) (record { length = 0; file = file_in s.notes; down = None; follows = true })) ∙ order.number;
    limits = order.limits;
    few = subst HasFew (sym k.library_is) order.few;
    sound = sound;
    whole = λ up. whole ∙ order.whole up;
    fit = λ told. subst (IsFit view texts n new) (sym same_book) (fit_still told);
    told = λ told up m is.
        let old = order.told told up m (ap (λ (bs : List (List ℕ)). made_in (book_of texts n bs)) bodies_still ∙ is) in
        subst (λ (l : Library). HasToldStates l.all m.earlier.states c) (sym k.library_is) (k.book.states (given (λ i. state_at i m.earlier.states)) (library_in s).all old);
    knows = record {
      newest_is = call.format ∙ order.knows.newest_is;
      noted = noted;
      images = λ told image left. order.knows.images told image (call.images image left);
      records = λ told up.
          let r = order.knows.records told up in
          record {
            marks = ap (map is_told) k.knows.notes ∙ (r.marks ∙ ap (λ (bs : List (List ℕ)). marks_of newest texts n 8 bs nothing) bodies_still);
            bytes = subst AreAllBytes bodies_still r.bytes;
          };
    };
    fed = record {
      standing = k.fallen ∙ fed_is.standing;
      up = fed_is.up;
      again = same_book ∙ (fed_is.again ∙ ap reopened (sym same_book));
      fed = as_still n f g s.book c s.library next s.notes then_notes k fed_is.fed;
      made = some_still n f g s.book c s.library next s.notes then_notes k fed_is.made;
      told = λ told. by_still n f g s.book c s.library next s.notes then_notes k (book_of texts n (bodies_in view new)) (subst (λ (bs : List (List ℕ)). IsFedBy f.fed n f.seen s.book (library_in s) (book_of texts n bs)) bodies_still (fed_is.told told));
    };
  }
