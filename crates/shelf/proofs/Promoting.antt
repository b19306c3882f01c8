-- A shelf that followed is like any other.
use Rattle.std.proofs.Common.{◌≡◌, ◌⊎◌, inl, inr, ◌∙◌, ap, sym, subst, refl, ℕ, ◌+◌, Bool, true, false, List, [], ◌∷◌, ◌++◌, length, Option, Some, None, option_map, is_some, IfSome, IsTrue}
use Rattle.std.proofs.lemmas.Option.{same_Some}
use Rattle.book_recovery.specs.SetupReader.Texts.{setup_of_texts as texts, IsReadSetup}
use Rattle.web_disk.specs.View.{View}
use Rattle.value_bytes.specs.Laws.{AreBytes}
use Rattle.page_journal.specs.Records.{newest}
use Rattle.page_journal.specs.Settled as journal
use Rattle.page_journal.specs.Settled.{IsSettled, bodies_in, length_of, is_broken}
use Rattle.page_journal.specs.declared.journal.Journal.{Journal}
use Rattle.replay_spec.specs.Book.{Book, File, reopened}
use Rattle.replay_spec.specs.Invariant.{IsOrderly}
use Rattle.journal_records.specs.Records.{promotes, body_of}
use Rattle.journal_records.specs.Old.{read_record_in}
use Rattle.journal_records.specs.Laws.{AreRecordsExact}
use Rattle.book_recovery.specs.JournalSpec.Before.{Earlier, Made, made_of}
use Rattle.book_recovery.specs.JournalSpec.Making.{Making, nothing, begun, made, promoted, made_in, book_of}
use Rattle.book_recovery.specs.JournalSpec.Old.{book_of_format, format_of_now}
use Rattle.book_recovery.specs.JournalSpec.Feeding.{PromotionsMakeTheBook}
use Rattle.book_recovery.specs.JournalSpec.Reading.{AreAllBytes}
use Rattle.book_recovery.specs.JournalSpec.Whole.{HasWholeScripts}
use Rattle.book_recovery.specs.JournalSpec.Spelling.{IsInRange}
use Rattle.book_recovery.specs.InstanceBook.Views as views
use Rattle.book_recovery.specs.Found.{HasToldStates}
use Rattle.book_recovery.specs.Noting.{mark_by, mark_in, marks_of}
use Rattle.book_recovery.specs.Reading.{IsUnderWay, making_of}
use Rattle.file_copies.specs.OfFileNotes.declared.notes.FileNotes.{FileNotes}
use Rattle.file_copies.specs.OfFileNotes.Files.{file_in, marks_in, IsNoted}
use Rattle.shelf.specs.declared.follower.Follower.{Follower}
use Rattle.shelf.specs.declared.follower.Fed.{Fed}
use Rattle.shelf.specs.declared.follower.Fed.TheVariants as fed
use Rattle.shelf.specs.declared.shelf.Shelf.{Shelf}
use Rattle.shelf.specs.Fed.{IsFedAs, IsFedBy}
use Rattle.shelf.specs.Following.{IsOpen, HasNotBegun, IsPromoted}
use Rattle.shelf.proofs.Adding.{can_be_fed}
use Rattle.shelf.specs.Views.{doubt_of, library_in, book_in, IsFed, IsInOrder}
use Rattle.shelf.proofs.Known.{bodies_more, bytes_more, settled_newest}
use Rattle.shelf.proofs.Openings.{found_fit}

-- the body that promotes a shelf
abbrev pub body : List ℕ
body = body_of promotes

-- the record of such a body is passed over, where others stand before it
passed_mark : AreRecordsExact → (alone : Bool) (w : Made) (y : Making) → y ≡ making_of alone w → mark_in newest y body ≡ false ∷ []
passed_mark x alone w y is = ap (λ (z : Making). mark_in newest z body) is ∙ by_alone alone
  where
    reads : read_record_in newest body ≡ Some promotes
    reads = x.newest body ∙ x.back promotes tt

    by_alone : (t : Bool) → mark_in newest (making_of t w) body ≡ false ∷ []
    by_alone true = ap (mark_by newest w) reads
    by_alone false = ap (mark_by newest w) reads

module _ {D N : Type 0} (view : D → View) (tells : Bool) (s : Shelf D N) (f : Follower) (is_fed : s.follower ≡ Some f) (order : IsInOrder view tells s) (law : PromotionsMakeTheBook) (x : AreRecordsExact) (new : Journal D) (after : FileNotes)
    (settled : IsTrue tells → IsSettled view new × (bodies_in view new ≡ bodies_in view s.journal ++ body ∷ [])) (sound : journal.IsSound new) (whole : is_broken new ≡ false) (now_is : new.format ≡ newest) (long : length_of new ≡ length_of s.journal + 6)
    (file : file_in after ≡ file_in s.notes) (marks : marks_in after ≡ marks_in s.notes ++ false ∷ []) (noted : IsNoted after) (bytes : AreBytes body) where
  -- the shelf then
  abbrev pub then : Shelf D N
  then = record s { journal = new; notes = after; follower = None }

  abbrev pub n : ℕ
  n = s.rules.number

  fed_is : IsFed view tells s f
  fed_is = subst (λ (o : Option Follower). IfSome o (IsFed view tells s)) is_fed order.fed

  -- its book
  abbrev pub led : Book → Book
  led b = record b { length = length_of s.journal + 6; follows = false }

  pub led_is : book_in view then ≡ led (book_in view s)
  led_is =
      let at : ℕ → File → Book = λ k g. views.book_of (library_in s) (record { length = k; file = g; down = option_map doubt_of s.down; follows = false }) s.book in
      ap (λ (k : ℕ). at k (file_in after)) long ∙ ap (at (length_of s.journal + 6)) file

  follows_so : (book_in view s).follows ≡ true
  follows_so = ap (λ (o : Option Follower). is_some o) is_fed

  up : s.down ≡ None
  up = fed_is.up

  down_so : (book_in view s).down ≡ None
  down_so = ap (option_map doubt_of) up

  bodies_are : IsTrue tells → bodies_in view new ≡ bodies_in view s.journal ++ body ∷ []
  bodies_are told = (settled told).1

  -- ---- where it knew of no record

  pub waited_so : f.fed ≡ fed.Waits → HasNotBegun view tells then
  waited_so waits_so = record {
    leads = refl;
    up = up;
    readable = record { sound = sound; settled = λ told. (settled told).0 };
    newest_is = now_is;
    whole = whole;
    none = λ told.
        let there = subst (λ (y : Fed). IsFedBy y n f.seen s.book (library_in s) (book_of texts n (bodies_in view s.journal))) waits_so (fed_is.told told) in
        ap (λ (bs : List (List ℕ)). made_in (book_of texts n bs)) (bodies_are told) ∙ ap made_in ((law texts n (bodies_in view s.journal)).1 n there);
  }

  -- ---- where it was fed some

  module _ (alone : Bool) (way : IsUnderWay n alone f.seen s.book (library_in s)) (so_far : IsTrue tells → (w : Made) × (book_of texts n (bodies_in view s.journal) ≡ making_of alone w)) where
    made_so : (told : IsTrue tells) → made_in (book_of texts n (bodies_in view s.journal)) ≡ Some (so_far told).0
    made_so told = ap made_in (so_far told).1 ∙ by_alone alone (so_far told).0
      where
        by_alone : (t : Bool) (w : Made) → made_in (making_of t w) ≡ Some w
        by_alone true w = refl
        by_alone false w = refl

    abbrev keeps_earlier : (told : IsTrue tells) → Earlier
    keeps_earlier told = ((order.fit told).holds down_so).earlier

    whole_is : (told : IsTrue tells) → (so_far told).0 ≡ made_of (book_in view s) (keeps_earlier told)
    whole_is told = same_Some (so_far told).0 (made_of (book_in view s) (keeps_earlier told)) (sym (made_so told) ∙ ((order.fit told).holds down_so).makes)

    promoted_so : (told : IsTrue tells) → book_of texts n (bodies_in view new) ≡ made (promoted 1 (made_of (book_in view s) (keeps_earlier told)))
    promoted_so told =
        let w = (so_far told).0 in
        let either : (book_of texts n (bodies_in view s.journal) ≡ begun w) ⊎ (book_of texts n (bodies_in view s.journal) ≡ made w) = by_alone alone w (so_far told).1 in
        let follows_on : w.book.follows ≡ true = ap (λ (m : Made). m.book.follows) (whole_is told) ∙ follows_so in
        ap (book_of texts n) (bodies_are told) ∙ ((law texts n (bodies_in view s.journal)).0 w follows_on either ∙ ap (λ (m : Made). made (promoted 1 m)) (whole_is told))
      where
        by_alone : (t : Bool) (w : Made) → book_of texts n (bodies_in view s.journal) ≡ making_of t w
            → (book_of texts n (bodies_in view s.journal) ≡ begun w) ⊎ (book_of texts n (bodies_in view s.journal) ≡ made w)
        by_alone true w is = inl is
        by_alone false w is = inr is

    -- what is made is its book, as after a crash
    made_led : (told : IsTrue tells) → made_in (book_of texts n (bodies_in view new)) ≡ Some (made_of (book_in view then) (keeps_earlier told))
    made_led told = ap made_in (promoted_so told) ∙ ap (λ (b : Book). Some (made_of b (keeps_earlier told))) (sym led_is)

    led_again : book_in view then ≡ reopened (book_in view then)
    led_again = led_is ∙ (ap led fed_is.again ∙ ap reopened (sym led_is))

    led_whole : HasWholeScripts (book_in view then)
    led_whole = subst HasWholeScripts (sym led_is) (record { setup = order.scripts_are.setup; instances = order.scripts_are.instances })

    read_so : IsReadSetup (library_in s).setup
    read_so = way.scripts.read

    pub led_order : IsInOrder view tells then
    led_order = record {
      placed = order.placed;
      kept = order.kept;
      orderly = subst IsOrderly (sym led_is) (record { below = order.orderly.below; different = order.orderly.different; doubted = order.orderly.doubted; logged = order.orderly.logged; instances = order.orderly.instances; doubt = order.orderly.doubt });
      scripts_are = led_whole;
      read = λ _. read_so;
      range = subst IsInRange (sym led_is) (record { drawn = order.range.drawn; clock = order.range.clock; doubt = order.range.doubt });
      number = order.number;
      limits = order.limits;
      few = order.few;
      sound = sound;
      whole = λ _. whole;
      fit = λ told. found_fit view n false new (book_in view then) x (settled told).0 now_is led_whole (λ _. read_so) (keeps_earlier told, made_led told) led_again;
      told = λ told _ m is.
          let same : made_of (book_in view then) (keeps_earlier told) ≡ m = same_Some (made_of (book_in view then) (keeps_earlier told)) m (sym (made_led told) ∙ is) in
          subst (λ (e : Earlier). HasToldStates (library_in s).all e.states s.book) (ap (λ (y : Made). y.earlier) same)
          (order.told told up (made_of (book_in view s) (keeps_earlier told)) ((order.fit told).holds down_so).makes);
      knows = record {
        newest_is = now_is;
        noted = noted;
        images = λ told. settled_newest view new (settled told).0 now_is;
        records = λ told _.
            let r = order.knows.records told up in
            let bodies = bodies_in view s.journal in
            let mark : mark_in newest (book_of_format newest texts n bodies) body ≡ false ∷ [] = passed_mark x alone (so_far told).0 (book_of_format newest texts n bodies) (format_of_now texts n bodies ∙ (so_far told).1) in
            record {
              marks = marks ∙ (ap (λ (ts : List Bool). ts ++ false ∷ []) r.marks ∙ (ap (λ (ts : List Bool). marks_of newest texts n 8 bodies nothing ++ ts) (sym mark) ∙ (sym (bodies_more newest n 8 bodies body nothing) ∙ ap (λ (bs : List (List ℕ)). marks_of newest texts n 8 bs nothing) (sym (bodies_are told)))));
              bytes = subst AreAllBytes (sym (bodies_are told)) (bytes_more bodies body r.bytes bytes);
            };
      };
      fed = tt;
    }

  -- ---- whichever

  pub open_then : IsOpen view tells then
  open_then = by_fed f.fed refl fed_is.fed (λ told. fed_is.told told)
    where
      by_fed : (y : Fed) → f.fed ≡ y → IsFedAs y n f.seen s.book (library_in s) → (IsTrue tells → IsFedBy y n f.seen s.book (library_in s) (book_of texts n (bodies_in view s.journal))) → IsOpen view tells then
      by_fed fed.Waits is way so_far = inr (waited_so is)
      by_fed fed.Begun is way so_far = inl (led_order true way (λ told. ((so_far told).whole, (so_far told).is)))
      by_fed fed.Made is way so_far = inl (led_order false way (λ told. ((so_far told).whole, (so_far told).is)))

  pub promoted_shelf : IsPromoted view tells s then
  promoted_shelf = record { could = can_be_fed s f is_fed fed_is.standing; leads = refl; bodies = λ told. bodies_are told; book = led_is; opened = open_then }
