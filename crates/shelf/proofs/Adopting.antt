-- A shelf that follows was fed one record more.
use Rattle.std.proofs.Common.{◌≡◌, ◌∙◌, ap, sym, subst, refl, ℕ, ◌+◌, Bool, true, false, List, [], ◌∷◌, ◌++◌, length, Option, Some, None, option_map, is_some, IfSome, Ok, IsTrue, arith}
use Rattle.std.proofs.lemmas.List.{length-append}
use Rattle.std.proofs.lemmas.Option.{same_Some, none-some}
use Rattle.book_recovery.specs.SetupReader.Texts.{setup_of_texts as texts}
use Rattle.script_nodes.specs.Setup.{Library}
use Rattle.script_nodes.specs.Views.{library_of}
use Rattle.script_nodes.specs.declared.library.Library as kept
use Rattle.web_disk.specs.View.{View}
use Rattle.value_bytes.specs.Laws.{AreBytes}
use Rattle.page_journal.specs.Records.{newest, at_rest, frames}
use Rattle.page_journal.specs.Settled as journal
use Rattle.page_journal.specs.Settled.{IsSettled, bodies_in, length_of, length_with, is_broken}
use Rattle.page_journal.specs.declared.journal.Journal.{Journal}
use Rattle.replay_spec.specs.Book.{File}
use Rattle.journal_records.specs.Records.{follows, body_of}
use Rattle.journal_records.specs.Roles.{is_role}
use Rattle.journal_records.specs.Laws.{AreRecordsExact}
use Rattle.book_recovery.specs.JournalSpec.Before.{Earlier, Made, made_of}
use Rattle.journal_records.specs.Records.{Record, begins, changes, renews, draws, promotes}
use Rattle.journal_records.specs.Reading.{read_record}
use Rattle.journal_records.specs.Old.{read_record_in}
use Rattle.book_recovery.specs.JournalSpec.Making.{Making, nothing, waits, waited, begun, made, damaged, other, waiting, next_by, second_by, with_body, made_in, book_of}
use Rattle.book_recovery.specs.JournalSpec.Old.{book_of_format, format_of_now, next_at, second_at, with_body_at}
use Rattle.book_recovery.specs.JournalSpec.Feeding.{OneBodyMore}
use Rattle.book_recovery.specs.JournalSpec.Laws.{BodiesOfAnyFormatFit}
use Rattle.book_recovery.specs.JournalSpec.Reading.{AreAllBytes}
use Rattle.book_recovery.proofs.JournalSpec.Fronts.{fronts_are}
use Rattle.book_recovery.specs.InstanceBook.declared.book.Book.{Book as RustBook}
use Rattle.book_recovery.specs.InstanceBook.Views as views
use Rattle.book_recovery.specs.declared.found.Found.TheVariants as found
use Rattle.book_recovery.specs.Found.{FindsBook, IsBookInOrder, beside_file}
use Rattle.book_recovery.specs.Noting.{mark_in, marks_of, IsFileOf, NotesFile}
use Rattle.book_recovery.specs.Reading.{IsUnderWay, IsMadeAs, making_of}
use Rattle.book_recovery.proofs.Took.{finds, in_order, frames_behind}
use Rattle.file_copies.specs.OfFileNotes.declared.notes.FileNotes.{FileNotes}
use Rattle.file_copies.specs.OfFileNotes.Files.{file_in, marks_in, IsNoted}
use Rattle.shelf.specs.declared.follower.Follower.{Follower}
use Rattle.shelf.specs.declared.follower.Fed.{Fed}
use Rattle.shelf.specs.declared.follower.Fed.TheVariants as fed
use Rattle.shelf.specs.declared.shelf.Shelf.{Shelf}
use Rattle.shelf.specs.Fed.{IsFedAs, IsFedBy, IsFedAt, IsFedSome, IsMadeSoFar}
use Rattle.shelf.specs.Files.{KnowsRead, KnowsRecords}
use Rattle.shelf.specs.Following.{IsFedOn, MakesNone, TellsPlace, CanStand, StandsBehind, StandsNowhere, HasAdopted, with_more}
use Rattle.shelf.proofs.Adding.{can_be_fed}
use Rattle.shelf.specs.Opening as opening
use Rattle.shelf.specs.Opening.{IsFollowerOf}
use Rattle.shelf.specs.Views.{doubt_of, library_in, follows_in, book_in, IsFed, IsInOrder}
use Rattle.shelf.proofs.Known.{bodies_more, bytes_more}
use Rattle.shelf.proofs.Opened.{opened_order}
use Rattle.shelf.proofs.Openings.{found_fit, found_makes, found_again, found_told}
use Rattle.shelf.proofs.Reading.{known_file, none_waits_fed}
use Rattle.shelf.proofs.Renewing.{opened_book_of}

-- ---- how long a file is with a body more

rest_long : (bodies : List (List ℕ)) → length (at_rest bodies) ≡ 8 + length (frames bodies) + 1
rest_long bodies = omega (arith, length-append (frames bodies) (0 ∷ []))

rest_behind : (bodies : List (List ℕ)) (body : List ℕ) → 8 + length (frames bodies) + 5 + length body + 1 ≡ length (at_rest (bodies ++ body ∷ []))
rest_behind bodies body = omega (arith, rest_long (bodies ++ body ∷ []), frames_behind bodies body)

-- ---- what was made before

-- in the newest format a record makes what it makes as it is written
next_now : (place k : ℕ) (w : Made) (r : Option Record) → next_at newest texts place k w r ≡ next_by texts place k w r
next_now place k w None = refl
next_now place k w (Some (begins z named)) = refl
next_now place k w (Some (changes c state)) = refl
next_now place k w (Some (renews named)) = refl
next_now place k w (Some (draws number)) = refl
next_now place k w (Some follows) = refl
next_now place k w (Some promotes) = refl

second_now : (place k : ℕ) (w : Made) (r : Option Record) → second_at newest texts place k w r ≡ second_by texts place k w r
second_now place k w None = refl
second_now place k w (Some (begins z named)) = refl
second_now place k w (Some (changes c state)) = refl
second_now place k w (Some (renews named)) = refl
second_now place k w (Some (draws number)) = refl
second_now place k w (Some follows) = refl
second_now place k w (Some promotes) = refl

body_now : (shelf place : ℕ) (body : List ℕ) (z : Making) → with_body_at newest texts shelf place body z ≡ with_body texts shelf place body z
unfolding read_record_in read_record
body_now shelf place body nothing = refl
body_now shelf place body (waits s) = refl
body_now shelf place body waited = refl
body_now shelf place body (begun w) = second_now place (length body) w (read_record body)
body_now shelf place body (made w) = next_now place (length body) w (read_record body)
body_now shelf place body (damaged p) = refl
body_now shelf place body (other p) = refl

-- what records make with a body more is what that one makes after them
with_more_is : (n : ℕ) (body : List ℕ) → OneBodyMore → (bodies : List (List ℕ)) → with_more n (8 + length (frames bodies)) body (book_of texts n bodies) ≡ book_of texts n (bodies ++ body ∷ [])
with_more_is n body one bodies = body_now n (8 + length (frames bodies)) body (book_of texts n bodies) ∙ sym (one texts n bodies body)

before_so : (n : ℕ) (f : Follower) (b : RustBook) (library : Library) (bodies : List (List ℕ)) → IsFedAt f.fed n (length (at_rest bodies)) f.seen b library (book_of texts n bodies)
    → IsFedAt f.fed n (8 + length (frames bodies) + 1) f.seen b library (book_of texts n bodies)
before_so n f b library bodies at = subst (λ (k : ℕ). IsFedAt f.fed n k f.seen b library (book_of texts n bodies)) (rest_long bodies) at

-- the book that was made of these records is made of them with this body more
module _ (n : ℕ) (body : List ℕ) (f g : Follower) (b c : RustBook) (library next : kept.Library) (notes then_notes : FileNotes) (more : IsFedOn n body f g b c library next notes then_notes) (one : OneBodyMore) where
  pub more_at : (bodies : List (List ℕ)) → IsFedAt f.fed n (length (at_rest bodies)) f.seen b (library_of library) (book_of texts n bodies)
      → IsFedAt g.fed n (length (at_rest (bodies ++ body ∷ []))) g.seen c (library_of next) (book_of texts n (bodies ++ body ∷ []))
  more_at bodies at =
      let place = 8 + length (frames bodies) in
      let m = book_of texts n bodies in
      subst (λ (k : ℕ). IsFedAt g.fed n k g.seen c (library_of next) (book_of texts n (bodies ++ body ∷ []))) (rest_behind bodies body)
      (subst (IsFedAt g.fed n (place + 5 + length body + 1) g.seen c (library_of next)) (with_more_is n body one bodies) (more.gives place m (before_so n f b (library_of library) bodies at)))

  pub more_known : (bodies : List (List ℕ)) → IsFedAt f.fed n (length (at_rest bodies)) f.seen b (library_of library) (book_of texts n bodies) → IsFileOf notes (book_of texts n bodies)
      → IsFileOf then_notes (book_of texts n (bodies ++ body ∷ [])) × (marks_in then_notes ≡ marks_in notes ++ mark_in newest (book_of texts n bodies) body)
  more_known bodies at file =
      let got = more.knows (8 + length (frames bodies)) (book_of texts n bodies) (before_so n f b (library_of library) bodies at) file in
      (subst (IsFileOf then_notes) (with_more_is n body one bodies) got.0, got.1)

  pub some_more : AreBytes body → IsFedSome f.fed n f.seen b (library_of library) → IsFedSome g.fed n g.seen c (library_of next)
  some_more bytes some = record { bodies = some.bodies ++ body ∷ []; bytes = bytes_more some.bodies body some.bytes bytes; at = more_at some.bodies some.at }

module _ {D N : Type 0} (view : D → View) (tells : Bool) (s : Shelf D N) (f : Follower) (is_fed : s.follower ≡ Some f) (order : IsInOrder view tells s) where
  abbrev pub n : ℕ
  n = s.rules.number

  pub fed_is : IsFed view tells s f
  fed_is = subst (λ (o : Option Follower). IfSome o (IsFed view tells s)) is_fed order.fed

  -- its book, beside its file
  shape : book_in view s ≡ views.book_of (library_in s) (beside_file true (length_of s.journal) (file_in s.notes)) s.book
  shape =
      ap (λ (o : Option _). views.book_of (library_in s) (record { length = length_of s.journal; file = file_in s.notes; down = option_map doubt_of o; follows = follows_in s }) s.book) fed_is.up
      ∙ ap (λ (t : Bool). views.book_of (library_in s) (beside_file t (length_of s.journal) (file_in s.notes)) s.book) (ap (λ (o : Option Follower). is_some o) is_fed)

  down_so : (book_in view s).down ≡ None
  down_so = ap (option_map doubt_of) fed_is.up

  module _ (told : IsTrue tells) where
    abbrev pub bodies : List (List ℕ)
    bodies = bodies_in view s.journal

    abbrev pub m : Making
    m = book_of texts n bodies

    abbrev e : Earlier
    e = ((order.fit told).holds down_so).earlier

    makes : made_in m ≡ Some (made_of (book_in view s) e)
    makes = ((order.fit told).holds down_so).makes

    made_by : (alone : Bool) (w : Made) → m ≡ making_of alone w → w ≡ made_of (book_in view s) e
    made_by true w is = same_Some w (made_of (book_in view s) e) (sym (ap made_in is) ∙ makes)
    made_by false w is = same_Some w (made_of (book_in view s) e) (sym (ap made_in is) ∙ makes)

    book_by : (alone : Bool) (w : Made) → m ≡ making_of alone w → w.book ≡ views.book_of (library_in s) (beside_file true (length_of s.journal) w.book.file) s.book
    book_by alone w is =
        let same = made_by alone w is in
        let file : w.book.file ≡ file_in s.notes = ap (λ (x : Made). x.book.file) same in
        ap (λ (x : Made). x.book) same ∙ (sym fed_is.again ∙ (shape ∙ ap (λ (g : File). views.book_of (library_in s) (beside_file true (length_of s.journal) g) s.book) (sym file)))

    as_so : (alone : Bool) → IsMadeSoFar alone n f.seen s.book (library_in s) m → IsMadeAs n (length_of s.journal) true alone s.book (library_in s) f.seen m
    as_so alone so = record { whole = so.whole; is = so.is; book = book_by alone so.whole so.is; tells = so.tells; first = so.first }

    by_fed : (y : Fed) → IsFedBy y n f.seen s.book (library_in s) m → IsFedAt y n (length_of s.journal) f.seen s.book (library_in s) m
    by_fed fed.Waits is =
        let same : waiting n ≡ made_of (book_in view s) e = same_Some (waiting n) (made_of (book_in view s) e) (sym (ap made_in is) ∙ makes) in
        (is, sym (ap (λ (x : Made). x.book.length) same))
    by_fed fed.Begun so = as_so true so
    by_fed fed.Made so = as_so false so

    pub at_now : IsFedAt f.fed n (length_of s.journal) f.seen s.book (library_in s) m
    at_now = by_fed f.fed (fed_is.told told)

    rest_now : length_of s.journal ≡ length (at_rest bodies)
    rest_now = ((order.fit told).settled down_so).end

    pub at_rest_now : IsFedAt f.fed n (length (at_rest bodies)) f.seen s.book (library_in s) m
    at_rest_now = subst (λ (k : ℕ). IsFedAt f.fed n k f.seen s.book (library_in s) m) rest_now at_now

    -- what is known of its file
    pub file_now : AreRecordsExact → IsFileOf s.notes m
    file_now x = by_now f.fed (fed_is.told told)
      where
        records : KnowsRecords view n s.journal s.notes
        records = order.knows.records told fed_is.up

        alone_marks : bodies ≡ body_of follows ∷ [] → marks_in s.notes ≡ []
        alone_marks is = records.marks ∙ ap (λ (bs : List (List ℕ)). marks_of newest texts n 8 bs nothing) is

        made_file : (alone : Bool) (w : Made) → m ≡ making_of alone w → IsFileOf s.notes m
        made_file true w is = subst (IsFileOf s.notes) (sym is) (sym (ap (λ (y : Made). y.book.file) (made_by true w is)))
        made_file false w is = subst (IsFileOf s.notes) (sym is) (sym (ap (λ (y : Made). y.book.file) (made_by false w is)))

        by_now : (y : Fed) → IsFedBy y n f.seen s.book (library_in s) m → IsFileOf s.notes m
        by_now fed.Waits is =
            let law = (fronts_are x newest texts n bodies records.bytes).1 n (format_of_now texts n bodies ∙ is) in
            subst (IsFileOf s.notes) (sym is) (alone_marks law.0)
        by_now fed.Begun so = made_file true so.whole so.is
        by_now fed.Made so = made_file false so.whole so.is

  -- ---- where a body stands

  module _ (body : List ℕ) (one : OneBodyMore) where
    -- where the records make no book with it
    pub stands_nowhere : MakesNone n body f s.book s.library → StandsNowhere view tells s body
    stands_nowhere none = λ told can.
        let bs = bodies_in view s.journal in
        let made = none (8 + length (frames bs)) (book_of texts n bs) (before_so n f s.book (library_in s) bs (at_rest_now told)) in
        none-some can.made (sym made ∙ (ap made_in (with_more_is n body one bs) ∙ can.makes))

    -- where they make one
    pub stands_there : is_role body ≡ false → TellsPlace n body f s.book s.library (Ok true) → StandsBehind view tells s body
    stands_there fed_so some = λ told.
        let bs = bodies_in view s.journal in
        let got = some (8 + length (frames bs)) (book_of texts n bs) (before_so n f s.book (library_in s) bs (at_rest_now told)) in
        record { fed = fed_so; made = got.0; makes = ap made_in (sym (with_more_is n body one bs)) ∙ got.1 }

  -- where the records made a book with it
  pub fed_stands : (body : List ℕ) (g : Follower) (c : RustBook) (next : kept.Library) (then_notes : FileNotes) → IsFedOn n body f g s.book c s.library next s.notes then_notes → OneBodyMore → is_role body ≡ false → StandsBehind view tells s body
  fed_stands body g c next then_notes more one fed_so = λ told.
      let bs = bodies_in view s.journal in
      by_more g.fed more.some (length (at_rest (bs ++ body ∷ []))) bs (more_at n body f g s.book c s.library next s.notes then_notes more one bs (at_rest_now told))
    where
      by_more : (y : Fed) → (y ≡ fed.Waits → ⊥) → (k : ℕ) (bs : List (List ℕ)) → IsFedAt y n k g.seen c (library_of next) (book_of texts n (bs ++ body ∷ [])) → CanStand n bs body
      by_more fed.Waits some k bs at = absurd (some refl)
      by_more fed.Begun some k bs at = record { fed = fed_so; made = at.whole; makes = ap made_in at.is }
      by_more fed.Made some k bs at = record { fed = fed_so; made = at.whole; makes = ap made_in at.is }

  -- ---- and then

  module _ (body : List ℕ) (g : Follower) (c : RustBook) (next : kept.Library) (then_notes : FileNotes) (more : IsFedOn n body f g s.book c s.library next s.notes then_notes) (one : OneBodyMore) (fits : BodiesOfAnyFormatFit) (x : AreRecordsExact)
      (bytes : AreBytes body) (new : Journal D) (settled : IsTrue tells → IsSettled view new × (bodies_in view new ≡ bodies_in view s.journal ++ body ∷ [])) (sound : journal.IsSound new)
      (whole : is_broken new ≡ false) (now_is : new.format ≡ newest) (noted : IsNoted then_notes) where
    -- the shelf then
    abbrev pub then : Shelf D N
    then = record s { journal = new; book = c; library = next; notes = then_notes; follower = Some g }

    some_then : IsFedSome g.fed n g.seen c (library_of next)
    some_then = some_more n body f g s.book c s.library next s.notes then_notes more one bytes fed_is.made

    standing : g.fallen ≡ None
    standing = more.fallen ∙ fed_is.standing

    making_then : IsTrue tells → book_of texts n (bodies_in view new) ≡ book_of texts n (bodies_in view s.journal ++ body ∷ [])
    making_then told = ap (book_of texts n) (settled told).1

    -- how far it was fed, by the disk
    at_then : (told : IsTrue tells) → IsFedAt g.fed n (length_of new) g.seen c (library_of next) (book_of texts n (bodies_in view new))
    at_then told =
        let there = more_at n body f g s.book c s.library next s.notes then_notes more one (bodies_in view s.journal) (at_rest_now told) in
        let here = subst (λ (bs : List (List ℕ)). IsFedAt g.fed n (length (at_rest bs)) g.seen c (library_of next) (book_of texts n bs)) (sym (settled told).1) there in
        subst (λ (k : ℕ). IsFedAt g.fed n k g.seen c (library_of next) (book_of texts n (bodies_in view new))) (sym (settled told).0.end) here

    notes_then : (told : IsTrue tells) → NotesFile newest n (bodies_in view new) then_notes (book_of texts n (bodies_in view new))
    notes_then told =
        let bs = bodies_in view s.journal in
        let records = order.knows.records told fed_is.up in
        let got = more_known n body f g s.book c s.library next s.notes then_notes more one bs (at_rest_now told) (file_now told x) in
        let mark : mark_in newest (book_of texts n bs) body ≡ mark_in newest (book_of_format newest texts n bs) body = ap (λ (y : Making). mark_in newest y body) (sym (format_of_now texts n bs)) in
        record {
          file = subst (IsFileOf then_notes) (sym (making_then told)) got.0;
          marks = got.1
              ∙ (ap (λ (ts : List Bool). ts ++ mark_in newest (book_of texts n bs) body) records.marks
              ∙ (ap (λ (ts : List Bool). marks_of newest texts n 8 bs nothing ++ ts) mark
              ∙ (sym (bodies_more newest n 8 bs body nothing) ∙ ap (λ (ls : List (List ℕ)). marks_of newest texts n 8 ls nothing) (sym (settled told).1))));
          bytes = subst AreAllBytes (sym (settled told).1) (bytes_more bs body records.bytes bytes);
        }

    -- how far, without how long the file is
    far : (y : Fed) (k : ℕ) (z : Making) → IsFedAt y n k g.seen c (library_of next) z → IsFedBy y n g.seen c (library_of next) z
    far fed.Waits k z at = at.0
    far fed.Begun k z at = record { whole = at.whole; is = at.is; tells = at.tells; first = at.first }
    far fed.Made k z at = record { whole = at.whole; is = at.is; tells = at.tells; first = at.first }

    module _ (alone : Bool) (way : IsUnderWay n alone g.seen c (library_of next)) (made_some : IsMadeAs n (length (at_rest some_then.bodies)) true alone c (library_of next) g.seen (book_of texts n some_then.bodies))
        (made_then : (told : IsTrue tells) → IsMadeAs n (length_of new) true alone c (library_of next) g.seen (book_of texts n (bodies_in view new))) (told_then : IsTrue tells → IsFedBy g.fed n g.seen c (library_of next) (book_of texts n (bodies_in view new)))
        (fed_then : IsFedAs g.fed n g.seen c (library_of next)) where
      book_order : IsBookInOrder n c (library_of next)
      book_order =
          let there = subst (IsMadeAs n (length (at_rest some_then.bodies)) true alone c (library_of next) g.seen) (sym (format_of_now texts n some_then.bodies)) made_some in
          in_order fits newest n some_then.bodies some_then.bytes (length (at_rest some_then.bodies)) true alone (found.Made c next) g.seen way there

      finds_then : (told : IsTrue tells) → FindsBook n (length_of new) true c (library_of next) (book_of texts n (bodies_in view new))
      finds_then told = finds n (length_of new) true alone (found.Made c next) g.seen (book_of texts n (bodies_in view new)) way (made_then told)

      known_then : (told : IsTrue tells) → KnowsRead view n new then_notes
      known_then told = known_file view n new then_notes {fed = true} c (library_of next) (finds_then told) (none_waits_fed view n (length_of new) new alone c (library_of next) g.seen (made_then told)) (notes_then told)

      follower_then : IsFollowerOf view tells n new (c, next) g
      follower_then = record {
        standing = standing;
        fed = fed_then;
        made = some_then;
        told = told_then;
      }

      order_then : IsInOrder view tells then
      order_then =
          opened_order view tells then fed_is.up noted now_is (λ told. known_then told) (opened_book_of n true c (library_of next) book_order) order.limits sound whole
          (λ told. found_fit view n true new (opening.opened_beside view n true new next c) x (settled told).0 now_is (book_order.whole true (length_of new) _) (λ leads. book_order.read)
          (found_makes view n true new c (library_of next) (finds_then told)) (found_again view n true new c (library_of next) (finds_then told)))
          (λ told. found_told view n true new c (library_of next) (finds_then told)) follower_then

    by_then : (y : Fed) → (y ≡ fed.Waits → ⊥) → IsFedAs y n g.seen c (library_of next) → IsFedAt y n (length (at_rest some_then.bodies)) g.seen c (library_of next) (book_of texts n some_then.bodies)
        → ((told : IsTrue tells) → IsFedAt y n (length_of new) g.seen c (library_of next) (book_of texts n (bodies_in view new))) → (IsTrue tells → IsFedBy g.fed n g.seen c (library_of next) (book_of texts n (bodies_in view new)))
        → IsInOrder view tells then
    by_then fed.Waits some way at_some at by = absurd (some refl)
    by_then fed.Begun some way at_some at by = order_then true way at_some at by more.fed_so
    by_then fed.Made some way at_some at by = order_then false way at_some at by more.fed_so

    pub adopted_order : IsInOrder view tells then
    adopted_order = by_then g.fed more.some more.fed_so some_then.at (λ told. at_then told) (λ told. far g.fed (length_of new) (book_of texts n (bodies_in view new)) (at_then told))

    pub adopted : is_role body ≡ false → length_of new ≡ length_with s.journal body → HasAdopted view tells s then body
    adopted fed_so long = record {
      could = can_be_fed s f is_fed fed_is.standing;
      can = can_be_fed then g refl standing;
      stands = fed_stands body g c next then_notes more one fed_so;
      bodies = λ told. (settled told).1;
      long = long;
      book = λ told. let k = (adopted_order.fit told).holds down_so in (k.earlier, k.makes);
    }
