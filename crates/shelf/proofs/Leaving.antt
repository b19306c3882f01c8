-- What a publish leaves of a shelf, by its way out: nothing was recorded, its record was added, or it is in doubt whether it was.
use Rattle.std.proofs.Common.{◌≡◌, ◌∙◌, ap, sym, subst, refl, ℕ, ◌+◌, ◌≤◌, ◌^◌, ◌++◌, ◌∷◌, [], Bool, IsTrue, true, false, List, length, Option, None, Some, option_map, Contains}
use Rattle.std.specs.Prelude.{⊤}
use Rattle.script_value.specs.declared.outcome.Reply.{Reply}
use Rattle.script_value.specs.declared.outcome.Reply.TheVariants as reply
use Rattle.script_nodes.specs.Setup.{Library}
use Rattle.page_names.specs.Views.{target_of}
use Rattle.web_disk.specs.View.{View, LeavesOnly}
use Rattle.page_journal.specs.Records.{newest}
use Rattle.page_journal.specs.Holding.{MayHold}
use Rattle.value_bytes.specs.Laws.{AreBytes}
use Rattle.page_journal.specs.Settled as journal
use Rattle.page_journal.specs.Settled.{IsSettled, view_of, bodies_in, length_of, is_broken}
use Rattle.page_journal.specs.declared.journal.Journal.{Journal}
use Rattle.replay_spec.specs.Book as spec
use Rattle.replay_spec.specs.Book.{changed, File, Book, spend}
use Rattle.replay_spec.specs.Change.{with_line}
use Rattle.replay_spec.specs.Step as step
use Rattle.replay_spec.specs.Invariant.{IsOf, IsOrderly}
use Rattle.replay_spec.proofs.Stand.{Later}
use Rattle.replay_spec.specs.Admission.{admit}
use Rattle.journal_records.specs.Records.{changes, record_length}
use Rattle.journal_records.specs.Laws.{AreRecordsExact}
use Rattle.book_recovery.specs.JournalSpec.Before.{state_at}
use Rattle.book_recovery.specs.JournalSpec.Lengths.{told_own, own_body}
use Rattle.book_recovery.specs.JournalSpec.Keeping.{IsTakenAs, body_by, stake_of}
use Rattle.book_recovery.specs.JournalSpec.Whole.{HasWholeScripts, CanBeWritten}
use Rattle.book_recovery.specs.JournalSpec.Owning.{IsOwnBefore}
use Rattle.book_recovery.specs.JournalSpec.Retaking as books_told
use Rattle.book_recovery.specs.JournalSpec.Laws.{EventsAreKept, EventsStandBetween, LandingsAreKept, LandingsStandBetween}
use Rattle.book_recovery.specs.InstanceBook.declared.book.Book as kept
use Rattle.book_visits.specs.declared.ticket.Ticket.{Ticket}
use Rattle.book_visits.specs.declared.prepared.Prepared.{Prepared}
use Rattle.book_recovery.specs.InstanceBook.declared.change.Change.{Change}
use Rattle.book_recovery.specs.InstanceBook.Places as sources
use Rattle.book_recovery.specs.InstanceBook.Places.{Source}
use Rattle.book_recovery.specs.InstanceBook.Makes.{Makes, MakesUnder, StaysSame, HasStatesFrom, HasSomeStates, HasItsStates, KeepsStates}
use Rattle.book_visits.specs.Views.{ticket_of, reply_of}
use Rattle.book_recovery.specs.InstanceBook.Changes.{change_of, inside_of, HasRoomFor, KeepsStatesBy}
use Rattle.book_recovery.proofs.JournalSpec.Standings.{OnlyNow, CountsNow}
use Rattle.book_visits.specs.Changes.{put_into, HasStateBy, IsSpelledIn, IsSpelledBy}
use Rattle.book_visits.specs.Fits.{FitsAs}
use Rattle.book_visits.specs.Prepares.{HasItsScript}
use Rattle.shelf.specs.declared.doubt.Doubt as doubt_type
use Rattle.shelf.specs.declared.shelf.Shelf.{Shelf}
use Rattle.file_copies.specs.OfFileNotes.declared.notes.FileNotes.{FileNotes}
use Rattle.file_copies.specs.OfFileNotes.Files.{file_in, marks_in, IsNoted, StaysAsTold}
use Rattle.shelf.specs.Views.{rules_of, doubt_of, doubt_by, library_in, beside_of, book_in, fate_by, IsInOrder, IsOwnShelf, IsOwnVisit}
use Rattle.shelf.specs.Events.{IsPublish, SpendsNumber, SpendsOnly, HasMoments, HasOwnMoments, CarriesOut, ShowsItsState}
use Rattle.shelf.specs.Holding.{IsWholeIn}
use Rattle.shelf.specs.Preparing.{CanBeLanded}
use Rattle.shelf.specs.Tickets.{KeepsTickets}
use Rattle.shelf.specs.Recording.{IsBody, BindsIn, GoesOnAsGiven, state_in, told_in}
use Rattle.shelf.proofs.Standing.{IsQuietCall}
use Rattle.shelf.proofs.Leads.{unfed, out_leads}
use Rattle.shelf.proofs.Order.{quiet, quiet_event}
use Rattle.shelf.proofs.Steps.{Comes, wanting}
use Rattle.shelf.proofs.Recorded.{own_behind, stake_landed, stake_doubted}
use Rattle.shelf.proofs.Shelves as shelves
use Rattle.shelf.proofs.Shelves.{StayTold, some_kept, quiet_order, quiet_run, quiet_own, quiet_own_moments, added_own, recorded_own_moments}
use Rattle.shelf.proofs.Landed.{landed_order, landed_run, landed_later, doubted_order, doubted_run, doubted_in, doubted_later}
use Rattle.shelf.proofs.Tickets.{KeepsGiven, tickets_kept, states_stay, later_spent, anew_keeps}
use Rattle.shelf.proofs.Landing as landing
use Rattle.shelf.proofs.Landing.{down_there}
use Rattle.shelf.proofs.Behind as behind
use Rattle.shelf.proofs.Untold as untold
use Rattle.shelf.proofs.Fitting.{event_from, moments_from, own_moments_from, own_at}
use Rattle.shelf.proofs.Publishing.{not_wanting}

-- The number is spent and the shelf in order, as it was at each moment. For an own visit this is the event of its ticket, and an own
-- shelf is left, as at each moment.
pub record Publishes {D N : Type 0} (view : D → View) (tells : Bool) (coming : N → ℕ → ℕ) (s u : Shelf D N) (t : Ticket) (x : Reply) : Type 0 where
  pub event : IsOwnVisit view tells s t → IsPublish view coming s u t x
  pub in_order : IsInOrder view tells u
  pub own : IsOwnVisit view tells s t → IsOwnShelf view tells u
  pub spent : SpendsNumber view s u t
  pub any_moment : IsTrue tells → HasMoments view s u
  pub own_moments : IsTrue tells → IsOwnVisit view tells s t → HasOwnMoments view s u
  pub memory : SpendsOnly view s u t x
  pub tickets : KeepsTickets view s u

-- what a publish rests on of the disk before it and after it
pub record Serves {D : Type 0} (view : D → View) (tells : Bool) (old new : Journal D) : Type 0 where
  pub only_now : OnlyNow (view old.disk)
  pub counts_now : CountsNow (view new.disk)
  pub reads : IsTrue tells → (view old.disk).images (view old.disk).seen
  pub now : new.format ≡ newest

-- and of the laws
pub record Laws : Type 0 where
  pub events : EventsAreKept
  pub between : EventsStandBetween
  pub landings : LandingsAreKept
  pub landings_between : LandingsStandBetween
  pub exact : AreRecordsExact

-- nothing was recorded
pub spent_publishes : {D N : Type 0} (view : D → View) (tells : Bool) (coming : N → ℕ → ℕ) (s u : Shelf D N) (t : Ticket) (x : Reply) → IsInOrder view tells s → EventsAreKept
    → OnlyNow (view s.journal.disk) → Contains (book_in view s).out t.number → book_in view u ≡ spend t.number (book_in view s) → u.library ≡ s.library → u.rules ≡ s.rules → u.nonces ≡ s.nonces → u.follower ≡ s.follower
    → IsQuietCall view tells s.journal u.journal → IsNoted u.notes → StaysAsTold s.notes u.notes → journal.IsSound u.journal → (u.down ≡ None → is_broken u.journal ≡ false)
    → ((source : Source ⊤) → HasStatesFrom source (library_in s).all s.book → HasStatesFrom source (library_in u).all u.book)
    → (IsOwnVisit view tells s t
    → Comes (rules_of s.rules) (book_in view s) (step.publish (ticket_of t)) (fate_by (reply_of x)) (reply_of x) (spend t.number (book_in view s)) None)
    → Publishes view tells coming s u t x
spent_publishes view tells coming s u t x order events only_now out is told_same limits source_stays followed call noted stays sound whole states comes =
    let b = book_in view s in
    let event = step.publish (ticket_of t) in
    let d = spend t.number b in
    let wants = wanting s.rules b (ticket_of t) in
    let scripts : HasWholeScripts d = record { setup = order.scripts_are.setup; instances = order.scripts_are.instances } in
    let stay : StayTold s u = λ told all. states (sources.given (λ n. state_at n told)) all in
    let some : HasSomeStates (library_in s).all s.book → HasSomeStates (library_in u).all u.book = λ all. (all.0, states (sources.given all.0) all.1) in
    record {
      event = λ own. quiet_event view coming s u event (reply_of x) d limits source_stays is (λ given. quiet x given) (comes own).step;
      in_order = quiet_order view tells s u told_same limits d is refl refl call order some stay sound event step.no_memory step.memory (wants.step 0) tt tt tt refl out tt events wants.landed scripts whole noted stays followed (unfed view tells u (followed ∙ out_leads view tells s order t.number out));
      own = λ own. quiet_own view tells s u told_same limits d is refl refl call (states (sources.own tt)) own.own;
      spent = ap (λ (y : Book). y.out) is;
      any_moment = λ told. quiet_run view tells s u told_same limits d is refl refl call order some stay sound event step.no_memory step.memory (wants.step 0) tt tt tt refl out tt events wants.landed told only_now;
      own_moments = λ told own. quiet_own_moments view tells s u told_same limits d is refl refl call told only_now own.own;
      memory = λ wanted. is;
      tickets = tickets_kept view s u told_same order.orderly (subst (λ (y : Book). Later b y) (sym is) (later_spent (rules_of s.rules) b t.number order.orderly out)) (states_stay view s u states);
    }

-- on a shelf whose book was made anew, the same
module _ {D N : Type 0} (view : D → View) (tells : Bool) (s : Shelf D N) (book : kept.Book) (same : StaysSame s.book book) (keeps : KeepsStates s.book book) (t : Ticket) where
  abbrev anew : Shelf D N
  anew = record s { book = book }

  same_book : book_in view anew ≡ book_in view s
  same_book = same (library_in s) (beside_of view s)

  pub visit_anew : IsOwnVisit view tells s t → IsOwnVisit view tells anew t
  visit_anew own = record {
    own = own_at view tells s book same_book keeps own.own;
    fits = subst (λ (b : Book). FitsAs (library_in s).all b t (admit b (target_of t.target))) (sym same_book) own.fits;
  }

  pub publishes_from : IsOrderly (book_in view s) → (coming : N → ℕ → ℕ) (u : Shelf D N) (x : Reply) → Publishes view tells coming anew u t x → Publishes view tells coming s u t x
  publishes_from orderly coming u x p = record {
    event = λ own. event_from view coming s anew u (step.publish (ticket_of t)) (reply_of x) refl refl same_book (p.event (visit_anew own));
    in_order = p.in_order;
    own = λ own. p.own (visit_anew own);
    spent = subst (λ (b : Book). (book_in view u).out ≡ (spend t.number b).out) same_book p.spent;
    any_moment = λ told. moments_from view s anew u refl refl same_book (p.any_moment told);
    own_moments = λ told own. own_moments_from view s anew u refl refl same_book (p.own_moments told (visit_anew own));
    memory = λ wanted. subst (λ (b : Book). book_in view u ≡ spend t.number b) same_book (p.memory wanted);
    tickets = λ y h. p.tickets y (anew_keeps view s orderly book keeps same y h);
  }

-- a change, whose record was written
module _ {D N : Type 0} (view : D → View) (tells : Bool) (coming : N → ℕ → ℕ) (s : Shelf D N) (order : IsInOrder view tells s) (t : Ticket) (p : Prepared) (up : s.down ≡ None)
    (out : Contains (book_in view s).out t.number) (has : HasItsScript (library_in s) t (target_of t.target)) (can : CanBeLanded (library_in s) s.book t p) (rooms : HasRoomFor p.change s.book) (plain : fate_by (reply_of p.reply) ≡ step.plain)
    (shows : IsOwnVisit view tells s t → ShowsItsState s p.change) (carries : IsOwnVisit view tells s t → CarriesOut view s t p) (laws : Laws) (c : Change) (some : p.change ≡ Some c) (spent : kept.Book)
    (spending : Makes (spend t.number) s.book spent) (same : spent.instances ≡ s.book.instances) (keeps : KeepsStates s.book spent) (whole : IsWholeIn (library_in s).all spent c)
    (spelled : IsSpelledIn c) (goes : GoesOnAsGiven (library_in s) spent t c) (binds : BindsIn t c) (body : List ℕ)
    (written : IsBody (length_of s.journal) (changes (change_of c) (told_in t c)) (record_length (change_of c) (told_in t c)) body) (mid j : Journal D) (call : IsQuietCall view tells s.journal mid)
    (runs : IsTrue tells → LeavesOnly (view_of view mid) (view_of view j) (MayHold newest (bodies_in view mid) body)) (sound : journal.IsSound j) (serves : Serves view tells s.journal j) where
  abbrev l : Library
  l = library_in s

  abbrev b : Book
  b = book_in view s

  abbrev told_change : spec.Change
  told_change = change_of c

  abbrev told_body : List ℕ
  told_body = body_by told_change (told_in t c)

  abbrev event : step.Event
  event = step.publish (ticket_of t)

  abbrev Mine : Type 0
  Mine = IsOwnVisit view tells s t

  abbrev Run : List ℕ → Type 0
  Run y = IsTrue tells → LeavesOnly (view_of view mid) (view_of view j) (MayHold newest (bodies_in view mid) y)

  run : Run told_body
  run = subst Run written.is runs

  none_down : b.down ≡ None
  none_down = landing.none_down view tells s order t p up out has can rooms

  its_number : IsOf t.number told_change
  its_number = landing.its_number view tells s order t p up out has can rooms c some

  room : length_of s.journal + 5 + length told_body ≤ 2 ^ 30
  room = landing.room view tells s order t p up out has can rooms c some body written

  taken : IsTakenAs b told_change (inside_of c) (told_own (state_in c))
  taken = landing.taken view tells s order t p up out has can rooms c some spent same whole spelled

  read_there : (told : IsTrue tells) → books_told.told_in ((order.fit told).holds (ap (λ (o : Option doubt_type.Doubt). option_map doubt_of o) up)).earlier b told_change (told_in t c) ≡ told_own (state_in c)
  read_there told = behind.read_there view tells s order t p up out has can rooms c some spent same keeps whole spelled goes told binds

  -- where it is an own visit, the body is that of the event
  own_body_is : Mine → own_body b told_change ≡ told_body
  own_body_is own = landing.own_body_is view tells s order t p up out has can rooms c some own.fits

  own_run : Mine → Run (own_body b told_change)
  own_run own = subst Run (sym (own_body_is own)) run

  own_room : Mine → length_of s.journal + 5 + length (own_body b told_change) ≤ 2 ^ 30
  own_room own = subst (λ (y : List ℕ). length_of s.journal + 5 + length y ≤ 2 ^ 30) (sym (own_body_is own)) room

  before_own : Mine → (told : IsTrue tells) → IsOwnBefore ((order.fit told).holds (ap (λ (o : Option doubt_type.Doubt). option_map doubt_of o) up)).earlier b (Some told_change)
  before_own own told = own_behind view s.rules.number b s.journal order.knows.newest_is told_change (ap (λ (o : Option doubt_type.Doubt). option_map doubt_of o) up) (order.fit told) (serves.reads told) (own.own.own told).images

  can_be_written : Mine → CanBeWritten b told_change
  can_be_written own = landing.own_written view tells s order t p up out has can rooms c some own.fits written.spelled spelled

  lands : Mine → (x : Reply) → x ≡ p.reply
      → Comes (rules_of s.rules) b event (fate_by (reply_of x)) (reply_of x) (landing.landed_book view tells s order t p up out has can rooms c some body written) (Some told_change)
  lands own x replied = landing.landed_comes view tells s order t p up out has can rooms c some own.fits (carries own) body written x replied plain

  -- its record was added
  module _ (notes : FileNotes) (filed : file_in notes ≡ with_line (changed told_change (length body)) (file_in s.notes)) (noted : IsNoted notes) (marks : marks_in notes ≡ marks_in s.notes ++ true ∷ []) (bytes : AreBytes body) (new : kept.Book) (installing : MakesUnder (λ library. put_into library p) spent new) (states_by : KeepsStatesBy p.change spent new) (x : Reply) (replied : x ≡ p.reply)
      (long : length_of j ≡ length_of s.journal + 5 + length body) (unbroken : is_broken j ≡ false) (adds : IsTrue tells → IsSettled view j × (bodies_in view j ≡ bodies_in view mid ++ body ∷ [])) where
    abbrev longer : Shelf D N
    longer = record s { journal = j; book = new; notes = notes }

    abbrev after : Book
    after = landing.landed_book view tells s order t p up out has can rooms c some body written

    abbrev Added : List ℕ → Type 0
    Added y = IsTrue tells → IsSettled view j × (bodies_in view j ≡ bodies_in view mid ++ y ∷ [])

    added : Added told_body
    added = subst Added written.is adds

    own_added : Mine → Added (own_body b told_change)
    own_added own = subst Added (sym (own_body_is own)) added

    landed_is : book_in view longer ≡ after
    landed_is = landing.landed_is view tells s order t p up out has can rooms c some body written spent new (length_of j) (file_in notes) spending installing long filed

    gives : KeepsGiven view s longer
    gives f given_so = untold.had view tells s order t p up out has can rooms c some spent same keeps whole spelled goes f given_so new states_by

    had : HasSomeStates l.all new
    had = let states = gives order.kept.0 order.kept.1 in (states.0, states.1.0)

    own_states : Mine → HasItsStates l.all s.book → HasItsStates l.all new
    own_states own all =
        let shown = subst (λ (y : Book). HasStateBy l.all y.shelf y.instances p.change) (sym (spending l (beside_of view s))) (shows own (subst IsSpelledBy (sym some) spelled)) in
        states_by (sources.own tt) l.all shown (keeps (sources.own tt) l.all all)

    pub landed_publishes : Publishes view tells coming s longer t x
    landed_publishes = record {
      event = λ own. quiet_event view coming s longer event (reply_of x) after refl refl landed_is (λ given. quiet x given) (lands own x replied).step;
      in_order = landed_order view tells s order up t.number out told_change its_number (told_in t c) (inside_of c) written.spelled (told_own (state_in c)) taken read_there room longer refl refl mid call run had sound landed_is laws.exact laws.landings unbroken added
          (λ told. behind.installed view tells s order t p up out has can rooms c some spent same keeps whole spelled goes told new states_by) serves.now noted marks (subst AreBytes written.is bytes) refl;
      own = λ own. added_own view tells s longer order refl refl event (fate_by (reply_of x)) (reply_of x) after landed_is ((lands own x replied).step 0) tt tt tt refl out laws.events up told_change (can_be_written own) (own_room own) (before_own own) mid call (own_run own)
          serves.counts_now (own_states own) serves.reads own.own serves.now (lands own x replied).landed none_down (own_added own);
      spent = ap (λ (y : Book). y.out) landed_is;
      any_moment = λ told. landed_run view tells s order up t.number out told_change its_number (told_in t c) (inside_of c) written.spelled (told_own (state_in c)) taken read_there room longer refl refl mid call run had sound landed_is laws.landings_between told
          serves.only_now;
      own_moments = λ told own. recorded_own_moments view tells s longer order refl refl event (fate_by (reply_of x)) (reply_of x) after landed_is ((lands own x replied).step 0) tt tt tt refl out laws.events up told_change (can_be_written own) (own_room own) (before_own own) mid
          call (own_run own) serves.counts_now laws.between told serves.only_now (stake_landed (rules_of s.rules) b event (fate_by (reply_of x)) told_change (lands own x replied).landed) (fate_by (reply_of x)) (lands own x replied).landed (serves.reads told)
          own.own;
      memory = λ wanted. absurd {A = book_in view longer ≡ spend t.number b} (not_wanting x (ap (λ (y : Reply). fate_by (reply_of y)) replied ∙ plain) wanted);
      tickets = tickets_kept view s longer refl order.orderly
          (subst (λ (y : Book). Later b y) (sym landed_is) (landed_later view tells s order up t.number out told_change its_number (told_in t c) (inside_of c) written.spelled (told_own (state_in c)) taken read_there room)) gives;
    }

  -- it is in doubt
  module _ (count : ℕ) (doubt : Option doubt_type.Doubt) (doubted : option_map doubt_of doubt ≡ doubt_by count p.change) (same_length : length_of j ≡ length_of s.journal) (notes : FileNotes) (noted : IsNoted notes) (stays : StaysAsTold s.notes notes) where
    abbrev doubtful : Shelf D N
    doubtful = record s { journal = j; book = spent; down = doubt; notes = notes }

    abbrev in_doubt : Book
    in_doubt = doubted_in count told_change (inside_of c) (spend t.number b)

    doubted_is : book_in view doubtful ≡ in_doubt
    doubted_is =
        ap (λ (f : File). record (book_in view doubtful) { file = f }) stays.file
        ∙ landing.doubted_is view tells s order t p up out has can rooms c some body written count spent (length_of j) (option_map doubt_of doubt) spending same_length doubted

    doubts : Mine → Comes (rules_of s.rules) b event (step.disk_fault count) (step.disk_failed count) in_doubt None
    doubts own = landing.doubted_comes view tells s order t p up out has can rooms c some own.fits (carries own) body written count

    stake : Mine → stake_of (rules_of s.rules) b 0 event (step.disk_fault count) ≡ Some told_change
    stake own = stake_doubted (rules_of s.rules) b in_doubt event (step.disk_fault count) _ (doubts own).landed (ap (λ (y : step.Reply × Book). y.1) ((doubts own).step 0)) refl

    pub doubted_publishes : Publishes view tells coming s doubtful t (reply.DiskFault count)
    doubted_publishes = record {
      event = λ own. quiet_event view coming s doubtful event (step.disk_failed count) in_doubt refl refl doubted_is (λ given. refl) (doubts own).step;
      in_order = doubted_order view tells s order up t.number out told_change its_number (told_in t c) (inside_of c) written.spelled (told_own (state_in c)) taken read_there room doubtful refl refl mid call run (some_kept l.all s.book spent keeps order.kept) sound count doubted_is
          (λ e. down_there doubt _ e (ap (λ (y : Book). y.down) doubted_is)) laws.landings_between serves.only_now serves.counts_now serves.now noted refl;
      own = λ own. shelves.doubted_own view tells s doubtful order refl refl event (step.disk_fault count) (step.disk_failed count) in_doubt doubted_is ((doubts own).step 0) tt tt tt refl out laws.events up told_change (can_be_written own) (own_room own) (before_own own) mid call
          (own_run own) serves.counts_now (keeps (sources.own tt) l.all) serves.reads own.own laws.between serves.only_now (stake own) refl (fate_by (reply_of p.reply)) (lands own p.reply refl).landed;
      spent = ap (λ (y : Book). y.out) doubted_is;
      any_moment = λ told. doubted_run view tells s order up t.number out told_change its_number (told_in t c) (inside_of c) written.spelled (told_own (state_in c)) taken read_there room doubtful refl refl mid call run (some_kept l.all s.book spent keeps order.kept) sound count doubted_is
          (λ e. down_there doubt _ e (ap (λ (y : Book). y.down) doubted_is)) laws.landings_between told serves.only_now;
      own_moments = λ told own. recorded_own_moments view tells s doubtful order refl refl event (step.disk_fault count) (step.disk_failed count) in_doubt doubted_is ((doubts own).step 0) tt tt tt refl out laws.events up told_change (can_be_written own) (own_room own)
          (before_own own) mid call (own_run own) serves.counts_now laws.between told serves.only_now (stake own) (fate_by (reply_of p.reply)) (lands own p.reply refl).landed (serves.reads told) own.own;
      memory = λ wanted. absurd {A = book_in view doubtful ≡ spend t.number b} (let no : ⊥ = cc wanted in no);
      tickets = tickets_kept view s doubtful refl order.orderly
          (subst (λ (y : Book). Later b y) (sym doubted_is) (doubted_later view tells s order up t.number out told_change its_number (told_in t c) (inside_of c) written.spelled (told_own (state_in c)) taken read_there room count))
          (states_stay view s doubtful (λ source. keeps source l.all));
    }
