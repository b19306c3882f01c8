-- What a sweep leaves of a shelf, by its way out: nothing was recorded, its record was added, or it is in doubt whether it was.
use Rattle.std.proofs.Common.{◌≡◌, ◌∙◌, ap, sym, subst, refl, ℕ, ◌+◌, ◌-◌, ◌≤◌, ◌<◌, ◌^◌, ◌++◌, ◌∷◌, [], nat_le, arith, Bool, IsTrue, true, false, List, length, Option, None, Some, option_map, IfSome}
use Rattle.web_disk.specs.View.{View, LeavesOnly}
use Rattle.page_journal.specs.Records.{newest}
use Rattle.page_journal.specs.Holding.{MayHold}
use Rattle.value_bytes.specs.Laws.{AreBytes}
use Rattle.page_journal.specs.Settled as journal
use Rattle.page_journal.specs.Settled.{IsSettled, view_of, bodies_in, length_of, is_broken}
use Rattle.page_journal.specs.declared.journal.Journal.{Journal}
use Rattle.replay_spec.specs.Book as spec
use Rattle.replay_spec.specs.Book.{changed, File, Book}
use Rattle.replay_spec.specs.Change.{with_line}
use Rattle.replay_spec.specs.Runs.{drawn_by, lands}
use Rattle.replay_spec.specs.Step as step
use Rattle.replay_spec.proofs.Stand.{Later}
use Rattle.replay_spec.proofs.Orderly.{same}
use Rattle.journal_records.specs.Records.{changes, record_length}
use Rattle.journal_records.specs.Laws.{AreRecordsExact}
use Rattle.book_recovery.specs.JournalSpec.Keeping.{body_by, stake_of}
use Rattle.book_recovery.specs.JournalSpec.Whole.{HasWholeScripts, CanBeWritten}
use Rattle.book_recovery.specs.JournalSpec.Laws.{EventsAreKept, EventsStandBetween}
use Rattle.book_recovery.specs.InstanceBook.declared.book.Book as kept
use Rattle.book_recovery.specs.InstanceBook.Places as sources
use Rattle.book_recovery.specs.InstanceBook.Swept.{swept}
use Rattle.book_recovery.specs.InstanceBook.Makes.{Makes, KeepsStates, count_of}
use Rattle.book_recovery.specs.InstanceBook.Views.{Beside, instance_of}
use Rattle.book_recovery.proofs.InstanceBook.Seen.{length_seen}
use Rattle.book_recovery.proofs.JournalSpec.Standings.{OnlyNow}
use Rattle.shelf.specs.declared.doubt.Doubt as doubt_type
use Rattle.shelf.specs.declared.doubt.Work.TheVariants as doubted
use Rattle.shelf.specs.declared.shelf.Shelf.{Shelf}
use Rattle.file_copies.specs.OfFileNotes.declared.notes.FileNotes.{FileNotes}
use Rattle.file_copies.specs.OfFileNotes.Files.{file_in, marks_in, IsNoted, StaysAsTold}
use Rattle.shelf.specs.Files.{KnowsFile}
use Rattle.shelf.proofs.Known.{known_added, marked_tick}
use Rattle.shelf.specs.Views.{rules_of, doubt_of, library_in, follows_in, book_in, fate_by, IsFree, IsFed, IsInOrder, IsOwnShelf, IsEvent}
use Rattle.shelf.specs.Events.{HasMoments, HasOwnMoments}
use Rattle.shelf.specs.Recording.{refusal_of_size, IsBody}
use Rattle.shelf.proofs.Standing.{IsQuietCall}
use Rattle.shelf.proofs.Leads.{leads_in, bars_none}
use Rattle.shelf.proofs.Order.{quiet_event}
use Rattle.shelf.proofs.Steps.{Comes, doubting, landed_sweep, doubted_sweep}
use Rattle.shelf.proofs.Sizes.{size_is, not_refused}
use Rattle.shelf.proofs.Sweeping.{swept_comes, swept_whole}
use Rattle.shelf.proofs.Recorded.{stake_landed, stake_doubted}
use Rattle.shelf.proofs.Shelves.{quiet_order, quiet_run, quiet_own, quiet_own_moments, recorded_run, recorded_own_moments, added_order, doubted_order, added_own, doubted_own, kept_told, some_kept}
use Rattle.shelf.proofs.Tales.{swept_told}
use Rattle.shelf.proofs.Leaving.{Serves}
use Rattle.shelf.proofs.Tickets.{tickets_kept, states_stay, later_step}
use Rattle.shelf.specs.Tickets.{KeepsTickets}

-- It is one event. The shelf goes on to be in order, as it was at each moment, and so does an own one.
pub record Sweeps {D N : Type 0} (view : D → View) (tells : Bool) (coming : N → ℕ → ℕ) (s u : Shelf D N) (tick : ℕ) (x : step.Reply) : Type 0 where
  pub event : IsEvent view coming s u (step.sweep tick) x
  pub in_order : IsInOrder view tells u
  pub own : IsOwnShelf view tells s → IsOwnShelf view tells u
  pub any_moment : IsTrue tells → HasMoments view s u
  pub own_moments : IsTrue tells → IsOwnShelf view tells s → HasOwnMoments view s u
  pub tickets : KeepsTickets view s u

-- nothing was recorded
pub unswept : {D N : Type 0} (view : D → View) (tells : Bool) (coming : N → ℕ → ℕ) (s : Shelf D N) → IsInOrder view tells s → (tick : ℕ) → tick < 2 ^ 62 → EventsAreKept → OnlyNow (view s.journal.disk) → (j : Journal D) → (notes : FileNotes) → IsNoted notes → StaysAsTold s.notes notes → length_of j ≡ length_of s.journal
    → (journal.IsSound s.journal → journal.IsSound j) → is_broken j ≡ is_broken s.journal → IsQuietCall view tells s.journal j → IfSome s.follower (IsFed view tells (record s { journal = j; notes = notes })) → (x : step.Reply) → ((given : ℕ) → drawn_by x given ≡ given)
    → (Comes (rules_of s.rules) (book_in view s) (step.sweep tick) (fate_by x) x (book_in view s) None) → Sweeps view tells coming s (record s { journal = j; notes = notes }) tick x
unswept {D} {N} view tells coming s order tick low events only_now j notes noted stays len sound whole call fed x none comes =
    let event = step.sweep tick in
    let u : Shelf D N = record s { journal = j; notes = notes } in
    let is : book_in view u ≡ book_in view s =
    ap (λ (n : ℕ). record (book_in view s) { length = n; file = file_in notes }) len ∙ ap (λ (f : File). record (book_in view s) { file = f }) stays.file in
    record {
      event = quiet_event view coming s u event x (book_in view s) refl refl is none comes.step;
      in_order =
          quiet_order view tells s u refl refl (book_in view s) is refl refl call order (λ all. all) (λ states all. all) (sound order.sound) event (fate_by x) x (comes.step 0) tt tt tt refl tt low events comes.landed order.scripts_are (λ up. whole ∙ order.whole up) noted stays refl fed;
      own = λ own. quiet_own view tells s u refl refl (book_in view s) is refl refl call (λ all. all) own;
      any_moment = λ told.
          quiet_run view tells s u refl refl (book_in view s) is refl refl call order (λ all. all) (λ states all. all) (sound order.sound) event (fate_by x) x (comes.step 0) tt tt tt refl tt low events comes.landed told only_now;
      own_moments = λ told own. quiet_own_moments view tells s u refl refl (book_in view s) is refl refl call told only_now own;
      tickets = tickets_kept view s u refl order.orderly (subst (λ (y : Book). Later (book_in view s) y) (sym is) (same (book_in view s) order.orderly)) (states_stay view s u (λ source all. all));
    }

-- a later tick, whose record was written
module _ {D N : Type 0} (view : D → View) (tells : Bool) (coming : N → ℕ → ℕ) (s : Shelf D N) (order : IsInOrder view tells s) (tick : ℕ) (low : tick < 2 ^ 62) (late : nat_le tick s.book.clock ≡ false) (free : IsFree s) (events : EventsAreKept) (between : EventsStandBetween) (exact : AreRecordsExact) (body : List ℕ)
    (written : IsBody (length_of s.journal) (changes (spec.sweeps tick) None) (record_length (spec.sweeps tick) None) body) (mid j : Journal D) (call : IsQuietCall view tells s.journal mid)
    (runs : IsTrue tells → LeavesOnly (view_of view mid) (view_of view j) (MayHold newest (bodies_in view mid) body)) (sound : journal.IsSound j) (serves : Serves view tells s.journal j) where
  abbrev change : spec.Change
  change = spec.sweeps tick

  abbrev tick_body : List ℕ
  tick_body = body_by change None

  abbrev sweep : step.Event
  sweep = step.sweep tick

  none_doubted : option_map doubt_of s.down ≡ None
  none_doubted = ap (λ (o : Option doubt_type.Doubt). option_map doubt_of o) free.up

  none_bars : step.barred (book_in view s) ≡ None
  none_bars = bars_none view s free

  tick_long : length tick_body ≡ record_length change None
  tick_long = size_is change None written.short.body

  tick_room : length_of s.journal + 5 + length tick_body ≤ 2 ^ 30
  tick_room = omega (arith, tick_long, written.short.whole)

  tick_run : IsTrue tells → LeavesOnly (view_of view mid) (view_of view j) (MayHold newest (bodies_in view mid) tick_body)
  tick_run = subst (λ (y : List ℕ). IsTrue tells → LeavesOnly (view_of view mid) (view_of view j) (MayHold newest (bodies_in view mid) y)) written.is runs

  spelled_tick : CanBeWritten (book_in view s) change
  spelled_tick = record { body = written.spelled; state = tt }

  short_tick : refusal_of_size (length_of s.journal) (record_length change None) ≡ None
  short_tick = not_refused (length_of s.journal) (record_length change None) written.short

  -- its record was added
  module _ (notes : FileNotes) (filed : file_in notes ≡ with_line (changed change (length body)) (file_in s.notes)) (noted : IsNoted notes) (marks : marks_in notes ≡ marks_in s.notes ++ true ∷ []) (bytes : AreBytes body) (new : kept.Book) (frees : Makes (swept tick) s.book new) (count : ℕ) (counts : count ≡ count_of s.book - count_of new) (keeps : KeepsStates s.book new)
      (long : length_of j ≡ length_of s.journal + 5 + length body) (unbroken : is_broken j ≡ false) (adds : IsTrue tells → IsSettled view j × (bodies_in view j ≡ bodies_in view mid ++ body ∷ [])) where
    abbrev swept_shelf : Shelf D N
    swept_shelf = record s { journal = j; book = new; notes = notes }

    abbrev beside_swept : Beside
    beside_swept = record { length = length_of j; file = file_in notes; down = option_map doubt_of s.down; follows = follows_in s }

    tick_added : IsTrue tells → IsSettled view j × (bodies_in view j ≡ bodies_in view mid ++ tick_body ∷ [])
    tick_added = subst (λ (y : List ℕ). IsTrue tells → IsSettled view j × (bodies_in view j ≡ bodies_in view mid ++ y ∷ [])) written.is adds

    swept_so : Comes (rules_of s.rules) (book_in view s) sweep step.plain (step.swept count) (book_in view swept_shelf) (Some change)
    swept_so =
        let before = length_seen (instance_of (library_in s).all) s.book.instances.things.items in
        let left = length_seen (instance_of (library_in s).all) new.instances.things.items in
        let freed : count ≡ length (book_in view s).instances - length (book_in view swept_shelf).instances = omega (arith, before, left, counts) in
        let longer : length_of j ≡ length_of s.journal + (record_length change None + 5) = omega (arith, long, tick_long, ap (λ (y : List ℕ). length y) written.is) in
        let lined : file_in notes ≡ with_line (changed change (record_length change None)) (file_in s.notes) =
        filed ∙ ap (λ (n : ℕ). with_line (changed change n) (file_in s.notes)) (ap (λ (y : List ℕ). length y) written.is ∙ tick_long) in
        swept_comes s.rules (book_in view s) tick late none_bars body (length_of j) count (file_in notes) (book_in view swept_shelf) written longer lined (frees (library_in s) beside_swept) freed

    whole_swept : HasWholeScripts (book_in view swept_shelf)
    whole_swept =
        let made = frees (library_in s) beside_swept in
        swept_whole tick (book_in view s) (book_in view swept_shelf) order.orderly order.scripts_are (ap (λ (y : Book). y.scripts) made) (ap (λ (y : Book). y.instances) made)

    knows : KnowsFile view tells s.rules.number j (s.down ≡ None) notes
    knows =
        known_added view tells s.rules.number s.journal mid j (s.down ≡ None) (s.down ≡ None) s.notes notes tick_body order.knows free.up call serves.now noted marks (subst AreBytes written.is bytes) tick_added
        (λ told. marked_tick exact s.rules.number (bodies_in view s.journal) (book_in view s) tick late ((order.fit told).holds none_doubted) written.spelled (leads_in s free.leads))

    pub landed_sweeps : Sweeps view tells coming s swept_shelf tick (step.swept count)
    landed_sweeps = record {
      event = quiet_event view coming s swept_shelf sweep (step.swept count) (book_in view swept_shelf) refl refl refl (λ given. refl) swept_so.step;
      in_order = added_order view tells s swept_shelf order refl refl sweep step.plain (step.swept count) (book_in view swept_shelf) refl (swept_so.step 0) tt tt tt refl tt events free.up change spelled_tick tick_room (λ told. refl) mid call tick_run
          serves.counts_now (some_kept (library_in s).all s.book new keeps) whole_swept sound low swept_so.landed none_doubted unbroken tick_added
          (λ told m is. swept_told exact (library_in s).all s.rules.number (bodies_in view s.journal) (book_in view s) tick late ((order.fit told).holds none_doubted) written.spelled (leads_in s free.leads) m is s.book new (kept_told (library_in s).all s.book new keeps) (order.told told free.up))
          knows free.leads refl;
      own = λ own. added_own view tells s swept_shelf order refl refl sweep step.plain (step.swept count) (book_in view swept_shelf) refl (swept_so.step 0) tt tt tt refl tt events free.up change spelled_tick tick_room (λ told. refl) mid call tick_run
          serves.counts_now (keeps (sources.own tt) (library_in s).all) serves.reads own serves.now swept_so.landed none_doubted tick_added;
      any_moment = λ told. recorded_run view tells s swept_shelf order refl refl sweep step.plain (step.swept count) (book_in view swept_shelf) refl (swept_so.step 0) tt tt tt refl tt events free.up change spelled_tick tick_room (λ told. refl) mid call tick_run
          serves.counts_now between told serves.only_now (stake_landed (rules_of s.rules) (book_in view s) sweep step.plain change swept_so.landed);
      own_moments = λ told own. recorded_own_moments view tells s swept_shelf order refl refl sweep step.plain (step.swept count) (book_in view swept_shelf) refl (swept_so.step 0) tt tt tt refl tt events free.up change spelled_tick tick_room (λ told. refl)
          mid call tick_run serves.counts_now between told serves.only_now (stake_landed (rules_of s.rules) (book_in view s) sweep step.plain change swept_so.landed) step.plain swept_so.landed (serves.reads told) own;
      tickets = tickets_kept view s swept_shelf refl order.orderly (later_step view s sweep step.plain (step.swept count) (book_in view swept_shelf) order.orderly tt (swept_so.step 0)) (states_stay view s swept_shelf (λ source. keeps source (library_in s).all));
    }

  -- it is in doubt
  module _ (count : ℕ) (same_length : length_of j ≡ length_of s.journal) (notes : FileNotes) (noted : IsNoted notes) (stays : StaysAsTold s.notes notes) where
    abbrev in_doubt_shelf : Shelf D N
    in_doubt_shelf = record s { journal = j; notes = notes; down = Some (record { count = count; work = doubted.Sweeps tick }) }

    abbrev unsure : Book
    unsure = doubting s.rules (book_in view s) count change [] (book_in view s)

    unsure_is : book_in view in_doubt_shelf ≡ unsure
    unsure_is = ap (λ (n : ℕ). record unsure { length = n; file = file_in notes }) same_length ∙ ap (λ (f : File). record unsure { file = f }) stays.file

    may_sweep : Comes (rules_of s.rules) (book_in view s) sweep (step.disk_fault count) (step.disk_failed count) unsure None
    may_sweep = doubted_sweep s.rules (book_in view s) tick late none_bars short_tick count

    tick_stake : stake_of (rules_of s.rules) (book_in view s) 0 sweep (step.disk_fault count) ≡ Some change
    tick_stake = stake_doubted (rules_of s.rules) (book_in view s) unsure sweep (step.disk_fault count) _ may_sweep.landed (ap (λ (y : step.Reply × Book). y.1) (may_sweep.step 0)) refl

    would_land : lands (rules_of s.rules) (book_in view s) sweep step.plain ≡ Some change
    would_land = (landed_sweep s.rules (book_in view s) tick late none_bars short_tick).landed

    pub doubted_sweeps : Sweeps view tells coming s in_doubt_shelf tick (step.disk_failed count)
    doubted_sweeps = record {
      event = quiet_event view coming s in_doubt_shelf sweep (step.disk_failed count) unsure refl refl unsure_is (λ given. refl) may_sweep.step;
      in_order = doubted_order view tells s in_doubt_shelf order refl refl sweep (step.disk_fault count) (step.disk_failed count) unsure unsure_is (may_sweep.step 0) tt tt tt refl tt events free.up change spelled_tick tick_room
          (λ told. refl) mid call tick_run serves.counts_now (λ all. all) (record { setup = order.scripts_are.setup; instances = order.scripts_are.instances }) sound low between serves.only_now tick_stake (λ e. cc e) (λ e. cc e) refl serves.now noted free.leads refl;
      own = λ own. doubted_own view tells s in_doubt_shelf order refl refl sweep (step.disk_fault count) (step.disk_failed count) unsure unsure_is (may_sweep.step 0) tt tt tt refl tt events free.up change spelled_tick tick_room
          (λ told. refl) mid call tick_run serves.counts_now (λ all. all) serves.reads own between serves.only_now tick_stake refl step.plain would_land;
      any_moment = λ told. recorded_run view tells s in_doubt_shelf order refl refl sweep (step.disk_fault count) (step.disk_failed count) unsure unsure_is (may_sweep.step 0) tt tt tt refl tt events free.up change spelled_tick tick_room
          (λ told. refl) mid call tick_run serves.counts_now between told serves.only_now tick_stake;
      own_moments = λ told own. recorded_own_moments view tells s in_doubt_shelf order refl refl sweep (step.disk_fault count) (step.disk_failed count) unsure unsure_is (may_sweep.step 0) tt tt tt refl tt events free.up change spelled_tick
          tick_room (λ told. refl) mid call tick_run serves.counts_now between told serves.only_now tick_stake step.plain would_land (serves.reads told) own;
      tickets = tickets_kept view s in_doubt_shelf refl order.orderly
          (subst (λ (y : Book). Later (book_in view s) y) (sym unsure_is) (later_step view s sweep (step.disk_fault count) (step.disk_failed count) unsure order.orderly tt (may_sweep.step 0))) (states_stay view s in_doubt_shelf (λ source all. all));
    }
