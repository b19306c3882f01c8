-- What the program's shelf stands for in the definitions.
use Rattle.std.specs.Prelude.{◌≡◌, ℕ, ◌+◌, Bool, false, IsTrue, List, [], map, length, Option, Some, None, option_map, is_some, IfSome, Contains, Result, Ok, Err, ⊤}
use Rattle.script_value.specs.declared.outcome.Reply.{Reply}
use Rattle.script_nodes.specs.Setup.{Named, Library}
use Rattle.script_nodes.specs.Views.{library_of}
use Rattle.page_names.specs.Names.{Destination, start, page}
use Rattle.page_names.specs.Views.{target_of}
use Rattle.page_names.specs.declared.names.Target.{Target}
use Rattle.instance_cells.specs.Cells.{Effect, Holds}
use Rattle.instance_cells.specs.Views.{effect_of}
use Rattle.book_recovery.specs.SetupReader.Texts.{setup_of_texts, IsReadSetup}
use Rattle.web_disk.specs.View.{View}
use Rattle.page_journal.specs.Settled as journal
use Rattle.page_journal.specs.Settled.{is_broken, bodies_in, length_of}
use Rattle.page_journal.specs.declared.journal.Journal.{Journal}
use Rattle.book_recovery.specs.JournalSpec.Before.{Made}
use Rattle.book_recovery.specs.JournalSpec.Lengths.{journal_rules}
use Rattle.book_recovery.specs.JournalSpec.Making as make
use Rattle.book_recovery.specs.JournalSpec.Making.{made_in}
use Rattle.book_recovery.specs.JournalSpec.Whole.{HasWholeScripts}
use Rattle.book_recovery.specs.JournalSpec.Disks.{IsFit}
use Rattle.book_recovery.specs.JournalSpec.Spelling.{IsInRange}
use Rattle.machine_states.specs.Views.{segment_of}
use Rattle.machine_states.specs.declared.segment.Segment as ran
use Rattle.replay_spec.specs.Tape.{present}
use Rattle.replay_spec.specs.Eval.{Segment}
use Rattle.replay_spec.specs.Book as spec
use Rattle.replay_spec.specs.Book.{Book, instance_at}
use Rattle.replay_spec.specs.Rules as spec_rules
use Rattle.replay_spec.specs.Admission.{Admission, begins, resumes, refused, admit}
use Rattle.replay_spec.specs.Next.{comes_to, start_visit, page_visit}
use Rattle.replay_spec.specs.Step as step
use Rattle.replay_spec.specs.Runs as runs
use Rattle.replay_spec.specs.Runs.{drawn_by, shelf_step}
use Rattle.replay_spec.specs.Invariant.{IsOrderly}
use Rattle.book_visits.specs.declared.ticket.Ticket.{Ticket}
use Rattle.book_recovery.specs.InstanceBook.Views.{Beside, book_of}
use Rattle.book_visits.specs.Views.{ticket_of, reply_of}
use Rattle.book_recovery.specs.InstanceBook.declared.change.Change.{Change}
use Rattle.book_recovery.specs.InstanceBook.Changes.{change_of, inside_of}
use Rattle.book_recovery.specs.Found.{HasToldStates}
use Rattle.book_recovery.specs.InstanceBook.Makes.{HasPlaces, HasSomeStates, HasItsStates}
use Rattle.book_recovery.specs.InstanceBook.Swept.{cells_in}
use Rattle.book_visits.specs.Fits.{FitsAs}
use Rattle.book_recovery.specs.InstanceBook.Makes.{rules_with}
use Rattle.book_visits.specs.Prepares.{HasItsScript}
use Rattle.book_visits.specs.Admissions.{HasFew}
use Rattle.book_visits.specs.Laws.{KeepsStateAs}
use Rattle.book_recovery.specs.InstanceBook.declared.book.Book as kept
use Rattle.shelf.specs.Runs.{IsRunOver}
use Rattle.shelf.specs.declared.doubt.Doubt.{Doubt}
use Rattle.shelf.specs.declared.doubt.Work.{Work}
use Rattle.shelf.specs.declared.doubt.Work.TheVariants.{Visits, Sweeps, Compacts}
use Rattle.shelf.specs.declared.follower.Follower.{Follower}
use Rattle.shelf.specs.declared.rules.Rules.{Rules}
use Rattle.shelf.specs.declared.shelf.Shelf.{Shelf}
use Rattle.file_copies.specs.OfFileNotes.Files as noted
use Rattle.shelf.specs.Fed.{IsFedAs, IsFedBy, IsFedSome}
use Rattle.shelf.specs.Files.{KnowsFile}
use Rattle.shelf.specs.Ranges.{AreInRange}
use Rattle.shelf.specs.Owning.{StandsOwn}

-- what the events of a shelf run under, before the record of a change is measured
abbrev pub unmeasured : Rules → spec_rules.Rules
unmeasured r = rules_with r.fuel r.life r.instances r.pages

-- what the events of a shelf run under, with its journal
abbrev pub rules_of : Rules → spec_rules.Rules
rules_of r = record (unmeasured r) { journal = Some (journal_rules r.number) }

-- work in which the disk failed, as the definitions have it
abbrev pub work_of : Work → spec.Work
work_of (Visits c) = spec.landing (change_of c) (inside_of c)
work_of (Sweeps tick) = spec.landing (spec.sweeps tick) []
work_of Compacts = spec.compacting

-- what is in doubt, as the definitions have it
abbrev pub doubt_of : Doubt → spec.Doubt
doubt_of d = record { count = d.count; work = work_of d.work }

-- what is in doubt with a visit's change, if it has one
abbrev pub doubt_by : (count : ℕ) → Option Change → Option spec.Doubt
doubt_by count None = None
doubt_by count (Some c) = Some (record { count = count; work = spec.landing (change_of c) (inside_of c) })

-- whether a shelf follows another one's journal
abbrev pub follows_in : {D N : Type 0} → Shelf D N → Bool
follows_in s = is_some s.follower

-- nothing is in doubt on a shelf, and it does not follow another one's journal
pub record IsFree {D N : Type 0} (s : Shelf D N) : Type 0 where
  pub up : s.down ≡ None
  pub leads : s.follower ≡ None

-- what stands beside the book of a shelf: its journal, seen through this view of the disk, what is in doubt, and whether it follows
abbrev pub beside_of : {D N : Type 0} → (D → View) → Shelf D N → Beside
beside_of view s =
    record { length = length_of s.journal; file = noted.file_in s.notes; down = option_map doubt_of s.down; follows = follows_in s }

-- what a journal told a shelf of: the scripts of all setups, and those of the last one
abbrev pub library_in : {D N : Type 0} → Shelf D N → Library
library_in s = library_of s.library

-- the book of the shelf
abbrev pub book_in : {D N : Type 0} → (D → View) → Shelf D N → Book
book_in view s = book_of (library_in s) (beside_of view s) s.book

-- the shelf, whose source has given so many nonces
abbrev pub shelf_of : {D N : Type 0} → (D → View) → (given : ℕ) → Shelf D N → runs.Shelf
shelf_of view given s = record { rules = rules_of s.rules; book = book_in view s; nonces = given }

-- after so many nonces of this source these are to come
abbrev pub HasGiven : (source : ℕ → ℕ) → (given : ℕ) → (coming : ℕ → ℕ) → Type 0
HasGiven source given coming = (k : ℕ) → coming k ≡ source (given + k)

-- the pages of a book have the states that the records of the journal told
abbrev pub TellsStates : {D : Type 0} → (D → View) → List Named → (shelf : ℕ) → Journal D → kept.Book → Type 0
TellsStates view all shelf j b =
    (m : Made) → made_in (make.book_of setup_of_texts shelf (bodies_in view j)) ≡ Some m → HasToldStates all m.earlier.states b

-- What a shelf keeps that follows another one's journal is what it was fed; its book is as after a crash, nothing is in doubt, and no call of
-- the disk has failed when a record was added.
pub record IsFed {D N : Type 0} (view : D → View) (tells : Bool) (s : Shelf D N) (f : Follower) : Type 0 where
  pub standing : f.fallen ≡ None
  pub up : s.down ≡ None
  pub again : book_in view s ≡ spec.reopened (book_in view s)
  pub fed : IsFedAs f.fed s.rules.number f.seen s.book (library_in s)
  pub made : IsFedSome f.fed s.rules.number f.seen s.book (library_in s)
  pub told : IsTrue tells
      → IsFedBy f.fed s.rules.number f.seen s.book (library_in s) (make.book_of setup_of_texts s.rules.number (bodies_in view s.journal))

-- What holds of a shelf between its calls, on a disk of this view, whoever left the journal: each instance is of a script that the journal
-- told, and each page has a state that fits it; the book is orderly, of whole scripts and of numbers that records tell, and of the shelf's
-- number; the setup is what its names and texts are read as, unless the shelf follows another one's journal; the limits are in their ranges;
-- where nothing is in doubt, the journal can go on; where the disk tells its bytes, it stands for the book, whose pages have the states that
-- the records told; the journal's file is known; and where the shelf follows, so is how far.
pub record IsInOrder {D N : Type 0} (view : D → View) (tells : Bool) (s : Shelf D N) : Type 0 where
  pub placed : HasPlaces (library_in s).all s.book
  pub kept : HasSomeStates (library_in s).all s.book
  pub orderly : IsOrderly (book_in view s)
  pub scripts_are : HasWholeScripts (book_in view s)
  pub read : follows_in s ≡ false → IsReadSetup (library_in s).setup
  pub range : IsInRange (book_in view s)
  pub number : s.book.shelf ≡ s.rules.number
  pub limits : AreInRange s.rules
  pub few : HasFew (library_in s)
  pub sound : journal.IsSound s.journal
  pub whole : s.down ≡ None → is_broken s.journal ≡ false
  pub fit : IsTrue tells → IsFit view setup_of_texts s.rules.number s.journal (book_in view s)
  pub told : IsTrue tells → s.down ≡ None → TellsStates view (library_in s).all s.rules.number s.journal s.book
  pub knows : KnowsFile view tells s.rules.number s.journal (s.down ≡ None) s.notes
  pub fed : IfSome s.follower (IsFed view tells s)

-- What this program's own shelves have besides: each page has the state of its chain; and where the disk tells its bytes, so has each
-- record that a crash may leave there, and what is in doubt is measured as its record is.
pub record IsOwnShelf {D N : Type 0} (view : D → View) (tells : Bool) (s : Shelf D N) : Type 0 where
  pub states : HasItsStates (library_in s).all s.book
  pub own : IsTrue tells → StandsOwn (rules_of s.rules) s.rules.number (view s.journal.disk) (book_in view s)

-- what a take answers
abbrev pub taken_of : Result Ticket Reply → step.Reply
taken_of (Ok t) = step.taken t.number t.nonce
taken_of (Err r) = reply_of r

-- what a sweep answers
abbrev pub swept_of : Result ℕ Reply → step.Reply
swept_of (Ok n) = step.swept n
swept_of (Err r) = reply_of r

-- what a compaction answers
abbrev pub compacted_of : Result ℕ Reply → step.Reply
compacted_of (Ok n) = step.compacted n
compacted_of (Err r) = reply_of r

-- the fate of an event is read off its reply
abbrev pub fate_by : step.Reply → step.Fate
fate_by step.memory = step.no_memory
fate_by (step.disk_failed count) = step.disk_fault count
fate_by _ = step.plain

-- the event takes the one shelf to the other, with this reply, where this is the source of its nonces
abbrev pub IsStep : (source : ℕ → ℕ) → runs.Shelf → step.Event → step.Reply → runs.Shelf → Type 0
IsStep source s event reply next = shelf_step source s event (fate_by reply) ≡ (reply, next)

-- The event takes the shelf on, whatever its source is and has given, and the source goes on with it.
pub record IsEvent {D N : Type 0} (view : D → View) (coming : N → ℕ → ℕ) (old new : Shelf D N) (event : step.Event) (reply : step.Reply) : Type 0 where
  pub step : (source : ℕ → ℕ) (given : ℕ) → HasGiven source given (coming old.nonces)
      → IsStep source (shelf_of view given old) event reply (shelf_of view (drawn_by reply given) new)
  pub nonces : (source : ℕ → ℕ) (given : ℕ) → HasGiven source given (coming old.nonces) → HasGiven source (drawn_by reply given) (coming new.nonces)

-- what a target is admitted as now
abbrev pub admission_now : {D N : Type 0} → (D → View) → Shelf D N → Target → Admission
admission_now view s target = admit (book_in view s) (target_of target)

-- where the ticket's target is admitted now, the ticket is for the visit of it
abbrev pub FitsNow : {D N : Type 0} → (D → View) → Shelf D N → Ticket → Type 0
FitsNow view s t = FitsAs (library_in s).all (book_in view s) t (admission_now view s t.target)

-- the shelf is an own one, and the ticket fits it
pub record IsOwnVisit {D N : Type 0} (view : D → View) (tells : Bool) (s : Shelf D N) (t : Ticket) : Type 0 where
  pub own : IsOwnShelf view tells s
  pub fits : FitsNow view s t

-- what a start asks of the library: the ticket's script stands there, and it has the cells that the script begins with
abbrev pub HasTargetScript : Library → Ticket → Type 0
HasTargetScript library t = HasItsScript library t (target_of t.target)

-- the ticket's number is out
abbrev pub IsOut : {D N : Type 0} → (D → View) → Shelf D N → Ticket → Type 0
IsOut view s t = Contains (book_in view s).out t.number

-- the segment of the ticket over the ticket's own cells
abbrev pub IsRunOf : List Named → (fuel : ℕ) → Ticket → ran.Segment → Type 0
IsRunOf all fuel t r = IsRunOver all fuel t t.cells r

-- the segment is the run of the ticket, where there was memory for it
abbrev pub IsRunIfAny : List Named → (fuel : ℕ) → Ticket → Option ran.Segment → Type 0
IsRunIfAny all fuel t None = ⊤
IsRunIfAny all fuel t (Some r) = IsRunOf all fuel t r

-- the segment is the run of the ticket under this shelf's fuel, where there was memory for it
abbrev pub IsRunFor : {D N : Type 0} → Shelf D N → Ticket → Option ran.Segment → Type 0
IsRunFor s t segment = IsRunIfAny (library_in s).all s.rules.fuel t segment

-- no second run is due: a start's cells are its own, and the effects hold over the cells of an answered page's instance
abbrev pub HoldIn : Book → Destination → List Effect → Type 0
HoldIn b (start name) effects = ⊤
HoldIn b (page name n) effects = IfSome (cells_in n.instance b) (λ cells. Holds effects cells)

-- no second run of a ticket's segment is due, by the effects that its run had
abbrev pub HoldNow : Book → Ticket → ran.Segment → Type 0
HoldNow b t r = HoldIn b (target_of t.target) (map effect_of r.effects.items)

-- each instance has as many cells as its script
abbrev pub HaveTheirCells : Book → Type 0
HaveTheirCells b =
    (k : ℕ) (i : spec.Instance) → instance_at k b.instances ≡ Some i → length i.cells ≡ length i.script.script.cells

-- what the new segment of an admitted visit comes to over the cells of now
abbrev pub IsSegmentOf : (fuel : ℕ) → Book → Ticket → Admission → Segment → Type 0
IsSegmentOf fuel b t (begins k named) s = s ≡ comes_to (start_visit b (ticket_of t) k named) (present named.script.cells fuel)
IsSegmentOf fuel b t (resumes at) s = s ≡ comes_to (page_visit b (ticket_of t) at) (present at.instance.cells fuel)
IsSegmentOf fuel b t (refused r) s = ⊤

-- the program's segment is what that of an admitted visit comes to over the cells of now
abbrev pub IsSegmentNow : (fuel : ℕ) → Book → Ticket → ran.Segment → Type 0
IsSegmentNow fuel b t r = IsSegmentOf fuel b t (admit b (target_of t.target)) (segment_of r)

-- where the segment waits for an answer, its state is that of its page's chain, for the visit that the ticket's target is admitted as
abbrev pub KeepsStateNow : Book → Ticket → ran.Segment → Type 0
KeepsStateNow b t r = KeepsStateAs b t (admit b (target_of t.target)) r
