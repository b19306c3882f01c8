-- What a record that is told again makes of a book.
use Rattle.std.specs.Borrow.{Bor}
use Rattle.std.specs.Prelude.{◌≡◌, ◌⊎◌, ◌<◌, ℕ, ◌+◌, max, slice_get, Bool, true, false, ◌&&◌, List, [], ◌∷◌, length, Option, Some, None, Result, Ok, Err, if◌then◌else◌, ⊤}
use Rattle.std.specs.declared.alloc.AllocError.{AllocError}
use Rattle.script_value.specs.Val.{Val, list, no_vals}
use Rattle.script_value.specs.declared.outcome.TxName.{TxName}
use Rattle.script_nodes.specs.Arena.{Arena}
use Rattle.script_nodes.specs.Setup.{Named, Library}
use Rattle.script_nodes.specs.Views.{named_of}
use Rattle.instance_cells.specs.Cells.{Effect, AreOn}
use Rattle.replay_spec.specs.Book as spec
use Rattle.replay_spec.specs.Book.{Change, File, changed, instance_at, reopened}
use Rattle.replay_spec.specs.Rules.{Rules}
use Rattle.replay_spec.specs.Change.{with_line}
use Rattle.replay_spec.specs.Admission.{◌>>=◌}
use Rattle.replay_spec.specs.Recovery.{are_on, hold_over, can_go, of_length, page_of_numbers, redone, number_in}
use Rattle.replay_spec.specs.Invariant.{AreOrderly}
use Rattle.machine_states.specs.Machine.{Suspended, inside_of}
use Rattle.machine_states.specs.Views.{suspended_of}
use Rattle.frame_codec.specs.Stored.{IsStored}
use Rattle.frame_codec.specs.Forms.{read_form}
use Rattle.instance_book.specs.KeptStates.Kept.{IsFormed, kept_of}
use Rattle.instance_book.specs.KeptStates.Links.{next_links, behind_at}
use Rattle.journal_records.specs.Records.{Record, begins, changes, renews, draws, follows, promotes}
use Rattle.journal_records.specs.Fields.{start}
use Rattle.journal_records.specs.Views.{origin_of, page_change}
use Rattle.journal_records.specs.declared.records.PageRecord.{PageRecord}
use Rattle.journal_spec.specs.Before.{States, state_at, Earlier}
use Rattle.journal_spec.specs.Retaking.{Told, unread, misread, told, told_in, if_held, held, states_with}
use Rattle.journal_spec.specs.Owning.{IsOwnState}
use Rattle.instance_book.specs.declared.numbered.Numbered.{Numbered}
use Rattle.instance_book.specs.declared.in_order.InOrder.{InOrder}
use Rattle.instance_book.specs.declared.page.KeptPage.{KeptPage}
use Rattle.instance_book.specs.declared.instance.KeptInstance.{KeptInstance}
use Rattle.instance_book.specs.declared.place.Place.{Place}
use Rattle.instance_book.specs.declared.change.Change as kept
use Rattle.instance_book.specs.declared.change.Extension.{Extension}
use Rattle.book_redo.specs.declared.landing.Beginning.{Beginning}
use Rattle.book_redo.specs.declared.landing.Answered.{Answered}
use Rattle.book_redo.specs.declared.landing.Answered.TheVariants.{Absent, Misread, Passed, Extends}
use Rattle.instance_book.specs.declared.shown.ShownState.{ShownState}
use Rattle.instance_book.specs.declared.book.Book.{Book}
use Rattle.instance_book.specs.Views.{Beside, book_of, instances_of, instance_of, used_of, script_in, effects_in, new_in}
use Rattle.instance_book.specs.Places.{Source, given, source_in, HasState, AreStatesOf, arena_of}
use Rattle.instance_book.specs.Makes.{MakesUnder, Makes, StaysSame, HasPlaces, KeepsPlaces, shelf_from, HasStatesFrom, HasItsStates, KeepsStates, rules_with, Reopens}
use Rattle.instance_book.specs.Changes.{changed_by}
use Rattle.instance_book.specs.Standing.{book_under, place_of, IsPlacedAt, IsKeptAt, BeginsAt}
use Rattle.instance_book.specs.Segments.{IsExtendedBy}

-- what a record is landed under beside no journal: its length is measured by whoever keeps one
abbrev pub no_rules : Rules
no_rules = rules_with 0 0 0 0

-- the book with a record of this number counted
abbrev pub counted_to : ℕ → spec.Book → spec.Book
counted_to n b = record b { logged = max b.logged (n + 1) }

-- the book becomes the one with a record of this number counted
abbrev pub Counts : ℕ → (old new : Book) → Type 0
Counts n old new = Makes (counted_to n) old new

-- a change lands, and its number counts
abbrev pub LandsAs : kept.Change → (number : ℕ) → (old new : Book) → Type 0
LandsAs c n old new = MakesUnder (λ library b. counted_to n (changed_by library (Some c) b)) old new

-- effects are on these cells and hold over them
abbrev pub are_held : List Effect → List Val → Bool
are_held es cells = are_on (length cells) es && hold_over es cells

-- ---- the state of a page

-- What a page has that its record does not tell, where these are the bytes of its state, after that one: the state, which fits the script;
-- what is kept of it, so many links from one kept by itself; and the transactions of its frames.
pub record IsStateTold (a : Arena) (before : Option Suspended) (links : ℕ) (bytes : List ℕ) (p : ShownState) : Type 0 where
  pub state : read_form a before bytes ≡ Some (suspended_of p.state)
  pub stored : IsStored a (suspended_of p.state)
  pub links_are : p.kept.links ≡ links
  pub formed : IsFormed before (suspended_of p.state) (kept_of p.kept).form
  pub inside : p.inside.items ≡ inside_of (suspended_of p.state).frames

-- where the pages of an instance have their states, this is the one that a page after this one is written after
abbrev pub IsBeforeIn : Named → InOrder KeptPage → Numbered KeptPage → (before : Option Suspended) → Type 0
IsBeforeIn s ps p before =
    (are : AreStatesOf s ps p) → before ≡ behind_at (next_links p.item.state.links) (Some are.own.state)

-- where the pages of an instance have their states, this is what a page has that answers this one, with these bytes of its state
abbrev pub IsAnswerTold : Named → InOrder KeptPage → Numbered KeptPage → (bytes : List ℕ) → ShownState → Type 0
IsAnswerTold s ps p bytes x =
    let links = next_links p.item.state.links in
    (are : AreStatesOf s ps p) → IsStateTold (arena_of s.script) (behind_at links (Some are.own.state)) links bytes x

-- where the pages of an instance have their states, no state of a page that answers this one has these bytes
abbrev pub HasNoAnswer : Named → InOrder KeptPage → Numbered KeptPage → (bytes : List ℕ) → Type 0
HasNoAnswer s ps p bytes =
    let links = next_links p.item.state.links in
    (are : AreStatesOf s ps p) → read_form (arena_of s.script) (behind_at links (Some are.own.state)) bytes ≡ None

-- ---- endings and finishes

-- the names that an ending or finish lands with: none, where its page is there and its effects are on its instance's cells and hold over
-- them
abbrev pub ended_in : spec.Book → (instance page : ℕ) → List Effect → Option (List TxName)
ended_in b instance page effects = page_of_numbers b instance page >>= (λ at. if_held effects at.instance.cells [])

-- an ending or finish with these effects lands in this instance
pub record IsEndedIn (b : Book) (instance page : ℕ) (effects : List Effect) (i : Numbered KeptInstance) : Type 0 where
  pub number : i.number ≡ instance
  pub here : (all : List Named) → instance_at instance (instances_of all b.instances) ≡ Some (instance_of all i)
  pub so : (library : Library) (beside : Beside) → ended_in (book_of library beside b) instance page effects ≡ Some []
  pub on : AreOn (length i.item.cells) effects

-- the instance that is lent is the one in which the ending or finish lands; where none is lent, it lands in none
abbrev pub EndsIn : Book → (instance page : ℕ) → List Effect → Option (Bor (Numbered KeptInstance)) → Type 0
EndsIn b instance page effects (Some i) = IsEndedIn b instance page effects i.now
EndsIn b instance page effects None =
    (library : Library) (beside : Beside) → ended_in (book_of library beside b) instance page effects ≡ None

-- ---- what lands, or is passed over

-- what is told of the state of a record's page, where records told this earlier
abbrev pub told_of : Library → Earlier → Book → Change → Option (List ℕ) → Told
told_of library earlier b c state = told_in earlier (book_under library b) c state

-- each page of the book has the state that records told
abbrev pub HasToldStates : List Named → States → Book → Type 0
HasToldStates all states b = HasStatesFrom (given (λ n. state_at n states)) all b

-- what is told is a state, or none is due
abbrev pub is_read : Told → Bool
is_read misread = false
is_read unread = true
is_read (told d) = true

-- the names that the record lands with, where what is told is its state; none where its number was seen
abbrev pub names_told : (again : Bool) → spec.Book → Change → Told → Option (List TxName)
names_told again b c unread = if again then None else held b c []
names_told again b c misread = None
names_told again b c (told d) = if again then None else held b c (inside_of d.frames)

-- the number of a record names nothing that stands
abbrev pub IsFree : List Named → Option ℕ → Book → Type 0
IsFree all number b = AreOrderly (λ n. number ≡ Some n) (instances_of all b.instances)

-- records told no state of the page of this number, if there is a number
abbrev pub IsUntold : Option ℕ → States → Type 0
IsUntold number states = (n : ℕ) → number ≡ Some n → state_at n states ≡ None

-- the states that are told with one record more
abbrev pub told_states : Library → (again : Bool) → Change → Told → Book → States → States
told_states library again c x old states = states_with (names_told again (book_under library old) c x) (number_in c) x states

-- under this library, beside anything, the change lands with the names that the book gives, or is passed over
abbrev pub IsLandedBy : Library → Change → (spec.Book → Option (List TxName)) → (old new : Book) → Type 0
IsLandedBy library c names old new =
    (beside : Beside) → let b = book_of library beside old in book_of library beside new ≡ redone no_rules c (names b) b

-- Whether the state could be read; if so, the book is made as is said of what is told, and else nothing changes. Each page goes on to have the
-- state told of it, and that of its chain, where the script leaves the state.
pub record IsMadeBehind (made : Told → Type 0) (library : Library) (earlier : Earlier) (c : Change) (state : Option (List ℕ)) (again read : Bool) (old new : Book) : Type 0 where
  pub read_is : read ≡ is_read (told_of library earlier old c state)
  pub book : read ≡ true → made (told_of library earlier old c state)
  pub same : read ≡ false → StaysSame old new
  pub told : read ≡ true → (again ≡ false → IsUntold (number_in c) earlier.states)
      → HasToldStates library.all (told_states library again c (told_of library earlier old c state) old earlier.states) new
  pub states : IsOwnState (book_under library old) c (told_of library earlier old c state)
      → HasItsStates library.all old → HasItsStates library.all new

-- where these states were told earlier, the record lands, or is passed over, as recovery decides, if its state could be read
abbrev pub IsLandedBehind : Library → Earlier → Change → Option (List ℕ) → (again read : Bool) → (old new : Book) → Type 0
IsLandedBehind library earlier c state again read old new =
    IsMadeBehind (λ x. IsLandedBy library c (λ b. names_told again b c x) old new) library earlier c state again read old new

-- whatever records told earlier, the change of a record lands, or is passed over, as recovery decides, where its state could be read
abbrev pub IsLanded : Library → Change → Option (List ℕ) → (again read : Bool) → (old new : Book) → Type 0
IsLanded library c state again read old new =
    (earlier : Earlier) → HasToldStates library.all earlier.states old → IsLandedBehind library earlier c state again read old new

-- ---- what is made of it, as after a crash

-- the file with a record of a change that lands; one that is passed over is not told
abbrev pub file_with : (length : ℕ) → Change → Option (List TxName) → File → File
file_with n c None f = f
file_with n c (Some inside) f = with_line (changed c n) f

-- what stands beside a book with a record of this length more, which lands with these names or is passed over
abbrev pub beside_with : (length : ℕ) → Change → Option (List TxName) → Beside → Beside
beside_with n c names x = record x { length = x.length + (n + 5); file = file_with n c names x.file; down = None }

-- the record of a change, of whose state this is told, makes of the book what recovery decides, as after a crash
abbrev pub IsRedoneFor : Library → Change → (again : Bool) → (old new : Book) → Told → Type 0
IsRedoneFor library c again old new x =
    (n : ℕ) (beside : Beside) → let b = book_of library beside old in let names = names_told again b c x in
    book_of library (beside_with n c names beside) new ≡ reopened (redone (of_length n) c names b)

-- whatever records told earlier, the record of a change makes of the book what recovery decides
abbrev pub IsRedone : Library → Change → Option (List ℕ) → (again read : Bool) → (old new : Book) → Type 0
IsRedone library c state again read old new =
    (earlier : Earlier) → HasToldStates library.all earlier.states old → IsMadeBehind (IsRedoneFor library c again old new) library earlier c state again read old new

-- the number of a record, if it has one
abbrev pub number_by : Record → Option ℕ
number_by (changes c state) = number_in c
number_by _ = None

-- What a record makes of the book, as after a crash: one of a change what recovery decides, where its state could be read; one that tells
-- a number goes on with it; and one of a setup, or of whether the shelf follows another one's journal, makes no change.
abbrev pub IsRedoneBy : Library → Record → (again read : Bool) → (old new : Book) → Type 0
IsRedoneBy library (begins shelf named) again read old new = (read ≡ true) × Reopens (λ b. b) old new
IsRedoneBy library (changes c state) again read old new = IsRedone library c state again read old new
IsRedoneBy library (renews named) again read old new = (read ≡ true) × Reopens (λ b. b) old new
IsRedoneBy library (draws number) again read old new = (read ≡ true) × Reopens (λ b. record b { logged = number }) old new
IsRedoneBy library follows again read old new = (read ≡ true) × Reopens (λ b. b) old new
IsRedoneBy library promotes again read old new = (read ≡ true) × Reopens (λ b. b) old new

-- ---- on the way

-- where the script of a start stands, for this place in the present setup; none where the setup has no such place
abbrev pub IsBeginning : Library → (start : ℕ) → Option Beginning → Type 0
IsBeginning library k None = slice_get library.setup k ≡ None
IsBeginning library k (Some x) = BeginsAt library k x.place (named_of x.script.now)

-- the record of a start of this script, whose page is told so, lands, or is passed over
abbrev pub OpensAt : (place : ℕ) → Named → PageRecord → ShownState → (old new : Book) → Type 0
OpensAt place s r p old new =
    (library : Library) (k : ℕ) → BeginsAt library k place s → origin_of r.origin ≡ start k
    → IsLandedBy library (page_change r) (λ b. held b (page_change r) p.inside.items) old new

-- where the script of this place is one of all, each instance of the book goes on to be of one
abbrev pub KeepsPlacesAt : (place : ℕ) → (old new : Book) → Type 0
KeepsPlacesAt place old new = (all : List Named) → place < length all → HasPlaces all old → HasPlaces all new

-- the page that a record of a start tells
abbrev pub first_in : PageRecord → ShownState → spec.Page
first_in r p = new_in r None (list no_vals) p.inside.items

-- a record's page has its state, where a start of the script of this place showed it
pub record HasFirstState (source : Source ⊤) (all : List Named) (b : Book) (place : ℕ) (r : PageRecord) (p : ShownState) : Type 0 where
  pub placed : place < length all
  pub state :
      let s = script_in all place in
      let q = first_in r p in
      HasState s (source_in s (shelf_from source b.shelf) r.ticket) (q ∷ []) q (kept_of p.kept)

-- whether the record of a start can be of a book, whose script begins with these cells: it evicts no page, and its effects are on the cells
-- and hold over them
abbrev pub opens_on : (cells : List Val) → PageRecord → Bool
opens_on cells r = can_go r.evicted.items [] && are_held (effects_in r) cells

-- whether the record of a start of this script can be of a book
abbrev pub opens_so : Named → PageRecord → Bool
opens_so s r = opens_on s.script.cells r

-- where the page of a start, if it opens, has its state, each page of the book goes on to have its own
abbrev pub KeepsStatesOpened : (place : ℕ) → Named → PageRecord → ShownState → (old new : Book) → Type 0
KeepsStatesOpened place s r p old new =
    (source : Source ⊤) (all : List Named) → (opens_so s r ≡ true → HasFirstState source all old place r p) → HasStatesFrom source all old
    → HasStatesFrom source all new

-- whether the record of an answer can be of an instance: the pages that it evicts can go, and its effects are on the instance's cells and
-- hold over them
abbrev pub takes_record : PageRecord → KeptInstance → Bool
takes_record r i = can_go r.evicted.items (used_of i.pages) && are_held (effects_in r) i.cells

-- this page stands under these numbers in the book, and each page of its instance has its state where the book's pages have theirs
pub record StandsThere (library : Library) (b : Book) (instance page : ℕ) (place : Place) : Type 0 where
  pub found : page_of_numbers (book_under library b) instance page ≡ Some (place_of library.all place)
  pub placed : IsPlacedAt library.all place
  pub kept : (source : Source ⊤) → HasStatesFrom source library.all b → IsKeptAt library.all (shelf_from source b.shelf) place

-- the bytes of a record are no state of a page that answers this one
pub record IsMisread (library : Library) (b : Book) (instance page : ℕ) (bytes : List ℕ) : Type 0 where
  pub place : Place
  pub there : StandsThere library b instance page place
  pub none : HasNoAnswer (named_of place.script.now) place.instance.now.item.pages place.page.now bytes

-- the bytes of a record are a state of a page that answers this one
pub record IsTold (library : Library) (b : Book) (instance page : ℕ) (bytes : List ℕ) : Type 0 where
  pub place : Place
  pub there : StandsThere library b instance page place
  pub shown : ShownState
  pub told : IsAnswerTold (named_of place.script.now) place.instance.now.item.pages place.page.now bytes shown

-- the record of an answer is told, and is passed over
pub record IsPassed (library : Library) (b : Book) (instance page : ℕ) (r : PageRecord) (bytes : List ℕ) (again : Bool) : Type 0 where
  pub told : IsTold library b instance page bytes
  pub off : (again ≡ true) ⊎ (takes_record r told.place.instance.now.item ≡ false)

-- the record of an answer is told, and extends its instance as the record says
pub record IsExtended (library : Library) (b : Book) (instance page : ℕ) (answer : Val) (r : PageRecord) (bytes : List ℕ) (again : Bool) (x : Extension) : Type 0 where
  pub told : IsTold library b instance page bytes
  pub new : again ≡ false
  pub on : takes_record r told.place.instance.now.item ≡ true
  pub extension : IsExtendedBy r page answer told.shown told.place.instance.now x

-- what the record of an answer with this comes to, with these bytes of its page's state
abbrev pub IsAnswered : Library → Book → (instance page : ℕ) → (answer : Val) → PageRecord → (bytes : List ℕ) → (again : Bool) → Answered → Type 0
IsAnswered library b k m answer r bytes again Absent = page_of_numbers (book_under library b) k m ≡ None
IsAnswered library b k m answer r bytes again Misread = IsMisread library b k m bytes
IsAnswered library b k m answer r bytes again Passed = IsPassed library b k m r bytes again
IsAnswered library b k m answer r bytes again (Extends x) = IsExtended library b k m answer r bytes again x

-- the book is made so, and its pages stay
pub record MakesSo (f : spec.Book → spec.Book) (old new : Book) : Type 0 where
  pub book : Makes f old new
  pub states : KeepsStates old new

-- nothing of a book is changed but the room that it has
pub record IsUnchanged (old new : Book) : Type 0 where
  pub book : StaysSame old new
  pub placed : KeepsPlaces old new
  pub states : KeepsStates old new

-- a fact that holds unless a record was taken: where memory ran out, and where what the record tells could not be read
abbrev pub UnlessTaken : Result Bool AllocError → Type 0 → Type 0
UnlessTaken (Ok true) holds = ⊤
UnlessTaken (Ok false) holds = holds
UnlessTaken (Err e) holds = holds

-- what a record makes of the book, before it is as after a crash
abbrev pub IsLandedRecord : Library → Record → (again read : Bool) → (old new : Book) → Type 0
IsLandedRecord library (begins shelf named) again read old new = (read ≡ true) × MakesSo (λ b. b) old new
IsLandedRecord library (changes c state) again read old new = IsLanded library c state again read old new
IsLandedRecord library (renews named) again read old new = (read ≡ true) × MakesSo (λ b. b) old new
IsLandedRecord library (draws number) again read old new = (read ≡ true) × MakesSo (λ b. record b { logged = number }) old new
IsLandedRecord library follows again read old new = (read ≡ true) × MakesSo (λ b. b) old new
IsLandedRecord library promotes again read old new = (read ≡ true) × MakesSo (λ b. b) old new
