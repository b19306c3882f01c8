-- What the calls ensure that land a record, or read the state that it tells.
use Rattle.std.specs.Prelude.{◌≡◌, ℕ, Bool, List, Option, Some, None, Result, IfNone, IfOk, IfSome, OnOk, option_map, true}
use Rattle.std.specs.declared.alloc.AllocError.{AllocError}
use Rattle.script_nodes.specs.Arena.{Arena}
use Rattle.script_nodes.specs.Setup.{Library}
use Rattle.script_nodes.specs.Views.{named_of}
use Rattle.replay_spec.specs.Book.{Change}
use Rattle.machine_states.specs.Machine.{Suspended}
use Rattle.machine_states.specs.Views.{suspended_of}
use Rattle.machine_states.specs.declared.frame.Suspended as stored
use Rattle.frame_codec.specs.Forms.{IsStoredBefore, read_form}
use Rattle.journal_records.specs.Records.{Record}
use Rattle.journal_records.specs.Views.{page_change}
use Rattle.journal_records.specs.declared.records.PageRecord.{PageRecord}
use Rattle.instance_book.specs.Places.{arena_of}
use Rattle.instance_book.specs.declared.book.Book.{Book}
use Rattle.instance_book.specs.declared.place.Place.{Place}
use Rattle.instance_book.specs.declared.shown.ShownState.{ShownState}
use Rattle.book_redo.specs.Redo.{HasNoAnswer, IsAnswerTold, IsBeforeIn, IsLanded, IsLandedRecord, IsRedoneBy, IsStateTold, KeepsStatesOpened, OpensAt}
use Rattle.book_redo.specs.declared.landing.Beginning.{Beginning}

-- The record of a start of this script lands, or is passed over, where there was memory for it.
abbrev pub OpensBegun : {A E : Type 0} → Beginning → PageRecord → ShownState → Result A E → (old new : Book) → Type 0
OpensBegun begins told page result old new = OnOk result (OpensAt begins.place (named_of begins.script.now) told page old new)

-- A start of this script leaves the states of a book as they were told, where there was memory for it.
abbrev pub KeepsStatesBegun : {A E : Type 0} → Beginning → PageRecord → ShownState → Result A E → (old new : Book) → Type 0
KeepsStatesBegun begins told page result old new = OnOk result (KeepsStatesOpened begins.place (named_of begins.script.now) told page old new)

-- The record of a page lands, or is passed over; or its state could not be read.
abbrev pub LandsPage : Library → PageRecord → (state : List ℕ) → (again : Bool) → Result Bool AllocError → (old new : Book) → Type 0
LandsPage library told state again result old new = IfOk result (λ read. IsLanded library (page_change told) (Some state) again read old new)

-- A change that tells no state lands, or is passed over, whatever the library is.
abbrev pub LandsAnyhow : Change → (again : Bool) → (old new : Book) → Type 0
LandsAnyhow c again old new = (library : Library) → IsLanded library c None again true old new

-- A record lands, or is passed over; or its state could not be read.
abbrev pub LandsRecord : Library → Record → (again : Bool) → Result Bool AllocError → (old new : Book) → Type 0
LandsRecord library record_told again result old new = IfOk result (λ read. IsLandedRecord library record_told again read old new)

-- A record is told to a book again, which is as after a crash then; or its state could not be read.
abbrev pub RedoesRecord : Library → Record → (again : Bool) → Result Bool AllocError → (old new : Book) → Type 0
RedoesRecord library record_told again result old new = IfOk result (λ read. IsRedoneBy library record_told again read old new)

-- What is found is the state that these bytes tell after that one, over so many links.
abbrev pub TellsState : Arena → Option Suspended → (links : ℕ) → (bytes : List ℕ) → Result (Option ShownState) AllocError → Type 0
TellsState a before links bytes result = IfOk result (λ page. IfSome page (IsStateTold a before links bytes))

-- Where nothing is found, these bytes tell no state after that one.
abbrev pub LacksState : Arena → Option Suspended → (bytes : List ℕ) → Result (Option ShownState) AllocError → Type 0
LacksState a before bytes result = IfOk result (λ page. IfNone page (read_form a before bytes ≡ None))

-- This is the state that a page is written after which answers the page of a place: that page's, where the links ask for it.
abbrev pub IsBeforeAt : Place → Option stored.Suspended → Type 0
IsBeforeAt place before =
    IsBeforeIn (named_of place.script.now) place.instance.now.item.pages place.page.now (option_map suspended_of before)

-- The state, if it is one, is one that a page of the script of a place may be written after.
abbrev pub IsStoredAt : Place → Option stored.Suspended → Type 0
IsStoredAt place before = IsStoredBefore (arena_of (named_of place.script.now).script) (option_map suspended_of before)

-- What is found, if anything is, is what these bytes tell of a page that answers the one of a place.
abbrev pub TellsAnswerAt : Place → (bytes : List ℕ) → Option ShownState → Type 0
TellsAnswerAt place bytes page = IfSome page (IsAnswerTold (named_of place.script.now) place.instance.now.item.pages place.page.now bytes)

-- Where nothing is found, these bytes tell no page that answers the one of a place.
abbrev pub LacksAnswerAt : Place → (bytes : List ℕ) → Option ShownState → Type 0
LacksAnswerAt place bytes page = IfNone page (HasNoAnswer (named_of place.script.now) place.instance.now.item.pages place.page.now bytes)
