-- What the program's admissions stand for in the definitions.
use Rattle.std.specs.Prelude.{◌≡◌, ◌<◌, ◌^◌, length, ℕ, ◌==◌, ◌&&◌, Bool, List, Option, Some, option_map, ⊤, Result, IfOk}
use Rattle.std.specs.Str.{bytes_eq}
use Rattle.std.specs.declared.alloc.AllocError.{AllocError}
use Rattle.script_value.specs.declared.outcome.Refusal.{Refusal}
use Rattle.script_nodes.specs.Setup.{Named, Library}
use Rattle.script_nodes.specs.Views.{named_of}
use Rattle.page_names.specs.Views.{name_of, target_of}
use Rattle.page_names.specs.declared.names.PageName.{PageName}
use Rattle.page_names.specs.declared.names.ScriptName.{ScriptName}
use Rattle.page_names.specs.declared.names.Target.{Target}
use Rattle.replay_spec.specs.Admission as spec
use Rattle.replay_spec.specs.Next as next
use Rattle.instance_book.specs.declared.numbered.Numbered.{Numbered}
use Rattle.instance_book.specs.declared.page.KeptPage.{KeptPage}
use Rattle.instance_book.specs.declared.instance.KeptInstance.{KeptInstance}
use Rattle.instance_book.specs.declared.book.Book.{Book}
use Rattle.instance_book.specs.declared.place.Place.{Place}
use Rattle.book_visits.specs.declared.admission.Admission.{Admission}
use Rattle.book_visits.specs.declared.admission.Admission.TheVariants.{Begins, Resumes, Refused}
use Rattle.book_visits.specs.declared.ticket.Ticket.{Ticket}
use Rattle.machine_states.specs.Machine.{Suspended}
use Rattle.instance_book.specs.Views.{page_of, script_in, instance_of}
use Rattle.book_visits.specs.Views.{ticket_of}
use Rattle.instance_book.specs.Places.{Source, own, given}
use Rattle.instance_book.specs.Makes.{shelf_from, HasStatesFrom, HasItsStates}
use Rattle.book_visits.specs.Fits.{IsFor, FitsStart, FitsAs, FitsIfStart, GoesOnGiven}
use Rattle.instance_book.specs.Fits.{IsStoredOrigin}
use Rattle.instance_book.specs.Standing.{BeginsAt, IsKeptAt, IsPlacedAt, book_under, place_of}

-- the admission that the program's value stands for: a start, a page to go on from, or a refusal
abbrev pub admission_of : List Named → Admission → spec.Admission
admission_of all (Begins start place script) = spec.begins start (named_of script.now)
admission_of all (Resumes place) = spec.resumes (place_of all place)
admission_of all (Refused r) = spec.refused r

-- why the page of this instance can't be answered
abbrev pub IsWhyNot : (clock : ℕ) → Numbered KeptInstance → Numbered KeptPage → Option Refusal → Type 0
IsWhyNot clock i p r = (all : List Named) → r ≡ spec.why_not clock (instance_of all i) (page_of p)

-- each page of the place's instance has a state that was given to it
abbrev pub IsKeptSome : List Named → Place → Type 0
IsKeptSome all p = (states : ℕ → Option Suspended) × IsKeptAt all (given states) p

-- whether a page of this script, on this shelf and with this nonce, has this name
abbrev pub has_name : Named → (nonce shelf : ℕ) → (name : List ℕ) → PageName → Bool
has_name s nonce shelf name n = n.shelf == shelf && bytes_eq s.name name && nonce == n.nonce

-- what stands under a page's name in the book
abbrev pub place_for : Library → Book → ScriptName → PageName → Option spec.Place
place_for library b name page = spec.place_at (book_under library b) (name_of name) page

-- the program found the page that this name of a script and this URL name, or found that none stands there
abbrev pub IsPlaceAt : Library → Book → ScriptName → PageName → Option Place → Type 0
IsPlaceAt library b name page p = option_map (place_of library.all) p ≡ place_for library b name page

-- what a target is admitted as in the book
abbrev pub admission_for : Library → Book → Target → spec.Admission
admission_for library b target = spec.admit (book_under library b) (target_of target)

-- why a target is not admitted in the book, if it is not
abbrev pub refusal_for : Library → Book → Target → Option Refusal
refusal_for library b target = spec.refusal_of (admission_for library b target)

-- a refusal is why the target is not admitted
abbrev pub IsRefusalFor : Library → Book → Target → Refusal → Type 0
IsRefusalFor library b target r = refusal_for library b target ≡ Some r

-- the program admitted a target as the definitions do
abbrev pub IsAdmittedAs : Library → Book → Target → Admission → Type 0
IsAdmittedAs library b target a = admission_of library.all a ≡ admission_for library b target

-- what a start of this script is admitted as, in each book
abbrev pub IsStartOf : Library → ScriptName → Admission → Type 0
IsStartOf library name a =
    admission_of library.all a ≡ spec.started (spec.script_named (name_of name) library.setup)

-- the ticket has the cells that its segment begins with
abbrev pub HasCellsBy : spec.Admission → Ticket → Type 0
HasCellsBy a t = t.cells ≡ next.cells_by a

-- the ticket is for a start of this script, whose place in the present setup is this one
abbrev pub FitsStartIn : Library → Book → (place : ℕ) → Named → Ticket → Type 0
FitsStartIn library b place s t = FitsStart library.all (book_under library b) t place s

-- the ticket is for an answer to the page of this place
abbrev pub FitsPlace : Library → Book → Place → Ticket → Type 0
FitsPlace library b place t =
    IsFor library.all t (next.page_visit (book_under library b) (ticket_of t) (place_of library.all place))

-- where each page of the place's instance has the state of its chain, the ticket is for an answer to the place's page
abbrev pub FitsWhereKept : Library → Book → Place → Result Ticket AllocError → Type 0
FitsWhereKept library b place result =
    IsKeptAt library.all (own b.shelf) place → IfOk result (FitsPlace library b place)

-- where each page of the place's instance has the state that is given to it, the ticket goes on from that of the place's page
abbrev pub GoesOnAsGiven : Library → Place → Result Ticket AllocError → Type 0
GoesOnAsGiven library place result =
    (states : ℕ → Option Suspended) → IsKeptAt library.all (given states) place
    → IfOk result (GoesOnGiven states (place_of library.all place))

-- what the ticket goes on from, if anything, is a state of the place's script that can be written
abbrev pub GoesOnStored : Place → Ticket → Type 0
GoesOnStored place t = IsStoredOrigin (named_of place.script.now) t.from

-- Under some states that the pages of the book have, the ticket goes on from that of the page of this place; and it is of the script of the
-- page's instance.
pub record GoesOnFromPlace (library : Library) (b : Book) (at : spec.Place) (t : Ticket) : Type 0 where
  pub states : ℕ → Option Suspended
  pub has : HasStatesFrom (given states) library.all b
  pub goes : GoesOnGiven states at t
  pub script : script_in library.all t.script ≡ at.instance.script

-- the ticket of an answer goes on from the page that is answered
abbrev pub GoesOnBy : Library → Book → spec.Admission → Ticket → Type 0
GoesOnBy library b (spec.resumes at) t = GoesOnFromPlace library b at t
GoesOnBy library b _ t = ⊤

-- where the target is admitted in the book as an answer to a page, the ticket goes on from that page
abbrev pub GoesOnIn : Library → Book → Target → Ticket → Type 0
GoesOnIn library b target t = GoesOnBy library b (admission_for library b target) t

-- where the target is admitted in the book, the ticket is for the visit
abbrev pub FitsIn : Library → Book → Target → Ticket → Type 0
FitsIn library b target t = FitsAs library.all (book_under library b) t (admission_for library b target)

-- where each page of the book has the state of its chain and the target is admitted, the ticket is for the visit
abbrev pub FitsInKept : Library → Book → Target → Result Ticket AllocError → Type 0
FitsInKept library b target result = HasItsStates library.all b → IfOk result (FitsIn library b target)

-- where the target is admitted as a start, the ticket is for the visit of it
abbrev pub StartsIn : Library → Book → Target → Ticket → Type 0
StartsIn library b target t = FitsIfStart library.all (book_under library b) t (admission_for library b target)

-- the script that an admission begins stands at its places, or the place that it resumes has the script of its instance
abbrev pub IsPlacedAs : Library → Admission → Type 0
IsPlacedAs library (Begins start place script) = BeginsAt library start place (named_of script.now)
IsPlacedAs library (Resumes place) = IsPlacedAt library.all place
IsPlacedAs library (Refused r) = ⊤

-- each page of the instance that an admission resumes, if any, has its state
abbrev pub ResumesKept : List Named → Source ℕ → Admission → Type 0
ResumesKept all shelf (Resumes place) = IsKeptAt all shelf place
ResumesKept all shelf _ = ⊤

-- where each page of the book has its state, so has each of the instance that an admission resumes, if any
abbrev pub ResumesWhereKept : Library → Book → Admission → Type 0
ResumesWhereKept library b a =
    (source : Source ⊤) → HasStatesFrom source library.all b → ResumesKept library.all (shelf_from source b.shelf) a

-- a byte tells the place of each script of the present setup
abbrev pub HasFew : Library → Type 0
HasFew library = length library.setup < 2 ^ 8
