-- The visit that a ticket is for.
use Rattle.std.specs.Prelude.{◌≡◌, ℕ, List, Option, Some, slice_get, length, ⊤}
use Rattle.script_nodes.specs.Setup.{Named}
use Rattle.replay_spec.specs.Tape.{Tape}
use Rattle.replay_spec.specs.Book as spec
use Rattle.replay_spec.specs.Admission.{Place, Admission, begins, resumes, refused}
use Rattle.replay_spec.specs.Next.{Visit, url_for, start_visit, page_visit}
use Rattle.machine_states.specs.Machine.{Suspended}
use Rattle.machine_states.specs.Laws.{IsStateOf}
use Rattle.machine_states.specs.Views.{origin_of}
use Rattle.instance_book.specs.KeptStates.Links.{links_at}
use Rattle.book_visits.specs.declared.ticket.Ticket.{Ticket}
use Rattle.book_visits.specs.Views.{ticket_of}
use Rattle.instance_book.specs.Places.{Source, own, given, IsGiven, arena_of}
use Rattle.instance_book.specs.Fits.{IsOriginOf, IsStoredOrigin}
pub use Rattle.instance_book.specs.Visits.{GoesOnFrom, IsStateBehind}

-- the ticket's script, its URL, what it goes on from and the links of its page are those of a visit
pub record IsFor (all : List Named) (t : Ticket) (v : Visit) : Type 0 where
  pub script : slice_get all t.script ≡ Some v.script
  pub url : t.url ≡ url_for v
  pub from : GoesOnFrom v (origin_of t.from)
  pub links : t.links ≡ links_at (length v.pages)

-- A start's ticket names the script of this place in the setup, and has the cells that the script begins with.
pub record FitsStart (all : List Named) (b : spec.Book) (t : Ticket) (k : ℕ) (s : Named) : Type 0 where
  pub run : IsFor all t (start_visit b (ticket_of t) k s)
  pub start : t.start ≡ k
  pub present : slice_get b.scripts k ≡ Some s
  pub cells : t.cells ≡ s.script.cells

-- where the target is admitted as this, the ticket is for the visit
abbrev pub FitsAs : List Named → spec.Book → Ticket → Admission → Type 0
FitsAs all b t (begins k s) = FitsStart all b t k s
FitsAs all b t (resumes at) = IsFor all t (page_visit b (ticket_of t) at)
FitsAs all b t (refused r) = ⊤

-- the state is the one that the script shows its page with over the tape, or the one that is given to the page's number
abbrev pub IsStateOver : Source ⊤ → Named → Tape → (number : ℕ) → Suspended → Type 0
IsStateOver (own every) s t n d = IsStateOf (arena_of s.script) t d
IsStateOver (given states) s t n d = IsGiven s states n d

-- the ticket goes on from the state that is given to the page, and the links of its own page are those of an answer to it
pub record GoesOnGiven (states : ℕ → Option Suspended) (at : Place) (t : Ticket) : Type 0 where
  pub before : Suspended
  pub from : origin_of t.from ≡ Some before
  pub state : IsGiven at.instance.script states at.page.number before
  pub links : t.links ≡ links_at (length (spec.chain at.instance.pages at.page))

-- where pages have the states of their chains, the ticket is for the visit that answers the page; where states are given, it goes on from
-- the given one
abbrev pub GoesOnBySource : Source ⊤ → List Named → spec.Book → Place → Ticket → Type 0
GoesOnBySource (own every) all b at t = IsFor all t (page_visit b (ticket_of t) at)
GoesOnBySource (given states) all b at t = GoesOnGiven states at t

-- the ticket's script is one of these, and what it goes on from fits it and can be written, so its segment can be run
pub record IsRunnable (all : List Named) (t : Ticket) : Type 0 where
  pub named : Named
  pub script : slice_get all t.script ≡ Some named
  pub from : IsOriginOf named t.from
  pub stored : IsStoredOrigin named t.from

-- where the target is admitted as a start, the ticket is for the visit
abbrev pub FitsIfStart : List Named → spec.Book → Ticket → Admission → Type 0
FitsIfStart all b t (begins k s) = FitsStart all b t k s
FitsIfStart all b t _ = ⊤

-- a copy stands for the same ticket, and goes on from the same state
pub record IsCopy (copy t : Ticket) : Type 0 where
  pub ticket : ticket_of copy ≡ ticket_of t
  pub target : copy.target ≡ t.target
  pub script : copy.script ≡ t.script
  pub start : copy.start ≡ t.start
  pub url : copy.url ≡ t.url
  pub from : origin_of copy.from ≡ origin_of t.from
  pub links : copy.links ≡ t.links
  pub cells : copy.cells ≡ t.cells
