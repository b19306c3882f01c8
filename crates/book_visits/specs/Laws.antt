-- The state of a page that a visit shows.
use Rattle.std.specs.Prelude.{◌≡◌, List, Contains, Option, None, ⊤}
use Rattle.script_nodes.specs.Setup.{Named}
use Rattle.page_names.specs.Views.{target_of}
use Rattle.replay_spec.specs.Book.{Book}
use Rattle.replay_spec.specs.Admission.{Admission, begins, resumes, refused, refusal_of, admit}
use Rattle.replay_spec.specs.Next.{start_visit, page_visit}
use Rattle.replay_spec.specs.Invariant.{IsOrderly}
use Rattle.machine_states.specs.declared.segment.Segment.{Segment}
use Rattle.instance_book.specs.declared.change.Change.{Change}
use Rattle.book_visits.specs.declared.ticket.Ticket.{Ticket}
use Rattle.book_visits.specs.Views.{ticket_of}
pub use Rattle.instance_book.specs.Visits.{KeepsStateOver}
use Rattle.book_visits.specs.Fits.{FitsAs}
use Rattle.book_visits.specs.Changes.{HasStateBy, IsSpelledBy}
use Rattle.book_visits.specs.Prepares.{KeepsItsState}

-- where the segment waits for an answer, its state is kept over the tape of the visit that the ticket's target is admitted as
abbrev pub KeepsStateAs : Book → Ticket → Admission → Segment → Type 0
KeepsStateAs b t (begins k s) r = KeepsStateOver (start_visit b (ticket_of t) k s) r
KeepsStateAs b t (resumes at) r = KeepsStateOver (page_visit b (ticket_of t) at) r
KeepsStateAs b t (refused why) r = ⊤

-- What a ticket's segment shows, where the target is admitted and the ticket is for the visit, is a page with the state of its
-- chain, where that has a spelling. The ticket names its script among all of these.
abbrev pub AShownPageHasItsState : Type 0
AShownPageHasItsState =
    (all : List Named) (b : Book) → IsOrderly b → (t : Ticket) → Contains b.out t.number → (a : Admission) → admit b (target_of t.target) ≡ a
    → refusal_of a ≡ None → FitsAs all b t a → (r : Segment) → KeepsStateAs b t a r → (c : Option Change) → KeepsItsState t r c → IsSpelledBy c
    → HasStateBy all b.shelf b.instances c
