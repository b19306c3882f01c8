-- That the ticket of an answer goes on from the page that it answers.
use Rattle.std.specs.Prelude.{IfSome, ⊤}
use Rattle.script_nodes.specs.Setup.{Library}
use Rattle.page_names.specs.Names.{Destination, start, page}
use Rattle.page_names.specs.Views.{target_of}
use Rattle.web_disk.specs.View.{View}
use Rattle.replay_spec.specs.Book as spec
use Rattle.replay_spec.specs.Invariant.{Unused}
use Rattle.replay_spec.specs.Recovery.{page_of_numbers}
use Rattle.book_recovery.specs.InstanceBook.declared.book.Book.{Book}
use Rattle.book_visits.specs.declared.ticket.Ticket.{Ticket}
use Rattle.book_recovery.specs.InstanceBook.Standing.{book_under}
use Rattle.book_visits.specs.Admissions.{GoesOnFromPlace}
use Rattle.shelf.specs.declared.shelf.Shelf.{Shelf}
use Rattle.shelf.specs.Views.{library_in, book_in}

-- the ticket of an answer to a page goes on from it, where the page stands in the book
abbrev pub GoesOnWhere : Library → Book → Ticket → Destination → Type 0
GoesOnWhere library b t (start name) = ⊤
GoesOnWhere library b t (page name n) =
    IfSome (page_of_numbers (book_under library b) n.instance n.page) (λ at. GoesOnFromPlace library b at t)

-- where the ticket is for an answer to a page that stands in the book, it goes on from that page
abbrev pub GoesOnIfThere : Library → Book → Ticket → Type 0
GoesOnIfThere library b t = GoesOnWhere library b t (target_of t.target)

-- no segment that is still to come has the number of the page that is answered, nor that of its instance
abbrev pub AreNumbersUsed : spec.Book → Destination → Type 0
AreNumbersUsed b (start name) = ⊤
AreNumbersUsed b (page name n) = ¬ Unused b n.instance × ¬ Unused b n.page

-- The ticket of an answer goes on from its page on this shelf: from the page's state, and by the script of its instance, as long as the
-- page stands; and no page comes to stand in its place.
pub record GoesOnFromItsPage {D N : Type 0} (view : D → View) (s : Shelf D N) (t : Ticket) : Type 0 where
  pub used : AreNumbersUsed (book_in view s) (target_of t.target)
  pub goes : GoesOnIfThere (library_in s) s.book t

-- each ticket that goes on from its page on the old shelf does so on the new one
abbrev pub KeepsTickets : {D N : Type 0} → (D → View) → (old new : Shelf D N) → Type 0
KeepsTickets view old new = (t : Ticket) → GoesOnFromItsPage view old t → GoesOnFromItsPage view new t
