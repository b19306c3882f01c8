-- A ticket that fits goes on to fit.
use Rattle.std.specs.Prelude.{◌≡◌, List, None}
use Rattle.script_nodes.specs.Setup.{Named}
use Rattle.page_names.specs.Views.{target_of}
use Rattle.replay_spec.specs.Book.{Book}
use Rattle.replay_spec.specs.Admission.{admit, refusal_of}
use Rattle.replay_spec.specs.Invariant.{IsOrderly}
use Rattle.replay_spec.specs.Laws.{Leads}
use Rattle.book_visits.specs.declared.ticket.Ticket.{Ticket}
use Rattle.book_visits.specs.Fits.{FitsAs}

-- A ticket of an admitted target that fits an orderly book fits each book of the same setup that lawful events lead to, crashes
-- among them. It names its script among all that were told.
abbrev pub TicketsGoOnToFit : Type 0
TicketsGoOnToFit =
    (all : List Named) (b c : Book) → IsOrderly b → Leads b c → c.scripts ≡ b.scripts → (t : Ticket)
    → refusal_of (admit b (target_of t.target)) ≡ None → FitsAs all b t (admit b (target_of t.target))
    → FitsAs all c t (admit c (target_of t.target))
