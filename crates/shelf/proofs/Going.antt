-- A ticket that fits goes on to fit.
use Rattle.std.proofs.Common.{◌≡◌, ap, sym, subst, refl, ℕ, List, Option, Some, None, slice_get, inl, inr}
use Rattle.script_value.specs.declared.outcome.Refusal.{Refusal}
use Rattle.script_nodes.specs.Setup.{Named}
use Rattle.page_names.specs.Names.{Destination, start, page}
use Rattle.page_names.specs.Views.{target_of}
use Rattle.page_names.specs.declared.names.PageName.{PageName}
use Rattle.replay_spec.specs.Book.{Book, instance_at}
use Rattle.replay_spec.specs.Admission.{◌>>=◌, Place, place_at, unless_why, why_not, found, started, script_named, refusal_of, admit}
use Rattle.replay_spec.specs.Next.{start_visit, page_visit}
use Rattle.replay_spec.specs.Invariant.{IsOrderly}
use Rattle.replay_spec.specs.Laws.{Leads, OrderlyBooksStay, PagesStay}
use Rattle.book_visits.specs.declared.ticket.Ticket.{Ticket}
use Rattle.book_visits.specs.Views.{ticket_of}
use Rattle.book_visits.specs.Fits.{IsFor, FitsAs}
use Rattle.shelf.specs.Going.{TicketsGoOnToFit}

-- a start is for the same visit on each book of the shelf with this setup
start_goes : (all : List Named) (b c : Book) (t : Ticket) (o : Option (ℕ × Named)) → c.shelf ≡ b.shelf → c.scripts ≡ b.scripts → FitsAs all b t (started o) → FitsAs all c t (started o)
start_goes all b c t None e setup h = tt
start_goes all b c t (Some x) e setup h =
    let same : start_visit b (ticket_of t) x.0 x.1 ≡ start_visit c (ticket_of t) x.0 x.1 = ap (λ (n : ℕ). record (start_visit b (ticket_of t) x.0 x.1) { shelf = n }) (sym e) in
    record { run = subst (IsFor all t) same h.run; start = h.start; present = subst (λ (ss : List Named). slice_get ss x.0 ≡ Some x.1) (sym setup) h.present; cells = h.cells }

-- where nothing stands, nothing is asked; where the page stands, it is answered the same
page_goes : (all : List Named) (c : Book) (t : Ticket) (o : Option Place) → ((y : Place) → o ≡ Some y → IsFor all t (page_visit c (ticket_of t) y)) → FitsAs all c t (found c.clock o)
page_goes all c t None h = tt
page_goes all c t (Some y) h = unless (why_not c.clock y.instance y.page)
  where
    unless : (w : Option Refusal) → FitsAs all c t (unless_why y w)
    unless None = h y refl
    unless (Some r) = tt

-- what an admitted page is
stood : (all : List Named) (b : Book) (t : Ticket) (o : Option Place) → refusal_of (found b.clock o) ≡ None → FitsAs all b t (found b.clock o)
    → (x : Place) × ((o ≡ Some x) × IsFor all t (page_visit b (ticket_of t) x))
stood all b t None h fits = absurd (cc)
stood all b t (Some x) h fits = unless (why_not b.clock x.instance x.page) h fits
  where
    unless : (w : Option Refusal) → refusal_of (unless_why x w) ≡ None → FitsAs all b t (unless_why x w) → (y : Place) × ((Some x ≡ Some y) × IsFor all t (page_visit b (ticket_of t) y))
    unless None k fit = (x, (refl, fit))
    unless (Some r) k fit = absurd (cc)

-- in an instance that is gone nothing stands
unbound : {A B : Type 0} (o : Option A) (f : A → Option B) (y : B) → o ≡ None → (o >>= f) ≡ Some y → ⊥
unbound None f y e h = cc
unbound (Some x) f y e h = cc

nothing_stands : (c : Book) (name : List ℕ) (n : PageName) (y : Place) → instance_at n.instance c.instances ≡ None → place_at c name n ≡ Some y → ⊥
nothing_stands c name n y gone h = unbound (instance_at n.instance c.instances) _ y gone h

-- on a book of the same setup
goes : PagesStay → (all : List Named) (b c : Book) → IsOrderly b → Leads b c → c.shelf ≡ b.shelf → c.scripts ≡ b.scripts → (t : Ticket) (d : Destination)
    → refusal_of (admit b d) ≡ None → FitsAs all b t (admit b d) → FitsAs all c t (admit c d)
goes stay all b c orderly leads shelf setup t (start name) admitted fits =
    let there : script_named name b.scripts ≡ script_named name c.scripts = ap (script_named name) (sym setup) in
    subst (λ (o : Option (ℕ × Named)). FitsAs all c t (started o)) there (start_goes all b c t (script_named name b.scripts) shelf setup fits)
goes stay all b c orderly leads shelf setup t (page name n) admitted fits =
    let x = stood all b t (place_at b name n) admitted fits in
    page_goes all c t (place_at c name n) (λ y here. elim (stay b c orderly leads name n x.0 x.1.0) [
      | inl gone ↦ absurd (nothing_stands c name n y gone here)
      | inr same ↦ let there : same.0 ≡ y = cc (same.1.0, here) in
          subst (λ (z : Place). IsFor all t (page_visit c (ticket_of t) z)) there (subst (IsFor all t) (same.1.1.visit (ticket_of t)) x.1.1)
    ])

pub tickets_go_on_to_fit : OrderlyBooksStay → PagesStay → TicketsGoOnToFit
tickets_go_on_to_fit law stay all b c orderly leads setup t admitted fits =
    let shelf = (law.1 b c orderly leads).1 in
    goes stay all b c orderly leads shelf setup t (target_of t.target) admitted fits
