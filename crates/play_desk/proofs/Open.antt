-- Tickets that are open.
use Rattle.std.proofs.Common.{◌≡◌, ◌≢◌, ◌∙◌, ap, sym, subst, refl, ℕ, ◌==◌, not, List, [], ◌∷◌, ◌++◌, filter, Contains}
use Rattle.page_names.specs.Views.{target_of}
use Rattle.script_nodes.specs.Views.{library_of}
use Rattle.script_nodes.specs.declared.library.Library.{Library}
use Rattle.web_disk.specs.View.{View}
use Rattle.web_outside.specs.declared.nonces.Counting.{Counting}
use Rattle.replay_spec.specs.Book.{Book}
use Rattle.replay_spec.specs.Admission.{admit}
use Rattle.replay_spec.specs.Laws.{Moment, then_book, book_after, AreLawful, IsLawful, Leads}
use Rattle.replay_spec.proofs.Stand.{among_of}
use Rattle.shelf.specs.Visits.{FitsAs, Ticket}
use Rattle.shelf.specs.Going.{TicketsGoOnToFit}
use Rattle.shelf.specs.Views.{book_in, library_in}
use Rattle.shelf.specs.declared.shelf.Shelf.{Shelf}
use Rattle.play_desk.specs.Staff.{IsOpen}
use Rattle.play_desk.proofs.Kept.{among_other, of_among}

-- a run of events goes on by one
goes_on : (ms : List Moment) (m : Moment) (b : Book) → AreLawful ms b → IsLawful m.event (book_after ms b)
    → AreLawful (ms ++ m ∷ []) b × (book_after (ms ++ m ∷ []) b ≡ then_book m (book_after ms b))
goes_on [] m b lawful last = ((last, tt), refl)
goes_on (x ∷ ms) m b lawful last = let rest = goes_on ms m (then_book x b) lawful.1 last in ((lawful.0, rest.0), rest.1)

leads_on : (b c : Book) (m : Moment) → Leads b c → IsLawful m.event c → Leads b (then_book m c)
leads_on b c m leads last =
    let on = goes_on leads.moments m b leads.lawful (subst (IsLawful m.event) (sym leads.there) last) in
    record { moments = leads.moments ++ m ∷ []; lawful = on.0; there = on.1 ∙ ap (then_book m) leads.there }

pub leads_here : (b : Book) → Leads b b
leads_here b = record { moments = []; lawful = tt; there = refl }

-- a ticket that is open is for the visit of its target where that is admitted now
pub fits_now : {D : Type 0} (view : D → View) → TicketsGoOnToFit → (x : Shelf D Counting) (t : Ticket) → IsOpen view x t
    → FitsAs (library_in x).all (book_in view x) t (admit (book_in view x) (target_of t.target))
fits_now view law x t o = law (library_in x).all o.then (book_in view x) o.orderly o.leads o.setup t o.admitted o.fits

-- an open ticket stays so
pub stays_open : {D : Type 0} (view : D → View) (x y : Shelf D Counting) (m : Moment) (t : Ticket) → IsLawful m.event (book_in view x)
    → then_book m (book_in view x) ≡ book_in view y → y.library ≡ x.library → IsOpen view x t → IsOpen view y t
stays_open view x y m t lawful is same o = record {
  then = o.then;
  orderly = o.orderly;
  leads = subst (Leads o.then) is (leads_on o.then (book_in view x) m o.leads lawful);
  setup = ap (λ (l : Library). (library_of l).setup) same ∙ o.setup;
  fits = subst (λ (l : Library). FitsAs (library_of l).all o.then t (admit o.then (target_of t.target))) (sym same) o.fits;
  admitted = o.admitted;
}

-- numbers that are out stay so but for one that is spent
pub still_out : (n m : ℕ) (ms : List ℕ) → n ≢ m → Contains ms n → Contains (filter (λ k. not (k == m)) ms) n
still_out n m ms other h = of_among (filter (λ k. not (k == m)) ms) n (among_other n m ms other (among_of ms n h))
