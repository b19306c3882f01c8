-- What states are given to the pages then, whichever were, where a change lands whose ticket goes on from the book.
use Rattle.std.proofs.Common.{◌≡◌, ◌∙◌, ap, sym, subst, ℕ, ◌==◌, Bool, true, false, if◌then◌else◌, List, Option, Some, None, Contains, inl, refl, arith}
use Rattle.std.proofs.lemmas.Bool.Decides.{nat_tests}
use Rattle.std.proofs.lemmas.Option.{none-some}
use Rattle.script_nodes.specs.Setup.{Named}
use Rattle.page_names.specs.Views.{target_of}
use Rattle.web_disk.specs.View.{View}
use Rattle.replay_spec.specs.Book as spec
use Rattle.replay_spec.specs.Book.{instance_at, page_at}
use Rattle.replay_spec.specs.Invariant.{Unused}
use Rattle.machine_states.specs.Machine.{Suspended}
use Rattle.book_recovery.specs.InstanceBook.declared.book.Book.{Book}
use Rattle.book_recovery.specs.InstanceBook.declared.in_order.InOrder.{InOrder}
use Rattle.book_recovery.specs.InstanceBook.declared.instance.KeptInstance.{KeptInstance}
use Rattle.book_recovery.specs.InstanceBook.declared.change.Change.{Change}
use Rattle.book_visits.specs.declared.prepared.Prepared.{Prepared}
use Rattle.book_visits.specs.declared.ticket.Ticket.{Ticket}
use Rattle.book_recovery.specs.InstanceBook.Views.{instances_of}
use Rattle.book_recovery.specs.InstanceBook.Places.{given}
use Rattle.book_recovery.specs.InstanceBook.Makes.{KeepsStates, HasStatesFrom}
use Rattle.book_recovery.specs.InstanceBook.Changes.{HasStateIn, HasStateFrom, HasRoomFor, KeepsStatesBy}
use Rattle.book_visits.specs.Changes.{IsSpelledIn}
use Rattle.book_visits.specs.Prepares.{HasItsScript}
use Rattle.book_recovery.proofs.InstanceBook.Given.{other_given}
use Rattle.shelf.specs.declared.shelf.Shelf.{Shelf}
use Rattle.shelf.specs.Views.{library_in, beside_of, book_in, IsInOrder}
use Rattle.shelf.specs.Holding.{IsWholeIn}
use Rattle.shelf.specs.Preparing.{CanBeLanded}
use Rattle.shelf.specs.Recording.{state_in, GoesOnAsGiven}
use Rattle.shelf.proofs.Landing as landing
use Rattle.shelf.proofs.Shown.{GoesHere, goes_here}
use Rattle.replay_spec.proofs.Stand.{among_of}

module _ {D N : Type 0} (view : D → View) (tells : Bool) (s : Shelf D N) (order : IsInOrder view tells s) (t : Ticket) (p : Prepared) (up : s.down ≡ None)
    (out : Contains (book_in view s).out t.number) (has : HasItsScript (library_in s) t (target_of t.target)) (can : CanBeLanded (library_in s) s.book t p) (rooms : HasRoomFor p.change s.book) (c : Change) (some : p.change ≡ Some c) (spent : Book)
    (same : spent.instances ≡ s.book.instances) (keeps : KeepsStates s.book spent) (whole : IsWholeIn (library_in s).all spent c) (spelled : IsSpelledIn c) (goes : GoesOnAsGiven (library_in s) spent t c)
    (had_so : ℕ → Option Suspended) (so : HasStatesFrom (given had_so) (library_in s).all s.book) where
  abbrev all : List Named
  all = (library_in s).all

  abbrev b : spec.Book
  b = book_in view s

  -- what the pages had, and nothing under the ticket's number
  abbrev fresh : ℕ → Option Suspended
  fresh n = if n == t.number then None else had_so n

  -- and under that number the state of the page that is shown
  abbrev grown : ℕ → Option Suspended
  grown n = if n == t.number then state_in c else had_so n

  -- no page has the ticket's number
  absent : (n : ℕ) (i : spec.Instance) → instance_at n (instances_of all s.book.instances) ≡ Some i → page_at t.number i.pages ≡ None
  absent n i found = order.orderly.instances.no_page t.number (inl (among_of b.out t.number out)) n i found

  fresh_so : (n : ℕ) (d : Suspended) → (n ≡ t.number → ⊥) → had_so n ≡ Some d → fresh n ≡ Some d
  fresh_so n d other is = by_test (n == t.number) refl
    where
      by_test : (q : Bool) → (n == t.number) ≡ q → (if q then None else had_so n) ≡ Some d
      by_test true here = absurd (other (grind (arith, nat_tests, here)))
      by_test false here = is

  grown_so : (n : ℕ) (d : Suspended) → (n ≡ t.number → ⊥) → had_so n ≡ Some d → grown n ≡ Some d
  grown_so n d other is = by_test (n == t.number) refl
    where
      by_test : (q : Bool) → (n == t.number) ≡ q → (if q then state_in c else had_so n) ≡ Some d
      by_test true here = absurd (other (grind (arith, nat_tests, here)))
      by_test false here = is

  more : (n : ℕ) (d : Suspended) → fresh n ≡ Some d → grown n ≡ Some d
  more n d is = by_test (n == t.number) is
    where
      by_test : (q : Bool) → (if q then None else had_so n) ≡ Some d → (if q then state_in c else had_so n) ≡ Some d
      by_test true e = absurd (none-some d e)
      by_test false e = e

  now : (y : Suspended) → state_in c ≡ Some y → grown t.number ≡ Some y
  now y e = let here : (t.number == t.number) ≡ true = grind (arith, nat_tests) in ap (λ (q : Bool). if q then state_in c else had_so t.number) here ∙ e

  had_fresh : HasStatesFrom (given fresh) all spent
  had_fresh = keeps (given fresh) all (other_given t.number had_so fresh fresh_so all s.book order.orderly.instances.apart absent so)

  had_grown : HasStatesFrom (given grown) all spent
  had_grown = keeps (given grown) all (other_given t.number had_so grown grown_so all s.book order.orderly.instances.apart absent so)

  here : GoesHere b fresh t c
  here = goes_here (library_in s) (beside_of view s) s.book spent t c fresh same goes had_fresh

  shown : HasStateIn all (given grown) b.instances c
  shown = landing.shown_by view tells s order t p up out has can rooms c some spent same whole spelled fresh grown more now here

  other_number : (n : ℕ) → ¬ Unused b n → n ≡ t.number → ⊥
  other_number n used same = used (subst (λ (k : ℕ). Unused b k) (sym same) (inl (among_of b.out t.number out)))

  -- then each page has a state that is given to it: one of a used number the state that it had
  pub had : (new : Book) → KeepsStatesBy p.change spent new
      → (g : ℕ → Option Suspended) × (HasStatesFrom (given g) all new × ((n : ℕ) (d : Suspended) → ¬ Unused b n → had_so n ≡ Some d → g n ≡ Some d))
  had new keeps_by =
      let moved : HasStateIn all (given grown) (instances_of all spent.instances) c = subst (λ (is : InOrder KeptInstance). HasStateIn all (given grown) (instances_of all is) c) (sym same) shown in (
        grown,
        (
          keeps_by (given grown) all (subst (HasStateFrom all (given grown) (instances_of all spent.instances)) (sym some) moved) had_grown,
          λ n d used is. grown_so n d (other_number n used) is,
        ),
      )
