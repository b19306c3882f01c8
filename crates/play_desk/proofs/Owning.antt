-- Own shelves and the tickets that are open on them go on to be, with each event.
use Rattle.std.proofs.Common.{◌≡◌, ◌≢◌, ◌⊎◌, inl, inr, ◌∙◌, ap, sym, subst, refl, ℕ, Bool, List, length, replicate, slice_get, slice_set, Option, Some, None, Result}
use Rattle.std.proofs.lemmas.Option.{same_Some}
use Rattle.server_limits.specs.Counts.{most_workers}
use Rattle.script_value.specs.Val.{Val}
use Rattle.script_value.specs.declared.outcome.Reply.{Reply}
use Rattle.web_disk.specs.View.{View}
use Rattle.web_outside.specs.declared.nonces.Counting.{Counting}
use Rattle.page_names.specs.Names.{Destination}
use Rattle.page_names.specs.Views.{target_of}
use Rattle.script_nodes.specs.Views.{library_of}
use Rattle.script_nodes.specs.declared.library.Library.{Library}
use Rattle.replay_spec.specs.Book.{Book}
use Rattle.replay_spec.specs.Admission.{admit, refusal_of}
use Rattle.replay_spec.specs.Invariant.{IsOrderly}
use Rattle.replay_spec.specs.Laws.{IsLawful, Leads}
use Rattle.replay_spec.specs.Step as spec
use Rattle.replay_spec.specs.Step.{Event, take, publish, sweep, compact, taken}
use Rattle.shelf.specs.Visits.{FitsAs, ticket_of, reply_of, Ticket}
use Rattle.shelf.specs.Going.{TicketsGoOnToFit}
use Rattle.shelf.specs.declared.shelf.Shelf.{Shelf}
use Rattle.shelf.specs.Views.{book_in, compacted_of, library_in, swept_of, IsOwnShelf}
use Rattle.play_desk.specs.Staff.{IsOpen, AreOwn, IsUnspent, KeepsOthers, place_of}
use Rattle.play_desk.proofs.Places.{at_set, none_there}
use Rattle.play_desk.proofs.Open.{fits_now, leads_here, stays_open}
use Rattle.play_desk.proofs.Happening.{Happens, moment_of, then_is}
use Rattle.play_desk.proofs.Fitting.{each_with, left_held, of_held}

-- a ticket of an own shelf is for the visit of its target, where that is admitted now
pub fits_there : {D : Type 0} (view : D → View) (tells : Bool) (xs : List (Shelf D Counting)) (ts : List (Option Ticket))
    (k w : ℕ) (x : Shelf D Counting) (t : Ticket) → TicketsGoOnToFit → AreOwn view tells xs ts → slice_get xs k ≡ Some x
    → slice_get ts w ≡ Some (Some t) → place_of (length xs) w t ≡ k
    → FitsAs (library_in x).all (book_in view x) t (admit (book_in view x) (target_of t.target))
fits_there view tells xs ts k w x t law own here held place =
    fits_now view law x t (of_held (IsOpen view) xs ts k w x t own.are_open here held place)

-- all stay own with another own shelf in a place, whose tickets are open on it
own_with : {D : Type 0} (view : D → View) (tells : Bool) (xs : List (Shelf D Counting)) (ts us : List (Option Ticket))
    (k : ℕ) (x y : Shelf D Counting) → AreOwn view tells xs ts → slice_get xs k ≡ Some x → IsOwnShelf view tells y
    → ((w : ℕ) (t : Ticket) → slice_get us w ≡ Some (Some t) → place_of (length xs) w t ≡ k → IsOpen view y t)
    → ((w : ℕ) (t : Ticket) → slice_get us w ≡ Some (Some t) → place_of (length xs) w t ≢ k → slice_get ts w ≡ Some (Some t))
    → AreOwn view tells (slice_set xs k y) us
own_with {D = D} view tells xs ts us k x y own here own_y mine others = record {
  own = λ j z e. elim (at_set xs k j y z e) [
    | inl p ↦ subst (λ (s : Shelf D Counting). IsOwnShelf view tells s) p.1 own_y
    | inr p ↦ own.own j z p.1
  ];
  are_open = each_with (IsOpen view) xs ts us k x y own.are_open here mine others;
}

-- a ticket that is open on a shelf is open on it after an event
opens_on : {D : Type 0} (view : D → View) (x y : Shelf D Counting) (what : Event) (reply : spec.Reply) (t : Ticket)
    → IsLawful what (book_in view x) → Happens view x y what reply → y.library ≡ x.library → IsOpen view x t → IsOpen view y t
opens_on view x y what reply t lawful h library o =
    stays_open view x y (moment_of view x what reply) t lawful (then_is view x y what reply h) library o

pub own_sweep : {D : Type 0} (view : D → View) (tells : Bool) (xs : List (Shelf D Counting)) (ts : List (Option Ticket))
    (k : ℕ) (x y : Shelf D Counting) (tick : ℕ) (r : Result ℕ Reply) → AreOwn view tells xs ts → slice_get xs k ≡ Some x
    → Happens view x y (sweep tick) (swept_of r) → y.library ≡ x.library → IsOwnShelf view tells y → AreOwn view tells (slice_set xs k y) ts
own_sweep view tells xs ts k x y tick r own here h library own_y =
    own_with view tells xs ts ts k x y own here own_y
    (λ w t held place. opens_on view x y (sweep tick) (swept_of r) t tt h library (of_held (IsOpen view) xs ts k w x t own.are_open here held place))
    (λ w t held other. held)

pub own_compact : {D : Type 0} (view : D → View) (tells : Bool) (xs : List (Shelf D Counting)) (ts : List (Option Ticket))
    (k : ℕ) (x y : Shelf D Counting) (r : Result ℕ Reply) → AreOwn view tells xs ts → slice_get xs k ≡ Some x
    → Happens view x y compact (compacted_of r) → y.library ≡ x.library → IsOwnShelf view tells y → AreOwn view tells (slice_set xs k y) ts
own_compact view tells xs ts k x y r own here h library own_y =
    own_with view tells xs ts ts k x y own here own_y
    (λ w t held place. opens_on view x y compact (compacted_of r) t tt h library (of_held (IsOpen view) xs ts k w x t own.are_open here held place))
    (λ w t held other. held)

pub own_publish : {D : Type 0} (view : D → View) (tells : Bool) (xs : List (Shelf D Counting)) (ts : List (Option Ticket))
    (k worker : ℕ) (x y : Shelf D Counting) (t : Ticket) (e : Reply) → AreOwn view tells xs ts → slice_get xs k ≡ Some x
    → IsUnspent view x t → Happens view x y (publish (ticket_of t)) (reply_of e) → y.library ≡ x.library → IsOwnShelf view tells y
    → AreOwn view tells (slice_set xs k y) (slice_set ts worker None)
own_publish view tells xs ts k worker x y t e own here unspent h library own_y =
    own_with view tells xs ts (slice_set ts worker None) k x y own here own_y
    (λ w u there at.
    opens_on view x y (publish (ticket_of t)) (reply_of e) u unspent.out h library
    (of_held (IsOpen view) xs ts k w x u own.are_open here (left_held ts worker w u there).1 at))
    (λ w u there other. (left_held ts worker w u there).1)

-- a take that is answered with a number
pub own_take : {D : Type 0} (view : D → View) (tells : Bool) (xs : List (Shelf D Counting)) (ts : List (Option Ticket))
    (k worker : ℕ) (x y : Shelf D Counting) (t : Ticket) (target : Destination) (answer : Val) → AreOwn view tells xs ts → slice_get xs k ≡ Some x
    → Happens view x y (take target answer) (taken t.number t.nonce) → y.library ≡ x.library → IsOrderly (book_in view y)
    → FitsAs (library_in y).all (book_in view y) t (admit (book_in view y) (target_of t.target))
    → refusal_of (admit (book_in view y) (target_of t.target)) ≡ None → place_of (length xs) worker t ≡ k
    → IsOwnShelf view tells y → AreOwn view tells (slice_set xs k y) (slice_set ts worker (Some t))
own_take view tells xs ts k worker x y t target answer own here h library orderly fits admitted place own_y =
    let c = book_in view y in
    let new_open : IsOpen view y t = record { then = c; orderly = orderly; leads = leads_here c; setup = refl; fits = fits; admitted = admitted } in
    own_with view tells xs ts (slice_set ts worker (Some t)) k x y own here own_y
    (λ w u there at. elim (case w u there) [
      | inl p ↦ subst (λ (z : Ticket). IsOpen view y z) (same_Some t u p.1) new_open
      | inr p ↦ opens_on view x y (take target answer) (taken t.number t.nonce) u tt h library (of_held (IsOpen view) xs ts k w x u own.are_open here p.1 at)
    ])
    (λ w u there other. elim (case w u there) [
      | inl p ↦ absurd (other (at_worker w u p))
      | inr p ↦ p.1
    ])
  where
    case : (w : ℕ) (u : Ticket) → slice_get (slice_set ts worker (Some t)) w ≡ Some (Some u)
        → ((w ≡ worker) × (Some t ≡ Some u)) ⊎ ((w ≢ worker) × (slice_get ts w ≡ Some (Some u)))
    case w u there = at_set ts worker w (Some t) (Some u) there

    at_worker : (w : ℕ) (u : Ticket) → (w ≡ worker) × (Some t ≡ Some u) → place_of (length xs) w u ≡ k
    at_worker w u p =
        ap (λ i. place_of (length xs) i u) p.0 ∙ ap (λ (z : Ticket). place_of (length xs) worker z) (sym (same_Some t u p.1)) ∙ place

-- a ticket is open where the book and the library are the same
same_book : {D : Type 0} (view : D → View) (x y : Shelf D Counting) (t : Ticket) → book_in view y ≡ book_in view x → y.library ≡ x.library
    → IsOpen view x t → IsOpen view y t
same_book view x y t book library o = record {
  then = o.then;
  orderly = o.orderly;
  leads = subst (Leads o.then) (sym book) o.leads;
  setup = ap (λ (b : Book). b.scripts) book ∙ o.setup;
  fits = subst (λ (l : Library). FitsAs (library_of l).all o.then t (admit o.then (target_of t.target))) (sym library) o.fits;
  admitted = o.admitted;
}

-- nothing was taken
pub own_same : {D : Type 0} (view : D → View) (tells : Bool) (xs : List (Shelf D Counting)) (ts : List (Option Ticket))
    (k : ℕ) (x y : Shelf D Counting) → AreOwn view tells xs ts → slice_get xs k ≡ Some x
    → book_in view y ≡ book_in view x → y.library ≡ x.library → IsOwnShelf view tells y → AreOwn view tells (slice_set xs k y) ts
own_same view tells xs ts k x y own here book library own_y =
    own_with view tells xs ts ts k x y own here own_y
    (λ w t held place. same_book view x y t book library (of_held (IsOpen view) xs ts k w x t own.are_open here held place))
    (λ w t held other. held)

-- a shelf was opened again, and nobody holds a ticket of it
pub own_crash : {D : Type 0} (view : D → View) (tells : Bool) (xs : List (Shelf D Counting)) (ts us : List (Option Ticket))
    (k : ℕ) (x y : Shelf D Counting) → AreOwn view tells xs ts → slice_get xs k ≡ Some x → IsOwnShelf view tells y
    → KeepsOthers (length xs) k ts us → AreOwn view tells (slice_set xs k y) us
own_crash view tells xs ts us k x y own here own_y kept =
    own_with view tells xs ts us k x y own here own_y
    (λ w t held place. absurd ((kept w t held).1 place))
    (λ w t held other. (kept w t held).0)

-- where nobody holds a ticket own shelves are enough
pub own_alone : {D : Type 0} (view : D → View) (tells : Bool) (xs : List (Shelf D Counting)) (ts : List (Option Ticket))
    → ((k : ℕ) (x : Shelf D Counting) → slice_get xs k ≡ Some x → IsOwnShelf view tells x) → ts ≡ replicate most_workers None
    → AreOwn view tells xs ts
own_alone view tells xs ts own none = record {
  own = own;
  are_open = λ w t h. absurd (none_there most_workers w t (subst (λ (vs : List (Option Ticket)). slice_get vs w ≡ Some (Some t)) none h));
}
