-- Shelves and their workers' tickets stay fit with each event.
use Rattle.std.proofs.Common.{◌≡◌, ◌≢◌, ◌≤◌, ◌⊎◌, inl, inr, ◌∙◌, ap, sym, subst, ℕ, Bool, List, [], ◌∷◌, ◌++◌, length, slice_get, slice_set, option_map, Option, Some, None, Contains, Result, arith}
use Rattle.std.proofs.lemmas.Bool.{cases_eq}
use Rattle.std.proofs.lemmas.List.{length-map, length-set, map-set}
use Rattle.std.proofs.lemmas.List.Elements.{Contains-append_left, Contains-push}
use Rattle.std.proofs.lemmas.Option.{slice_get-map, slice_get_within, same_Some}
use Rattle.server_limits.specs.Limits.{most_shelves}
use Rattle.server_limits.specs.Counts.{most_workers}
use Rattle.script_value.specs.declared.outcome.Reply.{Reply}
use Rattle.web_disk.specs.View.{View}
use Rattle.web_outside.specs.declared.nonces.Counting.{Counting}
use Rattle.script_nodes.specs.Views.{library_of}
use Rattle.script_nodes.specs.declared.library.Library.{Library}
use Rattle.replay_spec.specs.Book.{Book, draw, spend}
use Rattle.replay_spec.specs.Step.{compact, sweep}
use Rattle.replay_spec.proofs.Stand.{among_of}
use Rattle.shelf.specs.Visits.{IsRunnable, Ticket}
use Rattle.shelf.specs.declared.shelf.Shelf.{Shelf}
use Rattle.shelf.specs.Views.{book_in, compacted_of, library_in, swept_of, HasTargetScript, IsInOrder}
use Rattle.shelf.specs.Tickets.{GoesOnFromItsPage, KeepsTickets}
use Rattle.shelf.specs.declared.rules.Rules.{Rules}
use Rattle.play_desk.specs.Staff.{IsUnspent, HoldsAt, OfEachTicket, AreFit, AreLow, AreNumbered, HaveOwnNumbers, KeepsOthers, numbers_in, place_of}
use Rattle.play_desk.proofs.Places.{at_set, get_other, get_set, same_set}
use Rattle.play_desk.proofs.Kept.{compacted, swept}
use Rattle.play_desk.proofs.Open.{still_out}
use Rattle.play_desk.proofs.Happening.{Happens, moment_of, then_is}

-- the number of the shelf in a place
pub number_at : {D : Type 0} (xs : List (Shelf D Counting)) (k : ℕ) (x : Shelf D Counting) → slice_get xs k ≡ Some x
    → slice_get (numbers_in xs) k ≡ Some x.rules.number
number_at xs k x e = slice_get-map (λ s. s.rules.number) xs k ∙ ap (option_map (λ s. s.rules.number)) e

-- the numbers are the same where the shelf in a place has the same
pub numbers_set : {D : Type 0} (xs : List (Shelf D Counting)) (k : ℕ) (x y : Shelf D Counting) → slice_get xs k ≡ Some x
    → y.rules ≡ x.rules → numbers_in (slice_set xs k y) ≡ numbers_in xs
numbers_set xs k x y here same =
    map-set (λ s. s.rules.number) xs k y ∙ ap (λ (r : Rules). slice_set (numbers_in xs) k r.number) same
    ∙ same_set (numbers_in xs) k x.rules.number (number_at xs k x here)

-- the place of a number is its own
pub own_numbers : {D : Type 0} (xs : List (Shelf D Counting)) → AreNumbered xs → HaveOwnNumbers xs
own_numbers xs are j k n a b = sym (are j n a) ∙ are k n b

-- numbers that are places are low ones, of few shelves
pub low_numbers : {D : Type 0} (xs : List (Shelf D Counting)) → AreNumbered xs → length xs ≤ most_shelves → AreLow xs
low_numbers xs are few k n e =
    let within = slice_get_within (numbers_in xs) k n e in omega (arith, within, are k n e, few, length-map xs (λ s. s.rules.number))

-- what is held where a worker hands in its ticket was held, by another worker
pub left_held : (ts : List (Option Ticket)) (worker w : ℕ) (u : Ticket) → slice_get (slice_set ts worker None) w ≡ Some (Some u)
    → (w ≢ worker) × (slice_get ts w ≡ Some (Some u))
left_held ts worker w u there =
    elim (at_set ts worker w None (Some u) there) [ inl p ↦ absurd (let no : None ≡ Some u = p.1 in cc) | inr p ↦ p ]

-- what holds of each ticket holds of the one that a worker holds of the shelf in a place
pub of_held : {D : Type 0} (Q : Shelf D Counting → Ticket → Type 0) (xs : List (Shelf D Counting)) (ts : List (Option Ticket))
    (k w : ℕ) (x : Shelf D Counting) (t : Ticket) → OfEachTicket Q xs ts → slice_get xs k ≡ Some x
    → slice_get ts w ≡ Some (Some t) → place_of (length xs) w t ≡ k → Q x t
of_held {D = D} Q xs ts k w x t each here held place =
    let o = each w t held in
    let same : o.shelf ≡ x = same_Some o.shelf x (sym o.there ∙ ap (slice_get xs) place ∙ here) in
    subst (λ (z : Shelf D Counting). Q z t) same o.held

-- it goes on to hold with another shelf in a place, where it holds of the tickets of that shelf
pub each_with : {D : Type 0} (Q : Shelf D Counting → Ticket → Type 0) (xs : List (Shelf D Counting)) (ts us : List (Option Ticket))
    (k : ℕ) (x y : Shelf D Counting) → OfEachTicket Q xs ts → slice_get xs k ≡ Some x
    → ((w : ℕ) (t : Ticket) → slice_get us w ≡ Some (Some t) → place_of (length xs) w t ≡ k → Q y t)
    → ((w : ℕ) (t : Ticket) → slice_get us w ≡ Some (Some t) → place_of (length xs) w t ≢ k → slice_get ts w ≡ Some (Some t))
    → OfEachTicket Q (slice_set xs k y) us
each_with {D = D} Q xs ts us k x y each here mine others w t h =
    subst (λ n. HoldsAt Q (slice_set xs k y) (place_of n w t) t) (sym (length-set xs k y)) (holds (cases_eq k (place_of (length xs) w t)))
  where
    holds : (k ≡ place_of (length xs) w t) ⊎ (k ≢ place_of (length xs) w t) → HoldsAt Q (slice_set xs k y) (place_of (length xs) w t) t
    holds (inl e) = record {
      shelf = y;
      there = ap (slice_get (slice_set xs k y)) (sym e) ∙ get_set xs k y (slice_get_within xs k x here);
      held = mine w t h (sym e);
    }
    holds (inr other) =
        let o = each w t (others w t h (λ e. other (sym e))) in
        record { shelf = o.shelf; there = get_other xs k (place_of (length xs) w t) y other ∙ o.there; held = o.held }

-- all stay fit with another shelf in a place, whose tickets are unspent on it
pub fit_with : {D : Type 0} (view : D → View) (tells : Bool) (xs : List (Shelf D Counting)) (ts us : List (Option Ticket))
    (k : ℕ) (x y : Shelf D Counting) → AreFit view tells xs ts → slice_get xs k ≡ Some x → IsInOrder view tells y
    → y.rules ≡ x.rules → length us ≡ most_workers
    → ((w : ℕ) (t : Ticket) → slice_get us w ≡ Some (Some t) → place_of (length xs) w t ≡ k → IsUnspent view y t)
    → ((w : ℕ) (t : Ticket) → slice_get us w ≡ Some (Some t) → place_of (length xs) w t ≢ k → slice_get ts w ≡ Some (Some t))
    → ((v w : ℕ) (t u : Ticket) → slice_get us v ≡ Some (Some t) → slice_get us w ≡ Some (Some u)
    → place_of (length xs) v t ≡ place_of (length xs) w u → t.number ≡ u.number → v ≡ w)
    → AreFit view tells (slice_set xs k y) us
fit_with {D = D} view tells xs ts us k x y fit here in_order rules count mine others apart =
    let len = length-set xs k y in
    let same = numbers_set xs k x y here rules in
    record {
      in_order = λ j z e. elim (at_set xs k j y z e) [
        | inl p ↦ subst (λ (s : Shelf D Counting). IsInOrder view tells s) p.1 in_order
        | inr p ↦ fit.in_order j z p.1
      ];
      numbers = λ k n e. fit.numbers k n (subst (λ (ns : List ℕ). slice_get ns k ≡ Some n) same e);
      few = omega (arith, len, fit.few);
      count = count;
      unspent = each_with (IsUnspent view) xs ts us k x y fit.unspent here mine others;
      apart = λ v w t u hv hw place number.
          apart v w t u hv hw (subst (λ n. place_of n v t ≡ place_of n w u) len place) number;
    }

-- a ticket is unspent on each later shelf of the same library on which its number is out
still_unspent : {D : Type 0} (view : D → View) (x y : Shelf D Counting) (t : Ticket) → y.library ≡ x.library → KeepsTickets view x y → Contains (book_in view y).out t.number
    → IsUnspent view x t → IsUnspent view y t
still_unspent view x y t same keeps out o = record {
  out = out;
  runs = subst (λ (l : Library). IsRunnable (library_of l).all t) (sym same) o.runs;
  script = subst (λ (l : Library). HasTargetScript (library_of l) t) (sym same) o.script;
  goes = keeps t o.goes;
}

pub fit_sweep : {D : Type 0} (view : D → View) (tells : Bool) (xs : List (Shelf D Counting)) (ts : List (Option Ticket))
    (k : ℕ) (x y : Shelf D Counting) (tick : ℕ) (r : Result ℕ Reply) → AreFit view tells xs ts → slice_get xs k ≡ Some x
    → Happens view x y (sweep tick) (swept_of r) → IsInOrder view tells y → y.rules ≡ x.rules → y.library ≡ x.library → KeepsTickets view x y
    → AreFit view tells (slice_set xs k y) ts
fit_sweep view tells xs ts k x y tick r fit here h in_order rules library keeps =
    let b = book_in view x in
    let c = book_in view y in
    let m = moment_of view x (sweep tick) (swept_of r) in
    let is = then_is view x y (sweep tick) (swept_of r) h in
    let out : c.out ≡ b.out = ap (λ (d : Book). d.out) (sym is) ∙ (swept m.rules b m.nonce tick m.fate).out in
    fit_with view tells xs ts ts k x y fit here in_order rules fit.count
    (λ w t held place.
    let o = of_held (IsUnspent view) xs ts k w x t fit.unspent here held place in
    still_unspent view x y t library keeps (subst (λ (ns : List ℕ). Contains ns t.number) (sym out) o.out) o)
    (λ w t held other. held) fit.apart

pub fit_compact : {D : Type 0} (view : D → View) (tells : Bool) (xs : List (Shelf D Counting)) (ts : List (Option Ticket))
    (k : ℕ) (x y : Shelf D Counting) (r : Result ℕ Reply) → AreFit view tells xs ts → slice_get xs k ≡ Some x
    → Happens view x y compact (compacted_of r) → IsInOrder view tells y → y.rules ≡ x.rules → y.library ≡ x.library → KeepsTickets view x y
    → AreFit view tells (slice_set xs k y) ts
fit_compact view tells xs ts k x y r fit here h in_order rules library keeps =
    let b = book_in view x in
    let c = book_in view y in
    let m = moment_of view x compact (compacted_of r) in
    let is = then_is view x y compact (compacted_of r) h in
    let out : c.out ≡ b.out = ap (λ (d : Book). d.out) (sym is) ∙ (compacted m.rules b m.nonce m.fate).out in
    fit_with view tells xs ts ts k x y fit here in_order rules fit.count
    (λ w t held place.
    let o = of_held (IsUnspent view) xs ts k w x t fit.unspent here held place in
    still_unspent view x y t library keeps (subst (λ (ns : List ℕ). Contains ns t.number) (sym out) o.out) o)
    (λ w t held other. held) fit.apart

-- the number of a ticket that is published is spent, whatever the publish comes to
pub fit_publish : {D : Type 0} (view : D → View) (tells : Bool) (xs : List (Shelf D Counting)) (ts : List (Option Ticket))
    (k worker : ℕ) (x y : Shelf D Counting) (t : Ticket) → AreFit view tells xs ts → slice_get xs k ≡ Some x
    → slice_get ts worker ≡ Some (Some t) → place_of (length xs) worker t ≡ k
    → (book_in view y).out ≡ (spend t.number (book_in view x)).out
    → IsInOrder view tells y → y.rules ≡ x.rules → y.library ≡ x.library → KeepsTickets view x y → AreFit view tells (slice_set xs k y) (slice_set ts worker None)
fit_publish view tells xs ts k worker x y t fit here held place out in_order rules library keeps =
    let b = book_in view x in
    let c = book_in view y in
    fit_with view tells xs ts (slice_set ts worker None) k x y fit here
    in_order rules (length-set ts worker None ∙ fit.count)
    (λ w u there at.
    let was = left_held ts worker w u there in
    let o = of_held (IsUnspent view) xs ts k w x u fit.unspent here was.1 at in
    let other : u.number ≢ t.number = λ same. was.0 (fit.apart w worker u t was.1 held (at ∙ sym place) same) in
    still_unspent view x y u library keeps (subst (λ (ns : List ℕ). Contains ns u.number) (sym out) (still_out u.number t.number b.out other o.out)) o)
    (λ w u there other. (left_held ts worker w u there).1)
    (λ v w z u hv hw at same. fit.apart v w z u (left_held ts worker v z hv).1 (left_held ts worker w u hw).1 at same)

-- a take that is answered with a number
pub fit_take : {D : Type 0} (view : D → View) (tells : Bool) (xs : List (Shelf D Counting)) (ts : List (Option Ticket))
    (k worker : ℕ) (x y : Shelf D Counting) (t : Ticket) → AreFit view tells xs ts → slice_get xs k ≡ Some x
    → book_in view y ≡ draw (book_in view x) → t.number ≡ x.book.drawn
    → IsRunnable (library_in y).all t → HasTargetScript (library_in y) t → GoesOnFromItsPage view y t → place_of (length xs) worker t ≡ k
    → IsInOrder view tells y → y.rules ≡ x.rules → y.library ≡ x.library → KeepsTickets view x y → AreFit view tells (slice_set xs k y) (slice_set ts worker (Some t))
fit_take view tells xs ts k worker x y t fit here drawn number runs script goes place in_order rules library keeps =
    let b = book_in view x in
    let c = book_in view y in
    let out : c.out ≡ b.out ++ b.drawn ∷ [] = ap (λ (d : Book). d.out) drawn in
    let mine : Contains c.out t.number =
    subst (λ (ns : List ℕ). Contains ns t.number) (sym out) (subst (λ (n : ℕ). Contains (b.out ++ b.drawn ∷ []) n) (sym number) (Contains-push b.out b.drawn)) in
    let new_unspent : IsUnspent view y t = record { out = mine; runs = runs; script = script; goes = goes } in
    fit_with view tells xs ts (slice_set ts worker (Some t)) k x y fit here
    in_order rules (length-set ts worker (Some t) ∙ fit.count)
    (λ w u there at. elim (case w u there) [
      | inl p ↦ subst (λ (z : Ticket). IsUnspent view y z) (same_Some t u p.1) new_unspent
      | inr p ↦
          (let o = of_held (IsUnspent view) xs ts k w x u fit.unspent here p.1 at in
          still_unspent view x y u library keeps (subst (λ (ns : List ℕ). Contains ns u.number) (sym out) (Contains-append_left b.out (b.drawn ∷ []) u.number o.out)) o)
    ])
    (λ w u there other. elim (case w u there) [
      | inl p ↦ absurd (other (at_worker w u p))
      | inr p ↦ p.1
    ])
    (λ v w z u hv hw at same. elim (case v z hv) [
      | inl p ↦ elim (case w u hw) [
        | inl q ↦ p.0 ∙ sym q.0
        | inr q ↦ absurd (fresh w u q.1 (sym at ∙ at_worker v z p) (sym same ∙ drawn_by v z p))
      ]
      | inr p ↦ elim (case w u hw) [
        | inl q ↦ absurd (fresh v z p.1 (at ∙ at_worker w u q) (same ∙ drawn_by w u q))
        | inr q ↦ fit.apart v w z u p.1 q.1 at same
      ]
    ])
  where
    case : (w : ℕ) (u : Ticket) → slice_get (slice_set ts worker (Some t)) w ≡ Some (Some u)
        → ((w ≡ worker) × (Some t ≡ Some u)) ⊎ ((w ≢ worker) × (slice_get ts w ≡ Some (Some u)))
    case w u there = at_set ts worker w (Some t) (Some u) there

    at_worker : (w : ℕ) (u : Ticket) → (w ≡ worker) × (Some t ≡ Some u) → place_of (length xs) w u ≡ k
    at_worker w u p =
        ap (λ i. place_of (length xs) i u) p.0 ∙ ap (λ (z : Ticket). place_of (length xs) worker z) (sym (same_Some t u p.1)) ∙ place

    drawn_by : (w : ℕ) (u : Ticket) → (w ≡ worker) × (Some t ≡ Some u) → u.number ≡ x.book.drawn
    drawn_by w u p = ap (λ (z : Ticket). z.number) (sym (same_Some t u p.1)) ∙ number

    fresh : (w : ℕ) (u : Ticket) → slice_get ts w ≡ Some (Some u) → place_of (length xs) w u ≡ k → u.number ≡ x.book.drawn → ⊥
    fresh w u held at e =
        let o = of_held (IsUnspent view) xs ts k w x u fit.unspent here held at in
        let low = (fit.in_order k x here).orderly.below u.number (among_of (book_in view x).out u.number o.out) in
        omega (arith, low, e)

-- nothing was taken
pub fit_same : {D : Type 0} (view : D → View) (tells : Bool) (xs : List (Shelf D Counting)) (ts : List (Option Ticket))
    (k : ℕ) (x y : Shelf D Counting) → AreFit view tells xs ts → slice_get xs k ≡ Some x
    → book_in view y ≡ book_in view x → IsInOrder view tells y → y.rules ≡ x.rules → y.library ≡ x.library → KeepsTickets view x y
    → AreFit view tells (slice_set xs k y) ts
fit_same view tells xs ts k x y fit here book in_order rules library keeps =
    fit_with view tells xs ts ts k x y fit here in_order rules fit.count
    (λ w t held place.
    let o = of_held (IsUnspent view) xs ts k w x t fit.unspent here held place in
    still_unspent view x y t library keeps (subst (λ (d : Book). Contains d.out t.number) (sym book) o.out) o)
    (λ w t held other. held) fit.apart

-- a shelf was opened again, and nobody holds a ticket of it
pub fit_crash : {D : Type 0} (view : D → View) (tells : Bool) (xs : List (Shelf D Counting)) (ts us : List (Option Ticket))
    (k : ℕ) (x y : Shelf D Counting) → AreFit view tells xs ts → slice_get xs k ≡ Some x → IsInOrder view tells y
    → y.rules ≡ x.rules → length us ≡ most_workers → KeepsOthers (length xs) k ts us → AreFit view tells (slice_set xs k y) us
fit_crash view tells xs ts us k x y fit here in_order rules count kept =
    fit_with view tells xs ts us k x y fit here in_order rules count
    (λ w t held place. absurd ((kept w t held).1 place))
    (λ w t held other. (kept w t held).0)
    (λ v w t u hv hw at same. fit.apart v w t u (kept v t hv).0 (kept w u hw).0 at same)
