-- What is left where the last of the shelves goes home.
use Rattle.std.proofs.Common.{◌≡◌, ◌≢◌, ◌∙◌, ap, sym, subst, refl, ℕ, ◌≤◌, zero, suc, Bool, true, false, List, [], ◌∷◌, ◌++◌, length, map, slice_get, Option, Some, None, arith, append_assoc}
use Rattle.std.specs.Prelude.{IsTrue}
use Rattle.std.proofs.lemmas.List.{map-append}
use Rattle.std.proofs.lemmas.Option.{same_Some}
use mathlib.Core.Logic.{dite}
use mathlib.Core.List.{IsPrefix}
use native.Mathlib.Decide.{ℕ_discrete}
use Rattle.web_outside.specs.declared.nonces.Counting.{Counting}
use Rattle.web_disk.specs.View.{View, RackView, AreAmong}
use Rattle.trio_rack.specs.Trios.{shelves_of}
use Rattle.script_nodes.specs.Setup.{Named}
use Rattle.replay_spec.specs.Runs as runs
use Rattle.replay_spec.specs.Book.{Book}
use Rattle.replay_spec.specs.Rules.{Rules}
use Rattle.shelf.specs.Visits.{Ticket}
use Rattle.shelf.specs.declared.shelf.Shelf.{Shelf}
use Rattle.shelf.specs.Owning.{StandsOwn}
use Rattle.shelf.specs.Views.{book_in, rules_of}
use Rattle.play_steps.specs.Rules.{StaysUp}
use Rattle.play_steps.specs.declared.stage.Reopen.{Reopen}
use Rattle.play_steps.specs.declared.stage.Reopen.TheVariants as reopen
use Rattle.play_desk.specs.Desk.{Desk}
use Rattle.play_desk.specs.Opening.{AreHome, CountStays, GivesOne, HoldImages, HoldTheBooks, HoldsTheBook, IsLeft, IsPutBack, KeepsShelvesBut, LeaveOthers, LeavesLost, StandsLost, TellsItsRoom, TellsRoom}
use Rattle.play_desk.specs.Staff.{AreFit, AreOwn, HaveOwnNumbers, IsHome, desk_with, faults_in, numbers_in, shelf_at, total}
use Rattle.play_desk.proofs.Fitting.{number_at}
use Rattle.play_desk.proofs.Outage.{home_out, stays_out}
use Rattle.play_desk.proofs.Removing.{out_of}
use Rattle.play_desk.proofs.Reopening.{lost_fewer}

-- what stands last, and the others
pub at_last : {A : Type 0} (xs : List A) (x : A) → slice_get (xs ++ x ∷ []) (length xs) ≡ Some x
at_last [] x = refl
at_last (y ∷ xs) x = at_last xs x

out_last : {A : Type 0} (xs : List A) (x : A) → out_of (xs ++ x ∷ []) (length xs) ≡ xs
out_last [] x = refl
out_last (y ∷ xs) x = ap (λ ys. y ∷ ys) (out_last xs x)

-- what stands in a front of a list stands in the list
pub in_front : {A : Type 0} (xs rest : List A) (k : ℕ) (x : A) → slice_get xs k ≡ Some x → slice_get (xs ++ rest) k ≡ Some x
in_front [] rest k x e = absurd (let no : None ≡ Some x = e in cc)
in_front (y ∷ xs) rest zero x e = e
in_front (y ∷ xs) rest (suc k) x e = in_front xs rest k x e

pub at_front : {A : Type 0} (xs all : List A) (x : A) → IsPrefix (xs ++ x ∷ []) all → slice_get all (length xs) ≡ Some x
at_front xs all x p = subst (λ ys. slice_get ys (length xs) ≡ Some x) p.1 (in_front (xs ++ x ∷ []) p.0 (length xs) x (at_last xs x))

pub front_less : {A : Type 0} (xs all : List A) (x : A) → IsPrefix (xs ++ x ∷ []) all → IsPrefix xs all
front_less xs all x p = (x ∷ p.0, sym (append_assoc xs (x ∷ []) p.0) ∙ p.1)

own_front : {D : Type 0} (xs all : List (Shelf D Counting)) → IsPrefix xs all → HaveOwnNumbers all → HaveOwnNumbers xs
own_front {D = D} xs all p own j k n a b = own j k n (there j a) (there k b)
  where
    there : (i : ℕ) → slice_get (numbers_in xs) i ≡ Some n → slice_get (numbers_in all) i ≡ Some n
    there i e =
        subst (λ (ys : List (Shelf D Counting)). slice_get (numbers_in ys) i ≡ Some n) p.1
        (subst (λ (ns : List ℕ). slice_get ns i ≡ Some n) (sym (map-append (λ s. s.rules.number) xs p.0)) (in_front (numbers_in xs) (numbers_in p.0) i n e))

-- where no shelf is left, every disk is at home
pub none_out : {D : Type 0} (xs : List (Shelf D Counting)) (out : ℕ → Bool) → xs ≡ [] → IsHome xs out → AreHome out
none_out {D = D} xs out none home n = by_out (out n) refl
  where
    by_out : (b : Bool) → out n ≡ b → out n ≡ false
    by_out false is = is
    by_out true is =
        let there = (subst (λ (ys : List (Shelf D Counting)). IsHome ys out) none home).only n is in
        absurd (let is_in : None ≡ Some n = there.1 in cc)

-- its disks went home, and those of the others are out
pub home_last : {D : Type 0} (xs all : List (Shelf D Counting)) (x : Shelf D Counting) (old new : RackView) → IsPrefix (xs ++ x ∷ []) all
    → HaveOwnNumbers all → IsHome (xs ++ x ∷ []) (shelves_of old).out → GivesOne x.rules.number old new → IsHome xs (shelves_of new).out
home_last {D = D} xs all x old new p own home given =
    subst (λ (ys : List (Shelf D Counting)). IsHome ys (shelves_of new).out) (out_last xs x)
    (home_out (xs ++ x ∷ []) (length xs) x old new (at_last xs x) (own_front (xs ++ x ∷ []) all p own) home given)

-- the counts of the others stand beside it
pub stays_last : {D : Type 0} (view : D → View) (xs : List (Shelf D Counting)) (x : Shelf D Counting) (rack now : ℕ)
    → CountStays rack (view x.journal.disk).faults now 0 → total rack (faults_in view (xs ++ x ∷ [])) ≤ total now (faults_in view xs)
stays_last {D = D} view xs x rack now stays =
    subst (λ (ys : List (Shelf D Counting)). total rack (faults_in view (xs ++ x ∷ [])) ≤ total now (faults_in view ys)) (out_last xs x)
    (stays_out view (xs ++ x ∷ []) (length xs) x rack now (at_last xs x) stays)

-- its disks and those that went home before hold what they held
pub images_last : {D : Type 0} (view : D → View) (xs all : List (Shelf D Counting)) (x : Shelf D Counting) (old new : RackView)
    → IsPrefix (xs ++ x ∷ []) all → HaveOwnNumbers all → GivesOne x.rules.number old new
    → AreAmong ((shelves_of new).holds x.rules.number) (view x.journal.disk).images
    → ((k : ℕ) (s : Shelf D Counting) → suc (length xs) ≤ k → slice_get all k ≡ Some s → AreAmong ((shelves_of old).holds s.rules.number) (view s.journal.disk).images)
    → (k : ℕ) (s : Shelf D Counting) → length xs ≤ k → slice_get all k ≡ Some s → AreAmong ((shelves_of new).holds s.rules.number) (view s.journal.disk).images
images_last {D = D} view xs all x old new p own given held others k s le e =
    let here = at_front xs all x p in
    dite (ℕ_discrete k (length xs))
    (λ same. subst (λ (z : Shelf D Counting). AreAmong ((shelves_of new).holds z.rules.number) (view z.journal.disk).images)
    (same_Some x s (sym here ∙ ap (slice_get all) (sym same) ∙ e)) held)
    (λ other.
    let apart : s.rules.number ≢ x.rules.number = λ is.
    other (own k (length xs) x.rules.number (number_at all k s e ∙ ap Some is) (number_at all (length xs) x here)) in
    λ image h. others k s (omega arith) e image (given.leaves.others s.rules.number apart image h))

-- no count fell where the disks of one shelf more went home
pub fell_with : (first old new : RackView) (number : ℕ) → StaysUp (shelves_of first).failed (shelves_of old).failed → GivesOne number old new → StaysUp (shelves_of first).failed (shelves_of new).failed
fell_with first old new number before given n =
    dite (ℕ_discrete n number)
    (λ is. subst (λ m. (shelves_of first).failed m ≤ (shelves_of new).failed m) (sym is) (let a = before number in let b = given.leaves.failed in omega (arith, a, b)))
    (λ other. let a = before n in let b = given.leaves.others_failed n other in omega (arith, a, b))

-- ---- books

-- what was mapped to what stands in a place
from_mapped : {A B : Type 0} (f : A → B) (xs : List A) (k : ℕ) (y : B) → slice_get (map f xs) k ≡ Some y
    → (x : A) × (slice_get xs k ≡ Some x) × (f x ≡ y)
from_mapped f [] k y e = absurd (let no : None ≡ Some y = e in cc)
from_mapped f (x ∷ xs) zero y e = (x, refl, same_Some (f x) y e)
from_mapped f (x ∷ xs) (suc k) y e = from_mapped f xs k y e

-- what may be held of the disk of an own shelf stands for its book
pub holds_book : (rules : Rules) (v : View) (number : ℕ) (b : Book) (holds : List ℕ → Type 0)
    → StandsOwn rules number v b → AreAmong holds v.images → HoldsTheBook rules number holds b
holds_book rules v number b holds own among = record {
  own = (own.images.0, λ image h. own.images.1 image (among image h));
  stands = (own.stands.0, (own.stands.1.0, (λ image h. own.stands.1.1.0 image (among image h), own.stands.1.1.1)));
}

-- the disks of own shelves stand for their books
pub books_stand : {D : Type 0} (view : D → View) (tells : Bool) (scripts : List Named) (xs : List (Shelf D Counting)) (ts : List (Option Ticket))
    (holds : ℕ → List ℕ → Type 0) → IsTrue tells → AreFit view tells xs ts → AreOwn view tells xs ts → HoldImages view xs holds
    → HoldTheBooks (desk_with view scripts xs ts) holds
books_stand view tells scripts xs ts holds told fit own images k s e =
    let x = from_mapped (shelf_at view) xs k s e in
    let number = (fit.in_order k x.0 x.1).number in
    let b = book_in view x.0 in
    let stands = holds_book (rules_of x.0.rules) (view x.0.journal.disk) x.0.rules.number b (holds x.0.rules.number)
    ((own.own k x.0 x.1).own told) (images k x.0 x.1) in
    subst (λ (z : runs.Shelf). HoldsTheBook z.rules z.book.shelf (holds z.book.shelf) z.book) x.2
    (subst (λ n. HoldsTheBook (rules_of x.0.rules) n (holds n) b) (sym number) stands)

-- ---- after a shelf that is lost

book_fewer : (rules : Rules) (shelf : ℕ) (held holds : List ℕ → Type 0) (b : Book) → HoldsTheBook rules shelf held b
    → AreAmong holds held → HoldsTheBook rules shelf holds b
book_fewer rules shelf held holds b h among = record {
  own = (h.own.0, λ image is. h.own.1 image (among image is));
  stands = (h.stands.0, (h.stands.1.0, (λ image is. h.stands.1.1.0 image (among image is), h.stands.1.1.1)));
}

-- what is told of the room is so of fewer images
room_fewer : (rules : Rules) (scripts : List Named) (shelf : ℕ) (held holds : List ℕ → Type 0) (b : Book) (why : Reopen)
    → TellsRoom rules scripts shelf held b why → AreAmong holds held → TellsRoom rules scripts shelf holds b why
room_fewer rules scripts shelf held holds b (reopen.Full len) h among = record {
  another = h.another;
  book = h.book;
  crashed = h.crashed;
  length = h.length;
  long = h.long;
  left = λ image is. h.left image (among image is);
}
room_fewer rules scripts shelf held holds b reopen.NotEmpty h among = tt
room_fewer rules scripts shelf held holds b (reopen.Damaged place) h among = tt
room_fewer rules scripts shelf held holds b (reopen.Other place) h among = tt
room_fewer rules scripts shelf held holds b reopen.Disk h among = tt
room_fewer rules scripts shelf held holds b reopen.Memory h among = tt

-- the disks stand for the books where those of the other shelves went home after it
pub left_behind : {D : Type 0} (view : D → View) (tells : Bool) (scripts : List Named) (xs ys : List (Shelf D Counting)) (ts : List (Option Ticket)) (place : ℕ)
    (why : Reopen) (mid after : RackView) → IsTrue tells → AreFit view tells xs ts → AreOwn view tells xs ts → KeepsShelvesBut place xs ys
    → LeavesLost view scripts xs place (shelves_of mid).holds → TellsItsRoom view scripts xs place (shelves_of mid).holds why → IsPutBack xs place (shelves_of mid).out → IsHome ys (shelves_of mid).out
    → HoldImages view ys (shelves_of after).holds → LeaveOthers ys mid after → AreHome (shelves_of after).out → IsLeft after (desk_with view scripts xs ts) place why
left_behind {D = D} view tells scripts xs ys ts place why mid after told fit own kept lost room back home images others all_home = record {
  home = all_home;
  others = λ k s e other.
      let x = from_mapped (shelf_at view) xs k s e in
      let there = kept k x.0 other x.1 in
      let number = (fit.in_order k x.0 x.1).number in
      let b = book_in view x.0 in
      let stands = holds_book (rules_of x.0.rules) (view x.0.journal.disk) x.0.rules.number b ((shelves_of after).holds x.0.rules.number)
      ((own.own k x.0 x.1).own told) (images there.0 x.0 there.1) in
      subst (λ (z : runs.Shelf). HoldsTheBook z.rules z.book.shelf ((shelves_of after).holds z.book.shelf) z.book) x.2
      (subst (λ n. HoldsTheBook (rules_of x.0.rules) n ((shelves_of after).holds n) b) (sym number) stands);
  lost = λ s e.
      let x = from_mapped (shelf_at view) xs place s e in
      let n = x.0.rules.number in
      let number = (fit.in_order place x.0 x.1).number in
      let b = book_in view x.0 in
      let fewer : AreAmong ((shelves_of after).holds n) ((shelves_of mid).holds n) = others n (λ k is. absurd (let no : true ≡ false = sym (home.ours k n is) ∙ back x.0 x.1 in cc)) in
      let stands = lost_fewer (rules_of x.0.rules) scripts n ((shelves_of mid).holds n) ((shelves_of after).holds n) b (lost x.0 x.1) fewer in
      subst (λ (z : runs.Shelf). StandsLost z.rules scripts z.book.shelf ((shelves_of after).holds z.book.shelf) z.book) x.2
      (subst (λ m. StandsLost (rules_of x.0.rules) scripts m ((shelves_of after).holds m) b) (sym number) stands);
  room = λ s e.
      let x = from_mapped (shelf_at view) xs place s e in
      let n = x.0.rules.number in
      let number = (fit.in_order place x.0 x.1).number in
      let b = book_in view x.0 in
      let fewer : AreAmong ((shelves_of after).holds n) ((shelves_of mid).holds n) = others n (λ k is. absurd (let no : true ≡ false = sym (home.ours k n is) ∙ back x.0 x.1 in cc)) in
      let tells = room_fewer (rules_of x.0.rules) scripts n ((shelves_of mid).holds n) ((shelves_of after).holds n) b why (room x.0 x.1) fewer in
      subst (λ (z : runs.Shelf). TellsRoom z.rules scripts z.book.shelf ((shelves_of after).holds z.book.shelf) z.book why) x.2
      (subst (λ m. TellsRoom (rules_of x.0.rules) scripts m ((shelves_of after).holds m) b why) (sym number) tells);
}

-- and where what was left there went home
pub left_home : {D : Type 0} (xs : List (Shelf D Counting)) (mid after : RackView) (d : Desk) (shelf : ℕ) (why : Reopen) → IsHome xs (shelves_of mid).out
    → LeaveOthers xs mid after → AreHome (shelves_of after).out → IsLeft mid d shelf why → IsLeft after d shelf why
left_home xs mid after d shelf why home others back left = record {
  home = back;
  others = λ k s e other. book_fewer s.rules s.book.shelf ((shelves_of mid).holds s.book.shelf) ((shelves_of after).holds s.book.shelf) s.book (left.others k s e other) (fewer s.book.shelf);
  lost = λ s e. lost_fewer s.rules d.scripts s.book.shelf ((shelves_of mid).holds s.book.shelf) ((shelves_of after).holds s.book.shelf) s.book (left.lost s e) (fewer s.book.shelf);
  room = λ s e. room_fewer s.rules d.scripts s.book.shelf ((shelves_of mid).holds s.book.shelf) ((shelves_of after).holds s.book.shelf) s.book why (left.room s e) (fewer s.book.shelf);
}
  where
    fewer : (n : ℕ) → AreAmong ((shelves_of after).holds n) ((shelves_of mid).holds n)
    fewer n = others n (λ k is. absurd (let no : true ≡ false = sym (home.ours k n is) ∙ left.home n in cc))
