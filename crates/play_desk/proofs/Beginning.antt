-- What stands there while empty shelves are opened, one after the other.
use Rattle.std.proofs.Common.{◌≡◌, ◌≢◌, ◌∙◌, ◌⊎◌, inl, inr, ⊎_elim, ap, sym, subst, refl, ℕ, ◌+◌, ◌^◌, ◌<◌, ◌≤◌, zero, suc, Bool, true, false, List, [], ◌∷◌, ◌++◌, length, length-append, map, replicate, slice_get, Option, Some, None, arith}
use Rattle.std.specs.Prelude.{IsTrue}
use Rattle.std.proofs.lemmas.List.{length-map, map-append}
use Rattle.std.proofs.lemmas.List.Sums.{sum_by-append, sum_by-cons}
use Rattle.std.proofs.lemmas.Option.{slice_get_within, same_Some}
use mathlib.Core.Logic.{dite}
use native.Mathlib.Decide.{ℕ_discrete}
use Rattle.web_outside.specs.declared.nonces.Counting.{Counting}
use Rattle.web_disk.specs.View.{View, RackView, AreAmong}
use Rattle.script_nodes.specs.Setup.{Named}
use Rattle.replay_spec.specs.Runs as runs
use Rattle.shelf.specs.Visits.{Ticket}
use Rattle.shelf.specs.declared.rules.Rules.{Rules}
use Rattle.shelf.specs.declared.shelf.Shelf.{Shelf}
use Rattle.shelf.specs.Views.{IsInOrder, IsOwnShelf}
use Rattle.server_limits.specs.Limits.{most_shelves}
use Rattle.server_limits.specs.Counts.{most_workers}
use Rattle.trio_rack.specs.Numbers.{IsOneOfThree}
use Rattle.trio_rack.specs.Trios.{shelves_of, MayBeBare}
use Rattle.trio_rack.proofs.Bare.{bare_among, of_another, some_among}
use Rattle.trio_rack.proofs.Homes.{below_or_not}
use Rattle.play_steps.specs.declared.stage.Reopen.{Reopen}
use Rattle.play_steps.specs.declared.stage.Reopen.TheVariants as reopen
use Rattle.trio_rack.proofs.Each.{some_at}
use Rattle.play_desk.specs.Desk.{Desk, first_desk, first_shelves}
use Rattle.play_steps.specs.Rules.{StaysUp}
use Rattle.shelf.specs.Ranges.{numbered}
use Rattle.play_desk.specs.Opening.{AreOpened, AllKept, AllStayKept, AreHome, CountStays, FailedFor, GivesOne, HoldImages, IsClosedBy, IsKept, IsRefusedBy, LeaveOthers, OpensNext, rules_at}
use Rattle.play_desk.specs.Staff.{AreFit, HaveOwnNumbers, IsHome, desk_with, faults_in, numbers_in, shelf_at, total}
use Rattle.play_desk.proofs.Asking.{asked_more, asked_none}
use Rattle.play_desk.proofs.Places.{in_push, none_there}
use Rattle.play_desk.proofs.Closing.{at_last, in_front}
use Rattle.play_desk.proofs.Fitting.{number_at, own_numbers}
use Rattle.play_desk.proofs.Keeping.{all_kept_in}

-- at first there is none
pub opened_none : {D : Type 0} (view : D → View) (rack_tells tells : Bool) (scripts : List Named) (rules : Rules) (first : RackView)
    → AreHome (shelves_of first).out → first.faults < 2 ^ 64 → AreOpened view rack_tells tells scripts rules first 0 [] first
opened_none view rack_tells tells scripts rules first home few = record {
  size = refl;
  numbers = λ k n e. absurd (let no : None ≡ Some n = e in cc);
  in_order = λ k x e. absurd (let no : None ≡ Some x = e in cc);
  own = λ rack_told told k x e. absurd (let no : None ≡ Some x = e in cc);
  keeps = λ rack_told told k x e. absurd (let no : None ≡ Some x = e in cc);
  home = record {
    ours = λ k n e. absurd (let no : None ≡ Some n = e in cc);
    only = λ n out. absurd (let no : true ≡ false = sym out ∙ home n in cc);
  };
  rest = λ n le image h. h;
  disks = λ n number le below its image h. h;
  empty = λ rack_told told k lt. absurd (omega arith);
  shelves = λ rack_told told. refl;
  later = omega (arith, few);
  rack_later = omega arith;
  failed_later = λ n. omega arith;
  asked = asked_none first;
}

-- what stands in a list with one more stands at the place before the last, or last
last_place : {A : Type 0} (xs : List A) (x : A) (k : ℕ) (u : A) → slice_get (xs ++ x ∷ []) k ≡ Some u → k ≢ length xs → slice_get xs k ≡ Some u
last_place [] x zero u e other = absurd (other refl)
last_place [] x (suc k) u e other = absurd (let no : None ≡ Some u = e in cc)
last_place (y ∷ xs) x zero u e other = e
last_place (y ∷ xs) x (suc k) u e other = last_place xs x k u e (λ is. other (ap suc is))

module _ {D : Type 0} (view : D → View) (rack_tells tells : Bool) (scripts : List Named) (rules : Rules) (first : RackView) (count : ℕ)
    (xs : List (Shelf D Counting)) (now : RackView) where
  -- a number of one of them is below
  below : AreOpened view rack_tells tells scripts rules first count xs now → (k n : ℕ) → slice_get (numbers_in xs) k ≡ Some n → n < count
  below o k n e =
      let within = slice_get_within (numbers_in xs) k n e in
      omega (arith, within, length-map xs (λ s. s.rules.number), o.size, o.numbers k n e)

  pub own_opened : AreOpened view rack_tells tells scripts rules first count xs now → HaveOwnNumbers xs
  own_opened o = own_numbers xs o.numbers

  -- the next disk is at home
  pub next_home : AreOpened view rack_tells tells scripts rules first count xs now → (shelves_of now).out count ≡ false
  next_home o = by_out ((shelves_of now).out count) refl
    where
      by_out : (b : Bool) → (shelves_of now).out count ≡ b → (shelves_of now).out count ≡ false
      by_out false e = e
      by_out true e = absurd (let there = o.home.only count e in let low = below o there.0 count there.1 in omega (arith, low))

  -- and stays so where it was given back
  pub still_home : (next : RackView) → AreOpened view rack_tells tells scripts rules first count xs now → GivesOne count now next → IsHome xs (shelves_of next).out
  still_home next o given = record {
    ours = λ k n e. (let low = below o k n e in given.leaves.others_out n (λ is. omega (arith, low, is)) ∙ o.home.ours k n e);
    only = λ n out.
        let other : n ≢ count = λ is. (let no : true ≡ false = sym out ∙ ap (shelves_of next).out is ∙ given.home in let never : ⊥ = cc in never) in
        o.home.only n (sym (given.leaves.others_out n other) ∙ out);
  }

  -- why the next was not opened
  pub closed_by : (limit : ℕ) (why : Reopen) → AreOpened view rack_tells tells scripts rules first count xs now → count < limit
      → IsTrue rack_tells → IsTrue tells → IsRefusedBy now count why → limit ≤ most_shelves → IsClosedBy first limit count why
  closed_by limit reopen.NotEmpty o low rack_told told h most = (
    low,
    record {
      before = o.empty rack_told told;
      some = some_among now first count (λ number its. o.disks count number (omega arith) (omega (arith, low, most)) its) h;
    },
  )
  closed_by limit (reopen.Damaged place) o low rack_told told h most = h
  closed_by limit (reopen.Other place) o low rack_told told h most = h
  closed_by limit (reopen.Full len) o low rack_told told h most = h
  closed_by limit reopen.Disk o low rack_told told h most = (low, o.empty rack_told told)
  closed_by limit reopen.Memory o low rack_told told h most = (low, o.empty rack_told told)

  -- then nothing was lost on any disk, but on the one of which a call failed
  pub kept_all : (mid next : RackView) (why : Reopen) → AreOpened view rack_tells tells scripts rules first count xs now → IsTrue rack_tells → IsTrue tells
      → GivesOne count now mid → (why ≢ reopen.Disk → AllKept scripts count ((shelves_of now).holds count) [] ((shelves_of mid).holds count)) → HoldImages view xs (shelves_of next).holds
      → LeaveOthers xs mid next → AllStayKept scripts (shelves_of first).holds (shelves_of next).holds count why
  kept_all mid next why o rack_told told given kept images others = record {
    kept = λ n but left is.
        elim (below_or_not n (length xs)) [
          | inl low ↦ opened n left is (some_at xs n low)
          | inr high ↦ beyond n but left is (omega (arith, o.size, high))
        ];
    behind = λ n above left is.
        let held = others n (λ k e. let low = below o k n e in omega (arith, low, above)) left is in
        o.rest n (omega (arith, above)) left (given.leaves.others n (λ same. omega (arith, same, above)) left held);
  }
    where
      -- the disk of a shelf that was opened
      opened : (n : ℕ) (left : List ℕ) → (shelves_of next).holds n left → (x : Shelf D Counting) × (slice_get xs n ≡ Some x) → IsKept scripts n ((shelves_of first).holds n) [] left
      opened n left is (x, at) =
          let number : x.rules.number ≡ n = o.numbers n x.rules.number (number_at xs n x at) in
          o.keeps rack_told told n x at left (images n x at left (subst (λ m. (shelves_of next).holds m left) (sym number) is))

      -- and of one that was not
      beyond : (n : ℕ) → (why ≡ reopen.Disk → n ≢ count) → (left : List ℕ) → (shelves_of next).holds n left → count ≤ n → IsKept scripts n ((shelves_of first).holds n) [] left
      beyond n but left is le =
          let held = others n (λ k e. let low = below o k n e in omega (arith, low, le)) left is in
          dite (ℕ_discrete n count)
          (λ same.
          let here : AllKept scripts count ((shelves_of first).holds count) [] ((shelves_of mid).holds count) =
          all_kept_in scripts count ((shelves_of first).holds count) ((shelves_of now).holds count) [] ((shelves_of mid).holds count) ((shelves_of mid).holds count) (o.rest count (omega arith)) (λ image h. h)
          (kept (λ e. but e same)) in
          subst (λ m. IsKept scripts m ((shelves_of first).holds m) [] left) (sym same) (here left (subst (λ m. (shelves_of mid).holds m left) same held)))
          (λ other. inl (o.rest n le left (given.leaves.others n other left held)))

  -- then the count did not fall
  pub later_closed : (mid new : ℕ) → AreOpened view rack_tells tells scripts rules first count xs now → CountStays now.faults 0 mid 0
      → total mid (faults_in view xs) ≤ new → first.faults ≤ new
  later_closed mid new o stays le = (let beside = stays (faults_in view xs) in omega (arith, o.later, beside, le))

  -- the count of each number stays where the next was not opened, but for its own
  pub given_later : (mid new : RackView) → AreOpened view rack_tells tells scripts rules first count xs now → GivesOne count now mid → StaysUp (shelves_of mid).failed (shelves_of new).failed
      → StaysUp (shelves_of first).failed (shelves_of new).failed
  given_later mid new o given later n =
      dite (ℕ_discrete n count)
      (λ is. subst (λ m. (shelves_of first).failed m ≤ (shelves_of new).failed m) (sym is)
      (let a = o.failed_later count in let b = given.leaves.failed in let d = later count in omega (arith, a, b, d)))
      (λ other. let a = o.failed_later n in let b = given.leaves.others_failed n other in let d = later n in omega (arith, a, b, d))

  -- the count of its number rose where a call for it failed
  pub failed_closed : (mid new : RackView) → AreOpened view rack_tells tells scripts rules first count xs now → FailedFor count now mid
      → CountStays now.faults 0 mid.faults 0 → total mid.faults (faults_in view xs) ≤ new.faults → StaysUp (shelves_of mid).failed (shelves_of new).failed → FailedFor count first new
  failed_closed mid new o failed stays le later =
      let a = o.failed_later count in let b = failed.here in let d = later count in record {
        all = omega (arith, o.rack_later, failed.all, le);
        here = omega (arith, a, b, d);
      }

  -- with the next there is one more
  pub opened_more : (ys : List (Shelf D Counting)) (next : RackView) → AreOpened view rack_tells tells scripts rules first count xs now
      → OpensNext view rack_tells tells scripts (numbered rules count) xs ys now next
      → count < most_shelves → AreOpened view rack_tells tells scripts rules first (count + 1) ys next
  opened_more ys next o h low =
      subst (λ n. AreOpened view rack_tells tells scripts rules first n ys next) one
      (subst (λ (zs : List (Shelf D Counting)). AreOpened view rack_tells tells scripts rules first (suc count) zs next) (sym h.behind) more)
    where
      one : suc count ≡ count + 1
      one = omega arith

      x : Shelf D Counting
      x = h.shelf

      number : x.rules.number ≡ count
      number = ap (λ (r : Rules). r.number) h.rules

      numbers_are : numbers_in (xs ++ x ∷ []) ≡ numbers_in xs ++ x.rules.number ∷ []
      numbers_are = map-append (λ s. s.rules.number) xs (x ∷ [])

      numbers_size : length (numbers_in xs) ≡ count
      numbers_size = length-map xs (λ s. s.rules.number) ∙ o.size

      at_end : slice_get (numbers_in (xs ++ x ∷ [])) count ≡ Some x.rules.number
      at_end =
          subst (λ (ns : List ℕ). slice_get ns count ≡ Some x.rules.number) (sym numbers_are)
          (subst (λ n. slice_get (numbers_in xs ++ x.rules.number ∷ []) n ≡ Some x.rules.number) numbers_size (at_last (numbers_in xs) x.rules.number))

      -- a number is one of before, or the last
      number_is : (k n : ℕ) → slice_get (numbers_in (xs ++ x ∷ [])) k ≡ Some n → k ≢ count → slice_get (numbers_in xs) k ≡ Some n
      number_is k n e other =
          last_place (numbers_in xs) x.rules.number k n (subst (λ (ns : List ℕ). slice_get ns k ≡ Some n) numbers_are e) (λ is. other (is ∙ numbers_size))

      last_is : (k n : ℕ) → slice_get (numbers_in (xs ++ x ∷ [])) k ≡ Some n → k ≡ count → n ≡ count
      last_is k n e is = same_Some n x.rules.number (sym e ∙ ap (slice_get (numbers_in (xs ++ x ∷ []))) is ∙ at_end) ∙ number

      before : (k n : ℕ) → slice_get (numbers_in xs) k ≡ Some n → slice_get (numbers_in (xs ++ x ∷ [])) k ≡ Some n
      before k n e =
          subst (λ (ns : List ℕ). slice_get ns k ≡ Some n) (sym numbers_are) (in_front (numbers_in xs) (x.rules.number ∷ []) k n e)

      all_numbers : (k n : ℕ) → slice_get (numbers_in (xs ++ x ∷ [])) k ≡ Some n → n ≡ k
      all_numbers k n e =
          dite (ℕ_discrete k count) (λ is. last_is k n e is ∙ sym is) (λ other. o.numbers k n (number_is k n e other))

      taken_home : IsHome (xs ++ x ∷ []) (shelves_of next).out
      taken_home = record {
        ours = λ k n e.
            dite (ℕ_discrete n count) (λ is. ap (shelves_of next).out is ∙ h.taken.out)
            (λ other. h.taken.leaves.others_out n other ∙ o.home.ours k n (number_is k n e (λ is. other (all_numbers k n e ∙ is))));
        only = λ n out.
            dite (ℕ_discrete n count) (λ is. (count, at_end ∙ ap Some (number ∙ sym is)))
            (λ other. (let was = o.home.only n (sym (h.taken.leaves.others_out n other) ∙ out) in (was.0, before was.0 n was.1)));
      }

      untouched : (n : ℕ) → suc count ≤ n → AreAmong ((shelves_of next).holds n) ((shelves_of first).holds n)
      untouched n le image held = o.rest n (omega arith) image (h.taken.leaves.others n (λ is. omega (arith, is, le)) image held)

      untouched_disks : (n m : ℕ) → suc count ≤ n → n < most_shelves → IsOneOfThree n m → AreAmong (next.holds m) (first.holds m)
      untouched_disks n m le below its image held =
          o.disks n m (omega arith) below its image (h.taken.leaves.disks m (of_another count n m low below (λ is. omega (arith, is, le)) its) image held)

      were_empty : IsTrue rack_tells → IsTrue tells → (k : ℕ) → k < suc count → MayBeBare first k
      were_empty rack_told told k lt =
          dite (ℕ_discrete k count)
          (λ is. subst (MayBeBare first) (sym is) (bare_among now first count (λ m its. o.disks count m (omega arith) low its) (h.empty rack_told told).0))
          (λ other. o.empty rack_told told k (omega arith))

      are_first : IsTrue rack_tells → IsTrue tells → map (shelf_at view) (xs ++ x ∷ []) ≡ first_shelves (rules_at rules) scripts (suc count)
      are_first rack_told told =
          map-append (shelf_at view) xs (x ∷ [])
          ∙ ap (λ (ss : List runs.Shelf). ss ++ shelf_at view x ∷ []) (o.shelves rack_told told)
          ∙ ap (λ (s : runs.Shelf). first_shelves (rules_at rules) scripts count ++ s ∷ []) (h.empty rack_told told).1

      kept : IsTrue rack_tells → IsTrue tells → AllKept scripts count ((shelves_of first).holds count) [] (view x.journal.disk).images
      kept rack_told told =
          all_kept_in scripts count ((shelves_of first).holds count) ((shelves_of now).holds count) [] (view x.journal.disk).images (view x.journal.disk).images
          (o.rest count (omega arith)) (λ image h. h) (h.keeps rack_told told)

      last_kept : IsTrue rack_tells → IsTrue tells → (k : ℕ) (z : Shelf D Counting) → slice_get (xs ++ x ∷ []) k ≡ Some z → x ≡ z
          → AllKept scripts k ((shelves_of first).holds k) [] (view z.journal.disk).images
      last_kept rack_told told k z e is =
          let at : count ≡ k = sym number ∙ (ap (λ (s : Shelf D Counting). s.rules.number) is ∙ all_numbers k z.rules.number (number_at (xs ++ x ∷ []) k z e)) in
          subst (λ n. AllKept scripts n ((shelves_of first).holds n) [] (view z.journal.disk).images) at
          (subst (λ (s : Shelf D Counting). AllKept scripts count ((shelves_of first).holds count) [] (view s.journal.disk).images) is (kept rack_told told))

      sum_is : faults_in view (xs ++ x ∷ []) ≡ faults_in view xs + (view x.journal.disk).faults
      sum_is =
          let parts = sum_by-append (λ (s : Shelf D Counting). (view s.journal.disk).faults) xs (x ∷ []) in
          let last = sum_by-cons (λ (s : Shelf D Counting). (view s.journal.disk).faults) x [] in
          omega (arith, parts, last)

      -- no count fell
      none_fell : StaysUp (shelves_of first).failed (shelves_of next).failed
      none_fell n =
          dite (ℕ_discrete n count)
          (λ is. subst (λ m. (shelves_of first).failed m ≤ (shelves_of next).failed m) (sym is) (let a = o.failed_later count in let b = h.taken.leaves.failed in omega (arith, a, b)))
          (λ other. let a = o.failed_later n in let b = h.taken.leaves.others_failed n other in omega (arith, a, b))

      all_later : first.faults ≤ total next.faults (faults_in view (xs ++ x ∷ []))
      all_later = (let beside = h.later (faults_in view xs) in omega (arith, o.later, beside, sum_is))

      more : AreOpened view rack_tells tells scripts rules first (suc count) (xs ++ x ∷ []) next
      more = record {
        size = length-append xs (x ∷ []) ∙ omega (arith, o.size);
        numbers = all_numbers;
        in_order = λ k z e. ⊎_elim (λ was. o.in_order k z was) (λ is. subst (λ (s : Shelf D Counting). IsInOrder view tells s) is h.in_order) (in_push xs x k z e);
        own = λ rack_told told k z e.
            ⊎_elim (λ was. o.own rack_told told k z was) (λ is. subst (λ (s : Shelf D Counting). IsOwnShelf view tells s) is (h.own rack_told told)) (in_push xs x k z e);
        keeps = λ rack_told told k z e.
            ⊎_elim (λ was. o.keeps rack_told told k z was) (λ is. last_kept rack_told told k z e is) (in_push xs x k z e);
        home = taken_home;
        rest = untouched;
        disks = untouched_disks;
        empty = were_empty;
        shelves = are_first;
        later = all_later;
        rack_later = omega (arith, o.rack_later, h.rack_later);
        failed_later = none_fell;
        asked = asked_more count first now next o.asked h.asked;
      }

-- where nobody holds a ticket they are fit, and the first desk
pub fit_opened : {D : Type 0} (view : D → View) (rack_tells tells : Bool) (scripts : List Named) (rules : Rules) (first : RackView) (count : ℕ)
    (xs : List (Shelf D Counting)) (now : RackView) (ts : List (Option Ticket)) → AreOpened view rack_tells tells scripts rules first count xs now → count ≤ most_shelves
    → ts ≡ replicate most_workers None → AreFit view tells xs ts
fit_opened view rack_tells tells scripts rules first count xs now ts o few none =
    let nobody : (w : ℕ) (t : Ticket) → slice_get ts w ≡ Some (Some t) → ⊥ =
    λ w t h. none_there most_workers w t (subst (λ (vs : List (Option Ticket)). slice_get vs w ≡ Some (Some t)) none h) in
    record {
      in_order = o.in_order;
      numbers = o.numbers;
      few = omega (arith, o.size, few);
      count = ap length none;
      unspent = λ w t h. absurd (nobody w t h);
      apart = λ v w t u hv hw at same. absurd (nobody v t hv);
    }

pub desk_opened : {D : Type 0} (view : D → View) (rack_tells tells : Bool) (scripts : List Named) (rules : Rules) (first : RackView) (count : ℕ)
    (xs : List (Shelf D Counting)) (now : RackView) (ts : List (Option Ticket)) → AreOpened view rack_tells tells scripts rules first count xs now
    → IsTrue rack_tells → IsTrue tells → ts ≡ replicate most_workers None → desk_with view scripts xs ts ≡ first_desk (rules_at rules) scripts count
desk_opened view rack_tells tells scripts rules first count xs now ts o rack_told told none =
    ap (λ (vs : List (Option Ticket)). desk_with view scripts xs vs) none ∙ ap made (o.shelves rack_told told)
  where
    made : List runs.Shelf → Desk
    made ss = record { scripts = scripts; shelves = ss; held = replicate most_workers None }
