-- A crash of one of the shelves.
use Rattle.std.proofs.Common.{◌≡◌, ◌≢◌, ◌∙◌, ap, sym, subst, ⊎_elim, ℕ, ◌≤◌, Bool, true, List, [], length, replicate, slice_get, slice_set, Some, None, Option, option_map, map, arith}
use Rattle.std.proofs.lemmas.Bool.{cases_eq}
use Rattle.std.proofs.lemmas.List.{length-map, map-set}
use Rattle.std.proofs.lemmas.Option.{same_Some}
use Rattle.server_limits.specs.Counts.{most_workers}
use Rattle.play_desk.proofs.Stepping.{crashes, is_event, shelf_there}
use Rattle.web_outside.specs.Causes.{Rose}
use Rattle.web_outside.specs.declared.nonces.Counting.{Counting}
use Rattle.web_disk.specs.View.{View, RackView}
use Rattle.trio_rack.specs.Trios.{shelves_of}
use Rattle.script_nodes.specs.Setup.{Named}
use Rattle.web_outside.specs.Counted.{counted}
use Rattle.replay_spec.specs.Book.{Book}
use Rattle.replay_spec.specs.Next as next
use Rattle.replay_spec.specs.Rules as spec_rules
use Rattle.replay_spec.specs.Step as spec
use Rattle.replay_spec.specs.Step.{Fate, crash}
use Rattle.replay_spec.specs.Runs as runs
use Rattle.replay_spec.specs.Runs.{drawn_by}
use Rattle.shelf.specs.Visits.{ticket_of, Ticket}
use Rattle.shelf.specs.declared.rules.Rules.{Rules}
use Rattle.shelf.specs.Opening.{IsCrashed}
use Rattle.shelf.specs.Views.{book_in, rules_of}
use Rattle.play_steps.specs.Rules.{Comes}
use Rattle.play_desk.specs.Desk.{Desk, counting, crashed_by, desk_crash, happening, is_fault, without_shelf}
use Rattle.shelf.specs.declared.shelf.Shelf.{Shelf}
use Rattle.play_desk.specs.Opening.{CountRose, CountStays, GivesOne, HasCrashed, TakesOne}
use Rattle.play_desk.specs.Staff.{AreFit, AreLow, HaveOwnNumbers, IsHome, desk_with, faults_in, numbers_in, shelf_at, total}
use Rattle.play_desk.proofs.Places.{none_there}
use Rattle.play_desk.proofs.Fitting.{number_at, numbers_set}
use Rattle.play_desk.proofs.Counting.{faults_set}
use Rattle.play_desk.proofs.Removing.{out_of, skip, at_out, skip_apart, skip_not, still_in, sum_out, map_out}

numbers_out : {D : Type 0} (xs : List (Shelf D Counting)) (k j : ℕ) → slice_get (numbers_in (out_of xs k)) j ≡ slice_get (numbers_in xs) (skip k j)
numbers_out xs k j = ap (λ (ns : List ℕ). slice_get ns j) (map_out (λ s. s.rules.number) xs k) ∙ at_out (numbers_in xs) k j

-- a desk without shelves is fit where nobody holds a ticket
pub fit_none : {D : Type 0} (view : D → View) (tells : Bool) (xs : List (Shelf D Counting)) (ts : List (Option Ticket))
    → xs ≡ [] → ts ≡ replicate most_workers None → AreFit view tells xs ts
fit_none {D = D} view tells xs ts empty none =
    let nobody : (w : ℕ) (t : Ticket) → slice_get ts w ≡ Some (Some t) → ⊥ =
    λ w t h. none_there most_workers w t (subst (λ (vs : List (Option Ticket)). slice_get vs w ≡ Some (Some t)) none h) in
    record {
      in_order = λ k x e. absurd (nowhere k x e);
      numbers = λ k n e. absurd (let no = subst (λ (ys : List (Shelf D Counting)). slice_get (numbers_in ys) k ≡ Some n) empty e in let never : ⊥ = cc in never);
      few = (let size = ap length empty in omega (arith, size));
      count = ap length none;
      unspent = λ w t h. absurd (nobody w t h);
      apart = λ v w t u hv hw at same. absurd (nobody v t hv);
    }
  where
    nowhere : (k : ℕ) (x : Shelf D Counting) → slice_get xs k ≡ Some x → ⊥
    nowhere k x e = let no = subst (λ (ys : List (Shelf D Counting)). slice_get ys k ≡ Some x) empty e in cc

-- the others have numbers of their own still
pub own_numbers_out : {D : Type 0} (xs : List (Shelf D Counting)) (k : ℕ) → HaveOwnNumbers xs → HaveOwnNumbers (out_of xs k)
own_numbers_out xs k own i j n a b =
    skip_apart k i j (own (skip k i) (skip k j) n (sym (numbers_out xs k i) ∙ a) (sym (numbers_out xs k j) ∙ b))

-- and low ones
pub low_out : {D : Type 0} (xs : List (Shelf D Counting)) (k : ℕ) → AreLow xs → AreLow (out_of xs k)
low_out xs k low j n e = low (skip k j) n (sym (numbers_out xs k j) ∙ e)

-- the disks of the shelf went home, and those of the others are out
pub home_out : {D : Type 0} (xs : List (Shelf D Counting)) (k : ℕ) (x : Shelf D Counting) (old new : RackView) → slice_get xs k ≡ Some x
    → HaveOwnNumbers xs → IsHome xs (shelves_of old).out → GivesOne x.rules.number old new → IsHome (out_of xs k) (shelves_of new).out
home_out xs k x old new here own home given = record {
  ours = λ j n e.
      let was = sym (numbers_out xs k j) ∙ e in
      let other : n ≢ x.rules.number = λ same.
      skip_not k j (own (skip k j) k n was (number_at xs k x here ∙ ap Some (sym same))) in
      given.leaves.others_out n other ∙ home.ours (skip k j) n was;
  only = λ n out.
      let other : n ≢ x.rules.number = λ same.
      (let no = sym out ∙ ap (shelves_of new).out same ∙ given.home in let never : ⊥ = cc in never) in
      let was = home.only n (sym (given.leaves.others_out n other) ∙ out) in
      let elsewhere : was.0 ≢ k = λ same. other (same_Some n x.rules.number (sym was.1 ∙ ap (slice_get (numbers_in xs)) same ∙ number_at xs k x here)) in
      let there = still_in (numbers_in xs) k was.0 n elsewhere was.1 in
      (there.0, ap (λ (ns : List ℕ). slice_get ns there.0) (map_out (λ s. s.rules.number) xs k) ∙ there.1);
}

-- the disks of the shelf are out again
pub home_set : {D : Type 0} (xs : List (Shelf D Counting)) (k : ℕ) (x y : Shelf D Counting) (old new : RackView) → slice_get xs k ≡ Some x
    → y.rules ≡ x.rules → IsHome xs (shelves_of old).out → TakesOne x.rules.number old new → IsHome (slice_set xs k y) (shelves_of new).out
home_set xs k x y old new here same home taken =
    let numbers = numbers_set xs k x y here same in
    record {
      ours = λ j n e. now_out n (⊎_elim (λ is. inl_out n is) (λ other. taken.leaves.others_out n other ∙ home.ours j n (back numbers j n e)) (cases_eq n x.rules.number));
      only = λ n out. ⊎_elim
          (λ is. (k, forth numbers k n (number_at xs k x here ∙ ap Some (sym is))))
          (λ other. let was = home.only n (sym (taken.leaves.others_out n other) ∙ out) in (was.0, forth numbers was.0 n was.1))
          (cases_eq n x.rules.number);
    }
  where
    now_out : (n : ℕ) → (shelves_of new).out n ≡ true → (shelves_of new).out n ≡ true
    now_out n h = h

    inl_out : (n : ℕ) → n ≡ x.rules.number → (shelves_of new).out n ≡ true
    inl_out n is = ap (shelves_of new).out is ∙ taken.out

    back : numbers_in (slice_set xs k y) ≡ numbers_in xs → (j n : ℕ) → slice_get (numbers_in (slice_set xs k y)) j ≡ Some n → slice_get (numbers_in xs) j ≡ Some n
    back is j n e = subst (λ (ns : List ℕ). slice_get ns j ≡ Some n) is e

    forth : numbers_in (slice_set xs k y) ≡ numbers_in xs → (j n : ℕ) → slice_get (numbers_in xs) j ≡ Some n → slice_get (numbers_in (slice_set xs k y)) j ≡ Some n
    forth is j n e = subst (λ (ns : List ℕ). slice_get ns j ≡ Some n) (sym is) e

-- the counts of the others stand beside the one
pub stays_out : {D : Type 0} (view : D → View) (xs : List (Shelf D Counting)) (k : ℕ) (x : Shelf D Counting) (rack now : ℕ) → slice_get xs k ≡ Some x
    → CountStays rack (view x.journal.disk).faults now 0 → total rack (faults_in view xs) ≤ total now (faults_in view (out_of xs k))
stays_out view xs k x rack now here stays =
    let parts = sum_out (λ s. (view s.journal.disk).faults) xs k x here in
    let beside = stays (faults_in view (out_of xs k)) in
    omega (arith, parts, beside)

pub rises_out : {D : Type 0} (view : D → View) (xs : List (Shelf D Counting)) (k : ℕ) (x : Shelf D Counting) (rack now : ℕ) → slice_get xs k ≡ Some x
    → CountRose rack (view x.journal.disk).faults now 0 → Rose (total rack (faults_in view xs)) (total now (faults_in view (out_of xs k)))
rises_out view xs k x rack now here rose =
    let parts = sum_out (λ s. (view s.journal.disk).faults) xs k x here in
    let beside = rose (faults_in view (out_of xs k)) in
    omega (arith, parts, beside)

pub stays_set : {D : Type 0} (view : D → View) (xs : List (Shelf D Counting)) (k : ℕ) (x y : Shelf D Counting) (rack now : ℕ) → slice_get xs k ≡ Some x
    → CountStays rack (view x.journal.disk).faults now (view y.journal.disk).faults
    → total rack (faults_in view xs) ≤ total now (faults_in view (slice_set xs k y))
stays_set view xs k x y rack now here stays =
    let parts = sum_out (λ s. (view s.journal.disk).faults) xs k x here in
    let set = faults_set view xs k x y here in
    let beside = stays (faults_in view (out_of xs k)) in
    omega (arith, parts, set, beside)

-- ---- the event crash

-- a shelf that has crashed is the one after the event
pub crash_happens : {D : Type 0} (view : D → View) (scripts : List Named) (x y : Shelf D Counting) (fate : Fate)
    → IsCrashed (rules_of x.rules) (book_in view x) (counting (counted x.nonces 0)) scripts fate (book_in view y)
    → y.rules ≡ x.rules → y.nonces ≡ x.nonces
    → happening (shelf_at view x) (crash scripts) fate ≡ (spec.live (length (book_in view y).instances), shelf_at view y)
crash_happens view scripts x y fate h rules nonces =
    let given : counting (counted x.nonces 0) ≡ counted x.nonces 0 = omega arith in
    ap (λ (p : spec.Reply × Book). in_desk p.0 p.1 (rules_of x.rules) (drawn_by p.0 (counted x.nonces 0))) h
    ∙ ap (λ n. with_nonces n (rules_of x.rules)) given
    ∙ ap (λ (c : Counting). with_nonces (counted c 0) (rules_of x.rules)) (sym nonces)
    ∙ ap (λ (r : Rules). with_nonces (counted y.nonces 0) (rules_of r)) (sym rules)
  where
    in_desk : spec.Reply → Book → spec_rules.Rules → ℕ → spec.Reply × runs.Shelf
    in_desk r b l n = (r, (let s : runs.Shelf = record { rules = l; book = b; nonces = counting n } in s))

    with_nonces : ℕ → spec_rules.Rules → spec.Reply × runs.Shelf
    with_nonces n l = (spec.live (length (book_in view y).instances), (let s : runs.Shelf = record { rules = l; book = book_in view y; nonces = n } in s))

pub crash_step : {D : Type 0} (view : D → View) (scripts : List Named) (xs : List (Shelf D Counting)) (ts us : List (Option Ticket)) (k n live : ℕ) (x y : Shelf D Counting)
    (fate : Fate) → happening (shelf_at view x) (crash scripts) fate ≡ (spec.live n, shelf_at view y) → n ≡ live
    → map (option_map ticket_of) us ≡ without_shelf (length xs) k 0 (map (option_map ticket_of) ts)
    → crashed_by (desk_with view scripts xs ts) k (happening (shelf_at view x) (crash scripts) fate) ≡ (live, desk_with view scripts (slice_set xs k y) us)
crash_step view scripts xs ts us k n live x y fate h is held =
    ap (crashed_by (desk_with view scripts xs ts) k) h
    ∙ ap (λ m. (n, made (slice_set (map (shelf_at view) xs) k (shelf_at view y)) (without_shelf m k 0 (map (option_map ticket_of) ts)))) (length-map xs (shelf_at view))
    ∙ ap (λ (hs : List (Option next.Ticket)). (n, made (slice_set (map (shelf_at view) xs) k (shelf_at view y)) hs)) (sym held)
    ∙ ap (λ (ss : List runs.Shelf). (n, made ss (map (option_map ticket_of) us))) (sym (map-set (shelf_at view) xs k y))
    ∙ ap (λ m. (m, desk_with view scripts (slice_set xs k y) us)) is
  where
    made : List runs.Shelf → List (Option next.Ticket) → Desk
    made ss hs = record { scripts = scripts; shelves = ss; held = hs }

-- what was in doubt lost or kept, the desk is after the event
pub crash_comes : {D : Type 0} (view : D → View) (scripts : List Named) (xs : List (Shelf D Counting)) (ts us : List (Option Ticket)) (k live : ℕ) (x y : Shelf D Counting)
    → slice_get xs k ≡ Some x → HasCrashed view scripts x y → y.rules ≡ x.rules → y.nonces ≡ x.nonces → length (book_in view y).instances ≡ live
    → map (option_map ticket_of) us ≡ without_shelf (length xs) k 0 (map (option_map ticket_of) ts)
    → Comes is_fault ⊥ (desk_crash (desk_with view scripts xs ts) k) (desk_with view scripts xs ts) live (desk_with view scripts (slice_set xs k y) us)
crash_comes view scripts xs ts us k live x y here crashed rules nonces is held =
    ⊎_elim (λ h. by_fate spec.lost h (λ fails. let no : ⊥ = cc in no)) (λ h. by_fate spec.kept h (λ fails. let no : ⊥ = cc in no)) (crashed (counting (counted x.nonces 0)))
  where
    by_fate : (fate : Fate) → IsCrashed (rules_of x.rules) (book_in view x) (counting (counted x.nonces 0)) scripts fate (book_in view y)
        → (is_fault fate ≡ true → ⊥)
        → Comes is_fault ⊥ (desk_crash (desk_with view scripts xs ts) k) (desk_with view scripts xs ts) live (desk_with view scripts (slice_set xs k y) us)
    by_fate fate h fails =
        is_event (desk_with view scripts xs ts) (desk_with view scripts (slice_set xs k y) us) _ _ live ⊥ fate
        (crashes (desk_with view scripts xs ts) k (shelf_at view x) (shelf_there view scripts xs ts k x here))
        (crash_step view scripts xs ts us k (length (book_in view y).instances) live x y fate (crash_happens view scripts x y fate h rules nonces) is held) fails
