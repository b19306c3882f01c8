-- Passes of a site.
use Rattle.std.proofs.Common.{◌≡◌, ◌≢◌, ◌<◌, ℕ, get_or, zero, suc, List, [], ◌∷◌, Some, slice_get, set, length, length-set, refl, sym, ◌∙◌, ap, subst}
use Rattle.std.specs.Prelude.{Bool, Option, None, option_map, Ok}
use Rattle.std.proofs.lemmas.Option.{slice_get_read}
use mathlib.Core.Logic.{dite}
use native.Mathlib.Decide.{ℕ_discrete}
use Rattle.script_nodes.specs.Setup.{Library}
use Rattle.script_nodes.specs.Views.{library_of}
use Rattle.script_nodes.specs.declared.library.Library as kept
use Rattle.script_value.specs.Val.{Val}
use Rattle.page_names.specs.Names.{Destination}
use Rattle.web_disk.specs.View.{View}
use Rattle.shelf.specs.InstanceBook.KeptStates.MachineStates.declared.segment.Segment.{Segment}
use Rattle.shelf.specs.Visits.{Ticket, ticket_of, IsRunnable}
use Rattle.shelf.specs.Views.{IsRunIfAny}
use Rattle.lock_row.specs.Spots.{Spot, spot, IsOf, At, caller_at, home_of}
use Rattle.lock_row.proofs.Places.{one_of, there, map_length}
use Rattle.lock_row.proofs.Loops.{apart_stays}
use Rattle.site.specs.declared.entry.KeptEntry.{KeptEntry}
use Rattle.site.specs.declared.opening.Opening.{Opening}
use Rattle.site.specs.declared.site.Site.{Site}
use Rattle.site.specs.Openings.{opened_library}
use Rattle.site.specs.Passes.{Spots, Known, IsSeat, HoldsTicket, Took}
use Rattle.site.specs.Sites.{IsOwn, library_at, HoldsThere, HoldsAt, IsRunAt, TakesOn, TakesAt, place_for}

-- what is read at a place of a list stands there
pub read_at : {A : Type 0} (xs ys : List A) (k : ℕ) (x : A) → xs ≡ ys → k < length xs → x ≡ get_or xs k x → slice_get ys k ≡ Some x
read_at xs ys k x same within read = subst (λ (l : List _). slice_get l k ≡ Some x) same (slice_get_read xs (length xs) k x refl within read)

pub same_opening : {A : Type 0} (l : List A) (o p : A) → l ≡ o ∷ [] → l ≡ p ∷ [] → o ≡ p
same_opening l o p is also = cc

module _ {D N : Type 0} where
  -- a site has the scripts of each opening that a pass of it knows
  pub library_known : (site : Site D N) (pass : Spots D N) (k : ℕ) (a : Spot (Opening D N) KeptEntry) (o : Opening D N) → IsOwn site pass → slice_get pass k ≡ Some a → a.known.opening ≡ o ∷ []
      → library_at site k ≡ Some (opened_library o)
  library_known site pass k a o own at is =
      let seat = own.seats k a at in
      seat.library_is ∙ ap (λ (p : Opening D N). Some (opened_library p)) (same_opening a.known.opening seat.opening o seat.opening_is is)

  seat_on : (library : Option Library) (fuel worker : ℕ) (v w : Known D N) → w.opening ≡ v.opening → w.caller ≡ v.caller → IsSeat library fuel worker v → IsSeat library fuel worker w
  seat_on library fuel worker v w opening caller seat =
      record { opening = seat.opening; opening_is = opening ∙ seat.opening_is; library_is = seat.library_is; fuel_is = seat.fuel_is; caller_is = caller ∙ seat.caller_is }

  -- the seats stay those of the worker where one goes on
  pub seats_on : (site : Site D N) (worker : ℕ) (old new : List (Spot (Opening D N) KeptEntry)) (k : ℕ) (R : Known D N → Known D N → Type 0) (at : At k R old new) → at.1.opening ≡ at.0.known.opening → at.1.caller ≡ at.0.known.caller
      → ((j : ℕ) (a : Spot (Opening D N) KeptEntry) → slice_get old j ≡ Some a → IsSeat (library_at site j) site.fuel worker a.known)
      → (j : ℕ) (b : Spot (Opening D N) KeptEntry) → slice_get new j ≡ Some b → IsSeat (library_at site j) site.fuel worker b.known
  seats_on site worker old new k R at opening caller seats j b here =
      let changed : slice_get new k ≡ Some (spot at.0.table at.1) = there k R old new at in
      dite (ℕ_discrete j k)
      (λ (same : j ≡ k).
      let is : spot at.0.table at.1 ≡ b = one_of (sym changed ∙ (ap (slice_get new) (sym same) ∙ here)) in
      subst (λ (s : Spot (Opening D N) KeptEntry). IsSeat (library_at site j) site.fuel worker s.known) is
      (subst (λ (i : ℕ). IsSeat (library_at site i) site.fuel worker at.1) (sym same) (seat_on (library_at site k) site.fuel worker at.0.known at.1 opening caller (seats k at.0 at.2))))
      (λ (ne : j ≢ k). seats j b (sym (apart_stays old j k (spot at.0.table at.1) ne) ∙ (ap (λ l. slice_get l j) (sym at.3) ∙ here)))

  caller_set : (old : Spots D N) (k : ℕ) (a : Spot (Opening D N) KeptEntry) (w : Known D N) → slice_get old k ≡ Some a → w.caller ≡ a.known.caller → caller_at (set old k (spot a.table w)) ≡ caller_at old
  caller_set [] k a w at same = refl
  caller_set (x ∷ xs) zero a w at same = same ∙ ap (λ (s : Spot (Opening D N) KeptEntry). s.known.caller) (sym (one_of at))
  caller_set (x ∷ xs) (suc k) a w at same = refl

  -- the worker of a pass stays where one seat goes on
  pub worker_on : (old new : Spots D N) (k : ℕ) (R : Known D N → Known D N → Type 0) (at : At k R old new) → at.1.caller ≡ at.0.known.caller → caller_at new ≡ caller_at old
  worker_on old new k R at same = ap caller_at at.3 ∙ caller_set old k at.0 at.1 at.2 same

  pub own_on : (site : Site D N) (old new : Spots D N) (k : ℕ) (R : Known D N → Known D N → Type 0) → IsOwn site old → IsOf site.row new → (at : At k R old new)
      → at.1.opening ≡ at.0.known.opening → at.1.caller ≡ at.0.known.caller → IsOwn site new
  own_on site old new k R own of at opening caller = record {
    of = of;
    fuel = own.fuel;
    seats = λ j b here.
        subst (λ (n : ℕ). IsSeat (library_at site j) site.fuel n b.known) (sym (worker_on old new k R at caller))
        (seats_on site (caller_at old) old new k R at opening caller own.seats j b here);
  }

  -- the shelf that was found for a target is that of the pass
  pub found_at : (site : Site D N) (pass : Spots D N) (d : Destination) (k worker : ℕ) (o : Option ℕ) → IsOwn site pass → worker ≡ caller_at pass → o ≡ place_for (length site.row.homes) worker d → o ≡ Some k
      → place_for (length pass) (caller_at pass) d ≡ Some k
  found_at site pass d k worker o own is found some =
      let len : length pass ≡ length site.row.homes = sym (map_length (λ s. home_of s) pass) ∙ ap length own.of in
      (λ i. place_for (len i) (sym is i) d) ∙ (sym found ∙ some)

module _ {D N : Type 0} (view : D → View) (tells : Bool) (coming : N → ℕ → ℕ) where
  pub holds_there : (pass : Spots D N) (t : Ticket) (k : ℕ) → HoldsAt view tells coming pass t → place_for (length pass) (caller_at pass) (ticket_of t).target ≡ Some k → HoldsThere view tells coming k pass t
  holds_there pass t k h is a at =
      let same : h.shelf ≡ k = one_of (sym h.is ∙ is) in
      let spot_is : h.spot ≡ a = one_of (sym h.at ∙ (ap (slice_get pass) same ∙ at)) in
      subst (λ (s : Spot (Opening D N) KeptEntry). HoldsTicket view tells coming s.known t) spot_is h.holds

  holds_on_shelf : (old new : Spots D N) (target : Destination) (answer : Val) (t : Ticket) (o : Option ℕ) → place_for (length old) (caller_at old) target ≡ o → TakesOn view tells coming o old target answer (Ok t) new → HoldsAt view tells coming new t
  holds_on_shelf old new target answer t None is h = absurd (let no = h.0 in let z : ⊥ = cc in z)
  holds_on_shelf old new target answer t (Some k) is at =
      let R : Known D N → Known D N → Type 0 = λ v w. Took view tells coming v target answer (Ok t) w in
      let worker : caller_at new ≡ caller_at old = worker_on old new k R at (ap (λ (v : Known D N). v.caller) at.4.goes.is) in
      let len : length new ≡ length old = ap length at.3 ∙ length-set old k (spot at.0.table at.1) in
      record {
        shelf = k;
        is = (λ i. place_for (len i) (worker i) (at.4.target_is i)) ∙ is;
        spot = spot at.0.table at.1;
        at = there k R old new at;
        holds = at.4.holds;
      }

  -- the ticket that a take gave is held by the pass
  pub takes_holds : (old new : Spots D N) (target : Destination) (answer : Val) (t : Ticket) → TakesAt view tells coming old target answer (Ok t) new → HoldsAt view tells coming new t
  takes_holds old new target answer t h = holds_on_shelf old new target answer t (place_for (length old) (caller_at old) target) refl h

  -- the scripts of the shelf that a held ticket is on stand in the site
  pub library_held : (site : Site D N) (pass : Spots D N) (t : Ticket) (k : ℕ) → IsOwn site pass → (h : HoldsAt view tells coming pass t)
      → place_for (length pass) (caller_at pass) (ticket_of t).target ≡ Some k → library_at site k ≡ Some (opened_library h.holds.opening)
  library_held site pass t k own h is =
      ap (λ (i : ℕ). library_at site i) (one_of (sym is ∙ h.is)) ∙ library_known site pass h.shelf h.spot h.holds.opening own h.at h.holds.opening_is

  -- over them it can be run
  pub runs_of : (site : Site D N) (pass : Spots D N) (t : Ticket) (k : ℕ) (library : kept.Library) → IsOwn site pass → HoldsAt view tells coming pass t
      → place_for (length pass) (caller_at pass) (ticket_of t).target ≡ Some k → slice_get site.libraries.items k ≡ Some library → IsRunnable (library_of library).all t
  runs_of site pass t k library own h is at =
      let same : opened_library h.holds.opening ≡ library_of library = one_of (sym (library_held site pass t k own h is) ∙ ap (λ l. option_map library_of l) at) in
      subst (λ (l : Library). IsRunnable l.all t) same h.holds.holds.runs

-- a run over the scripts that stand in the site, with its fuel, is one over those of the shelf, with its fuel
pub run_at : {D N : Type 0} (site : Site D N) (pass : Spots D N) (t : Ticket) (segment : Option Segment) (k : ℕ) (library : kept.Library) → IsOwn site pass
    → place_for (length pass) (caller_at pass) (ticket_of t).target ≡ Some k → slice_get site.libraries.items k ≡ Some library
    → IsRunIfAny (library_of library).all site.fuel t segment → IsRunAt pass t segment
run_at {D} {N} site pass t segment k library own on at h j is a o a_is opening_is =
    let seat = own.seats j a a_is in
    let here : k ≡ j = one_of (sym on ∙ is) in
    let same = same_opening a.known.opening seat.opening o seat.opening_is opening_is in
    let fuel : site.fuel ≡ o.shelf.value.rules.fuel = sym seat.fuel_is ∙ ap (λ (p : Opening D N). p.shelf.value.rules.fuel) same in
    let told : Some (library_of library) ≡ library_at site j = sym (ap (λ l. option_map library_of l) at) ∙ ap (λ (i : ℕ). library_at site i) here in
    let scripts : library_of library ≡ opened_library o = one_of (told ∙ library_known site pass j a o own a_is opening_is) in
    subst (λ (l : Library). IsRunIfAny l.all o.shelf.value.rules.fuel t segment) scripts
    (subst (λ (n : ℕ). IsRunIfAny (library_of library).all n t segment) fuel h)
