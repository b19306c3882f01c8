-- What the calls of a site do to a pass.
use Rattle.std.specs.Prelude.{◌≡◌, ◌⊎◌, ◌≤◌, ◌<◌, ◌^◌, ℕ, Bool, List, [], ◌∷◌, length, Option, Some, None, option_map, nat_lt, if◌then◌else◌, slice_get, Result, Ok, Err}
use Rattle.std.specs.Global.{Vec}
use Rattle.script_value.specs.Val.{Val}
use Rattle.script_value.specs.declared.outcome.Reply.{Reply}
use Rattle.script_value.specs.declared.outcome.Reply.TheVariants.{Refused}
use Rattle.script_value.specs.declared.outcome.Refusal.TheVariants.{Unknown}
use Rattle.script_value.specs.declared.value.Value.{Value}
use Rattle.script_value.specs.Views.{meaning}
use Rattle.script_nodes.specs.Setup.{Library}
use Rattle.script_nodes.specs.Views.{library_of}
use Rattle.page_names.specs.Names.{Destination}
use Rattle.page_names.specs.Placing.{shelf_for}
use Rattle.page_names.specs.declared.names.Target.{Target}
use Rattle.page_names.specs.Views.{target_of}
use Rattle.web_disk.specs.View.{View}
use Rattle.lock_row.specs.Spots.{Spot, spot, IsOf, At, caller_at}
use Rattle.shelf.specs.Visits.{Ticket, ticket_of}
use Rattle.site.specs.declared.entry.KeptEntry.{KeptEntry}
use Rattle.site.specs.declared.opening.Opening.{Opening}
use Rattle.site.specs.declared.site.Site.{Site}
use Rattle.shelf.specs.InstanceBook.KeptStates.MachineStates.declared.segment.Segment.{Segment}
use Rattle.shelf.specs.Views.{IsRunIfAny}
use Rattle.site.specs.Openings.{opened_library}
use Rattle.site.specs.Passes.{Spots, IsSeat, HoldsTicket, Took, Published, Swept, Compacted, Ticked, Known}

-- The place of the shelf that a target is on, among so many: none where no shelf of that number is there.
abbrev pub place_for : (shelves worker : ℕ) → Destination → Option ℕ
place_for shelves worker d = if nat_lt (shelf_for shelves worker d) shelves then Some (shelf_for shelves worker d) else None

module _ {D N : Type 0} where
  -- the scripts of the shelf at this place, if there is one, as a site has them beside the lock
  abbrev pub library_at : Site D N → (place : ℕ) → Option Library
  library_at site k = option_map library_of (slice_get site.libraries.items k)

  -- a pass of this site: its worker has a seat at each shelf
  pub record IsOwn (site : Site D N) (pass : Spots D N) : Type 0 where
    pub of : IsOf site.row pass
    pub fuel : site.fuel < 2 ^ 63
    pub seats : (k : ℕ) (a : Spot (Opening D N) KeptEntry) → slice_get pass k ≡ Some a → IsSeat (library_at site k) site.fuel (caller_at pass) a.known

  -- the segment is that of the ticket's run, under the limits of the shelf at this place
  abbrev pub IsRunThere : ℕ → Spots D N → Ticket → Option Segment → Type 0
  IsRunThere k pass t segment =
      (a : Spot (Opening D N) KeptEntry) (o : Opening D N) → slice_get pass k ≡ Some a → a.known.opening ≡ o ∷ []
      → IsRunIfAny (opened_library o).all o.shelf.value.rules.fuel t segment

  -- the segment is that of the ticket's run
  abbrev pub IsRunAt : Spots D N → Ticket → Option Segment → Type 0
  IsRunAt pass t segment =
      (k : ℕ) → place_for (length pass) (caller_at pass) (ticket_of t).target ≡ Some k → IsRunThere k pass t segment

module _ {D N : Type 0} (view : D → View) (tells : Bool) (coming : N → ℕ → ℕ) where
  -- what a take comes to: it is one on the shelf of the target, or refused where the target is on none
  abbrev pub TakesOn : Option ℕ → Spots D N → Destination → Val → Result Ticket Reply → Spots D N → Type 0
  TakesOn None old target answer result new = (result ≡ Err (Refused Unknown)) × (new ≡ old)
  TakesOn (Some k) old target answer result new =
      At k (λ v w. Took view tells coming v target answer result w) old new

  -- what a take comes to, on the shelf that the target and the caller lead to
  abbrev pub TakesAt : Spots D N → Destination → Val → Result Ticket Reply → Spots D N → Type 0
  TakesAt old target answer result new = TakesOn (place_for (length old) (caller_at old) target) old target answer result new

  -- what a take comes to, by the target and the answer as they were passed
  abbrev pub TakesFor : Target → Value → Result Ticket Reply → (old new : Spots D N) → Type 0
  TakesFor target answer result old new = TakesAt old (target_of target) (meaning answer) result new

  -- a take on the shelf at this place
  abbrev pub TookAt : ℕ → Target → Value → Result Ticket Reply → (old new : Spots D N) → Type 0
  TookAt k target answer result old new = At k (λ v w. Took view tells coming v (target_of target) (meaning answer) result w) old new

  -- a publish on the shelf at this place
  abbrev pub PublishedAt : ℕ → Ticket → Reply → (old new : Spots D N) → Type 0
  PublishedAt k t reply old new = At k (λ v w. Published view tells coming v t reply w) old new

  -- a sweep of the shelf at this place
  abbrev pub SweptAt : ℕ → (tick : ℕ) → Result ℕ Reply → (old new : Spots D N) → Type 0
  SweptAt k tick result old new = At k (λ v w. Swept view tells coming v tick result w) old new

  -- the turn after a sweep of the shelf at this place that freed an instance
  abbrev pub CompactedAt : ℕ → (old new : Spots D N) → Type 0
  CompactedAt k old new = At k (λ v w. Compacted view tells coming v w) old new

  -- a tick of the shelf at this place
  abbrev pub TickedAt : ℕ → (tick : ℕ) → Result ℕ Reply → (old new : Spots D N) → Type 0
  TickedAt k tick result old new = At k (λ v w. Ticked view tells coming v tick result w) old new

  -- the pass holds the ticket at this shelf
  pub record HoldsAt (pass : Spots D N) (t : Ticket) : Type 0 where
    pub shelf : ℕ
    pub is : place_for (length pass) (caller_at pass) (ticket_of t).target ≡ Some shelf
    pub spot : Spot (Opening D N) KeptEntry
    pub at : slice_get pass shelf ≡ Some spot
    pub holds : HoldsTicket view tells coming spot.known t

  -- the pass holds the ticket by what it knows at this place
  abbrev pub HoldsThere : ℕ → Spots D N → Ticket → Type 0
  HoldsThere k pass t =
      (a : Spot (Opening D N) KeptEntry) → slice_get pass k ≡ Some a → HoldsTicket view tells coming a.known t

  -- a publish of this ticket, on the shelf that its target is on
  abbrev pub PublishesAt : Spots D N → Ticket → Reply → Spots D N → Type 0
  PublishesAt old t r new =
      (k : ℕ) × (place_for (length old) (caller_at old) (ticket_of t).target ≡ Some k)
      × PublishedAt k t r old new

  -- a visit: a take that gave a ticket, and the publish of that; or a take that gave none
  abbrev pub VisitsAt : Spots D N → Destination → Val → Reply → Spots D N → Type 0
  VisitsAt old target answer reply new =
      ((t : Ticket) × (middle : Spots D N) × TakesAt old target answer (Ok t) middle × PublishesAt middle t reply new)
      ⊎ TakesAt old target answer (Err reply) new

  -- a visit, by the target and the answer as they were passed
  abbrev pub VisitsFor : Target → Value → Reply → (old new : Spots D N) → Type 0
  VisitsFor target answer reply old new = VisitsAt old (target_of target) (meaning answer) reply new

  -- A tick so far: each shelf that answered was swept, and one where that freed an instance may be compacted; the others are as they
  -- were.
  pub record TicksSoFar (old : Spots D N) (tick : ℕ) (answers : List (Result ℕ Reply)) (new : Spots D N) : Type 0 where
    pub ticked : (k : ℕ) (r : Result ℕ Reply) → slice_get answers k ≡ Some r → (a : Spot (Opening D N) KeptEntry) → slice_get old k ≡ Some a
        → (w : Known D N) × (slice_get new k ≡ Some (spot a.table w)) × Ticked view tells coming a.known tick r w
    pub others : (k : ℕ) → length answers ≤ k → slice_get new k ≡ slice_get old k

  -- a tick that is over: each shelf was swept, and answered in its place
  pub record Ticks (old : Spots D N) (tick : ℕ) (answers : List (Result ℕ Reply)) (new : Spots D N) : Type 0 where
    pub all : length answers ≡ length old
    pub so : TicksSoFar old tick answers new

  -- these are the answers of a tick that swept each shelf
  abbrev pub AnswersTick : (tick : ℕ) → (old new : Spots D N) → Vec (Result ℕ Reply) → Type 0
  AnswersTick tick old new answers = Ticks old tick answers.items new
