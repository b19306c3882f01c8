-- What workers do with their porches.
use Rattle.std.specs.Prelude.{◌≡◌, ◌≤◌, ◌<◌, ℕ, [], List, Option, Some, map, slice_get, slice_index_or, vec_len, vec_capacity}
use Rattle.std.specs.Global.{Vec}
use Rattle.std.specs.List.{AllZip}
use Rattle.web_outside.specs.View.{LinkView, PorchView}
use Rattle.http_forms.specs.Passes.{PassRules}
use Rattle.request_workers.specs.Tallies.{count_of, IsBelow}
use Rattle.request_workers.specs.Working.{EndsBy, Worked}
use Rattle.request_workers.specs.declared.tally.Tally.{Tally}
use Rattle.site_serving.specs.declared.worker.Room.{Room}
use Rattle.site_serving.specs.declared.worker.Worker.{Worker}

-- A worker served the links of its porch through its pass, to their end or until the porch failed, and has counted what came of them:
-- of each thing a thousand a link at most, and a million links.
pub record Serves {S P L : Type 0} (rules : PassRules S) (link : L → LinkView) (porch : P → PorchView L) (shown : Option ℕ) (requests : ℕ)
    (old new : Worker S P) : Type 0 where
  pub worked : Worked rules link shown requests old.pass new.pass (porch old.porch) (porch new.porch) (count_of new.tally)
  pub ended : EndsBy new.tally.end (porch old.porch) (porch new.porch)
  pub small : IsBelow (count_of new.tally) 1000000001
  pub most : (porch new.porch).most ≡ (porch old.porch).most
  pub later : (porch old.porch).faults ≤ (porch new.porch).faults

-- the passes of workers
abbrev pub passes_of : {S P : Type 0} → List (Worker S P) → List S
passes_of workers = map (λ w. w.pass) workers

-- the porches of workers
abbrev pub porches_of : {S P : Type 0} → List (Worker S P) → List P
porches_of workers = map (λ w. w.porch) workers

-- what workers counted
abbrev pub tallies_of : {S P : Type 0} → List (Worker S P) → List Tally
tallies_of workers = map (λ w. w.tally) workers

-- each of these passes is the service's own
abbrev pub AreOwn : {S : Type 0} → PassRules S → List S → Type 0
AreOwn {S} rules passes = (k : ℕ) (p : S) → slice_get passes k ≡ Some p → rules.IsOwn p

-- The pass of each of the first workers, so many of them, is the service's own.
abbrev pub HaveOwn : {S P : Type 0} → PassRules S → (count : ℕ) → List (Worker S P) → Type 0
HaveOwn {S} {P} rules count workers = (k : ℕ) (w : Worker S P) → k < count → rules.IsOwn (slice_index_or workers k w).pass

-- no pass and no porch is left
abbrev pub AreGone : {S P : Type 0} → Vec S → Vec P → Type 0
AreGone passes porches = (passes.items ≡ []) × (vec_len passes ≡ 0) × (porches.items ≡ []) × (vec_len porches ≡ 0)

-- the room for passes and for porches is as it was
abbrev pub KeepRoom : {S P : Type 0} → Vec S → Vec P → Vec S → Vec P → Type 0
KeepRoom passes porches passes_then porches_then =
    (vec_capacity passes_then ≡ vec_capacity passes) × (vec_capacity porches_then ≡ vec_capacity porches)

-- Each of the old passes served the links of the porch of its place, by the workers as they were before and after.
pub record AreServed {S P L : Type 0} (rules : PassRules S) (link : L → LinkView) (porch : P → PorchView L) (shown : Option ℕ) (requests : ℕ)
    (old_passes : List S) (old_porches : List P) (passes : List S) (porches : List P) (tallies : List Tally) : Type 0 where
  pub before : List (Worker S P)
  pub after : List (Worker S P)
  pub had_passes : passes_of before ≡ old_passes
  pub had_porches : porches_of before ≡ old_porches
  pub has_passes : passes_of after ≡ passes
  pub has_porches : porches_of after ≡ porches
  pub counted : tallies_of after ≡ tallies
  pub works : AllZip (Serves rules link porch shown requests) before after

-- there is room for so many workers and for what they count, and nothing is there yet
pub record IsRoomFor {S P : Type 0} (count : ℕ) (room : Room S P) : Type 0 where
  pub no_workers : room.workers.items ≡ []
  pub no_worker : vec_len room.workers ≡ 0
  pub workers : count ≤ vec_capacity room.workers
  pub no_tallies : room.tallies.items ≡ []
  pub no_tally : vec_len room.tallies ≡ 0
  pub tallies : count ≤ vec_capacity room.tallies
