-- What contracts see of the forms in memory that give links.
use Rattle.std.specs.Prelude.{◌≡◌, ◌==◌, ◌||◌, ◌+◌, ◌-◌, ◌^◌, not, min, ℕ, Bool, false, List, [], length, map, sum_by, replicate, Option, Some, None, if◌then◌else◌, Result, Ok, Err}
use Rattle.web_outside.specs.View.{LinkView, PorchView, DoorView, SeedsView}
use Rattle.web_outside.specs.Counted.{from_zero}
use Rattle.web_outside.specs.declared.nonces.Counting.{Counting}
use Rattle.web_outside.specs.declared.seeds.ListSeeds.{ListSeeds}
use Rattle.web_outside.specs.declared.link.TextLink.{TextLink}
use Rattle.web_outside.specs.declared.list_porch.ListPorch.{ListPorch}
use Rattle.web_outside.specs.declared.list_door.ListDoor.{ListDoor}
use Rattle.web_outside.specs.declared.door.DoorFault.{DoorFault}
use Rattle.web_outside.specs.declared.door.DoorFault.TheVariants.{Failed, Memory}
use Rattle.web_outside.specs.declared.seeds.SeedFault.{SeedFault}
use Rattle.web_outside.specs.declared.seeds.SeedFault.TheVariants.{Failed as SeedFailed, Memory as SeedMemory}
use Rattle.web_outside.specs.Views.{is_listed, source_view, sink_view}

-- the links that are still to come, in order
abbrev pub porch_coming : ListPorch → List TextLink
porch_coming porch = porch.coming.items

-- the links that were handed back, in order
abbrev pub porch_served : ListPorch → List TextLink
porch_served porch = porch.served.items

-- no more links come: as many were given as may be, or none is to come
abbrev pub porch_ended : ListPorch → Bool
porch_ended porch = (porch.given == porch.most) || (length porch.coming.items == 0)

-- a porch that gave no link yet, gives at most so many, and counts no fault
pub record IsOpened (connections : ℕ) (porch : ListPorch) : Type 0 where
  pub served : porch.served.items ≡ []
  pub given : porch.given ≡ 0
  pub most : porch.most ≡ connections
  pub home : porch.lent ≡ false
  pub calls : porch.calls ≡ 0
  pub faults : porch.faults ≡ 0

-- a porch in memory tells its links
abbrev pub porch_view : ListPorch → PorchView TextLink
porch_view porch = record {
  coming = Some (porch_coming porch);
  served = Some (porch_served porch);
  given = porch.given;
  most = porch.most;
  lent = porch.lent;
  faults = porch.faults;
}

-- a link in memory has a source in memory and a sink in memory
abbrev pub link_view : TextLink → LinkView
link_view link = record { input = source_view link.input; output = sink_view link.output }

-- the links to come of each porch
abbrev pub all_coming : List ListPorch → List (List TextLink)
all_coming porches = map porch_coming porches

-- the links that the porches of a door will give at its own port; at another it gives none
abbrev pub links_at : ListDoor → (port : ℕ) → Option (List (List TextLink))
links_at door port = if port == door.port then Some (all_coming door.porches.items) else None

-- what contracts see of a door in memory: the links that it has left, those that it closed, and its faults
abbrev pub door_view : ListDoor → DoorView ListPorch TextLink
door_view door = record { links = links_at door; closed = Some door.closed.items; faults = door.faults }

-- the numbers of the calls that fail, of each porch
abbrev pub all_failing : List ListPorch → List (List ℕ)
all_failing porches = map (λ porch. porch.failing.items) porches

-- the next listening fails: it is listed, the port is another, or there is not one porch for each worker
abbrev pub listen_fails : ListDoor → (port workers : ℕ) → Bool
listen_fails door port workers =
    is_listed door.listens door.failing.items || (not (port == door.port) || not (length door.porches.items == workers))

-- how often a listening failed, after one with this answer
abbrev pub faults_after_listen : {T : Type 0} → Result T DoorFault → ℕ → ℕ
faults_after_listen (Ok porches) faults = faults
faults_after_listen (Err Failed) faults = min (faults + 1) (2 ^ 64 - 1)
faults_after_listen (Err Memory) faults = faults

-- the faults of all the porches
abbrev pub all_faults : List ListPorch → ℕ
all_faults porches = sum_by (λ porch. porch.faults) porches

-- what a porch is told at first stays
abbrev pub SamePorch : ListPorch → ListPorch → Type 0
SamePorch old new = (new.most ≡ old.most) × (new.failing.items ≡ old.failing.items)

-- what a door is told at first stays
abbrev pub SameDoor : ListDoor → ListDoor → Type 0
SameDoor old new = (new.port ≡ old.port) × (new.failing.items ≡ old.failing.items)

-- how often a draw failed, after one with this answer
abbrev pub faults_after_draw : {T : Type 0} → Result T SeedFault → ℕ → ℕ
faults_after_draw (Ok sources) faults = faults
faults_after_draw (Err SeedFailed) faults = min (faults + 1) (2 ^ 64 - 1)
faults_after_draw (Err SeedMemory) faults = faults

-- each source of seeds in memory counts from 0 on
abbrev pub seeds_view : ListSeeds → SeedsView Counting
seeds_view seeds = record { gives = λ count. Some (replicate count from_zero); faults = seeds.faults }
