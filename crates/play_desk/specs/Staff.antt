-- What shelves with their workers stand for, and what holds of them between the steps of a run.
use Rattle.std.specs.Prelude.{◌≡◌, ◌≢◌, ◌≤◌, ◌<◌, ◌-◌, ◌+◌, ◌^◌, ℕ, Bool, true, List, map, length, min, sum_by, slice_get, Option, Some, None, Result, is_some, option_map, option_and_then}
use Rattle.server_limits.specs.Limits.{most_shelves}
use Rattle.server_limits.specs.Counts.{most_workers}
use Rattle.web_outside.specs.Causes.{Rose}
use Rattle.web_outside.specs.Counted.{counted}
use Rattle.web_outside.specs.declared.nonces.Counting.{Counting}
use Rattle.web_disk.specs.View.{View}
use Rattle.page_names.specs.Views.{target_of}
use Rattle.script_nodes.specs.Setup.{Named}
use Rattle.setup_reader.specs.Texts.{IsReadSetup}
use Rattle.replay_spec.specs.Book.{Book}
use Rattle.replay_spec.specs.Admission.{admit, refusal_of}
use Rattle.replay_spec.specs.Invariant.{IsOrderly}
use Rattle.replay_spec.specs.Laws.{Leads}
use Rattle.replay_spec.specs.Runs as runs
use Rattle.shelf.specs.Visits.{FitsAs, IsRunnable, ticket_of, Ticket}
use Rattle.replay_spec.specs.Next as next
use Rattle.shelf.specs.Views.{book_in, library_in, shelf_of, HasTargetScript, IsInOrder, IsOut, IsOwnShelf}
use Rattle.shelf.specs.Tickets.{GoesOnFromItsPage}
use Rattle.shelf.specs.declared.shelf.Shelf.{Shelf}
use Rattle.script_value.specs.declared.outcome.Reply.{Reply}
use Rattle.play_steps.specs.Rules.{Takes, Publishes, Sweeps, Compacts}
use Rattle.play_desk.specs.Desk.{Desk, desk_rules, without_shelf}
use Rattle.play_desk.specs.Target.{shelf_for}
use Rattle.play_desk.specs.declared.staff.Staff.{Staff}

-- a shelf as a desk keeps it: it has given as many nonces as its counter tells
abbrev pub shelf_at : {D : Type 0} → (D → View) → Shelf D Counting → runs.Shelf
shelf_at view s = shelf_of view (counted s.nonces 0) s

-- the shelves with their workers' tickets, and the setup that a shelf is opened with next
abbrev pub desk_with : {D : Type 0} → (D → View) → List Named → List (Shelf D Counting) → List (Option Ticket) → Desk
desk_with view scripts shelves tickets = record {
  scripts = scripts;
  shelves = map (shelf_at view) shelves;
  held = map (option_map ticket_of) tickets;
}

-- The desk that shelves on their disks and the tickets of their workers stand for.
abbrev pub desk_of : {D : Type 0} → (D → View) → List Named → Staff D → Desk
desk_of view scripts s = desk_with view scripts s.shelves.items s.tickets

-- the ticket that a worker holds
abbrev pub held_by : {D : Type 0} → Staff D → (worker : ℕ) → Option next.Ticket
held_by s worker = option_and_then (λ t. t) (slice_get (map (option_map ticket_of) s.tickets) worker)

-- the worker holds a ticket
abbrev pub HoldsTicket : {D : Type 0} → Staff D → (worker : ℕ) → Type 0
HoldsTicket s worker = is_some (held_by s worker) ≡ true

-- What a publish asks of the ticket: its number is out on the shelf, it can be run over the shelf's library, and that of an answer goes on
-- from its page.
pub record IsUnspent {D : Type 0} (view : D → View) (s : Shelf D Counting) (t : Ticket) : Type 0 where
  pub out : IsOut view s t
  pub runs : IsRunnable (library_in s).all t
  pub script : HasTargetScript (library_in s) t
  pub goes : GoesOnFromItsPage view s t

-- the ticket is for the visit that its target was admitted as when it was taken, on the book that the shelf had then, which had the
-- same setup
pub record IsOpen {D : Type 0} (view : D → View) (s : Shelf D Counting) (t : Ticket) : Type 0 where
  pub then : Book
  pub orderly : IsOrderly then
  pub leads : Leads then (book_in view s)
  pub setup : (book_in view s).scripts ≡ then.scripts
  pub fits : FitsAs (library_in s).all then t (admit then (target_of t.target))
  pub admitted : refusal_of (admit then (target_of t.target)) ≡ None

-- the place of the shelf that a worker's ticket is of, among so many
abbrev pub place_of : (count worker : ℕ) → Ticket → ℕ
place_of count worker t = shelf_for count worker (target_of t.target)

-- a ticket that is held now was held, and is of another shelf than the one at this place
abbrev pub KeepsOthers : (count place : ℕ) → (old new : List (Option Ticket)) → Type 0
KeepsOthers count place old new =
    (w : ℕ) (t : Ticket) → slice_get new w ≡ Some (Some t) → (slice_get old w ≡ Some (Some t)) × (place_of count w t ≢ place)

-- Of so many shelves, the tickets of the one at this place are lost, and all others are held as before.
abbrev pub LosesTickets : (count place : ℕ) → (old new : List (Option Ticket)) → Type 0
LosesTickets count place old new = map (option_map ticket_of) new ≡ without_shelf count place 0 (map (option_map ticket_of) old)

-- this holds of the ticket on the shelf at a place
pub record HoldsAt {D : Type 0} (Q : Shelf D Counting → Ticket → Type 0) (shelves : List (Shelf D Counting)) (place : ℕ) (t : Ticket) : Type 0 where
  pub shelf : Shelf D Counting
  pub there : slice_get shelves place ≡ Some shelf
  pub held : Q shelf t

-- this holds of each ticket that a worker holds, on the ticket's shelf
abbrev pub OfEachTicket : {D : Type 0} → (Shelf D Counting → Ticket → Type 0) → List (Shelf D Counting) → List (Option Ticket) → Type 0
OfEachTicket Q shelves tickets =
    (w : ℕ) (t : Ticket) → slice_get tickets w ≡ Some (Some t) → HoldsAt Q shelves (place_of (length shelves) w t) t

-- the numbers of shelves
abbrev pub numbers_in : {D : Type 0} → List (Shelf D Counting) → List ℕ
numbers_in shelves = map (λ x. x.rules.number) shelves

-- how often the disks of shelves have failed in all
abbrev pub faults_in : {D : Type 0} → (D → View) → List (Shelf D Counting) → ℕ
faults_in view shelves = sum_by (λ x. (view x.journal.disk).faults) shelves

-- each of these shelves has a number of its own
abbrev pub HaveOwnNumbers : {D : Type 0} → List (Shelf D Counting) → Type 0
HaveOwnNumbers shelves =
    (j k n : ℕ) → slice_get (numbers_in shelves) j ≡ Some n → slice_get (numbers_in shelves) k ≡ Some n → j ≡ k

-- the number of each of these shelves is its place
abbrev pub AreNumbered : {D : Type 0} → List (Shelf D Counting) → Type 0
AreNumbered shelves = (k n : ℕ) → slice_get (numbers_in shelves) k ≡ Some n → n ≡ k

-- the number of each of these shelves is one that a rack has disks for
abbrev pub AreLow : {D : Type 0} → List (Shelf D Counting) → Type 0
AreLow shelves = (k n : ℕ) → slice_get (numbers_in shelves) k ≡ Some n → n < most_shelves

-- Each shelf is in order, under the number that is its place. What workers hold are tickets that their shelves can publish, on each of
-- different numbers.
pub record AreFit {D : Type 0} (view : D → View) (tells : Bool) (shelves : List (Shelf D Counting)) (tickets : List (Option Ticket)) : Type 0 where
  pub in_order : (k : ℕ) (x : Shelf D Counting) → slice_get shelves k ≡ Some x → IsInOrder view tells x
  pub numbers : AreNumbered shelves
  pub few : length shelves ≤ most_shelves
  pub count : length tickets ≡ most_workers
  pub unspent : OfEachTicket (IsUnspent view) shelves tickets
  pub apart : (v w : ℕ) (t u : Ticket) → slice_get tickets v ≡ Some (Some t) → slice_get tickets w ≡ Some (Some u)
      → place_of (length shelves) v t ≡ place_of (length shelves) w u → t.number ≡ u.number → v ≡ w

-- Each shelf of a staff is in order, and the tickets of its workers can be published.
abbrev pub IsFit : {D : Type 0} → (D → View) → Bool → Staff D → Type 0
IsFit view tells s = AreFit view tells s.shelves.items s.tickets

-- The setup that a shelf is opened with next is what its names and texts are read as, and the shelves with their workers' tickets are fit.
pub record IsReady {D : Type 0} (view : D → View) (tells : Bool) (scripts : List Named) (s : Staff D) : Type 0 where
  pub read : IsReadSetup scripts
  pub fit : IsFit view tells s

-- Each shelf is this program's own, and what workers hold are tickets that are open on their shelves. So it is of shelves that were
-- opened on empty disks, which tell their bytes, whatever happens then.
pub record AreOwn {D : Type 0} (view : D → View) (tells : Bool) (shelves : List (Shelf D Counting)) (tickets : List (Option Ticket)) : Type 0 where
  pub own : (k : ℕ) (x : Shelf D Counting) → slice_get shelves k ≡ Some x → IsOwnShelf view tells x
  pub are_open : OfEachTicket (IsOpen view) shelves tickets

-- The shelves of a staff are this program's own, and the tickets of its workers are open on them.
abbrev pub IsOwn : {D : Type 0} → (D → View) → Bool → Staff D → Type 0
IsOwn view tells s = AreOwn view tells s.shelves.items s.tickets

-- shelves and tickets that were this program's own are so still
abbrev pub KeepsOwn : {D : Type 0} → (D → View) → Bool → (old new : Staff D) → Type 0
KeepsOwn view tells old new = IsOwn view tells old → IsOwn view tells new

-- how often a rack and disks that are out of it have failed, up to the type's end
abbrev pub total : (rack disks : ℕ) → ℕ
total rack disks = min (rack + disks) (2 ^ 64 - 1)

-- beside a rack of any count of faults the whole count rose, with these counts of the disks before and now
abbrev pub RoseBeside : (before now : ℕ) → Type 0
RoseBeside before now = (rack : ℕ) → Rose (total rack before) (total rack now)

-- the disks that are out of the rack are those of the shelves
pub record IsHome {D : Type 0} (shelves : List (Shelf D Counting)) (out : ℕ → Bool) : Type 0 where
  pub ours : (k n : ℕ) → slice_get (numbers_in shelves) k ≡ Some n → out n ≡ true
  pub only : (n : ℕ) → out n ≡ true → (k : ℕ) × (slice_get (numbers_in shelves) k ≡ Some n)

-- beside a rack of any count of faults the whole count rose, by the disks of a staff's shelves
abbrev pub RisesBy : {D : Type 0} → (D → View) → (old new : Staff D) → Type 0
RisesBy view old new = RoseBeside (faults_in view old.shelves.items) (faults_in view new.shelves.items)

-- a worker's take of a target does what the desk's does, whatever setup a shelf is opened with next
abbrev pub TakesTicket : {D : Type 0} → (D → View) → (old : Staff D) → (worker : ℕ) → (target : List ℕ) → Result ℕ Reply → (new : Staff D) → Type 0
TakesTicket view old worker target result new =
    (scripts : List Named) → Takes desk_rules (RisesBy view old new) (desk_of view scripts old) worker target result (desk_of view scripts new)

-- a publish of what a worker holds, of own shelves, does what the desk's does
abbrev pub PublishesTicket : {D : Type 0} → (D → View) → Bool → (old : Staff D) → (worker : ℕ) → Reply → (new : Staff D) → Type 0
PublishesTicket view tells old worker reply new =
    IsOwn view tells old
    → (scripts : List Named) → Publishes desk_rules (RisesBy view old new) (desk_of view scripts old) worker reply (desk_of view scripts new)

-- a sweep of a shelf does what the desk's does
abbrev pub SweepsShelf : {D : Type 0} → (D → View) → (old : Staff D) → (shelf tick : ℕ) → Result ℕ Reply → (new : Staff D) → Type 0
SweepsShelf view old shelf tick result new =
    (scripts : List Named) → Sweeps desk_rules (RisesBy view old new) (desk_of view scripts old) shelf tick result (desk_of view scripts new)

-- a compaction of a shelf does what the desk's does
abbrev pub CompactsShelf : {D : Type 0} → (D → View) → (old : Staff D) → (shelf : ℕ) → Result ℕ Reply → (new : Staff D) → Type 0
CompactsShelf view old shelf result new =
    (scripts : List Named) → Compacts desk_rules (RisesBy view old new) (desk_of view scripts old) shelf result (desk_of view scripts new)

-- a staff has the same shelves as before, and the count of their disks' faults did not fall
pub record StaysThere {D : Type 0} (view : D → View) (old new : Staff D) : Type 0 where
  pub numbers : numbers_in new.shelves.items ≡ numbers_in old.shelves.items
  pub later : faults_in view old.shelves.items ≤ faults_in view new.shelves.items
