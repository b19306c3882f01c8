-- What the steps of a run do: the shelves of one program, and the tickets that its workers hold.
use Rattle.std.specs.Prelude.{ℕ, zero, suc, ◌+◌, ◌%◌, ◌^◌, ◌==◌, Bool, true, false, List, [], ◌∷◌, ◌++◌, length, Option, Some, None, Result, Ok, Err, is_some, replicate, slice_get, slice_set, option_and_then, option_map, if◌then◌else◌}
use Rattle.server_limits.specs.Counts.{most_workers}
use Rattle.script_value.specs.Val.{Val}
use Rattle.script_value.specs.declared.outcome.Refusal.TheVariants.{Unknown}
use Rattle.script_value.specs.declared.outcome.Reply.{Reply}
use Rattle.script_value.specs.declared.outcome.Reply.TheVariants as reply
use Rattle.page_names.specs.Names.{Destination, destination_of}
use Rattle.script_nodes.specs.Setup.{Named}
use Rattle.replay_spec.specs.Rules.{Rules}
use Rattle.replay_spec.specs.Next.{Ticket}
use Rattle.replay_spec.specs.Step.{Event, take, publish, sweep, compact, crash, Fate, plain, disk_fault}
use Rattle.replay_spec.specs.Step as spec
use Rattle.replay_spec.specs.Runs.{Shelf, empty_shelf, shelf_step}
use Rattle.play_steps.specs.Rules.{StageRules, Call, answered, event}
use Rattle.play_desk.specs.Edits.{edited}
use Rattle.play_desk.specs.Target.{answer_to, path_and_query, shelf_for}

-- a reply as it is told; what only a take, a sweep, a compaction or a crash is answered has no text of its own here
abbrev pub told : spec.Reply → Reply
told (spec.shown page url) = reply.Page page url
told (spec.finished page) = reply.Finished page
told (spec.ended page) = reply.Ended page
told (spec.refusal r) = reply.Refused r
told (spec.fault k) = reply.Fault k
told (spec.out_of_fuel cost) = reply.Fuel cost
told (spec.shelf_full count) = reply.ShelfFull count
told (spec.oversize length) = reply.Oversize length
told (spec.journal_full length) = reply.JournalFull length
told (spec.disk_failed count) = reply.DiskFault count
told (spec.down count) = reply.Down count
told spec.following = reply.Following
told spec.worn = reply.Worn
told _ = reply.Memory

-- a desk: the setup that a shelf is opened with next, the shelves in their order, and the ticket that each worker holds
pub record Desk : Type 0 where
  pub scripts : List Named
  pub shelves : List Shelf
  pub held : List (Option Ticket)

-- the nonces of each shelf are 0, 1, 2, .., in 64 bits
abbrev pub counting : ℕ → ℕ
counting k = k % 2 ^ 64

-- a shelf where the count of nonces that it has given is one of 64 bits
abbrev pub in_64_bits : Shelf → Shelf
in_64_bits s = record s { nonces = counting s.nonces }

-- an event of a shelf: its reply, and the shelf after it
abbrev pub happening : Shelf → Event → Fate → spec.Reply × Shelf
happening s what fate = let x = shelf_step counting s what fate in (x.0, in_64_bits x.1)

-- so many shelves of these scripts, from number 0 on, with nothing on them
abbrev pub first_shelves : (rules : ℕ → Rules) → List Named → (count : ℕ) → List Shelf
first_shelves rules scripts zero = []
first_shelves rules scripts (suc n) = first_shelves rules scripts n ++ empty_shelf (rules n) scripts n ∷ []

-- the desk of so many shelves with nothing on them, and of workers that hold nothing
abbrev pub first_desk : (rules : ℕ → Rules) → List Named → (count : ℕ) → Desk
first_desk rules scripts count =
    record { scripts = scripts; shelves = first_shelves rules scripts count; held = replicate most_workers None }

-- The ticket that a worker holds, if it holds one.
abbrev pub ticket_of : Desk → (worker : ℕ) → Option Ticket
ticket_of d worker = option_and_then (λ t. t) (slice_get d.held worker)

-- the desk after an event of a shelf, and with what the worker holds then
abbrev pub behind : Desk → (shelf : ℕ) → Shelf → (worker : ℕ) → Option Ticket → Desk
behind d k s worker t = record d { shelves = slice_set d.shelves k s; held = slice_set d.held worker t }

-- the desk after an event of a shelf by which nobody's ticket changes
abbrev pub with_shelf : Desk → (shelf : ℕ) → Shelf → Desk
with_shelf d k s = record d { shelves = slice_set d.shelves k s }

-- a take that is given a number leaves the worker its ticket
abbrev pub taken_by : Desk → ℕ → ℕ → Destination → Val → spec.Reply × Shelf → Result ℕ Reply × Desk
taken_by d k worker target answer (spec.taken number nonce, s) =
    (Ok number, behind d k s worker (Some (record { target = target; answer = answer; number = number; nonce = nonce })))
taken_by d k worker target answer (r, s) = (Err (told r), with_shelf d k s)

-- a take on a shelf; on one that is not there each target is unknown, and its take is no event
abbrev pub take_on : Desk → ℕ → ℕ → Destination → Val → Option Shelf → Call Desk Fate (Result ℕ Reply)
take_on d k worker target answer None = answered (Err (reply.Refused Unknown))
take_on d k worker target answer (Some s) =
    event (λ fate. taken_by d k worker target answer (happening s (take target answer) fate))

-- a take of what a path names; a path that names nothing is unknown, and its take is no event
abbrev pub take_at : Desk → ℕ → Val → Option Destination → Call Desk Fate (Result ℕ Reply)
take_at d worker answer None = answered (Err (reply.Refused Unknown))
take_at d worker answer (Some target) =
    let k = shelf_for (length d.shelves) worker target in take_on d k worker target answer (slice_get d.shelves k)

-- a worker's take of a target
abbrev pub desk_take : Desk → (worker : ℕ) → (target : List ℕ) → Call Desk Fate (Result ℕ Reply)
desk_take d worker target =
    let parts = path_and_query target in take_at d worker (answer_to parts.1) (destination_of parts.0)

-- What a publish tells and leaves, where it left the shelf so.
abbrev pub published_by : Desk → ℕ → ℕ → spec.Reply × Shelf → Reply × Desk
published_by d k worker (r, s) = (told r, behind d k s worker None)

-- A publish of this ticket on a shelf, if there is one.
abbrev pub publish_on : Desk → ℕ → ℕ → Ticket → Option Shelf → Call Desk Fate Reply
publish_on d k worker t None = answered (reply.Refused Unknown)
publish_on d k worker t (Some s) = event (λ fate. published_by d k worker (happening s (publish t) fate))

-- A publish of the ticket that a worker holds, if it holds one.
abbrev pub publish_held : Desk → ℕ → Option Ticket → Call Desk Fate Reply
publish_held d worker None = answered (reply.Refused Unknown)
publish_held d worker (Some t) =
    let k = shelf_for (length d.shelves) worker t.target in publish_on d k worker t (slice_get d.shelves k)

-- the publish of what a worker holds
abbrev pub desk_publish : Desk → (worker : ℕ) → Call Desk Fate Reply
desk_publish d worker = publish_held d worker (ticket_of d worker)

-- a sweep tells how many instances it freed
abbrev pub swept_by : Desk → ℕ → spec.Reply × Shelf → Result ℕ Reply × Desk
swept_by d k (spec.swept count, s) = (Ok count, with_shelf d k s)
swept_by d k (r, s) = (Err (told r), with_shelf d k s)

-- A sweep of a shelf, if there is one.
abbrev pub sweep_on : Desk → ℕ → ℕ → Option Shelf → Call Desk Fate (Result ℕ Reply)
sweep_on d k tick None = answered (Err (reply.Refused Unknown))
sweep_on d k tick (Some s) = event (λ fate. swept_by d k (happening s (sweep tick) fate))

-- A sweep of the shelf of this number.
abbrev pub desk_sweep : Desk → (shelf tick : ℕ) → Call Desk Fate (Result ℕ Reply)
desk_sweep d k tick = sweep_on d k tick (slice_get d.shelves k)

-- a compaction tells how long the file is
abbrev pub compacted_by : Desk → ℕ → spec.Reply × Shelf → Result ℕ Reply × Desk
compacted_by d k (spec.compacted length, s) = (Ok length, with_shelf d k s)
compacted_by d k (r, s) = (Err (told r), with_shelf d k s)

-- A compaction of a shelf, if there is one.
abbrev pub compact_on : Desk → ℕ → Option Shelf → Call Desk Fate (Result ℕ Reply)
compact_on d k None = answered (Err (reply.Refused Unknown))
compact_on d k (Some s) = event (λ fate. compacted_by d k (happening s compact fate))

-- A compaction of the shelf of this number.
abbrev pub desk_compact : Desk → (shelf : ℕ) → Call Desk Fate (Result ℕ Reply)
desk_compact d k = compact_on d k (slice_get d.shelves k)

-- whether a worker's ticket is one of this shelf
abbrev pub is_of : (count shelf worker : ℕ) → Option Ticket → Bool
is_of count k worker None = false
is_of count k worker (Some t) = shelf_for count worker t.target == k

-- what a worker holds once the tickets of this shelf are lost
abbrev pub left_of : (count shelf worker : ℕ) → Option Ticket → Option Ticket
left_of count k worker t = if is_of count k worker t then None else t

-- what the workers from this one on hold once the tickets of this shelf are lost
abbrev pub without_shelf : (count shelf worker : ℕ) → List (Option Ticket) → List (Option Ticket)
without_shelf count k worker [] = []
without_shelf count k worker (t ∷ ts) = left_of count k worker t ∷ without_shelf count k (worker + 1) ts

-- a crash loses the shelf's tickets, and tells how many instances are live after it
abbrev pub crashed_by : Desk → (shelf : ℕ) → spec.Reply × Shelf → ℕ × Desk
crashed_by d k (spec.live count, s) =
    (count, record d { shelves = slice_set d.shelves k s; held = without_shelf (length d.shelves) k 0 d.held })
crashed_by d k (r, s) = (0, with_shelf d k s)

-- A crash of a shelf, if there is one.
abbrev pub crash_on : Desk → (shelf : ℕ) → Option Shelf → Call Desk Fate ℕ
crash_on d k None = answered 0
crash_on d k (Some s) = event (λ fate. crashed_by d k (happening s (crash d.scripts) fate))

-- a crash of a shelf, which is opened again with the desk's setup
abbrev pub desk_crash : Desk → (shelf : ℕ) → Call Desk Fate ℕ
desk_crash d k = crash_on d k (slice_get d.shelves k)

-- an edit changes the setup, and no shelf
abbrev pub desk_edit : Desk → (name text : List ℕ) → Option Desk
desk_edit d name text = option_map (λ scripts. record d { scripts = scripts }) (edited d.scripts name text)

-- whether a fate is that a call of the disk failed
abbrev pub is_fault : Fate → Bool
is_fault (disk_fault count) = true
is_fault _ = false

-- what a run's steps do to a desk
abbrev pub desk_rules : StageRules
desk_rules = record {
  State = Desk;
  Fate = Fate;
  plain = plain;
  fails = is_fault;
  shelves = λ d. length d.shelves;
  holds = λ d worker. is_some (ticket_of d worker);
  take = desk_take;
  publish = desk_publish;
  sweep = desk_sweep;
  compact = desk_compact;
  crash = desk_crash;
  edit = desk_edit;
}
