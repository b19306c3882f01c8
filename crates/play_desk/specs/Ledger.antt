-- The events that lines are. A ledger is a stage without shelves: it is given the replies to come, and enters each event with the
-- next of them.
use Rattle.std.specs.Prelude.{ℕ, List, [], ◌∷◌, ◌++◌, Option, Some, None, Result, Ok, Err, is_some, slice_get, slice_set, length, nat_lt, option_and_then, option_map, if◌then◌else◌}
use Rattle.script_value.specs.Val.{Val}
use Rattle.script_value.specs.declared.outcome.Refusal.TheVariants.{Unknown}
use Rattle.script_value.specs.declared.outcome.Reply as outcome
use Rattle.script_value.specs.declared.outcome.Reply.TheVariants.{Refused}
use Rattle.page_names.specs.Names.{Destination, destination_of}
use Rattle.replay_spec.specs.Next.{Ticket}
use Rattle.replay_spec.specs.Step.{Event, take, publish, sweep, compact, crash, Fate, plain, Reply, taken, swept, compacted, live, memory}
use Rattle.script_nodes.specs.Setup.{Named}
use Rattle.play_steps.specs.Rules.{StageRules, Call, answered, event}
use Rattle.play_steps.specs.Step.{Step}
use Rattle.play_steps.specs.Transcript.{Run, text_of, transcript}
use Rattle.play_desk.specs.Edits.{edited}
use Rattle.play_desk.specs.Target.{answer_to, path_and_query, shelf_for}
use Rattle.play_desk.specs.Desk.{Desk, told, is_fault, without_shelf}

-- an event of the shelf of this number, its fate, and what it was answered
pub record Entry : Type 0 where
  pub shelf : ℕ
  pub event : Event
  pub fate : Fate
  pub reply : Reply

-- a ledger: the setup that a shelf is opened with next; how many shelves there are; the ticket that each worker holds; the replies to come; and what was entered
pub record Ledger : Type 0 where
  pub scripts : List Named
  pub count : ℕ
  pub held : List (Option Ticket)
  pub replies : List Reply
  pub entries : List Entry

-- a ledger for as many shelves as a desk has, and for the workers that are at it
abbrev pub ledger_of : Desk → List Reply → List Entry → Ledger
ledger_of d replies entries = record { scripts = d.scripts; count = length d.shelves; held = d.held; replies = replies; entries = entries }

-- the reply to the next event; a reply that is not listed is `memory`
abbrev pub first_reply : List Reply → Reply
first_reply [] = memory
first_reply (r ∷ replies) = r

-- the replies to the events after the next one
abbrev pub later_replies : List Reply → List Reply
later_replies [] = []
later_replies (r ∷ replies) = replies

-- an event is entered, with the next reply
abbrev pub entered : Ledger → (shelf : ℕ) → Event → Fate → Ledger
entered l k x fate = record l {
  replies = later_replies l.replies;
  entries = l.entries ++ record { shelf = k; event = x; fate = fate; reply = first_reply l.replies } ∷ [];
}

-- the ledger where the worker holds this from now on
abbrev pub holding : Ledger → (worker : ℕ) → Option Ticket → Ledger
holding l worker t = record l { held = slice_set l.held worker t }

-- a take that was given a number leaves the worker its ticket
abbrev pub taken_in : Ledger → (worker : ℕ) → Destination → Val → Reply → Result ℕ outcome.Reply × Ledger
taken_in l worker target answer (taken number nonce) =
    (Ok number, holding l worker (Some (record { target = target; answer = answer; number = number; nonce = nonce })))
taken_in l worker target answer r = (Err (told r), l)

-- a take on a shelf; on one that is not there it is no event, and its target is unknown
abbrev pub take_on : Ledger → (shelf worker : ℕ) → Destination → Val → Call Ledger Fate (Result ℕ outcome.Reply)
take_on l k worker target answer =
    if nat_lt k l.count
    then event (λ fate. taken_in (entered l k (take target answer) fate) worker target answer (first_reply l.replies))
    else answered (Err (Refused Unknown))

-- a take of what a path names; where that is nothing it is no event, and its target is unknown
abbrev pub take_at : Ledger → (worker : ℕ) → Val → Option Destination → Call Ledger Fate (Result ℕ outcome.Reply)
take_at l worker answer None = answered (Err (Refused Unknown))
take_at l worker answer (Some target) = take_on l (shelf_for l.count worker target) worker target answer

-- A take of a target by a worker, as far as a ledger tells it.
abbrev pub ledger_take : Ledger → (worker : ℕ) → (target : List ℕ) → Call Ledger Fate (Result ℕ outcome.Reply)
ledger_take l worker target =
    let parts = path_and_query target in take_at l worker (answer_to parts.1) (destination_of parts.0)

-- a publish is of the ticket that the worker holds
abbrev pub publish_on : Ledger → (shelf worker : ℕ) → Ticket → Call Ledger Fate outcome.Reply
publish_on l k worker t =
    if nat_lt k l.count
    then event (λ fate. (told (first_reply l.replies), holding (entered l k (publish t) fate) worker None))
    else answered (Refused Unknown)

-- A publish of the ticket that a worker holds, as far as a ledger tells it.
abbrev pub publish_held : Ledger → (worker : ℕ) → Option Ticket → Call Ledger Fate outcome.Reply
publish_held l worker None = answered (Refused Unknown)
publish_held l worker (Some t) = publish_on l (shelf_for l.count worker t.target) worker t

-- The ticket that a worker holds by a ledger, if it holds one.
abbrev pub ticket_in : Ledger → (worker : ℕ) → Option Ticket
ticket_in l worker = option_and_then (λ t. t) (slice_get l.held worker)

-- A worker's publish, as far as a ledger tells it.
abbrev pub ledger_publish : Ledger → (worker : ℕ) → Call Ledger Fate outcome.Reply
ledger_publish l worker = publish_held l worker (ticket_in l worker)

-- What a sweep with this reply tells and leaves of a ledger.
abbrev pub swept_in : Ledger → Reply → Result ℕ outcome.Reply × Ledger
swept_in l (swept count) = (Ok count, l)
swept_in l r = (Err (told r), l)

-- A sweep of the shelf of this number, as far as a ledger tells it.
abbrev pub ledger_sweep : Ledger → (shelf tick : ℕ) → Call Ledger Fate (Result ℕ outcome.Reply)
ledger_sweep l k tick =
    if nat_lt k l.count
    then event (λ fate. swept_in (entered l k (sweep tick) fate) (first_reply l.replies))
    else answered (Err (Refused Unknown))

-- What a compaction with this reply tells and leaves of a ledger.
abbrev pub compacted_in : Ledger → Reply → Result ℕ outcome.Reply × Ledger
compacted_in l (compacted length) = (Ok length, l)
compacted_in l r = (Err (told r), l)

-- A compaction of the shelf of this number, as far as a ledger tells it.
abbrev pub ledger_compact : Ledger → (shelf : ℕ) → Call Ledger Fate (Result ℕ outcome.Reply)
ledger_compact l k =
    if nat_lt k l.count
    then event (λ fate. compacted_in (entered l k compact fate) (first_reply l.replies))
    else answered (Err (Refused Unknown))

-- a crash loses the tickets of its shelf
abbrev pub crashed_in : Ledger → (shelf : ℕ) → Reply → ℕ × Ledger
crashed_in l k (live count) = (count, record l { held = without_shelf l.count k 0 l.held })
crashed_in l k r = (0, l)

-- A crash of the shelf of this number, as far as a ledger tells it.
abbrev pub ledger_crash : Ledger → (shelf : ℕ) → Call Ledger Fate ℕ
ledger_crash l k =
    if nat_lt k l.count
    then event (λ fate. crashed_in (entered l k (crash l.scripts) fate) k (first_reply l.replies))
    else answered 0

-- an edit changes the setup, and is no event
abbrev pub ledger_edit : Ledger → (name text : List ℕ) → Option Ledger
ledger_edit l name text = option_map (λ scripts. record l { scripts = scripts }) (edited l.scripts name text)

-- what a run's steps enter in a ledger
abbrev pub ledger_rules : StageRules
ledger_rules = record {
  State = Ledger;
  Fate = Fate;
  plain = plain;
  fails = is_fault;
  shelves = λ l. l.count;
  holds = λ l worker. is_some (ticket_in l worker);
  take = ledger_take;
  publish = ledger_publish;
  sweep = ledger_sweep;
  compact = ledger_compact;
  crash = ledger_crash;
  edit = ledger_edit;
}

-- the lines from this desk on, read with these fates and these replies to their events
abbrev pub reading : Desk → (number : ℕ) → List (Option Step) → List Fate → List Reply → Run ledger_rules
reading d number steps fates replies = transcript ledger_rules (ledger_of d replies []) number steps fates

-- what the lines from this desk on print, with these fates and replies
abbrev pub print_of : Desk → (number : ℕ) → List (Option Step) → List Fate → List Reply → List ℕ
print_of d number steps fates replies = text_of (reading d number steps fates replies)

-- the events that the lines from this desk on are, with these fates and replies
abbrev pub events_of : Desk → (number : ℕ) → List (Option Step) → List Fate → List Reply → List Entry
events_of d number steps fates replies = (reading d number steps fates replies).state.entries
