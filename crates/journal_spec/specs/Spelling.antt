-- Which records a shelf can write.
use Rattle.std.specs.Prelude.{◌≡◌, ℕ, ◌≤◌, ◌<◌, ◌^◌, List, true, length, Option, Some, None, Contains, ⊤}
use Rattle.script_nodes.specs.Setup.{Named}
use Rattle.replay_spec.specs.Book.{Change, sweeps, Work, landing, compacting, Doubt, Book}
use Rattle.replay_spec.specs.Rules.{Rules}
use Rattle.script_value.specs.declared.outcome.TxName.{TxName}
use Rattle.replay_spec.specs.Next.{Ticket}
use Rattle.replay_spec.specs.Step.{Event, sweep, Fate, Reply, records, publish_comes, step}
use Rattle.replay_spec.specs.Invariant.{IsOrderly}
use Rattle.replay_spec.specs.Remade.{NameTheirCells}
use Rattle.machine_states.specs.Machine.{Suspended}
use Rattle.kept_states.specs.FrameCodec.Spelling.{StateHasBytes}
use Rattle.kept_states.specs.FrameCodec.Forms.{form_bytes}
use Rattle.journal_spec.specs.Lengths.{state_by, own_before, is_shallow_state, journal_rules}
use Rattle.journal_spec.specs.Whole.{CanBeWritten}
use Rattle.server_limits.specs.Limits.{most_fuel}
use Rattle.server_limits.specs.Limits.{most_life}
use Rattle.journal_records.specs.Fields.{numbers_end}
pub use Rattle.journal_records.specs.Records.{PartsFit}

-- the tick of a change, if it has one, is such as records tell
abbrev pub IsTickInRange : Change → Type 0
IsTickInRange (sweeps tick) = tick < numbers_end
IsTickInRange _ = ⊤

-- the tick of what is in doubt, if it has one, is such as records tell
abbrev pub IsWorkInRange : Work → Type 0
IsWorkInRange (landing c inside) = IsTickInRange c
IsWorkInRange compacting = ⊤

-- a tick that is in doubt is such as records tell
abbrev pub IsDoubtInRange : Option Doubt → Type 0
IsDoubtInRange None = ⊤
IsDoubtInRange (Some doubt) = IsWorkInRange doubt.work

-- the numbers and the clock of a shelf are such as records tell
pub record IsInRange (b : Book) : Type 0 where
  pub drawn : b.drawn ≤ numbers_end
  pub clock : b.clock < numbers_end
  pub doubt : IsDoubtInRange b.down

-- a page lives no longer than it may, and one byte numbers the scripts
pub record AreLimits (rules : Rules) (scripts : List Named) : Type 0 where
  pub life : rules.life ≤ most_life
  pub few : length scripts ≤ 256

-- an event's tick is such as records tell
abbrev pub GivesTick : Event → Type 0
GivesTick (sweep tick) = tick < numbers_end
GivesTick _ = ⊤

-- the ticket's number is out, and its nonce has 64 bits
pub record IsTicket (b : Book) (t : Ticket) : Type 0 where
  pub out : Contains b.out t.number
  pub nonce : t.nonce < 2 ^ 64

-- what the program's types say of a state: where its values nest no deeper than one may that is written, and its bytes after the one
-- before can be counted, it has a spelling
abbrev pub StateFits : (before : Option Suspended) → Option Suspended → Type 0
StateFits before None = ⊤
StateFits before (Some d) = is_shallow_state d ≡ true → length (form_bytes before d) < 2 ^ 32 → StateHasBytes d

-- What a publish records can be written, on a book in range, where its parts and its state are such as the program's types give: it
-- is not too long, so no value nests too deep and no part is too long for its count; and its numbers are such as records tell.
abbrev pub WhatIsRecordedIsSpelled : Type 0
WhatIsRecordedIsSpelled =
    (shelf : ℕ) (rules : Rules) (b : Book) (t : Ticket) (r : Reply) (c : Change) (inside : List TxName)
    → rules.journal ≡ Some (journal_rules shelf) → rules.fuel ≤ most_fuel → IsOrderly b → NameTheirCells b → IsInRange b
    → AreLimits rules b.scripts → IsTicket b t
    → publish_comes rules b t ≡ records r c inside → PartsFit c → StateFits (own_before b c) (state_by b c)
    → CanBeWritten b c

-- Each event keeps numbers and clock in range.
abbrev pub RangesAreKept : Type 0
RangesAreKept =
    (rules : Rules) (b : Book) (nonce : ℕ) (event : Event) (fate : Fate) → IsOrderly b → IsInRange b → GivesTick event
    → IsInRange (step rules b nonce event fate).1
