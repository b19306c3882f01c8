-- What the entries of a history stand for.
use Rattle.std.specs.Prelude.{◌≡◌, ℕ, List, [], ◌∷◌, ◌++◌, map, ◌⊎◌, ◌≤◌, ◌<◌, ◌^◌, Result, Ok, Contains}
use Rattle.script_value.specs.declared.outcome.Reply.{Reply}
use Rattle.script_value.specs.Views.{meaning}
use Rattle.page_names.specs.Views.{target_of}
use Rattle.replay_spec.specs.Step as step
use Rattle.replay_spec.specs.Step.{Event}
use Rattle.shelf.specs.Visits.{Ticket, ticket_of, reply_of}
use Rattle.shelf.specs.Views.{taken_of, swept_of, compacted_of}
use Rattle.history_spec.specs.Histories.{Entry}
use Rattle.site.specs.declared.entry.KeptEntry.{KeptEntry}
use Rattle.site.specs.declared.entry.Did.{Did}
use Rattle.site.specs.declared.entry.Did.TheVariants.{Take, Publish, Sweep, Compact}

-- what one caller did and what it was answered, as an entry of a history
abbrev pub entry : (caller : ℕ) → Event → step.Reply → Entry
entry caller event reply = record { caller = caller; event = event; reply = reply }

-- the entry of what a caller did, and of what it was answered
abbrev pub done_by : (caller : ℕ) → Did → Entry
done_by caller (Take target answer told) =
    entry caller (step.take (target_of target.value) (meaning answer.value)) (taken_of told.value)
done_by caller (Publish ticket told) = entry caller (step.publish (ticket_of ticket.value)) (reply_of told.value)
done_by caller (Sweep tick told) = entry caller (step.sweep tick) (swept_of told.value)
done_by caller (Compact told) = entry caller step.compact (compacted_of told.value)

-- the entry of a history that the program's entry stands for
abbrev pub entry_of : KeptEntry → Entry
entry_of e = done_by e.caller e.did

-- the history that the program's entries stand for
abbrev pub entries_of : List KeptEntry → List Entry
entries_of es = map entry_of es

-- what was done is a take that gave this ticket
abbrev pub Gave : Did → Ticket → Type 0
Gave (Take target answer told) t = told.value ≡ Ok t
Gave _ t = ⊥

-- a take of this history gave the ticket
abbrev pub IsGivenIn : List KeptEntry → Ticket → Type 0
IsGivenIn es t = (e : KeptEntry) × (Contains es e × Gave e.did t)

-- the history has one entry more: this event and this reply, by this caller
pub record Comes (caller : ℕ) (event : Event) (reply : step.Reply) (old new : List KeptEntry) : Type 0 where
  pub entry_made : KeptEntry
  pub caller_is : entry_made.caller ≡ caller
  pub entry_is : entry_of entry_made ≡ entry caller event reply
  pub is : new ≡ old ++ entry_made ∷ []

-- a tick that is over does nothing; the sweep to a later one is the next entry
abbrev pub Sweeps : (caller tick : ℕ) → Result ℕ Reply → (clock : ℕ) → (old new : List KeptEntry) → Type 0
Sweeps caller tick result clock old new =
    ((tick ≤ clock) × (new ≡ old) × (result ≡ Ok 0)) ⊎ ((clock < tick) × Comes caller (step.sweep tick) (swept_of result) old new)

-- how long a journal is, at least, that a tick compacts
abbrev pub compacted_from : ℕ
compacted_from = 2 ^ 29

-- a journal that is shorter is left as it is; the compaction of a long one is the next entry
abbrev pub Compacts : (caller length : ℕ) → (old new : List KeptEntry) → Type 0
Compacts caller length old new =
    ((length < compacted_from) × (new ≡ old))
    ⊎ ((compacted_from ≤ length) × (told : Result ℕ Reply) × Comes caller step.compact (compacted_of told) old new)
