-- Events that are no compaction leave the records of a file where they are.
use Rattle.std.proofs.Common.{◌≡◌, ℕ, List, [], Option, Some, None, Bool, true, false, refl, ap, ◌∙◌, if◌then◌else◌}
use Rattle.std.specs.Prelude.{nat_le, ⊤}
use Rattle.script_nodes.specs.Setup.{Named}
use Rattle.replay_spec.specs.Book.{Change, sweeps, Work, landing, compacting, Doubt, Book, spend, reopened}
use Rattle.replay_spec.specs.Rules.{Journal, Rules}
use Rattle.replay_spec.specs.Compaction.{worked, reopened_with}
use Rattle.replay_spec.specs.Next.{Ticket}
use Rattle.replay_spec.specs.Step.{Event, take, publish, sweep, compact, crash, Fate, plain, no_memory, disk_fault, lost, kept, Reply, swept, Decision, replies, records, compacts, unless, barred, full_journal, freed, carried_out, publish_comes, sweep_comes, fate_of, settle, recovered, no_take, take_unless, step}
use Rattle.replay_spec.specs.Runs.{recorded_by, recorded_under, change_in, kept_under, lands}
use Rattle.replay_spec.proofs.Reopened.{reopened_same}
use Rattle.journal_spec.specs.Keeping.{IsAppending, KeepsSetup}
use Rattle.journal_spec.proofs.Brief.{Comes, published_comes}

-- work that is no compaction
abbrev IsWork : Work → Type 0
IsWork (landing c inside) = ⊤
IsWork compacting = ⊥

-- what is in doubt, if anything is, is no compaction
abbrev pub IsAppended : Option Doubt → Type 0
IsAppended None = ⊤
IsAppended (Some doubt) = IsWork doubt.work

-- an event that landed this leaves no other file where it landed nothing, no compaction in doubt, and a shelf that follows if it did
pub record Appends (b : Book) (o : Option Change) (d : Book) : Type 0 where
  pub still : o ≡ None → (d.file ≡ b.file) × (d.length ≡ b.length)
  pub role : d.follows ≡ b.follows
  pub doubt : IsAppended b.down → IsAppended d.down

same_book : (b : Book) (o : Option Change) → Appends b o b
same_book b o = record { still = λ none. (refl, refl); role = refl; doubt = λ h. h }

-- a decision that is no compaction
abbrev pub IsDecision : Decision → Type 0
IsDecision (replies r) = ⊤
IsDecision (records r c inside) = ⊤
IsDecision (compacts r) = ⊥

carried : (rules : Rules) (b : Book) (d : Decision) → IsDecision d → Appends b (recorded_by d) (carried_out rules b d).1
carried rules b (replies r) h = same_book b None
carried rules b (records r c inside) h = record { still = λ none. absurd (let no : ⊥ = cc in no); role = refl; doubt = λ before. before }
carried rules b (compacts r) h = absurd h

settled : (rules : Rules) (b : Book) (fate : Fate) (d : Decision) → IsDecision d → Appends b (recorded_under fate d) (settle rules b fate d).1
settled rules b no_memory d h = same_book b (recorded_under no_memory d)
settled rules b (disk_fault count) (replies r) h = same_book b None
settled rules b (disk_fault count) (records r c inside) h = record { still = λ none. (refl, refl); role = refl; doubt = λ before. tt }
settled rules b (disk_fault count) (compacts r) h = absurd h
settled rules b plain d h = carried rules b d h
settled rules b lost d h = carried rules b d h
settled rules b kept d h = carried rules b d h

took_unless : (b : Book) (nonce : ℕ) (o : Option Reply) → Appends b None (take_unless o b nonce).1
took_unless b nonce None = record { still = λ none. (refl, refl); role = refl; doubt = λ before. before }
took_unless b nonce (Some r) = same_book b None

published_appends : (rules : Rules) (b : Book) (t : Ticket) (d : Decision) → Comes rules b t d → IsDecision d
published_appends rules b t (replies r) h = tt
published_appends rules b t (records r c inside) h = tt
published_appends rules b t (compacts r) h = absurd h

swept_decision : (b : Book) (tick : ℕ) (r : Reply) (o full : Option Reply) → IsDecision (unless o (unless full (records r (sweeps tick) [])))
swept_decision b tick r (Some x) full = tt
swept_decision b tick r None (Some x) = tt
swept_decision b tick r None None = tt

swept_appends : (rules : Rules) (b : Book) (tick : ℕ) (fate : Fate) (late : Bool)
    → Appends b (if late then None else recorded_under fate (sweep_comes rules b tick)) (if late then (swept 0, b) else settle rules b fate (sweep_comes rules b tick)).1
swept_appends rules b tick fate true = same_book b None
swept_appends rules b tick fate false =
    settled rules b fate (sweep_comes rules b tick) (swept_decision b tick (swept (freed tick b)) (barred b) (full_journal rules.journal b (sweeps tick)))

-- an opening with the setup as it was
reopens : (journal : Option Journal) (scripts : List Named) (b : Book) → scripts ≡ b.scripts → Appends b None (reopened_with journal scripts b)
reopens journal scripts b same =
    let is : reopened_with journal scripts b ≡ reopened b = ap (λ (ss : List Named). reopened_with journal ss b) same ∙ reopened_same journal b in
    record { still = λ none. (ap (λ (d : Book). d.file) is, ap (λ (d : Book). d.length) is); role = refl; doubt = λ before. tt }

crashed : (rules : Rules) (b : Book) (scripts : List Named) (fate : Fate) (o : Option Doubt) → scripts ≡ b.scripts → IsAppended o
    → Appends b (kept_under fate o) (reopened_with rules.journal scripts (recovered rules fate o b))
crashed rules b scripts kept (Some doubt) same h = by_work doubt.work h
  where
    by_work : (w : Work) → IsWork w → Appends b (change_in w) (reopened_with rules.journal scripts (worked rules w b))
    by_work (landing c inside) h = record { still = λ none. absurd (let no : ⊥ = cc in no); role = refl; doubt = λ before. tt }
    by_work compacting h = absurd h
crashed rules b scripts kept None same h = reopens rules.journal scripts b same
crashed rules b scripts plain o same h = reopens rules.journal scripts b same
crashed rules b scripts no_memory o same h = reopens rules.journal scripts b same
crashed rules b scripts (disk_fault count) o same h = reopens rules.journal scripts b same
crashed rules b scripts lost o same h = reopens rules.journal scripts b same

pub event_appends : (rules : Rules) (b : Book) (nonce : ℕ) (event : Event) (fate : Fate) → IsAppending event → KeepsSetup event b → IsAppended b.down
    → Appends b (lands rules b event fate) (step rules b nonce event fate).1
unfolding step
event_appends rules b nonce (take target answer) no_memory h same doubt = same_book b None
event_appends rules b nonce (take target answer) plain h same doubt = took_unless b nonce (no_take b target)
event_appends rules b nonce (take target answer) (disk_fault count) h same doubt = took_unless b nonce (no_take b target)
event_appends rules b nonce (take target answer) lost h same doubt = took_unless b nonce (no_take b target)
event_appends rules b nonce (take target answer) kept h same doubt = took_unless b nonce (no_take b target)
event_appends rules b nonce (publish t) fate h same doubt =
    let d = publish_comes rules b t in
    let one = settled rules (spend t.number b) (fate_of rules.journal fate) d (published_appends rules b t d (published_comes rules b t)) in
    record { still = one.still; role = one.role; doubt = one.doubt }
event_appends rules b nonce (sweep tick) fate h same doubt = swept_appends rules b tick (fate_of rules.journal fate) (nat_le tick b.clock)
event_appends rules b nonce compact fate h same doubt = absurd h
event_appends rules b nonce (crash scripts) fate h same doubt = crashed rules b scripts fate b.down same doubt
