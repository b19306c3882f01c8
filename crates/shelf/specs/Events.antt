-- The events that the calls of a shelf are.
use Rattle.std.specs.Prelude.{◌≡◌, ◌≤◌, ℕ, Option, Some, None, Result, IfSome, ⊤}
use Rattle.script_value.specs.Views.{meaning}
use Rattle.script_value.specs.declared.value.Value.{Value}
use Rattle.script_value.specs.declared.outcome.Reply.{Reply}
use Rattle.script_value.specs.declared.outcome.Reply.TheVariants as reply
use Rattle.book_recovery.specs.SetupReader.Texts.{setup_of_texts}
use Rattle.page_names.specs.Names.{Destination}
use Rattle.page_names.specs.Views.{target_of}
use Rattle.page_names.specs.declared.names.Target.{Target}
use Rattle.machine_states.specs.declared.segment.Segment.{Segment}
use Rattle.web_outside.specs.Causes.{Rose}
use Rattle.web_disk.specs.View.{View, NoNewImage}
use Rattle.book_recovery.specs.JournalSpec.Standing.{if_kept, Throughout}
use Rattle.book_recovery.specs.JournalSpec.Laws.{MeasuresDoubt}
use Rattle.shelf.specs.Owning.{StaysOwnThroughout}
use Rattle.replay_spec.specs.Book as spec
use Rattle.replay_spec.specs.Admission.{or_else, refusal_of, admit}
use Rattle.replay_spec.specs.Step as step
use Rattle.replay_spec.specs.Step.{Decision, replies, records, compacts, take, publish, sweep, compact, barred, refused_by, no_take, publish_comes}
use Rattle.book_visits.specs.declared.ticket.Ticket.{Ticket}
use Rattle.book_visits.specs.declared.prepared.Prepared.{Prepared}
use Rattle.book_recovery.specs.InstanceBook.declared.change.Change.{Change}
use Rattle.book_visits.specs.Changes.{HasStateBy, IsSpelledBy}
use Rattle.book_recovery.specs.InstanceBook.Views.{instances_of}
use Rattle.book_visits.specs.Views.{ticket_of, ticket_for, reply_of}
use Rattle.book_visits.specs.Prepares.{IsCarriedOut}
use Rattle.shelf.specs.declared.shelf.Shelf.{Shelf}
use Rattle.shelf.specs.Views.{unmeasured, rules_of, library_in, book_in, taken_of, swept_of, compacted_of, IsEvent, HoldNow}

-- a take is one event
abbrev pub IsTake : {D N : Type 0} → (D → View) → (coming : N → ℕ → ℕ) → (old new : Shelf D N) → Target → Value → Result Ticket Reply → Type 0
IsTake view coming old new target answer result =
    IsEvent view coming old new (take (target_of target) (meaning answer)) (taken_of result)

-- the ticket of a take has the next number and nonce
abbrev pub IsTicketOf : {D N : Type 0} → (D → View) → (coming : N → ℕ → ℕ) → Shelf D N → Target → Value → Ticket → Type 0
IsTicketOf view coming s target answer t =
    ticket_of t ≡ ticket_for target answer (book_in view s).drawn (coming s.nonces 0)

-- what stands against a take is its answer
abbrev pub TellsWhyNot : {D N : Type 0} → (D → View) → Shelf D N → Target → Result Ticket Reply → Type 0
TellsWhyNot view s target result = IfSome (no_take (book_in view s) (target_of target)) (λ r. taken_of result ≡ r)

-- a publish is one event
abbrev pub IsPublish : {D N : Type 0} → (D → View) → (coming : N → ℕ → ℕ) → (old new : Shelf D N) → Ticket → Reply → Type 0
IsPublish view coming old new ticket result = IsEvent view coming old new (publish (ticket_of ticket)) (reply_of result)

-- what a publish comes to, before its record is measured
abbrev pub decision_of : {D N : Type 0} → (D → View) → Shelf D N → Ticket → Decision
decision_of view s t = publish_comes (unmeasured s.rules) (book_in view s) (ticket_of t)

-- what is prepared is what the publish comes to, and carries it out
abbrev pub CarriesOut : {D N : Type 0} → (D → View) → Shelf D N → Ticket → Prepared → Type 0
CarriesOut view s t p = IsCarriedOut (library_in s) (unmeasured s.rules) (book_in view s) (decision_of view s t) p

-- the page that a change shows has the state of its chain, where this has a spelling
abbrev pub ShowsItsState : {D N : Type 0} → Shelf D N → Option Change → Type 0
ShowsItsState s c =
    let all = (library_in s).all in IsSpelledBy c → HasStateBy all s.book.shelf (instances_of all s.book.instances) c

-- a decision that changes nothing, whatever is measured, is told
abbrev pub TellsReply : Decision → step.Reply → Type 0
TellsReply (replies x) r = r ≡ x
TellsReply (records x c inside) r = ⊤
TellsReply (compacts x) r = ⊤

-- where no second run is due, a decision that changes nothing is told
abbrev pub IsToldIfHeld : {D N : Type 0} → (D → View) → Shelf D N → Ticket → Option Segment → Reply → Type 0
IsToldIfHeld view s t segment result =
    (r : Segment) → segment ≡ Some r → HoldNow (book_in view s) t r → TellsReply (decision_of view s t) (reply_of result)

-- why a publish is refused before its segment is looked at: the shelf is down or follows another one's journal, or the target is not admitted
abbrev pub no_publish : spec.Book → Destination → Option step.Reply
no_publish b target = or_else (barred b) (refused_by (refusal_of (admit b target)))

-- where a publish is refused before its segment is looked at, that is its answer, whatever memory there is
abbrev pub TellsRefusal : {D N : Type 0} → (D → View) → Shelf D N → Target → Reply → Type 0
TellsRefusal view s target result = IfSome (no_publish (book_in view s) (target_of target)) (λ r. reply_of result ≡ r)

-- where there was no memory for the run of an admitted target, want of memory is the answer
abbrev pub WantsIfNone : {D N : Type 0} → (D → View) → Shelf D N → Ticket → Option Segment → Reply → Type 0
WantsIfNone view s t segment result =
    segment ≡ None → no_publish (book_in view s) (target_of t.target) ≡ None → result ≡ reply.Memory

-- the ticket's number is out no more
abbrev pub SpendsNumber : {D N : Type 0} → (D → View) → (old new : Shelf D N) → Ticket → Type 0
SpendsNumber view old new t = (book_in view new).out ≡ (spec.spend t.number (book_in view old)).out

-- want of memory changes nothing else than that the number is spent
abbrev pub SpendsOnly : {D N : Type 0} → (D → View) → (old new : Shelf D N) → Ticket → Reply → Type 0
SpendsOnly view old new t result = result ≡ reply.Memory → book_in view new ≡ spec.spend t.number (book_in view old)

-- a sweep is one event
abbrev pub IsSweep : {D N : Type 0} → (D → View) → (coming : N → ℕ → ℕ) → (old new : Shelf D N) → (tick : ℕ) → Result ℕ Reply → Type 0
IsSweep view coming old new tick result = IsEvent view coming old new (sweep tick) (swept_of result)

-- a compaction is one event
abbrev pub IsCompaction : {D N : Type 0} → (D → View) → (coming : N → ℕ → ℕ) → (old new : Shelf D N) → Result ℕ Reply → Type 0
IsCompaction view coming old new result = IsEvent view coming old new compact (compacted_of result)

-- A crash at any moment of a call leaves what makes the book before it, or the book after it with what is in doubt then.
abbrev pub HasMoments : {D N : Type 0} → (D → View) → (old new : Shelf D N) → Type 0
HasMoments view old new =
    (n : ℕ) × Throughout setup_of_texts old.rules.number (book_in view old) (if_kept n (book_in view new))
    (view old.journal.disk) (view new.journal.disk)

-- a crash at any moment of a call leaves what makes the book before it or after it, and the limits measure what is in doubt then as its
-- record is
abbrev pub HasMeasuredMoments : {D N : Type 0} → (D → View) → (old new : Shelf D N) → Type 0
HasMeasuredMoments view old new =
    (n : ℕ) × Throughout setup_of_texts old.rules.number (book_in view old) (if_kept n (book_in view new))
    (view old.journal.disk) (view new.journal.disk) × MeasuresDoubt (rules_of old.rules) n (book_in view new)

-- a crash at any moment of a call leaves own records, and what makes the book before it or after it; what is in doubt then is measured as
-- its record is
pub record HasOwnMoments {D N : Type 0} (view : D → View) (old new : Shelf D N) : Type 0 where
  pub own : StaysOwnThroughout old.rules.number (view old.journal.disk) (view new.journal.disk)
  pub measured : HasMeasuredMoments view old new

-- a fault that is told has the disk's count of now, which rose
abbrev pub TellsCount : (before now : ℕ) → step.Reply → Type 0
TellsCount before now (step.disk_failed count) = (count ≡ now) × Rose before now
TellsCount before now _ = ⊤

-- a fault that is told has the count of the shelf's disk of now, which rose
abbrev pub TellsFaults : {D N : Type 0} → (D → View) → (old new : Shelf D N) → step.Reply → Type 0
TellsFaults view old new r = TellsCount (view old.journal.disk).faults (view new.journal.disk).faults r

-- the count of faults of a shelf's disk does not fall
abbrev pub CountsOn : {D N : Type 0} → (D → View) → (old new : Shelf D N) → Type 0
CountsOn view old new = (view old.journal.disk).faults ≤ (view new.journal.disk).faults

-- the disk is left alone: no call of it failed, it reads as it did, and a crash leaves what it could leave before
pub record IsLeftAlone (old new : View) : Type 0 where
  pub faults : new.faults ≡ old.faults
  pub seen : new.seen ≡ old.seen
  pub images : NoNewImage old new

-- the disk is left alone, unless the reply tells what was done, or a fault of the disk
abbrev pub LeavesDisk : (old new : View) → step.Reply → Type 0
LeavesDisk old new (step.shown page url) = ⊤
LeavesDisk old new (step.finished page) = ⊤
LeavesDisk old new (step.ended page) = ⊤
LeavesDisk old new (step.swept instances) = ⊤
LeavesDisk old new (step.compacted length) = ⊤
LeavesDisk old new (step.disk_failed count) = ⊤
LeavesDisk old new _ = IsLeftAlone old new

-- the disk of a shelf is left alone, unless the reply tells what was done, or a fault of the disk
abbrev pub LeavesItsDisk : {D N : Type 0} → (D → View) → (old new : Shelf D N) → step.Reply → Type 0
LeavesItsDisk view old new r = LeavesDisk (view old.journal.disk) (view new.journal.disk) r
